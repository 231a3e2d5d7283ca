-- Parameters that are declared together, one by one.
use Rattle.std.proofs.Common.{◌≡◌, ◌⊎◌, inl, inr, ℕ, ◌+◌, ◌<◌, ◌≤◌, arith, Bool, true, false, List, [], ◌∷◌, ◌++◌, map, length, get_or, take, append_assoc, refl, sym, ap, ◌∙◌, subst, Some}
use Rattle.std.specs.Prelude.{slice_get}
use Rattle.std.proofs.lemmas.List.{take_more, take-map, take_all, take_at}
use Rattle.std.proofs.lemmas.Option.{slice_get-get_or, slice_get_within}
use Rattle.lv_ast.specs.declared.item.Params.{Params}
use Rattle.lv_ast.specs.declared.item.Setting.{Setting}
use Rattle.lv_source.specs.Names.{Names, with_name}
use Rattle.lv_source.specs.Declarations.{Parameter, Declaration, declare}
use Rattle.lv_source.specs.Scopes.{parameter, with_parameters}
use Rattle.lv_source.proofs.Summaries.{append-none}
use Rattle.lv_const.specs.declared.consts.Entry.{Entry}
use Rattle.lv_const.specs.Constants.{names_of}
use Rattle.lv_const.specs.Wherever.{Wherever}
use Rattle.lv_scopes.specs.declared.setting.ParameterError.{ParameterError}
use Rattle.lv_scopes.specs.Parameters.{IsSound, IsUnset}
use Rattle.lv_scopes.specs.Params.{params_set, names_before, AreSound, IsUnsetIn, AreSetSoFar}

-- one more parameter, with its own value
abbrev one_more : Names → Params → Setting → Names
one_more names ps s = with_name names s.name.name (Some (parameter names s.name ps.signed ps.range names s.value))

abbrev declared : Bool → Params → Setting → Declaration
declared local ps s = declare (Parameter local ps.signed ps.range s.value) s.name

each_more : (local : Bool) (ps : Params) (names : Names) (xs : List Setting) (s : Setting) →
    with_parameters [] names (map (declared local ps) (xs ++ s ∷ [])) ≡ one_more (with_parameters [] names (map (declared local ps) xs)) ps s
each_more true ps names [] s = refl
each_more false ps names [] s = refl
each_more true ps names (x ∷ xs) s = each_more true ps (one_more names ps x) xs s
each_more false ps names (x ∷ xs) s = each_more false ps (one_more names ps x) xs s

-- whether they are local does not count where no instance sets them
either : (ps : Params) (names : Names) (xs : List Setting) →
    with_parameters [] names (map (declared false ps) xs) ≡ with_parameters [] names (map (declared true ps) xs)
either ps names [] = refl
either ps names (x ∷ xs) = either ps (one_more names ps x) xs

pub set_either : (local : Bool) (ps : Params) (names : Names) → params_set local names ps ≡ params_set true names ps
set_either true ps names = refl
set_either false ps names = either ps names ps.list

before_more : (names : Names) (ps : Params) (k : ℕ) (s : Setting) → k < length ps.list → s ≡ get_or ps.list k s →
    names_before names ps (k + 1) ≡ one_more (names_before names ps k) ps s
before_more names ps k s h e =
    ap (with_parameters [] names) (take-map (declared true ps) (k + 1) ps.list ∙
    ap (map (declared true ps)) (take_more ps.list k s h ∙ ap (λ (z : Setting). take k ps.list ++ z ∷ []) (sym e))) ∙
    each_more true ps names (take k ps.list) s ∙
    ap (λ ds. one_more (with_parameters [] names ds) ps s) (sym (take-map (declared true ps) k ps.list))

-- ---- the loop

pub set_first : (old : List Entry) (ps : Params) → AreSetSoFar old old ps 0
set_first old ps = record { longer = ([], sym (append-none old)); named = refl; sound = λ j s h e. absurd (omega arith) }

found : (ps : Params) (k : ℕ) (s : Setting) → k < length ps.list → s ≡ get_or ps.list k s → slice_get ps.list k ≡ Some s
found ps k s h e = slice_get-get_or ps.list k s h ∙ ap (λ (z : Setting). Some z) (sym e)

below_or : (j k : ℕ) → j < k + 1 → (j < k) ⊎ (j ≡ k)
below_or j k h = grind arith

module _ (old mid : List Entry) (ps : Params) (k : ℕ) (s : Setting) (h : AreSetSoFar old mid ps k) (within : k < length ps.list)
    (is : s ≡ get_or ps.list k s) where
  last_sound : Wherever (names_of mid) (λ here. IsSound here here ps.range s.value) → (j : ℕ) (t : Setting) → (j < k) ⊎ (j ≡ k) → slice_get ps.list j ≡ Some t →
      Wherever (names_before (names_of old) ps j) (λ here. IsSound here here ps.range t.value)
  last_sound w j t (inl l) e = h.sound j t l e
  last_sound w j t (inr l) e =
      let same : s ≡ t = (let a : slice_get ps.list k ≡ Some s = found ps k s within is in let b : slice_get ps.list k ≡ Some t = ap (slice_get ps.list)
      (sym l) ∙ e in cc) in
      subst (λ i. Wherever (names_before (names_of old) ps i) (λ here. IsSound here here ps.range t.value)) (sym l)
      (subst (λ names. Wherever names (λ here. IsSound here here ps.range t.value)) h.named
      (subst (λ (z : Setting). Wherever (names_of mid) (λ here. IsSound here here ps.range z.value)) same w))

  pub set_more : (new : List Entry) → (e : Entry) × (new ≡ mid ++ e ∷ []) → names_of new ≡ one_more (names_of mid) ps s →
      Wherever (names_of mid) (λ here. IsSound here here ps.range s.value) →
      AreSetSoFar old new ps (k + 1)
  set_more new a n w = record {
    longer = (h.longer.0 ++ a.0 ∷ [], a.1 ∙ ap (λ zs. zs ++ a.0 ∷ []) h.longer.1 ∙ append_assoc old h.longer.0 (a.0 ∷ []));
    named = n ∙ ap (λ names. one_more names ps s) h.named ∙ sym (before_more (names_of old) ps k s within is);
    sound = λ j t l e. last_sound w j t (below_or j k l) e;
  }

  pub set_none : (y : ParameterError) → Wherever (names_of mid) (λ here. IsUnset here here ps.range s.value s.name.place y) → IsUnsetIn (names_of old) ps y
  set_none y w = record {
    at = k;
    setting = s;
    is = found ps k s within is;
    told = subst (λ names. Wherever names (λ here. IsUnset here here ps.range s.value s.name.place y)) h.named w;
  }

pub cut_back : (old mid : List Entry) (ps : Params) (k n : ℕ) → AreSetSoFar old mid ps k → n ≡ length old → take n mid ≡ old
cut_back old mid ps k n h e = ap (take n) h.longer.1 ∙ take_at old h.longer.0 n (sym e)

module _ (old new : List Entry) (ps : Params) (k : ℕ) (h : AreSetSoFar old new ps k) (all : length ps.list ≤ k) where
  pub set_named : (local : Bool) → names_of new ≡ params_set local (names_of old) ps
  set_named local =
      h.named ∙ ap (with_parameters [] (names_of old)) (take-map (declared true ps) k ps.list ∙ ap (map (declared true ps)) (take_all k ps.list all)) ∙
      sym (set_either local ps (names_of old))

  pub set_sound : AreSound (names_of old) ps
  set_sound = record { each = λ j s e. h.sound j s (let l : j < length ps.list = slice_get_within ps.list j s e in omega arith) e }
