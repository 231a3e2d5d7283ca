-- The turns of a loop, one by one.
use Rattle.std.proofs.Common.{◌≡◌, inl, inr, ℕ, suc, ◌+◌, ◌-◌, ◌<◌, ◌≤◌, arith, length-append, Bool, true, false, ◌&&◌, ◌==◌, List, [], ◌∷◌, ◌++◌, map, length, append_assoc, refl, sym, ap, ◌∙◌, subst, Option, Some, None}
use Rattle.std.specs.Prelude.{flat_map, ◌%◌, max, cond, bytes_eq, Result}
use Rattle.lv_ast.specs.declared.expr.Expr.{Expr}
use Rattle.lv_ast.specs.declared.expr.Path.{Path}
use Rattle.lv_ast.specs.Names.{Name, has_no_steps}
use Rattle.lv_source.specs.Names.{Names, Declared, Here, with_early, Constant, is_constant_sort}
use Rattle.lv_source.specs.Constants.{early_or_none}
use Rattle.lv_source.specs.Standing.{at_turn}
use Rattle.lv_source.specs.Values.{nowhere}
use Rattle.lv_source.specs.Meaning.{constant_value, own_width, value_of}
use Rattle.lv_source.specs.Effect.{with_index, index_value, turns, turns_from}
use Rattle.lv_source.specs.Sites.{Site}
use Rattle.lv_source.proofs.Effects.{turns_from-stop, turns_from-turn}
use Rattle.lv_source.proofs.Bridges.{map-join}
use Rattle.lv_source.proofs.Summaries.{flat-join, append-none}
use Rattle.lv_const.specs.declared.error.ConstError.{ConstError}
use Rattle.lv_const.specs.Answers.{Told}
use Rattle.lv_const.specs.Wherever.{AreDeclared, Wherever}
use Rattle.lv_const.specs.declared.consts.Entry.{Entry}
use Rattle.lv_const.specs.Constants.{names_of}
use Rattle.lv_const.proofs.Told.{sound-none, sound-both, divides-none, divides-both, told-first, told-second}
use Rattle.lv_scopes.specs.declared.turns.TurnsError.{TurnsError}
use Rattle.lv_scopes.specs.declared.turns.TurnsError.TheVariants as t
use Rattle.lv_scopes.specs.declared.number.Number.{Number}
use Rattle.lv_scopes.specs.Numbers.{AreClean, IsNumber}
use Rattle.lv_scopes.specs.Headers.{IsTurnFault, AreNoTurns, test_sites, next_sites, IsIndex, IsStep, IsStepFault, IsTurnAnswer, turn_sites, AreTurns, IsSoFar}

-- ---- one number

pub index_is : (here : Here) (x : Expr) (n : Number) → IsNumber here 32 x n → n.word.value % 4294967296 ≡ index_value here.names x
index_is here x n h =
    ap (λ (z : ℕ). z % 4294967296) (h.value nowhere ∙ ap (λ w. value_of here.names x w n.signed nowhere) h.width ∙
    ap (λ s. value_of here.names x (max 32 (own_width here.names x)) s nowhere) h.signed)

pub own_is : (here : Here) (x : Expr) (n : Number) → IsNumber here 0 x n → n.word.value ≡ constant_value here.names x
own_is here x n h =
    h.value nowhere ∙ ap (λ w. value_of here.names x w n.signed nowhere) (h.width ∙ omega arith) ∙
    ap (λ s. value_of here.names x (own_width here.names x) s nowhere) h.signed

-- ---- faults of joined lists

pub join_clean : (early : Path → Bool) (xs ys : List Site) → AreClean early xs → AreClean early ys → AreClean early (xs ++ ys)
join_clean early xs ys h k = record { sound = sound-both early xs ys h.sound k.sound; divides = divides-both xs ys h.divides k.divides }

no_clean : (early : Path → Bool) → AreClean early []
no_clean early = record { sound = sound-none early; divides = divides-none }

-- with one more element
clean_more : {A : Type 0} (early : Path → Bool) (f : A → List Site) (xs : List A) (x : A) → AreClean early (flat_map f xs) → AreClean early (f x) →
    AreClean early (flat_map f (xs ++ x ∷ []))
clean_more early f xs x h k =
    subst (AreClean early) (sym (flat-join f xs (x ∷ []))) (join_clean early (flat_map f xs) (f x ++ []) h (join_clean early (f x) [] k (no_clean early)))

-- of an element in the middle
told_at : {A : Type 0} (early : Path → Bool) (f : A → List Site) (xs : List A) (x : A) (ys : List A) (y : ConstError) → Told early (f x) y →
    Told early (flat_map f (xs ++ x ∷ ys)) y
told_at early f xs x ys y h =
    subst (λ zs. Told early zs y) (sym (flat-join f xs (x ∷ ys)))
    (told-second early (flat_map f xs) (f x ++ flat_map f ys) y (told-first early (f x) (flat_map f ys) y h))

-- ---- the place of a turn

abbrev stands : Name → ℕ → Declared
stands name value = record { path = name; bounds = record { left = 31; right = 0 }; ranged = true; signed = true; array = None; sort = Constant value }

turn_pick : (b : Bool) (d : Declared) (early : Bool) (n o : Option Declared) → is_constant_sort d.sort ≡ true → n ≡ early_or_none early o →
    cond b (Some d) n ≡ early_or_none (cond b true early) (cond b (Some d) o)
turn_pick true d early n o k h = sym (ap (λ z. cond (z && true) (Some d) None) k)
turn_pick false d early n o k h = h

-- the constants with the index are those that are declared before each part of the turn
pub turn_declared : (given : Names) (here : Here) (index : Name) (value : ℕ) → AreDeclared given here →
    AreDeclared (with_index given index value) (at_turn here index value)
turn_declared given here index value h = record {
  same = λ p. turn_pick (has_no_steps p && bytes_eq p.name index) (stands index value) (here.early p) (given p) (here.names p) refl (h.same p);
}

-- what a turn answers with the index behind the constants, at the place of the turn
pub turn_made : (es fs : List Entry) → es ≡ fs → (index : Name) (value : ℕ) (test next : Expr) (r : Result (Option ℕ) TurnsError) →
    Wherever (with_index (names_of es) index value) (λ there. IsTurnAnswer there test next r) → (here : Here) → AreDeclared (names_of fs) here →
    IsTurnAnswer (at_turn here index value) test next r
turn_made es fs e index value test next r h here ok =
    (subst (λ xs. Wherever (with_index (names_of xs) index value) (λ there. IsTurnAnswer there test next r)) e h).at
    (at_turn here index value) (turn_declared (names_of fs) here index value ok)

-- ---- so far

module _ (here : Here) (index : Name) (start test next : Expr) where
  abbrev names : Names
  names = here.names

  -- each turn has the index before it
  abbrev inner : Path → Bool
  inner = with_early here.early index

  abbrev turn : ℕ → Here
  turn k = at_turn here index k

  abbrev at : ℕ → Names
  at k = with_index names index k

  abbrev after : ℕ → ℕ
  after k = index_value (at k) next

  pub begin : (n : ℕ) → IsIndex here start n → IsSoFar here index start test next [] n
  unfolding turns
  begin n h = record {
    rest = ap (λ z. turns_from 1000001 names index test next z) (sym h.is);
    chain = ap (λ z. z ∷ []) (sym h.is);
    first = h.clean;
    tests = no_clean inner;
    nexts = no_clean inner;
  }

  rest_more : (done : List ℕ) (value n : ℕ) → length done ≤ 1000000 → (constant_value (at value) test == 0) ≡ false → n ≡ after value →
      turns_from (1000001 - length done) names index test next value ≡ value ∷ turns_from (1000001 - length (done ++ value ∷ [])) names index test next n
  rest_more done value n h t e =
      let l : length (done ++ value ∷ []) ≡ length done + 1 = length-append done (value ∷ []) in
      let a : 1000001 - length done ≡ suc (1000001 - length (done ++ value ∷ [])) = omega arith in
      ap (λ m. turns_from m names index test next value) a ∙ turns_from-turn (1000001 - length (done ++ value ∷ [])) names index test next value t ∙
      ap (λ z. value ∷ turns_from (1000001 - length (done ++ value ∷ [])) names index test next z) (sym e)

  rest_none : (done : List ℕ) (value : ℕ) → length done ≤ 1000000 → (constant_value (at value) test == 0) ≡ true →
      turns_from (1000001 - length done) names index test next value ≡ []
  rest_none done value h t =
      let a : 1000001 - length done ≡ suc (1000000 - length done) = omega arith in
      ap (λ m. turns_from m names index test next value) a ∙ turns_from-stop (1000000 - length done) names index test next value t

  pub more : (done : List ℕ) (value n : ℕ) → IsSoFar here index start test next done value → length done ≤ 1000000 → IsStep (turn value) test next (Some n) →
      IsSoFar here index start test next (done ++ value ∷ []) n
  more done value n s h k =
      let g : ((constant_value (at value) test == 0) ≡ false) × IsIndex (turn value) next n = k.goes n refl in record {
        rest = s.rest ∙ ap (λ zs. done ++ zs) (rest_more done value n h g.0 g.1.is) ∙
            sym (append_assoc done (value ∷ []) (turns_from (1000001 - length (done ++ value ∷ [])) names index test next n));
        chain = ap (λ zs. index_value names start ∷ zs) (map-join after done (value ∷ [])) ∙ ap (λ zs. zs ++ after value ∷ []) s.chain ∙
            ap (λ z. (done ++ value ∷ []) ++ z ∷ []) (sym g.1.is);
        first = s.first;
        tests = clean_more inner (λ k. test_sites (at k) test) done value s.tests k.clean;
        nexts = clean_more inner (λ k. next_sites (at k) next) done value s.nexts g.1.clean;
      }

  all_tests : (done : List ℕ) (value : ℕ) → IsSoFar here index start test next done value → AreClean inner (test_sites (at value) test) →
      AreClean inner (flat_map (λ k. test_sites (at k) test) (index_value names start ∷ map after done))
  all_tests done value s k =
      subst (λ zs. AreClean inner (flat_map (λ k. test_sites (at k) test) zs)) (sym s.chain)
      (clean_more inner (λ k. test_sites (at k) test) done value s.tests k)

  -- the parts of these turns
  abbrev sites_by : List ℕ → List Site
  sites_by ks = flat_map (λ k. test_sites (at k) test) (index_value names start ∷ map after ks) ++ flat_map
      (λ k. next_sites (at k) next) ks

  pub ends : (most : ℕ) (done : List ℕ) (value : ℕ) → IsSoFar here index start test next done value → length done ≤ 1000000 → length done ≤ most →
      IsStep (turn value) test next None →
      AreTurns here index start test next most done
  ends most done value s h l k =
      let e : turns names index start test next ≡ done = s.rest ∙ ap (λ zs. done ++ zs) (rest_none done value h (k.ends refl)) ∙ append-none done in record {
        are = sym e;
        few = l;
        first = s.first;
        clean = subst (λ ks. AreClean inner (sites_by ks)) (sym e)
            (join_clean inner (flat_map (λ k. test_sites (at k) test) (index_value names start ∷ map after done))
            (flat_map (λ k. next_sites (at k) next) done) (all_tests done value s k.clean) s.nexts);
      }

  pub over : (most : ℕ) (done : List ℕ) (value : ℕ) → IsSoFar here index start test next done value → length done ≡ most + 1 →
      most < length (turns names index start test next)
  over most done value s h =
      let l : length (turns names index start test next) ≡ length done + length (turns_from (1000001 - length done) names index test next value) =
      ap length s.rest ∙ length-append done (turns_from (1000001 - length done) names index test next value) in
      omega arith

  -- the tests with turns that follow
  test_told : (done ks : List ℕ) (value : ℕ) (y : ConstError) → IsSoFar here index start test next done value → Told inner (test_sites (at value) test) y →
      Told inner (flat_map (λ k. test_sites (at k) test) (index_value names start ∷ map after (done ++ ks))) y
  test_told done ks value y s h =
      let e : index_value names start ∷ map after (done ++ ks) ≡ done ++ value ∷ map after ks =
      ap (λ zs. index_value names start ∷ zs) (map-join after done ks) ∙ ap (λ zs. zs ++ map after ks) s.chain ∙
      append_assoc done (value ∷ []) (map after ks) in
      subst (λ zs. Told inner (flat_map (λ k. test_sites (at k) test) zs) y) (sym e) (told_at inner (λ k. test_sites (at k) test) done value (map after ks) y h)

  pub fails : (done : List ℕ) (value : ℕ) (y : ConstError) → IsSoFar here index start test next done value → length done ≤ 1000000 →
      IsStepFault (turn value) test next y →
      Told inner (turn_sites names index start test next) y
  fails done value y s h (inl k) =
      let ks : List ℕ = turns_from (1000001 - length done) names index test next value in
      subst (λ zs. Told inner (sites_by zs) y) (sym s.rest)
      (told-first inner (flat_map (λ k. test_sites (at k) test) (index_value names start ∷ map after (done ++ ks)))
      (flat_map (λ k. next_sites (at k) next) (done ++ ks)) y (test_told done ks value y s k))
  fails done value y s h (inr k) =
      let ks : List ℕ = turns_from (1000001 - length (done ++ value ∷ [])) names index test next (after value) in
      let e : turns names index start test next ≡ done ++ value ∷ ks = s.rest ∙ ap (λ zs. done ++ zs) (rest_more done value (after value) h k.0 refl) in
      subst (λ zs. Told inner (sites_by zs) y) (sym e)
      (told-second inner (flat_map (λ k. test_sites (at k) test) (index_value names start ∷ map after (done ++ value ∷ ks)))
      (flat_map (λ k. next_sites (at k) next) (done ++ value ∷ ks)) y
      (told_at inner (λ k. next_sites (at k) next) done value ks y k.1))

  pub no_turns : (most : ℕ) (done : List ℕ) (value : ℕ) (y : TurnsError) → IsSoFar here index start test next done value → length done ≤ 1000000 →
      IsTurnFault (turn value) test next y →
      AreNoTurns here index start test next most y
  no_turns most done value (t.Const y) s h k = inr (fails done value y s h k)
  no_turns most done value t.Limit s h k = absurd k
  no_turns most done value t.NoMemory s h k = tt
