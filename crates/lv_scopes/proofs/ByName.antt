-- A list of modules by name.
use Rattle.std.proofs.Common.{◌≡◌, inl, inr, ℕ, zero, suc, ◌+◌, ◌<◌, ◌≤◌, arith, Bool, true, false, not, ◌||◌, List, [], ◌∷◌, ◌++◌, map, length, get_or, take, drop, append_assoc, refl, sym, ap, ◌∙◌, subst, Some, None}
use Rattle.std.specs.Prelude.{flat_map, bytes_eq, cond, find, slice_get, Contains, nat_lt}
use Rattle.std.specs.List.{list_any, position, position_or_len}
use Rattle.std.proofs.lemmas.List.Elements.{Contains-append_left, Contains-append_right}
use Rattle.std.proofs.lemmas.List.{take_more}
use Rattle.std.proofs.lemmas.List.Folds.{find_at}
use Rattle.std.proofs.lemmas.Option.{slice_get_past}
use Rattle.std.proofs.lemmas.Bool.Decides.{nat_tests}
use mathlib.Core.Path.{fun_ext}
use Rattle.lv_ast.specs.declared.item.Module.{Module}
use Rattle.lv_ast.specs.Names.{Name}
use Rattle.lv_source.specs.Parts.{At}
use Rattle.lv_source.specs.ScopeRules.{place_if}
use Rattle.lv_source.specs.Legal.{at_top, modules_again}
use Rattle.lv_source.proofs.Tests.{decide}
use Rattle.lv_source.proofs.Summaries.{flat-join}
use Rattle.lv_source.proofs.Bridges.{two}
use Rattle.lv_const.proofs.Told.{none-joined, here}
use Rattle.lv_scopes.specs.Modules.{module_name, module_in}
use Rattle.lv_scopes.proofs.Indexed.{turned}

-- ---- names that come again

abbrev told : Module → Module → List At
told m n = map at_top (place_if (bytes_eq n.name.name m.name.name) n.name.place)

-- one of them has this name
abbrev pub has : List Module → Name → Bool
has ms name = list_any (λ m. bytes_eq name (module_name m)) ms

pub none_left : {A : Type 0} (xs ys : List A) → xs ++ ys ≡ [] → xs ≡ []
none_left [] ys h = refl
none_left (x ∷ xs) ys h = absurd (cc)

pub none_right : {A : Type 0} (xs ys : List A) → xs ++ ys ≡ [] → ys ≡ []
none_right [] ys h = h
none_right (x ∷ xs) ys h = absurd (cc)

or_left : (a b : Bool) → (a || b) ≡ false → a ≡ false
or_left true b h = h
or_left false b h = refl

or_right : (a b : Bool) → (a || b) ≡ false → b ≡ false
or_right true b h = absurd (cc)
or_right false b h = h

pub again_more : (ms : List Module) (n : Module) → modules_again ms ≡ [] → has ms (module_name n) ≡ false → modules_again (ms ++ n ∷ []) ≡ []
again_more [] n h k = refl
again_more (m ∷ ms) n h k =
    let a : flat_map (told m) ms ≡ [] = none_left (flat_map (told m) ms) (modules_again ms) h in
    let b : modules_again ms ≡ [] = none_right (flat_map (told m) ms) (modules_again ms) h in
    let c : told m n ++ [] ≡ [] = ap (λ z. map at_top (place_if z n.name.place) ++ [])
    (or_left (bytes_eq n.name.name m.name.name) (has ms (module_name n)) k) in
    let d : modules_again (ms ++ n ∷ []) ≡ [] = again_more ms n b (or_right (bytes_eq n.name.name m.name.name) (has ms (module_name n)) k) in
    two (λ (x y : List At). x ++ y) _ _ _ _ (none-joined (told m) ms (n ∷ []) a c) d

pub again_told : (ms : List Module) (n : Module) (rest : List Module) → has ms (module_name n) ≡ true →
    Contains (modules_again (ms ++ n ∷ rest)) (at_top n.name.place)
again_told [] n rest k = absurd (cc)
again_told (m ∷ ms) n rest k = elim (decide (bytes_eq n.name.name m.name.name)) [
  | inl e ↦
      Contains-append_left (flat_map (told m) (ms ++ n ∷ rest)) (modules_again (ms ++ n ∷ rest)) (at_top n.name.place)
      (subst (λ (zs : List At). Contains zs (at_top n.name.place)) (sym (flat-join (told m) ms (n ∷ rest)))
      (Contains-append_right (flat_map (told m) ms) (told m n ++ flat_map (told m) rest) (at_top n.name.place)
      (Contains-append_left (told m n) (flat_map (told m) rest) (at_top n.name.place)
      (subst (λ (z : Bool). Contains (map at_top (place_if z n.name.place)) (at_top n.name.place)) (sym e) (here (at_top n.name.place) [])))))
  | inr e ↦
      Contains-append_right (flat_map (told m) (ms ++ n ∷ rest)) (modules_again (ms ++ n ∷ rest)) (at_top n.name.place)
      (again_told ms n rest (sym (ap (λ z. z || has ms (module_name n)) e) ∙ k))
]

-- ---- keys

pub any_over : {A : Type 0} (name : Name) (f : A → Name) (xs : List A) → list_any (bytes_eq name) (map f xs) ≡ list_any (λ x. bytes_eq name (f x)) xs
any_over name f [] = refl
any_over name f (x ∷ xs) = ap (λ z. bytes_eq name (f x) || z) (any_over name f xs)

pub first_over : {A : Type 0} (name : Name) (f : A → Name) (xs : List A) →
    position_or_len (bytes_eq name) (map f xs) ≡ position_or_len (λ x. bytes_eq name (f x)) xs
first_over name f [] = refl
first_over name f (x ∷ xs) = ap (λ z. cond (not (bytes_eq name (f x))) (1 + z) 0) (first_over name f xs)

pub len_over : {A B : Type 0} (f : A → B) (xs : List A) → length (map f xs) ≡ length xs
len_over f [] = refl
len_over f (x ∷ xs) = ap suc (len_over f xs)

module _ {K : Type 0} (items : K → Name) (ks : List K) (ms : List Module) (name : Name) (h : map items ks ≡ map module_name ms) where
  abbrev test : K → Bool
  test k = bytes_eq name (items k)

  pub keys_have : list_any test ks ≡ has ms name
  keys_have = sym (any_over name items ks) ∙ ap (list_any (bytes_eq name)) h ∙ any_over name module_name ms

  first_same : position_or_len test ks ≡ position_or_len (λ m. bytes_eq name (module_name m)) ms
  first_same = sym (first_over name items ks) ∙ ap (position_or_len (bytes_eq name)) h ∙ first_over name module_name ms

  count_same : length ks ≡ length ms
  count_same = sym (len_over items ks) ∙ ap length h ∙ len_over module_name ms

  found : module_in ms name ≡ slice_get ms (position_or_len test ks)
  found =
      ap (λ (t : Module → Bool). find t ms) (fun_ext (λ m. turned m.name.name name)) ∙ find_at (λ m. bytes_eq name (module_name m)) ms ∙
      ap (slice_get ms) (sym first_same)

  pick : (k : Bool) (i j : ℕ) → cond k (Some i) None ≡ Some j → i ≡ j
  pick true i j e = cc
  pick false i j e = absurd (cc)

  pub found-Some : (i : ℕ) → position test ks ≡ Some i → slice_get ms i ≡ module_in ms name
  found-Some i e = ap (slice_get ms) (sym (pick (nat_lt (position_or_len test ks) (length ks)) (position_or_len test ks) i e)) ∙ sym found

  missed : (k : Bool) (i : ℕ) → cond k (Some i) None ≡ None → k ≡ false
  missed true i e = absurd (cc)
  missed false i e = refl

  pub found-None : position test ks ≡ None → module_in ms name ≡ None
  found-None e =
      let t : nat_lt (position_or_len test ks) (length ks) ≡ false = missed (nat_lt (position_or_len test ks) (length ks)) (position_or_len test ks) e in
      let l : length ms ≤ position_or_len test ks = (let c : length ks ≡ length ms = count_same in grind (arith, nat_tests)) in
      found ∙ slice_get_past ms (position_or_len test ks) l

-- ---- the next module

pub take_next : (xs : List Module) (i : ℕ) (x : Module) → i < length xs → x ≡ get_or xs i x → take (i + 1) xs ≡ take i xs ++ x ∷ []
take_next xs i x h e = take_more xs i x h ∙ ap (λ (z : Module). take i xs ++ z ∷ []) (sym e)

rejoin : (xs : List Module) (i : ℕ) → take i xs ++ drop i xs ≡ xs
rejoin xs zero = refl
rejoin [] (suc i) = refl
rejoin (x ∷ xs) (suc i) = ap (λ (zs : List Module). x ∷ zs) (rejoin xs i)

pub parted : (xs : List Module) (i : ℕ) (x : Module) → i < length xs → x ≡ get_or xs i x → xs ≡ take i xs ++ x ∷ drop (i + 1) xs
parted xs i x h e =
    sym (rejoin xs (i + 1)) ∙ ap (λ (zs : List Module). zs ++ drop (i + 1) xs) (take_next xs i x h e) ∙ append_assoc (take i xs) (x ∷ []) (drop (i + 1) xs)

pub absent : (a b : Bool) → a ≡ not b → a ≡ true → b ≡ false
absent a true h k = absurd (cc)
absent a false h k = refl

pub present : (a b : Bool) → a ≡ not b → a ≡ false → b ≡ true
present a true h k = refl
present a false h k = absurd (cc)

pub pushed : {K : Type 0} (ks new : List K) (k : K) (b : Bool) → b ≡ false → new ≡ cond b ks (ks ++ k ∷ []) → new ≡ ks ++ k ∷ []
pushed ks new k b h e = e ∙ ap (λ z. cond z ks (ks ++ k ∷ [])) h
