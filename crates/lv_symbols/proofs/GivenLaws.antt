-- Values by name.
use Rattle.std.proofs.Common.{◌≡◌, inl, inr, ℕ, suc, ◌+◌, ◌<◌, ◌≤◌, arith, Bool, true, false, not, ◌||◌, List, [], ◌∷◌, ◌++◌, length, refl, sym, ap, ◌∙◌, subst, Option, Some, None}
use Rattle.std.specs.Prelude.{bytes_eq, find, cond, slice_get, nat_lt, if◌then◌else◌}
use Rattle.std.specs.List.{list_any, position, position_or_len}
use Rattle.std.specs.Option.{option_map, option_or}
use Rattle.std.proofs.lemmas.Bool.Decides.{nat_tests}
use Rattle.std.proofs.lemmas.List.{length-append}
use Rattle.std.proofs.lemmas.Option.{slice_get_past}
use Rattle.lv_ast.specs.declared.expr.Expr.{Expr}
use Rattle.lv_ast.specs.Names.{Name}
use Rattle.lv_source.proofs.Tests.{decide, same_name}
use Rattle.lv_scopes.proofs.Indexed.{turned}
use Rattle.lv_symbols.specs.declared.givens.Given.{Given}
use Rattle.lv_symbols.specs.Giving.{value_beside}

-- ---- one more

beside_if : (b : Bool) (u : Expr) (o x q : Option Expr) → o ≡ option_or x q → (if b then Some u else o) ≡ option_or (if b then Some u else x) q
beside_if true u o x q h = refl
beside_if false u o x q h = h

beside_more : (ns : List Name) (vs : List Expr) (n : Name) (v : Expr) (name : Name) → length ns ≡ length vs →
    value_beside (ns ++ n ∷ []) (vs ++ v ∷ []) name ≡ option_or (value_beside ns vs name) (if bytes_eq n name then Some v else None)
beside_more [] [] n v name e = refl
beside_more [] (u ∷ vs) n v name e = cc
beside_more (m ∷ ns) [] n v name e = cc
beside_more (m ∷ ns) (u ∷ vs) n v name e =
    beside_if (bytes_eq m name) u _ _ _ (beside_more ns vs n v name (let k : length ns ≡ length vs = omega arith in k))

abbrev value : Given → Expr
value x = x.value.now

abbrev pub first_value : List Given → Name → Option Expr
first_value xs name = option_map (λ x. x.value.now) (find (λ x. bytes_eq x.name.now.name name) xs)

one_value : (b : Bool) (x : Given) → option_map value (cond b (Some x) None) ≡ (if b then Some x.value.now else None)
one_value true x = refl
one_value false x = refl

found_if : (b : Bool) (y : Given) (o q : Option Given) (r : Option Expr) → option_map value o ≡ option_or (option_map value q) r →
    option_map value (cond b (Some y) o) ≡ option_or (option_map value (cond b (Some y) q)) r
found_if true y o q r h = refl
found_if false y o q r h = h

find_more : (xs : List Given) (x : Given) (name : Name) →
    first_value (xs ++ x ∷ []) name ≡ option_or (first_value xs name) (if bytes_eq x.name.now.name name then Some x.value.now else None)
find_more [] x name = one_value (bytes_eq x.name.now.name name) x
find_more (y ∷ ys) x name = found_if (bytes_eq y.name.now.name name) y _ _ _ (find_more ys x name)

known : (ns : List Name) (vs : List Expr) (n : Name) → length ns ≡ length vs → list_any (bytes_eq n) ns ≡ true → (u : Expr) × (value_beside ns vs n ≡ Some u)
known [] vs n e h = cc
known (m ∷ ns) [] n e h = cc
known (m ∷ ns) (v ∷ vs) n e h = elim (decide (bytes_eq n m)) [
  | inl k ↦ (v, ap (λ b. if b then Some v else value_beside ns vs n) (turned m n ∙ k))
  | inr k ↦ (let r : (u : Expr) × (value_beside ns vs n ≡ Some u) =
      known ns vs n (let q : length ns ≡ length vs = omega arith in q) (sym (ap (λ b. b || list_any (bytes_eq n) ns) k) ∙ h) in
      (r.0, ap (λ b. if b then Some v else value_beside ns vs n) (turned m n ∙ k) ∙ r.1))
]

known_or : (o : Option Expr) (b : Bool) (v : Expr) → (b ≡ true → (u : Expr) × (o ≡ Some u)) → o ≡ option_or o (if b then Some v else None)
known_or None true v h = absurd (let k : None ≡ Some (h refl).0 = (h refl).1 in cc)
known_or None false v h = refl
known_or (Some u) b v h = refl

module _ (ns : List Name) (vs : List Expr) (xs : List Given) (x : Given) (e : length ns ≡ length vs)
    (h : (name : Name) → value_beside ns vs name ≡ first_value xs name) where
  pub added_value : (name : Name) →
      value_beside (ns ++ x.name.now.name ∷ []) (vs ++ x.value.now ∷ []) name ≡ first_value (xs ++ x ∷ []) name
  added_value name =
      beside_more ns vs x.name.now.name x.value.now name e ∙
      ap (λ o. option_or o (if bytes_eq x.name.now.name name then Some x.value.now else None)) (h name) ∙ sym (find_more xs x name)

  pub known_value : list_any (bytes_eq x.name.now.name) ns ≡ true → (name : Name) → value_beside ns vs name ≡ first_value (xs ++ x ∷ []) name
  known_value k name =
      known_or (value_beside ns vs name) (bytes_eq x.name.now.name name) x.value.now
      (λ t. subst (λ m. (u : Expr) × (value_beside ns vs m ≡ Some u)) (same_name x.name.now.name name t) (known ns vs x.name.now.name e k)) ∙
      ap (λ o. option_or o (if bytes_eq x.name.now.name name then Some x.value.now else None)) (h name) ∙ sym (find_more xs x name)

abbrev pub Grown : List Name → List Expr → List Given → Type 0
Grown ns vs xs = (length ns ≡ length vs) × ((name : Name) → value_beside ns vs name ≡ first_value xs name)

longer : (ns : List Name) (vs : List Expr) (n : Name) (v : Expr) → length ns ≡ length vs → length (ns ++ n ∷ []) ≡ length (vs ++ v ∷ [])
longer ns vs n v e = length-append ns (n ∷ []) ∙ ap (λ z. z + 1) e ∙ sym (length-append vs (v ∷ []))

pub grown : (ns more : List Name) (vs new : List Expr) (xs : List Given) (x : Given) (known added : Bool) → Grown ns vs xs →
    list_any (bytes_eq x.name.now.name) ns ≡ known → added ≡ not known → more ≡ (if known then ns else ns ++ x.name.now.name ∷ []) →
    new ≡ (if added then vs ++ x.value.now ∷ [] else vs) → Grown more new (xs ++ x ∷ [])
grown ns more vs new xs x true added h k a m n =
    let e : new ≡ vs = n ∙ ap (λ b. if b then vs ++ x.value.now ∷ [] else vs) a in
    subst (λ zs. Grown zs new (xs ++ x ∷ [])) (sym m) (subst (λ us. Grown ns us (xs ++ x ∷ [])) (sym e) (h.0, known_value ns vs xs x h.0 h.1 k))
grown ns more vs new xs x false added h k a m n =
    let e : new ≡ vs ++ x.value.now ∷ [] = n ∙ ap (λ b. if b then vs ++ x.value.now ∷ [] else vs) a in
    subst (λ zs. Grown zs new (xs ++ x ∷ [])) (sym m)
    (subst (λ us. Grown (ns ++ x.name.now.name ∷ []) us (xs ++ x ∷ [])) (sym e)
    (longer ns vs x.name.now.name x.value.now h.0, added_value ns vs xs x h.0 h.1))

-- ---- by number

missing_at : (ns : List Name) (vs : List Expr) (name : Name) → length ns ≤ position_or_len (bytes_eq name) ns → value_beside ns vs name ≡ None
missing_at [] vs name h = refl
missing_at (n ∷ ns) [] name h = refl
missing_at (n ∷ ns) (v ∷ vs) name h = elim (decide (bytes_eq name n)) [
  | inl k ↦ absurd (
      let e : position_or_len (bytes_eq name) (n ∷ ns) ≡ 0 = ap (λ b. cond (not b) (1 + position_or_len (bytes_eq name) ns) 0) k in
      let l : length (n ∷ ns) ≤ 0 = subst (λ z. length (n ∷ ns) ≤ z) e h in omega arith)
  | inr k ↦ (
      let e : position_or_len (bytes_eq name) (n ∷ ns) ≡ 1 + position_or_len (bytes_eq name) ns =
      ap (λ b. cond (not b) (1 + position_or_len (bytes_eq name) ns) 0) k in
      let l : length (n ∷ ns) ≤ 1 + position_or_len (bytes_eq name) ns = subst (λ z. length (n ∷ ns) ≤ z) e h in
      ap (λ b. if b then Some v else value_beside ns vs name) (turned n name ∙ k) ∙ missing_at ns vs name (omega arith))
]

shifted : (v : Expr) (vs : List Expr) (i : ℕ) → slice_get (v ∷ vs) (1 + i) ≡ slice_get vs i
shifted v vs i = let e : 1 + i ≡ suc i = omega arith in ap (slice_get (v ∷ vs)) e

found_at : (ns : List Name) (vs : List Expr) (name : Name) → position_or_len (bytes_eq name) ns < length ns →
    slice_get vs (position_or_len (bytes_eq name) ns) ≡ value_beside ns vs name
found_at [] vs name h = absurd (omega arith)
found_at (n ∷ ns) [] name h = slice_get_past [] (position_or_len (bytes_eq name) (n ∷ ns)) (omega arith)
found_at (n ∷ ns) (v ∷ vs) name h = elim (decide (bytes_eq name n)) [
  | inl k ↦ (
      let e : position_or_len (bytes_eq name) (n ∷ ns) ≡ 0 = ap (λ b. cond (not b) (1 + position_or_len (bytes_eq name) ns) 0) k in
      ap (slice_get (v ∷ vs)) e ∙ sym (ap (λ b. if b then Some v else value_beside ns vs name) (turned n name ∙ k)))
  | inr k ↦ (
      let e : position_or_len (bytes_eq name) (n ∷ ns) ≡ 1 + position_or_len (bytes_eq name) ns =
      ap (λ b. cond (not b) (1 + position_or_len (bytes_eq name) ns) 0) k in
      let l : 1 + position_or_len (bytes_eq name) ns < length (n ∷ ns) = subst (λ z. z < length (n ∷ ns)) e h in
      ap (slice_get (v ∷ vs)) e ∙ shifted v vs (position_or_len (bytes_eq name) ns) ∙ found_at ns vs name (omega arith) ∙ sym (ap (λ b. if b then Some v else value_beside ns vs name) (turned n name ∙ k)))
]

missed : (k : Bool) (i : ℕ) → cond k (Some i) None ≡ None → k ≡ false
missed true i e = absurd (cc)
missed false i e = refl

picked : (k : Bool) (i j : ℕ) → cond k (Some i) None ≡ Some j → (k ≡ true) × (i ≡ j)
picked true i j e = (refl, cc)
picked false i j e = absurd (cc)

pub beside_none : (ns : List Name) (vs : List Expr) (name : Name) → position (bytes_eq name) ns ≡ None → value_beside ns vs name ≡ None
beside_none ns vs name e =
    let k : nat_lt (position_or_len (bytes_eq name) ns) (length ns) ≡ false = missed _ (position_or_len (bytes_eq name) ns) e in
    missing_at ns vs name (grind (arith, nat_tests))

pub beside_some : (ns : List Name) (vs : List Expr) (name : Name) (i : ℕ) → position (bytes_eq name) ns ≡ Some i → slice_get vs i ≡ value_beside ns vs name
beside_some ns vs name i e =
    let r : (nat_lt (position_or_len (bytes_eq name) ns) (length ns) ≡ true) × (position_or_len (bytes_eq name) ns ≡ i) =
    picked (nat_lt (position_or_len (bytes_eq name) ns) (length ns)) (position_or_len (bytes_eq name) ns) i e in
    let l : position_or_len (bytes_eq name) ns < length ns =
    (let k : nat_lt (position_or_len (bytes_eq name) ns) (length ns) ≡ true = r.0 in grind (arith, nat_tests)) in
    ap (slice_get vs) (sym r.1) ∙ found_at ns vs name l
