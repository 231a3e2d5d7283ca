-- The declarations of a name, with their numbers.
use Rattle.std.proofs.Common.{◌≡◌, inl, inr, ℕ, zero, suc, ◌+◌, ◌<◌, arith, Bool, true, false, ◌||◌, List, [], ◌∷◌, map, length, take, refl, sym, ap, ◌∙◌, subst, Option, Some, None}
use Rattle.std.specs.Prelude.{bytes_eq, cond, slice_get, filter, Contains, flat_map}
use Rattle.std.specs.List.{list_any}
use Rattle.std.specs.Option.{is_some}
use Rattle.std.proofs.lemmas.List.Elements.{Contains-append_left, Contains-append_right}
use Rattle.lv_ast.specs.Names.{Name}
use Rattle.lv_source.specs.Declarations.{Declaration, declared_as}
use Rattle.lv_source.specs.Parts.{numbered_from}
use Rattle.lv_source.specs.Scopes.{is_direction}
use Rattle.lv_source.specs.ScopeRules.{is_nil}
use Rattle.lv_source.proofs.Facts.{some_same}
use Rattle.lv_source.proofs.Refused.{In, contains_in}
use Rattle.lv_source.proofs.Tests.{decide}
use Rattle.lv_bindings.specs.declared.group.Group.{Group}
use Rattle.lv_bindings.specs.Grouping.{Numbered, is_named, named, group_of, group_for, number_if, either, first_direction}

-- ---- without the numbers

plain_if : (i : ℕ) (d : Declaration) (b : Bool) (zs : List Numbered) (ds : List Declaration) → map (λ x. x.1) zs ≡ ds →
    map (λ x. x.1) (cond b ((i, d) ∷ zs) zs) ≡ cond b (d ∷ ds) ds
plain_if i d true zs ds h = ap (λ us. d ∷ us) h
plain_if i d false zs ds h = h

plain_from : (i : ℕ) (ds : List Declaration) (name : Name) → map (λ x. x.1) (filter (is_named name) (numbered_from i ds)) ≡ declared_as name ds
plain_from i [] name = refl
plain_from i (d ∷ ds) name = plain_if i d (bytes_eq d.name.name name) _ _ (plain_from (suc i) ds name)

pub plain : (ds : List Declaration) (name : Name) → map (λ x. x.1) (named ds name) ≡ declared_as name ds
plain ds name = plain_from 0 ds name

-- ---- the first and the second

pub record IsAt (ds : List Declaration) (name : Name) (i : ℕ) (x : Numbered) : Type 0 where
  pub place : ℕ
  pub number : x.0 ≡ i + place
  pub is : slice_get ds place ≡ Some x.1

-- with one before it
pub record IsLater (ds : List Declaration) (name : Name) (i : ℕ) (x : Numbered) : Type 0 where
  pub place : ℕ
  pub number : x.0 ≡ i + place
  pub is : slice_get ds place ≡ Some x.1
  pub name_is : bytes_eq x.1.name.name name ≡ true
  pub before : is_nil (declared_as name (take place ds)) ≡ false

abbrev rest : List Declaration → Name → ℕ → List Numbered
rest ds name i = filter (is_named name) (numbered_from i ds)

kept : (d : Declaration) (ds : List Declaration) (name : Name) (i : ℕ) (b : Bool) → bytes_eq d.name.name name ≡ b →
    rest (d ∷ ds) name i ≡ cond b ((i, d) ∷ rest ds name (suc i)) (rest ds name (suc i))
kept d ds name i b e = ap (λ c. cond c ((i, d) ∷ rest ds name (suc i)) (rest ds name (suc i))) e

same_head : {A : Type 0} (x y : A) (xs ys : List A) → x ∷ xs ≡ y ∷ ys → x ≡ y
same_head x y xs ys h = cc

same_rest : {A : Type 0} (x y : A) (xs ys : List A) → x ∷ xs ≡ y ∷ ys → xs ≡ ys
same_rest x y xs ys h = cc

further : (d : Declaration) (ds : List Declaration) (name : Name) (i : ℕ) (x : Numbered) → IsAt ds name (suc i) x → IsAt (d ∷ ds) name i x
further d ds name i x h = record {
  place = suc h.place;
  number = h.number ∙ (let n : suc i + h.place ≡ i + suc h.place = omega arith in n);
  is = h.is;
}

first_from : (i : ℕ) (ds : List Declaration) (name : Name) (x : Numbered) (xs : List Numbered) → rest ds name i ≡ x ∷ xs →
    IsAt ds name i x × (bytes_eq x.1.name.name name ≡ true)
first_from i [] name x xs h = absurd (cc)
first_from i (d ∷ ds) name x xs h = elim (decide (bytes_eq d.name.name name)) [
  | inl e ↦ (
      let q : (i, d) ≡ x = same_head (i, d) x (rest ds name (suc i)) xs (sym (kept d ds name i true e) ∙ h) in (
        record {
          place = 0;
          number = sym (ap (λ z. z.0) q) ∙ (let n : i ≡ i + 0 = omega arith in n);
          is = ap (λ z. Some z.1) q;
        },
        subst (λ (z : Numbered). bytes_eq z.1.name.name name ≡ true) q e,
      ))
  | inr e ↦ (
      let r = first_from (suc i) ds name x xs (sym (kept d ds name i false e) ∙ h) in (further d ds name i x r.0, r.1))
]

before_now : (d : Declaration) (ds : List Declaration) (name : Name) (b : Bool) → bytes_eq d.name.name name ≡ b →
    declared_as name (d ∷ ds) ≡ cond b (d ∷ declared_as name ds) (declared_as name ds)
before_now d ds name b e = ap (λ c. cond c (d ∷ declared_as name ds) (declared_as name ds)) e

second_from : (i : ℕ) (ds : List Declaration) (name : Name) (x y : Numbered) (xs : List Numbered) → rest ds name i ≡ x ∷ y ∷ xs → IsLater ds name i y
second_from i [] name x y xs h = absurd (cc)
second_from i (d ∷ ds) name x y xs h = elim (decide (bytes_eq d.name.name name)) [
  | inl e ↦ (
      let r = first_from (suc i) ds name y xs (same_rest (i, d) x (rest ds name (suc i)) (y ∷ xs) (sym (kept d ds name i true e) ∙ h)) in
      record {
        place = suc r.0.place;
        number = r.0.number ∙ (let n : suc i + r.0.place ≡ i + suc r.0.place = omega arith in n);
        is = r.0.is;
        name_is = r.1;
        before = ap is_nil (before_now d (take r.0.place ds) name true e);
      })
  | inr e ↦ (
      let r : IsLater ds name (suc i) y = second_from (suc i) ds name x y xs (sym (kept d ds name i false e) ∙ h) in
      record {
        place = suc r.place;
        number = r.number ∙ (let n : suc i + r.place ≡ i + suc r.place = omega arith in n);
        is = r.is;
        name_is = r.name_is;
        before = ap is_nil (before_now d (take r.place ds) name false e) ∙ r.before;
      })
]

pub first_at : (ds : List Declaration) (name : Name) (x : Numbered) (xs : List Numbered) → named ds name ≡ x ∷ xs → slice_get ds x.0 ≡ Some x.1
first_at ds name x xs h =
    let r : IsAt ds name 0 x = (first_from 0 ds name x xs h).0 in
    let n : x.0 ≡ 0 + r.place = r.number in
    let e : x.0 ≡ r.place = omega arith in
    ap (slice_get ds) e ∙ r.is

pub record IsSecond (ds : List Declaration) (name : Name) (y : Numbered) : Type 0 where
  pub is : slice_get ds y.0 ≡ Some y.1
  pub name_is : bytes_eq y.1.name.name name ≡ true
  pub before : is_nil (declared_as name (take y.0 ds)) ≡ false

pub second_at : (ds : List Declaration) (name : Name) (x y : Numbered) (xs : List Numbered) → named ds name ≡ x ∷ y ∷ xs → IsSecond ds name y
second_at ds name x y xs h =
    let r : IsLater ds name 0 y = second_from 0 ds name x y xs h in
    let n : y.0 ≡ 0 + r.place = r.number in
    let e : r.place ≡ y.0 = omega arith in
    record {
      is = subst (λ k. slice_get ds k ≡ Some y.1) e r.is;
      name_is = r.name_is;
      before = subst (λ k. is_nil (declared_as name (take k ds)) ≡ false) e r.before;
    }

-- ---- one that stands there is not among those before

pub fewer : (ds : List Declaration) (name : Name) (k : ℕ) (d : Declaration) → slice_get ds k ≡ Some d → bytes_eq d.name.name name ≡ true →
    length (declared_as name (take k ds)) < length (declared_as name ds)
fewer [] name k d h e = absurd (cc)
fewer (x ∷ ds) name zero d h e =
    let q : x ≡ d = some_same x d h in
    let t : length (declared_as name (x ∷ ds)) ≡ suc (length (declared_as name ds)) =
    ap length (before_now x ds name true (subst (λ (z : Declaration). bytes_eq z.name.name name ≡ true) (sym q) e)) in
    let z : length (declared_as name (take 0 (x ∷ ds))) ≡ 0 = refl in
    omega arith
fewer (x ∷ ds) name (suc k) d h e =
    let r : length (declared_as name (take k ds)) < length (declared_as name ds) = fewer ds name k d h e in
    elim (decide (bytes_eq x.name.name name)) [
      | inl t ↦ (
          let a : length (declared_as name (x ∷ ds)) ≡ suc (length (declared_as name ds)) = ap length (before_now x ds name true t) in
          let b : length (declared_as name (take (suc k) (x ∷ ds))) ≡ suc (length (declared_as name (take k ds))) =
          ap length (before_now x (take k ds) name true t) in
          omega arith)
      | inr t ↦ (
          let a : length (declared_as name (x ∷ ds)) ≡ length (declared_as name ds) = ap length (before_now x ds name false t) in
          let b : length (declared_as name (take (suc k) (x ∷ ds))) ≡ length (declared_as name (take k ds)) =
          ap length (before_now x (take k ds) name false t) in
          omega arith)
    ]

-- ---- numbered

in_numbered : (i : ℕ) (ds : List Declaration) (x : Numbered) → In x (numbered_from i ds) → (k : ℕ) × (x.0 ≡ i + k) × (slice_get ds k ≡ Some x.1)
in_numbered i [] x h = absurd h
in_numbered i (d ∷ ds) x (inl e) = (0, sym (ap (λ z. z.0) e) ∙ (let n : i ≡ i + 0 = omega arith in n), ap (λ z. Some z.1) e)
in_numbered i (d ∷ ds) x (inr h) =
    let r = in_numbered (suc i) ds x h in (suc r.0, r.1 ∙ (let n : suc i + r.0 ≡ i + suc r.0 = omega arith in n), r.2)

pub numbered_is : (ds : List Declaration) (x : Numbered) → Contains (numbered_from 0 ds) x → slice_get ds x.0 ≡ Some x.1
numbered_is ds x h =
    let r = in_numbered 0 ds x (contains_in x (numbered_from 0 ds) h) in
    let n : x.0 ≡ 0 + r.0 = r.1 in
    let e : x.0 ≡ r.0 = omega arith in
    ap (slice_get ds) e ∙ r.2

told_from : {B : Type 0} (f : Numbered → List B) (i : ℕ) (ds : List Declaration) (k : ℕ) (d : Declaration) (y : B) → slice_get ds k ≡ Some d →
    Contains (f (i + k, d)) y → Contains (flat_map f (numbered_from i ds)) y
told_from f i [] k d y h c = absurd (cc)
told_from f i (x ∷ ds) zero d y h c =
    let n : i + 0 ≡ i = omega arith in
    Contains-append_left (f (i, x)) (flat_map f (numbered_from (suc i) ds)) y
    (subst (λ z. Contains (f (i, z)) y) (sym (some_same x d h)) (subst (λ j. Contains (f (j, d)) y) n c))
told_from f i (x ∷ ds) (suc k) d y h c =
    let n : i + suc k ≡ suc i + k = omega arith in
    Contains-append_right (f (i, x)) (flat_map f (numbered_from (suc i) ds)) y
    (told_from f (suc i) ds k d y h (subst (λ j. Contains (f (j, d)) y) n c))

pub told_at : {B : Type 0} (f : Numbered → List B) (ds : List Declaration) (k : ℕ) (d : Declaration) (y : B) → slice_get ds k ≡ Some d →
    Contains (f (k, d)) y → Contains (flat_map f (numbered_from 0 ds)) y
told_at f ds k d y h c = let n : k ≡ 0 + k = omega arith in told_from f 0 ds k d y h (subst (λ j. Contains (f (j, d)) y) n c)

-- ---- the first with a direction

abbrev pub some_number : Option ℕ → Bool
some_number None = false
some_number (Some k) = true

some_either : (b : Bool) (k : ℕ) (o : Option ℕ) → some_number (either (number_if b k) o) ≡ (b || some_number o)
some_either true k o = refl
some_either false k o = refl

some_direction : (xs : List Numbered) → some_number (first_direction xs) ≡ list_any is_direction (map (λ x. x.1) xs)
some_direction [] = refl
some_direction (x ∷ xs) = some_either (is_direction x.1) x.0 (first_direction xs) ∙ ap (λ b. is_direction x.1 || b) (some_direction xs)

abbrev pub direction_in : Option Group → Option ℕ
direction_in None = None
direction_in (Some g) = g.direction

by_group : (xs : List Numbered) → direction_in (group_of xs) ≡ first_direction xs
by_group [] = refl
by_group (x ∷ xs) = refl

pub group_direction : (ds : List Declaration) (name : Name) (o : Option Group) → o ≡ group_for ds name →
    some_number (direction_in o) ≡ list_any is_direction (declared_as name ds)
group_direction ds name o e =
    ap (λ z. some_number (direction_in z)) e ∙ ap some_number (by_group (named ds name)) ∙ some_direction (named ds name) ∙
    ap (list_any is_direction) (plain ds name)

pub has_some : (o : Option ℕ) → is_some o ≡ some_number o
has_some None = refl
has_some (Some k) = refl
