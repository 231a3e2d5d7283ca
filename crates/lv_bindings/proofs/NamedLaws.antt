-- The declarations of a name, by their numbers.
use Rattle.std.proofs.Common.{◌≡◌, ◌⊎◌, inl, inr, ℕ, zero, suc, ◌+◌, ◌<◌, ◌≤◌, arith, Bool, true, false, not, ◌&&◌, ◌||◌, List, [], ◌∷◌, ◌++◌, map, length, take, refl, sym, ap, ◌∙◌, subst, Option, Some, None}
use Rattle.std.specs.Prelude.{bytes_eq, cond, slice_get, filter, if◌then◌else◌, Contains, flat_map}
use Rattle.std.specs.List.{list_any}
use Rattle.std.proofs.lemmas.List.Elements.{Contains-append_left, Contains-append_right}
use Rattle.lv_ast.specs.Names.{Name}
use Rattle.lv_source.specs.Declarations.{Declaration, declared_as}
use Rattle.lv_source.specs.Parts.{numbered_from}
use Rattle.lv_source.specs.ScopeRules.{is_nil}
use Rattle.lv_source.proofs.Tests.{decide, same_name, name-itself}
use Rattle.lv_bindings.specs.declared.group.Group.{Group}
use Rattle.lv_bindings.proofs.Lists.{three_ways}
use Rattle.lv_bindings.specs.Grouping.{Numbered, is_named, named, group_of, group_for}

-- ---- told of one of them

pub contains_at : {A B : Type 0} (f : A → List B) (xs : List A) (k : ℕ) (x : A) (y : B) → slice_get xs k ≡ Some x → Contains (f x) y → Contains (flat_map f xs) y
contains_at f [] k x y h c = absurd (cc)
contains_at f (z ∷ xs) zero x y h c =
    Contains-append_left (f z) (flat_map f xs) y (let e : x ≡ z = cc in subst (λ w. Contains (f w) y) e c)
contains_at f (z ∷ xs) (suc k) x y h c = Contains-append_right (f z) (flat_map f xs) y (contains_at f xs k x y h c)

pub none_at : {A B : Type 0} (f : A → List B) (xs : List A) → ((k : ℕ) (x : A) → slice_get xs k ≡ Some x → f x ≡ []) → flat_map f xs ≡ []
none_at f [] h = refl
none_at f (x ∷ xs) h = ap (λ ys. ys ++ flat_map f xs) (h 0 x refl) ∙ none_at f xs (λ k. h (suc k))

-- ---- numbered

pub numbered_is : {A : Type 0} (i : ℕ) (xs : List A) (k : ℕ) (x : ℕ × A) → slice_get (numbered_from i xs) k ≡ Some x → (x.0 ≡ i + k) × (slice_get xs k ≡ Some x.1)
numbered_is i [] k x h = absurd (cc)
numbered_is i (y ∷ xs) zero x h = (let e : (i, y) ≡ x = cc in let n : i ≡ i + 0 = omega arith in (sym (ap (λ z. z.0) e) ∙ n, ap (λ z. Some z.1) e))
numbered_is i (y ∷ xs) (suc k) x h =
    let r : (x.0 ≡ suc i + k) × (slice_get xs k ≡ Some x.1) = numbered_is (suc i) xs k x h in
    (let n : suc i + k ≡ i + suc k = omega arith in (r.0 ∙ n, r.1))

plain_if : (i : ℕ) (d : Declaration) (b : Bool) (zs : List Numbered) (ds : List Declaration) → map (λ x. x.1) zs ≡ ds →
    map (λ x. x.1) (cond b ((i, d) ∷ zs) zs) ≡ cond b (d ∷ ds) ds
plain_if i d true zs ds h = ap (λ us. d ∷ us) h
plain_if i d false zs ds h = h

plain_from : (i : ℕ) (ds : List Declaration) (name : Name) → map (λ x. x.1) (filter (is_named name) (numbered_from i ds)) ≡ declared_as name ds
plain_from i [] name = refl
plain_from i (d ∷ ds) name = plain_if i d (bytes_eq d.name.name name) _ _ (plain_from (suc i) ds name)

-- without the numbers
pub plain : (ds : List Declaration) (name : Name) → map (λ x. x.1) (named ds name) ≡ declared_as name ds
plain ds name = plain_from 0 ds name

-- ---- the first

-- a declaration of a name with none before it
pub record IsFirstIn (ds : List Declaration) (name : Name) (i k : ℕ) (d : Declaration) : Type 0 where
  pub place : ℕ
  pub number : k ≡ i + place
  pub is : slice_get ds place ≡ Some d
  pub name_is : bytes_eq d.name.name name ≡ true
  pub none : declared_as name (take place ds) ≡ []

taken_out : (d : Declaration) (ds : List Declaration) (name : Name) → bytes_eq d.name.name name ≡ false → declared_as name (d ∷ ds) ≡ declared_as name ds
taken_out d ds name e = ap (λ b. cond b (d ∷ declared_as name ds) (declared_as name ds)) e

later : (ds : List Declaration) (d : Declaration) (name : Name) (i k : ℕ) (e : Declaration) → bytes_eq d.name.name name ≡ false → IsFirstIn ds name (suc i) k e →
    IsFirstIn (d ∷ ds) name i k e
later ds d name i k e out h = record {
  place = suc h.place;
  number = h.number ∙ (let n : suc i + h.place ≡ i + suc h.place = omega arith in n);
  is = h.is;
  name_is = h.name_is;
  none = taken_out d (take h.place ds) name out ∙ h.none;
}

pub first_from : (i : ℕ) (ds : List Declaration) (name : Name) (x : Numbered) (xs : List Numbered) → filter (is_named name) (numbered_from i ds) ≡ x ∷ xs →
    IsFirstIn ds name i x.0 x.1
first_from i [] name x xs h = absurd (cc)
first_from i (d ∷ ds) name x xs h = elim (decide (bytes_eq d.name.name name)) [
  | inl e ↦ (
      let s : (i, d) ∷ filter (is_named name) (numbered_from (suc i) ds) ≡ x ∷ xs =
      sym (ap (λ b. cond b ((i, d) ∷ filter (is_named name) (numbered_from (suc i) ds)) (filter (is_named name) (numbered_from (suc i) ds))) e) ∙ h in
      let q : (i, d) ≡ x = cc in
      record {
        place = 0;
        number = sym (ap (λ z. z.0) q) ∙ (let n : i ≡ i + 0 = omega arith in n);
        is = ap (λ z. Some z.1) q;
        name_is = subst (λ (z : Numbered). bytes_eq z.1.name.name name ≡ true) q e;
        none = refl;
      })
  | inr e ↦ later ds d name i x.0 x.1 e (first_from (suc i) ds name x xs
      (sym (ap (λ b. cond b ((i, d) ∷ filter (is_named name) (numbered_from (suc i) ds)) (filter (is_named name) (numbered_from (suc i) ds))) e) ∙ h))
]

-- the first declaration of a name, and those behind it
pub record HasFirst (ds : List Declaration) (name : Name) (k : ℕ) : Type 0 where
  pub declaration : Declaration
  pub rest : List Declaration
  pub is : slice_get ds k ≡ Some declaration
  pub name_is : bytes_eq declaration.name.name name ≡ true
  pub none : declared_as name (take k ds) ≡ []
  pub all : declared_as name ds ≡ declaration ∷ rest

group_split : (zs : List Numbered) (g : Group) → group_of zs ≡ Some g → (x : Numbered) × ((xs : List Numbered) × (zs ≡ x ∷ xs) × (group_of (x ∷ xs) ≡ Some g))
group_split [] g h = absurd (cc)
group_split (x ∷ xs) g h = (x, (xs, refl, h))

the_first : (x : Numbered) (xs : List Numbered) (g : Group) → group_of (x ∷ xs) ≡ Some g → x.0 ≡ g.first
the_first x xs g h = (let f : Option Group → ℕ = λ o. elim o [ None ↦ x.0 | Some a ↦ a.first ] in ap f h)

pub has_first : (ds : List Declaration) (name : Name) (g : Group) → group_for ds name ≡ Some g → HasFirst ds name g.first
has_first ds name g h =
    let s = group_split (named ds name) g h in
    let f : IsFirstIn ds name 0 s.0.0 s.0.1 = first_from 0 ds name s.0 s.1.0 s.1.1 in
    let k : f.place ≡ g.first = (let n : s.0.0 ≡ 0 + f.place = f.number in let m : s.0.0 ≡ g.first = the_first s.0 s.1.0 g s.1.2 in omega arith) in
    record {
      declaration = s.0.1;
      rest = map (λ x. x.1) s.1.0;
      is = subst (λ z. slice_get ds z ≡ Some s.0.1) k f.is;
      name_is = f.name_is;
      none = subst (λ z. declared_as name (take z ds) ≡ []) k f.none;
      all = sym (plain ds name) ∙ ap (map (λ x. x.1)) s.1.1;
    }

-- ---- before

pub nil_before : (ds : List Declaration) (name : Name) (i k : ℕ) (d : Declaration) → slice_get ds i ≡ Some d → bytes_eq d.name.name name ≡ true → i < k →
    is_nil (declared_as name (take k ds)) ≡ false
nil_before [] name i k d h e l = absurd (cc)
nil_before (x ∷ ds) name i zero d h e l = absurd (omega arith)
nil_before (x ∷ ds) name zero (suc k) d h e l =
    (let q : d ≡ x = cc in
    ap (λ b. is_nil (cond b (x ∷ declared_as name (take k ds)) (declared_as name (take k ds)))) (subst (λ z. bytes_eq z.name.name name ≡ true) q e))
nil_before (x ∷ ds) name (suc i) (suc k) d h e l = elim (decide (bytes_eq x.name.name name)) [
  | inl t ↦ ap (λ b. is_nil (cond b (x ∷ declared_as name (take k ds)) (declared_as name (take k ds)))) t
  | inr t ↦
      ap (λ b. is_nil (cond b (x ∷ declared_as name (take k ds)) (declared_as name (take k ds)))) t ∙
      nil_before ds name i k d h e (let m : i < k = omega arith in m)
]

-- what stands there is the first, or the first stands before it
pub first_or_later : (ds : List Declaration) (k : ℕ) (d : Declaration) (g : Group) → slice_get ds k ≡ Some d → group_for ds d.name.name ≡ Some g →
    (g.first ≡ k) ⊎ (g.first < k)
first_or_later ds k d g h e =
    let f : HasFirst ds d.name.name g.first = has_first ds d.name.name g e in
    elim (three_ways g.first k) [
      | inl s ↦ inl s
      | inr (inl s) ↦ inr s
      | inr (inr s) ↦ absurd (
          let a : is_nil (declared_as d.name.name (take g.first ds)) ≡ false = nil_before ds d.name.name k g.first d h (name-itself d.name.name) s in
          let b : is_nil (declared_as d.name.name (take g.first ds)) ≡ true = ap is_nil f.none in cc)
    ]

-- ---- the second

-- a declaration of a name behind another one
pub record IsLater (ds : List Declaration) (name : Name) (i j k : ℕ) (d : Declaration) : Type 0 where
  pub place : ℕ
  pub number : k ≡ i + place
  pub is : slice_get ds place ≡ Some d
  pub name_is : bytes_eq d.name.name name ≡ true
  pub after : j < k

second_from : (i : ℕ) (ds : List Declaration) (name : Name) (x y : Numbered) (ys : List Numbered) →
    filter (is_named name) (numbered_from i ds) ≡ x ∷ y ∷ ys → IsLater ds name i x.0 y.0 y.1
second_from i [] name x y ys h = absurd (cc)
second_from i (d ∷ ds) name x y ys h = elim (decide (bytes_eq d.name.name name)) [
  | inl e ↦ (
      let s : (i, d) ∷ filter (is_named name) (numbered_from (suc i) ds) ≡ x ∷ y ∷ ys =
      sym (ap (λ b. cond b ((i, d) ∷ filter (is_named name) (numbered_from (suc i) ds)) (filter (is_named name) (numbered_from (suc i) ds))) e) ∙ h in
      let q : (i, d) ≡ x = cc in
      let r : filter (is_named name) (numbered_from (suc i) ds) ≡ y ∷ ys = cc in
      let f : IsFirstIn ds name (suc i) y.0 y.1 = first_from (suc i) ds name y ys r in
      let n : y.0 ≡ suc i + f.place = f.number in
      let m : i ≡ x.0 = ap (λ z. z.0) q in
      record { place = suc f.place; number = omega arith; is = f.is; name_is = f.name_is; after = omega arith })
  | inr e ↦ (
      let f : IsLater ds name (suc i) x.0 y.0 y.1 =
      second_from (suc i) ds name x y ys
      (sym (ap (λ b. cond b ((i, d) ∷ filter (is_named name) (numbered_from (suc i) ds)) (filter (is_named name) (numbered_from (suc i) ds))) e) ∙ h) in
      let n : y.0 ≡ suc i + f.place = f.number in
      record { place = suc f.place; number = omega arith; is = f.is; name_is = f.name_is; after = f.after })
]

pub second : (ds : List Declaration) (name : Name) (x y : Numbered) (ys : List Numbered) → named ds name ≡ x ∷ y ∷ ys →
    (slice_get ds y.0 ≡ Some y.1) × (bytes_eq y.1.name.name name ≡ true) × (x.0 < y.0)
second ds name x y ys h =
    let f : IsLater ds name 0 x.0 y.0 y.1 = second_from 0 ds name x y ys h in
    let e : f.place ≡ y.0 = (let n : y.0 ≡ 0 + f.place = f.number in omega arith) in
    (subst (λ z. slice_get ds z ≡ Some y.1) e f.is, f.name_is, f.after)
