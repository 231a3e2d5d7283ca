-- Where a signal stands.
use Rattle.std.proofs.Common.{◌≡◌, ◌⊎◌, inl, inr, ℕ, zero, suc, ◌+◌, ◌<◌, ◌≤◌, arith, Bool, true, false, not, ◌&&◌, ◌||◌, ◌==◌, List, [], ◌∷◌, map, length, take, refl, sym, ap, ◌∙◌, subst, Option, Some, None}
use Rattle.std.specs.Prelude.{bytes_eq, cond, slice_get, filter, if◌then◌else◌}
use Rattle.std.specs.List.{list_any}
use Rattle.std.proofs.lemmas.Bool.{eq-eqb, eqb-true}
use Rattle.lv_ast.specs.Names.{Name}
use Rattle.lv_source.specs.Declarations.{Declaration, declared_as}
use Rattle.lv_source.specs.Parts.{numbered_from, is_first}
use Rattle.lv_source.specs.Scopes.{is_direction}
use Rattle.lv_source.specs.ScopeRules.{is_nil}
use Rattle.lv_source.proofs.Tests.{decide, name-itself}
use Rattle.lv_bindings.specs.declared.group.Group.{Group}
use Rattle.lv_bindings.specs.Grouping.{Numbered, is_named, named, number_if, either, is_some, first_direction, any_of, group_of, group_for, place}
use Rattle.lv_bindings.proofs.Lists.{three_ways}
use Rattle.lv_bindings.proofs.NamedLaws.{HasFirst, has_first, nil_before, plain}
use Rattle.lv_bindings.proofs.OnceLaws.{any_plain}

abbrev as_named : Declaration → List Declaration → Bool → List Declaration
as_named d ds b = cond b (d ∷ ds) ds

kept : (p : Declaration → Bool) (x : Declaration) (ds : List Declaration) (b : Bool) → list_any p ds ≡ true → list_any p (as_named x ds b) ≡ true
kept p x ds true h = elim (p x) as (λ c. (c || list_any p ds) ≡ true) [ true ↦ refl | false ↦ h ]
kept p x ds false h = h

-- one of them stands before
any_before : (p : Declaration → Bool) (ds : List Declaration) (name : Name) (i k : ℕ) (d : Declaration) → slice_get ds i ≡ Some d → bytes_eq d.name.name name ≡ true →
    p d ≡ true → i < k → list_any p (declared_as name (take k ds)) ≡ true
any_before p [] name i k d h e t l = absurd (cc)
any_before p (x ∷ ds) name i zero d h e t l = absurd (omega arith)
any_before p (x ∷ ds) name zero (suc k) d h e t l =
    (let q : d ≡ x = cc in
    ap (λ b. list_any p (as_named x (declared_as name (take k ds)) b)) (subst (λ (z : Declaration). bytes_eq z.name.name name ≡ true) q e) ∙
    ap (λ b. b || list_any p (declared_as name (take k ds))) (subst (λ z. p z ≡ true) q t))
any_before p (x ∷ ds) name (suc i) (suc k) d h e t l =
    (let r : list_any p (declared_as name (take k ds)) ≡ true = any_before p ds name i k d h e t (omega arith) in
    kept p x (declared_as name (take k ds)) (bytes_eq x.name.name name) r)

-- the first with a direction
pub record IsDirected (ds : List Declaration) (name : Name) (i k : ℕ) : Type 0 where
  pub at : ℕ
  pub number : k ≡ i + at
  pub declaration : Declaration
  pub is : slice_get ds at ≡ Some declaration
  pub name_is : bytes_eq declaration.name.name name ≡ true
  pub directed : is_direction declaration ≡ true
  pub none : list_any is_direction (declared_as name (take at ds)) ≡ false

behind : (d : Declaration) (ds : List Declaration) (name : Name) (i k : ℕ) → ((zs : List Declaration) → list_any is_direction zs ≡ false →
    list_any is_direction (as_named d zs (bytes_eq d.name.name name)) ≡ false) → IsDirected ds name (suc i) k → IsDirected (d ∷ ds) name i k
behind d ds name i k f h = record {
  at = suc h.at;
  number = h.number ∙ (let n : suc i + h.at ≡ i + suc h.at = omega arith in n);
  declaration = h.declaration;
  is = h.is;
  name_is = h.name_is;
  directed = h.directed;
  none = f (declared_as name (take h.at ds)) h.none;
}

abbrev with_first : ℕ → Declaration → List Numbered → Bool → List Numbered
with_first i d zs b = cond b ((i, d) ∷ zs) zs

same_Some : (a b : ℕ) → Some a ≡ Some b → a ≡ b
same_Some a b h = cc

pub directed_from : (i : ℕ) (ds : List Declaration) (name : Name) (k : ℕ) → first_direction (filter (is_named name) (numbered_from i ds)) ≡ Some k → IsDirected ds name i k
directed_from i [] name k h = absurd (cc)
directed_from i (d ∷ ds) name k h =
    let zs : List Numbered = filter (is_named name) (numbered_from (suc i) ds) in
    elim (decide (bytes_eq d.name.name name)) [
      | inl e ↦
          (let r : either (number_if (is_direction d) i) (first_direction zs) ≡ Some k = sym (ap (λ b. first_direction (with_first i d zs b)) e) ∙ h in
          elim (decide (is_direction d)) [
            | inl t ↦ record {
              at = 0;
              number = (let q : i ≡ k = same_Some i k (sym (ap (λ b. either (number_if b i) (first_direction zs)) t) ∙ r) in omega arith);
              declaration = d;
              is = refl;
              name_is = e;
              directed = t;
              none = refl;
            }
            | inr t ↦ behind d ds name i k
                (λ us z. ap (λ b. list_any is_direction (as_named d us b)) e ∙ ap (λ b. b || list_any is_direction us) t ∙ z)
                (directed_from (suc i) ds name k (sym (ap (λ b. either (number_if b i) (first_direction zs)) t) ∙ r))
          ])
      | inr e ↦ behind d ds name i k (λ us z. ap (λ b. list_any is_direction (as_named d us b)) e ∙ z)
          (directed_from (suc i) ds name k (sym (ap (λ b. first_direction (with_first i d zs b)) e) ∙ h))
    ]

some_or : (b : Bool) (k : ℕ) (o : Option ℕ) → is_some (either (number_if b k) o) ≡ (b || is_some o)
some_or true k o = refl
some_or false k o = refl

any_directed : (zs : List Numbered) → any_of is_direction zs ≡ is_some (first_direction zs)
any_directed [] = refl
any_directed (x ∷ zs) = ap (λ b. is_direction x.1 || b) (any_directed zs) ∙ sym (some_or (is_direction x.1) x.0 (first_direction zs))

pub group_direction : (zs : List Numbered) (g : Group) → group_of zs ≡ Some g → first_direction zs ≡ g.direction
group_direction [] g h = absurd (cc)
group_direction (x ∷ zs) g h =
    (let f : Option Group → Option ℕ = λ o. elim o [ None ↦ first_direction (x ∷ zs) | Some a ↦ a.direction ] in ap f h)

last_false : (a b : Bool) → b ≡ true → (a && not b) ≡ false
last_false true b h = ap not h
last_false false b h = refl

unequal : (a b : ℕ) → (a ≡ b → ⊥) → (a == b) ≡ false
unequal a b h = elim (decide (a == b)) [ inl e ↦ absurd (h (eqb-true a b e)) | inr e ↦ e ]

module _ (ds : List Declaration) (k : ℕ) (d : Declaration) (g : Group) (h : slice_get ds k ≡ Some d) (own : group_for ds d.name.name ≡ Some g) where
  abbrev before : List Declaration
  before = declared_as d.name.name (take k ds)

  abbrev all : List Declaration
  all = declared_as d.name.name ds

  any_all : list_any is_direction all ≡ is_some g.direction
  any_all =
      ap (list_any is_direction) (sym (plain ds d.name.name)) ∙ any_plain is_direction (named ds d.name.name) ∙ any_directed (named ds d.name.name) ∙
      ap is_some (group_direction (named ds d.name.name) g own)

  by_direction : (j : ℕ) → IsDirected ds d.name.name 0 j → (is_direction d && not (list_any is_direction before)) ≡ (j == k)
  by_direction j r =
      let at : r.at ≡ j = (let n : j ≡ 0 + r.at = r.number in omega arith) in
      elim (three_ways r.at k) [
        | inl e ↦
            (let q : d ≡ r.declaration = (let i : slice_get ds k ≡ Some r.declaration = ap (slice_get ds) (sym e) ∙ r.is in cc) in
            let n : list_any is_direction before ≡ false = ap (λ z. list_any is_direction (declared_as d.name.name (take z ds))) (sym e) ∙ r.none in
            ap (λ b. b && not (list_any is_direction before)) (ap is_direction q ∙ r.directed) ∙ ap not n ∙ sym (eq-eqb j k (sym at ∙ e)))
        | inr (inl l) ↦
            (let n : list_any is_direction before ≡ true = any_before is_direction ds d.name.name r.at k r.declaration r.is r.name_is r.directed l in
            last_false (is_direction d) (list_any is_direction before) n ∙ sym (unequal j k (λ e. omega arith)))
        | inr (inr l) ↦
            (let n : is_direction d ≡ false = elim (decide (is_direction d)) [
              | inl t ↦ absurd (
                  let a : list_any is_direction (declared_as d.name.name (take r.at ds)) ≡ true =
                  any_before is_direction ds d.name.name k r.at d h (name-itself d.name.name) t l in
                  let b : list_any is_direction (declared_as d.name.name (take r.at ds)) ≡ false = r.none in cc)
              | inr t ↦ t
            ] in
            ap (λ b. b && not (list_any is_direction before)) n ∙ sym (unequal j k (λ e. omega arith)))
      ]

  by_none : is_nil before ≡ (g.first == k)
  by_none =
      let f : HasFirst ds d.name.name g.first = has_first ds d.name.name g own in
      elim (three_ways g.first k) [
        | inl e ↦ ap (λ z. is_nil (declared_as d.name.name (take z ds))) (sym e) ∙ ap is_nil f.none ∙ sym (eq-eqb g.first k e)
        | inr (inl l) ↦ nil_before ds d.name.name g.first k f.declaration f.is f.name_is l ∙ sym (unequal g.first k (λ e. omega arith))
        | inr (inr l) ↦ absurd (
            let a : is_nil (declared_as d.name.name (take g.first ds)) ≡ false = nil_before ds d.name.name k g.first d h (name-itself d.name.name) l in
            let b : is_nil (declared_as d.name.name (take g.first ds)) ≡ true = ap is_nil f.none in cc)
      ]

  abbrev place_by : Option ℕ → ℕ
  place_by o = elim o [ None ↦ g.first | Some j ↦ j ]

  by_group : (o : Option ℕ) → first_direction (named ds d.name.name) ≡ o →
      (if is_some o then is_direction d && not (list_any is_direction before) else is_nil before) ≡ (place_by o == k)
  by_group None e = by_none
  by_group (Some j) e = by_direction j (directed_from 0 ds d.name.name j e)

  -- a signal stands there just where its group says so
  pub stands_first : is_first (is_direction d) before all ≡ (place g == k)
  stands_first =
      ap (λ b. if b then is_direction d && not (list_any is_direction before) else is_nil before) any_all ∙
      by_group g.direction (group_direction (named ds d.name.name) g own)
