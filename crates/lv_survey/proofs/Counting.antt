-- The counts of entries, one declaration after another.
use Rattle.std.proofs.Common.{◌≡◌, ◌⊎◌, inl, inr, ℕ, zero, suc, ◌+◌, ◌<◌, ◌≤◌, List, [], ◌∷◌, ◌++◌, length, get_or, take, refl, sym, ap, ◌∙◌, subst, arith, Some}
use Rattle.std.specs.Prelude.{slice_get, if◌then◌else◌}
use Rattle.std.proofs.lemmas.List.{take_more, length-append, get_or-map, length-map}
use Rattle.lv_source.specs.Declarations.{Declaration}
use Rattle.lv_source.specs.Scopes.{is_parameter}
use Rattle.lv_symbols.specs.Making.{parameters_in}
use Rattle.lv_declared.specs.declared.declaration.Declaration.{Declaration as Code}
use Rattle.lv_declared.specs.Listing.{declared, all_declared}
use Rattle.lv_survey.specs.Counts.{AreEntryCounts}

-- ---- lists

pub get_first : {A : Type 0} (xs ys : List A) (k : ℕ) → k < length xs → slice_get (xs ++ ys) k ≡ slice_get xs k
get_first [] ys k h = absurd (omega arith)
get_first (x ∷ xs) ys zero h = refl
get_first (x ∷ xs) ys (suc k) h = get_first xs ys k (omega arith)

pub get_last : {A : Type 0} (xs : List A) (y : A) (k : ℕ) → k ≡ length xs → slice_get (xs ++ y ∷ []) k ≡ Some y
get_last [] y zero h = refl
get_last [] y (suc k) h = absurd (omega arith)
get_last (x ∷ xs) y zero h = absurd (omega arith)
get_last (x ∷ xs) y (suc k) h = get_last xs y k (omega arith)

pub below_or : (j k : ℕ) → j < k + 1 → (j < k) ⊎ (j ≡ k)
below_or j k h = grind arith

up_or : (j k : ℕ) → j ≤ k + 1 → (j ≤ k) ⊎ (j ≡ k + 1)
up_or j k h = grind arith

-- ---- counts

-- where so many declarations have been gone through
pub record IsCounting (base : ℕ) (ds : List Declaration) (i count : ℕ) (counts : List ℕ) : Type 0 where
  pub last : count ≡ base + parameters_in (take i ds)
  pub each : (k : ℕ) → k ≤ i → slice_get counts k ≡ Some (base + parameters_in (take k ds))
  pub all : length counts ≡ i + 1

sum_as : (a b c : ℕ) → a + (b + c) ≡ a + b + c
sum_as a b c = omega arith

in_parts : (xs : List Declaration) (d : Declaration) → parameters_in (xs ++ d ∷ []) ≡ parameters_in xs + parameters_in (d ∷ [])
in_parts [] d = let e : parameters_in (d ∷ []) ≡ 0 + parameters_in (d ∷ []) = omega arith in e
in_parts (x ∷ xs) d =
    ap (λ z. (if is_parameter x then 1 else 0) + z) (in_parts xs d) ∙ sum_as (if is_parameter x then 1 else 0) (parameters_in xs) (parameters_in (d ∷ []))

pub counting_none : (base : ℕ) (ds : List Declaration) (counts : List ℕ) → counts ≡ base ∷ [] → IsCounting base ds 0 base counts
counting_none base ds counts h = subst (IsCounting base ds 0 base) (sym h)
    (record {
      last = omega arith;
      each = λ k l.
          (let e : k ≡ 0 = omega arith in
          let z : base ≡ base + 0 = omega arith in
          subst (λ j. slice_get (base ∷ []) j ≡ Some (base + parameters_in (take j ds))) (sym e) (ap Some z));
      all = refl;
    })

module _ (base : ℕ) (ds : List Code) (i count more : ℕ) (counts new : List ℕ) (d : Code) (h : IsCounting base (all_declared ds) i count counts)
    (l : i < length ds) (is : d ≡ get_or ds i d) (m : more ≡ count + parameters_in (declared d ∷ [])) (n : new ≡ counts ++ more ∷ []) where
  next_take : take (i + 1) (all_declared ds) ≡ take i (all_declared ds) ++ declared d ∷ []
  next_take =
      take_more (all_declared ds) i (declared d) (subst (λ n. i < n) (sym (length-map ds declared)) l) ∙
      ap (λ z. take i (all_declared ds) ++ z ∷ []) (get_or-map declared ds i d (declared d) l ∙ ap declared (sym is))

  next_last : more ≡ base + parameters_in (take (i + 1) (all_declared ds))
  next_last =
      let e : parameters_in (take (i + 1) (all_declared ds)) ≡ parameters_in (take i (all_declared ds)) + parameters_in (declared d ∷ []) =
      ap parameters_in next_take ∙ in_parts (take i (all_declared ds)) (declared d) in
      omega (arith, e, m, h.last)

  next_each : (k : ℕ) → (k ≤ i) ⊎ (k ≡ i + 1) → slice_get (counts ++ more ∷ []) k ≡ Some (base + parameters_in (take k (all_declared ds)))
  next_each k (inl g) = get_first counts (more ∷ []) k (omega (arith, h.all)) ∙ h.each k g
  next_each k (inr e) =
      get_last counts more k (e ∙ sym h.all) ∙
      (ap Some next_last ∙ ap (λ j. Some (base + parameters_in (take j (all_declared ds)))) (sym e))

  pub counting_more : IsCounting base (all_declared ds) (i + 1) more new
  counting_more = subst (IsCounting base (all_declared ds) (i + 1) more) (sym n)
      (record {
        last = next_last;
        each = λ k g. next_each k (up_or k i g);
        all = length-append counts (more ∷ []) ∙ ap (λ z. z + 1) h.all;
      })

pub counting_all : (base : ℕ) (ds : List Code) (i count : ℕ) (counts : List ℕ) → IsCounting base (all_declared ds) i count counts → length ds ≤ i → i ≤ length ds →
    AreEntryCounts base (all_declared ds) counts
counting_all base ds i count counts h a b = record {
  each = λ k l. h.each k (let e : length (all_declared ds) ≡ length ds = length-map ds declared in omega arith);
  all = let e : length (all_declared ds) ≡ length ds = length-map ds declared in let z : length counts ≡ i + 1 = h.all in omega arith;
}
