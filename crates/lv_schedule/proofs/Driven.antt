-- Drivers, part by part.
use Rattle.std.proofs.Common.{◌≡◌, ℕ, zero, suc, ◌+◌, ◌<◌, Bool, true, false, not, List, []}
use Rattle.std.proofs.Common.{◌∷◌, ◌++◌, length, map, take, min, get_or, refl, ap, sym, subst, ◌∙◌, inl, inr, arith, Some}
use Rattle.std.specs.Prelude.{slice_get, if◌then◌else◌, nat_lt}
use Rattle.std.specs.List.{list_any}
use Rattle.std.proofs.lemmas.Bool.{lt-ltb}
use Rattle.std.proofs.lemmas.List.{append_assoc, append-nil, take_more, length-take}
use Rattle.std.proofs.lemmas.List.Folds.{list_any-append}
use Rattle.std.proofs.lemmas.Option.{slice_get_within}
use Rattle.lv_source.specs.Views.{is_edge}
use Rattle.lv_source.proofs.Tests.{or-left, or-right, or-split, decide}
use Rattle.lv_spans.specs.declared.span.Span.{Span}
use Rattle.lv_extents.specs.declared.extent.Extent.{Extent}
use Rattle.lv_extents.specs.Extents.{way_of}
use Rattle.lv_schedule.specs.declared.drivers.Driver.{Driver}
use Rattle.lv_schedule.specs.Drivers.{driver, part_drivers, drivers_of}
use Rattle.lv_schedule.proofs.Lists.{any_map, IsSome, some_of}

-- ---- one part more

drivers_append : (j : ℕ) (xs ys : List Extent) → drivers_of j (xs ++ ys) ≡ drivers_of j xs ++ drivers_of (j + length xs) ys
drivers_append j [] ys = let d : j ≡ j + length {A = Extent} [] = omega arith in ap (λ n. drivers_of n ys) d
drivers_append j (x ∷ xs) ys =
    let d : suc j + length xs ≡ j + length (x ∷ xs) = omega arith in
    ap (λ l. part_drivers j x ++ l) (drivers_append (suc j) xs ys ∙ ap (λ n. drivers_of (suc j) xs ++ drivers_of n ys) d) ∙
    sym (append_assoc (part_drivers j x) (drivers_of (suc j) xs) (drivers_of (j + length (x ∷ xs)) ys))

pub drivers_more : (xs : List Extent) (n : ℕ) (x : Extent) → n < length xs → x ≡ get_or xs n x → drivers_of 0 (take (n + 1) xs) ≡ drivers_of 0 (take n xs) ++ part_drivers n x
drivers_more xs n x l e =
    let s : length (take n xs) ≡ min n (length xs) = length-take n xs in
    let d : 0 + length (take n xs) ≡ n = omega arith in
    ap (drivers_of 0) (take_more xs n x l) ∙ (drivers_append 0 (take n xs) (get_or xs n x ∷ []) ∙ (ap (λ k. drivers_of 0 (take n xs) ++ drivers_of k (get_or xs n x ∷ [])) d ∙
    (ap (λ y. drivers_of 0 (take n xs) ++ drivers_of n (y ∷ [])) (sym e) ∙ ap (λ z. drivers_of 0 (take n xs) ++ z) (append-nil (part_drivers n x)))))

-- ---- who drives

pub record IsDriven (P : Driver → Bool) (j : ℕ) (xs : List Extent) : Type 0 where
  pub at : ℕ
  pub item : Extent
  pub there : slice_get xs at ≡ Some item
  pub free : is_edge (way_of item.way) ≡ false
  pub holds : list_any (λ t. P (driver (j + at) t)) item.drives ≡ true

driven_by : (P : Driver → Bool) (j : ℕ) (x : Extent) (b : Bool) → is_edge (way_of x.way) ≡ b → list_any P (if b then [] else map (driver j) x.drives) ≡ true
    → (is_edge (way_of x.way) ≡ false) × (list_any (λ t. P (driver j t)) x.drives ≡ true)
driven_by P j x true e h = cc
driven_by P j x false e h = (e, sym (any_map P (driver j) x.drives) ∙ h)

pub driven_from : (P : Driver → Bool) (j : ℕ) (xs : List Extent) → list_any P (drivers_of j xs) ≡ true → IsDriven P j xs
driven_from P j [] h = cc
driven_from P j (x ∷ xs) h = elim (or-split (list_any P (part_drivers j x)) (list_any P (drivers_of (suc j) xs)) (sym (list_any-append P (part_drivers j x) (drivers_of (suc j) xs)) ∙ h)) [
  | inl a ↦
      let r : (is_edge (way_of x.way) ≡ false) × (list_any (λ t. P (driver j t)) x.drives ≡ true) = driven_by P j x (is_edge (way_of x.way)) refl a in
      let d : j ≡ j + 0 = omega arith in
      record { at = 0; item = x; there = refl; free = r.0; holds = subst (λ n. list_any (λ t. P (driver n t)) x.drives ≡ true) d r.1 }
  | inr b ↦
      let r : IsDriven P (suc j) xs = driven_from P (suc j) xs b in
      let d : suc j + r.at ≡ j + suc r.at = omega arith in
      record { at = suc r.at; item = r.item; there = r.there; free = r.free; holds = subst (λ n. list_any (λ t. P (driver n t)) r.item.drives ≡ true) d r.holds }
]

drives_part : (P : Driver → Bool) (j : ℕ) (x : Extent) → is_edge (way_of x.way) ≡ false → list_any (λ t. P (driver j t)) x.drives ≡ true
    → list_any P (part_drivers j x) ≡ true
drives_part P j x e h = ap (λ b. list_any P (if b then [] else map (driver j) x.drives)) e ∙ (any_map P (driver j) x.drives ∙ h)

pub driven_at : (P : Driver → Bool) (j : ℕ) (xs : List Extent) (k : ℕ) (x : Extent) → slice_get xs k ≡ Some x → is_edge (way_of x.way) ≡ false
    → list_any (λ t. P (driver (j + k) t)) x.drives ≡ true → list_any P (drivers_of j xs) ≡ true
driven_at P j [] k x e f h = cc
driven_at P j (y ∷ xs) zero x e f h =
    let q : x ≡ y = cc in
    let d : j + 0 ≡ j = omega arith in
    list_any-append P (part_drivers j y) (drivers_of (suc j) xs) ∙ or-left (list_any P (part_drivers j y)) (list_any P (drivers_of (suc j) xs))
    (subst (λ z. list_any P (part_drivers j z) ≡ true) q (drives_part P j x f (subst (λ n. list_any (λ t. P (driver n t)) x.drives ≡ true) d h)))
driven_at P j (y ∷ xs) (suc k) x e f h =
    let d : j + suc k ≡ suc j + k = omega arith in
    list_any-append P (part_drivers j y) (drivers_of (suc j) xs) ∙ or-right (list_any P (part_drivers j y)) (list_any P (drivers_of (suc j) xs))
    (driven_at P (suc j) xs k x e f (subst (λ n. list_any (λ t. P (driver n t)) x.drives ≡ true) d h))

-- numbered from 0
pub driven_of : (P : Driver → Bool) (xs : List Extent) (k : ℕ) (x : Extent) → slice_get xs k ≡ Some x → is_edge (way_of x.way) ≡ false
    → list_any (λ t. P (driver k t)) x.drives ≡ true → list_any P (drivers_of 0 xs) ≡ true
driven_of P xs k x e f h =
    let d : k ≡ 0 + k = omega arith in
    driven_at P 0 xs k x e f (subst (λ n. list_any (λ t. P (driver n t)) x.drives ≡ true) d h)

pub driven_where : (P : Driver → Bool) (xs : List Extent) → list_any P (drivers_of 0 xs) ≡ true
    → (k : ℕ) × (x : Extent) × (slice_get xs k ≡ Some x) × (is_edge (way_of x.way) ≡ false) × (list_any (λ t. P (driver k t)) x.drives ≡ true)
driven_where P xs h =
    let r : IsDriven P 0 xs = driven_from P 0 xs h in
    let d : 0 + r.at ≡ r.at = omega arith in
    (r.at, r.item, r.there, r.free, subst (λ n. list_any (λ t. P (driver n t)) r.item.drives ≡ true) d r.holds)

-- no driver is a part that there isn't
never : (b : Bool) → b ≡ true → not b ≡ true → ⊥
never b h k = cc

pub parts_below : (xs : List Extent) (n : ℕ) → length xs ≡ n → list_any (λ (d : Driver). not (nat_lt d.part n)) (drivers_of 0 xs) ≡ false
parts_below xs n s = elim (decide (list_any (λ (d : Driver). not (nat_lt d.part n)) (drivers_of 0 xs))) [
  | inl a ↦
      let r : (k : ℕ) × (x : Extent) × (slice_get xs k ≡ Some x) × (is_edge (way_of x.way) ≡ false) × (list_any (λ (t : Span). not (nat_lt k n)) x.drives ≡ true) =
      driven_where (λ (d : Driver). not (nat_lt d.part n)) xs a in
      let l : r.0 < length xs = slice_get_within xs r.0 r.1 r.2 in
      let m : r.0 < n = omega arith in
      let t : IsSome (λ (t : Span). not (nat_lt r.0 n)) r.1.drives = some_of (λ (t : Span). not (nat_lt r.0 n)) r.1.drives r.4 in
      absurd (never (nat_lt r.0 n) (lt-ltb r.0 n m) t.holds)
  | inr b ↦ b
]
