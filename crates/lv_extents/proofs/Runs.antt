-- Which bits a run of places has, and which a mask.
use Rattle.std.proofs.Common.{◌≡◌, ◌≢◌, ℕ, zero, suc, ◌+◌, ◌-◌, ◌^◌, ◌<◌, ◌≤◌, Bool, true, false, not, ◌&&◌, ◌||◌, ◌==◌, List, ◌++◌, map, flat_map, refl, sym, ◌∙◌, ap, arith, Option, inl, inr}
use Rattle.std.specs.Prelude.{nat_lt, bytes_eq}
use Rattle.std.specs.List.{range_with_len}
use Rattle.std.proofs.lemmas.Bool.{cases_lt, cases_eq}
use Rattle.std.proofs.lemmas.Bool.Decides.{nat_tests}
use Rattle.std.proofs.lemmas.Grind.{flat_map-append}
use Rattle.std.proofs.lemmas.List.Folds.{list_any-append}
use Rattle.std.proofs.lemmas.Nat.Bits.{bit_at_mask_inside, bit_at_mask_below, bit_at_mask_above}
use Rattle.lv_ast.specs.Names.{Name}
use Rattle.lv_source.specs.Places.{Bit, same_bit, has_bit, some_bit, place_bits, bits_below}
use Rattle.lv_values.specs.Windows.{nones, somes, run}
use Rattle.lv_spans.specs.Sets.{is_set}

pub lt-true : (a b : ℕ) → a < b → nat_lt a b ≡ true
lt-true a b h = grind (arith, nat_tests)

pub lt-false : (a b : ℕ) → b ≤ a → nat_lt a b ≡ false
lt-false a b h = grind (arith, nat_tests)

pub eq-true : (a b : ℕ) → a ≡ b → (a == b) ≡ true
eq-true a b h = grind (arith, nat_tests)

pub eq-false : (a b : ℕ) → a ≢ b → (a == b) ≡ false
eq-false a b h = grind (arith, nat_tests)

pub of-lt : (a b : ℕ) → nat_lt a b ≡ true → a < b
of-lt a b h = grind (arith, nat_tests)

pub of-eq : (a b : ℕ) → (a == b) ≡ true → a ≡ b
of-eq a b h = grind (arith, nat_tests)

abbrev pub in_run : ℕ → ℕ → ℕ → Bool
in_run lo n i = not (nat_lt i lo) && nat_lt i (lo + n)

pub run-most : (lo n i : ℕ) → in_run lo n i ≡ true → i < lo + n
run-most lo n i h = grind (arith, nat_tests)

no-last : (b : Bool) → ((b && false) || false) ≡ false
no-last true = refl
no-last false = refl

steps : (p lo n : ℕ) → (((p == lo) && true) || in_run (lo + 1) n p) ≡ in_run lo (suc n) p
steps p lo n = elim (cases_eq p lo) [
  | inl e ↦ rw (eq-true p lo e) (rw (lt-false p lo (omega (arith, e))) (rw (lt-true p (lo + suc n) (omega (arith, e))) refl))
  | inr ne ↦ elim (cases_lt p lo) [
    | inl lt ↦ rw (eq-false p lo ne) (rw (lt-true p lo lt) (rw (lt-true p (lo + 1) (omega arith)) refl))
    | inr ge ↦
        let s : (lo + 1) + n ≡ lo + suc n = omega arith in
        rw (eq-false p lo ne) (rw (lt-false p lo ge) (rw (lt-false p (lo + 1) (omega arith)) (ap (nat_lt p) s)))
  ]
]

step : (t : Bool) (p lo n : ℕ) → (((p == lo) && t) || (t && in_run (lo + 1) n p)) ≡ (t && in_run lo (suc n) p)
step true p lo n = steps p lo n
step false p lo n = no-last (p == lo)

pub no-run : (lo p : ℕ) → in_run lo 0 p ≡ false
no-run lo p = elim (cases_lt p lo) [
  | inl lt ↦ rw (lt-true p lo lt) refl
  | inr ge ↦ rw (lt-false p lo ge) (lt-false p (lo + 0) (omega arith))
]

pub never : (t u : Bool) → u ≡ false → (t && u) ≡ false
never true u h = h
never false u h = refl

module _ (name : Name) where
  abbrev H : List (Option ℕ) → Bit → Bool
  H ks x = has_bit (flat_map (some_bit name) ks) x

  append : (ks ls : List (Option ℕ)) (x : Bit) → H (ks ++ ls) x ≡ (H ks x || H ls x)
  append ks ls x = ap (λ bs. has_bit bs x) (flat_map-append (some_bit name) ks ls) ∙ list_any-append (same_bit x) (flat_map (some_bit name) ks) (flat_map (some_bit name) ls)

  of-nones : (n : ℕ) (x : Bit) → H (nones n) x ≡ false
  of-nones zero x = refl
  of-nones (suc n) x = of-nones n x

  of-somes : (n lo : ℕ) (x : Bit) → H (somes lo n) x ≡ (bytes_eq x.name name && in_run lo n x.place)
  of-somes zero lo x = sym (never (bytes_eq x.name name) (in_run lo 0 x.place) (no-run lo x.place))
  of-somes (suc n) lo x = ap (λ u. same_bit x (record { name = name; place = lo }) || u) (of-somes n (lo + 1) x) ∙ step (bytes_eq x.name name) x.place lo n

  no-more : (u : Bool) → (u || false) ≡ u
  no-more true = refl
  no-more false = refl

  pub run-has : (b lo n a : ℕ) (x : Bit) → has_bit (place_bits (record { name = name; bits = run b lo n a })) x ≡ (bytes_eq x.name name && in_run lo n x.place)
  run-has b lo n a x =
      append (nones b) (somes lo n ++ nones a) x ∙
      (ap (λ u. u || H (somes lo n ++ nones a) x) (of-nones b x) ∙
      (append (somes lo n) (nones a) x ∙ (ap (λ u. H (somes lo n) x || u) (of-nones a x) ∙ (no-more (H (somes lo n) x) ∙ of-somes n lo x))))

  pub from-has : (n lo : ℕ) (x : Bit) → has_bit (map (λ k. record { name = name; place = k }) (range_with_len lo n)) x ≡ (bytes_eq x.name name && in_run lo n x.place)
  from-has zero lo x = sym (never (bytes_eq x.name name) (in_run lo 0 x.place) (no-run lo x.place))
  from-has (suc n) lo x = ap (λ u. same_bit x (record { name = name; place = lo }) || u) (from-has n (lo + 1) x) ∙ step (bytes_eq x.name name) x.place lo n

  pub below-has : (w : ℕ) (x : Bit) → has_bit (bits_below w name) x ≡ (bytes_eq x.name name && in_run 0 w x.place)
  below-has w x = from-has w 0 x

-- ---- masks

pub mask-has : (lo n i : ℕ) → is_set (2 ^ (lo + n) - 2 ^ lo) i ≡ in_run lo n i
mask-has lo n i = elim (cases_lt i lo) [
  | inl lt ↦ rw (lt-true i lo lt) (ap (λ x. x == 1) (bit_at_mask_below lo (lo + n) i lt))
  | inr ge ↦ elim (cases_lt i (lo + n)) [
    | inl lt ↦ rw (lt-false i lo ge) (rw (lt-true i (lo + n) lt) (ap (λ x. x == 1) (bit_at_mask_inside lo (lo + n) i ge lt)))
    | inr ge2 ↦ rw (lt-false i lo ge) (rw (lt-false i (lo + n) ge2) (ap (λ x. x == 1) (bit_at_mask_above lo (lo + n) i ge2)))
  ]
]
