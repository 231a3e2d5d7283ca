-- A candidate holds exactly where its test is true.
use Rattle.std.proofs.Common.{◌≡◌, ◌≢◌, ℕ, Bool, true, false, not, ◌&&◌, ◌||◌, ◌==◌, refl, ◌⊎◌, inl, inr, arith}
use Rattle.std.proofs.lemmas.Bool.Decides.{nat_tests}
use Rattle.lv_model.specs.Design.{Candidate, Eq, When, Each, Aligned, CandidateHolds, holds_test}

eq_true : (x y : ℕ) → x ≡ y → (x == y) ≡ true
eq_true x y e = grind (arith, nat_tests)

eq_false : (x y : ℕ) → (x ≡ y → ⊥) → (x == y) ≡ false
eq_false x y n = grind (arith, nat_tests)

eq_back : (x y : ℕ) → (x == y) ≡ true → x ≡ y
eq_back x y e = grind (arith, nat_tests)

some_true : (a b c : Bool) → (a ≡ true) ⊎ (b ≡ true) ⊎ (c ≡ true) → (a || b || c) ≡ true
some_true true b c h = refl
some_true false true c h = refl
some_true false false true h = refl
some_true false false false h = elim h [ inl e ↦ cc | inr k ↦ elim k [ inl e ↦ cc | inr e ↦ cc ] ]

true_some : (a b c : Bool) → (a || b || c) ≡ true → (a ≡ true) ⊎ (b ≡ true) ⊎ (c ≡ true)
true_some true b c h = inl refl
true_some false true c h = inr (inl refl)
true_some false false true h = inr (inr refl)
true_some false false false h = inl h

both_true : (x y : ℕ) → x ≢ 0 → y ≢ 0 → (not (x == 0) && not (y == 0)) ≡ true
both_true x y n n' = let e = eq_false x 0 n in let e' = eq_false y 0 n' in cc

true_both : (x y : ℕ) → (not (x == 0) && not (y == 0)) ≡ true → (x ≢ 0) × (y ≢ 0)
true_both x y h = (
  λ e. absurd (left (x == 0) (y == 0) (eq_true x 0 e) h),
  λ e. absurd (right (x == 0) (y == 0) (eq_true y 0 e) h),
)
  where
    left : (a b : Bool) → a ≡ true → (not a && not b) ≡ true → ⊥
    left true b e h = cc
    left false b e h = cc

    right : (a b : Bool) → b ≡ true → (not a && not b) ≡ true → ⊥
    right true b e h = cc
    right false true e h = cc
    right false false e h = cc

pub test_from : {V : Type 0} (c : Candidate V) (l r : V) (a : Bool) → CandidateHolds c l r a → holds_test c l r a ≡ true
test_from (Eq e) l r a h = eq_true (e l) (e r) h
test_from (When guard e) l r a h =
    some_true (e l == e r) (guard l == 0) (guard r == 0)
    (elim h [ inl x ↦ inl (eq_true _ _ x) | inr k ↦ elim k [ inl x ↦ inr (inl (eq_true _ _ x)) | inr x ↦ inr (inr (eq_true _ _ x)) ] ])
test_from (Each p) l r a h = both_true (p l) (p r) h.0 h.1
test_from Aligned l r a h = h

pub from_test : {V : Type 0} (c : Candidate V) (l r : V) (a : Bool) → holds_test c l r a ≡ true → CandidateHolds c l r a
from_test (Eq e) l r a h = eq_back (e l) (e r) h
from_test (When guard e) l r a h =
    elim (true_some (e l == e r) (guard l == 0) (guard r == 0) h) [
      | inl x ↦ inl (eq_back _ _ x)
      | inr k ↦ elim k [ inl x ↦ inr (inl (eq_back _ _ x)) | inr x ↦ inr (inr (eq_back _ _ x)) ]
    ]
from_test (Each p) l r a h = true_both (p l) (p r) h
from_test Aligned l r a h = h
