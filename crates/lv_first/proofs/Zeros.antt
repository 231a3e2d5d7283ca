-- The truth of each form of a formula where every variable is false.
use Rattle.std.proofs.Common.{◌≡◌, ℕ, Bool, false, not, ◌&&◌, ◌||◌, ap}
use Rattle.lv_first.specs.declared.formula.Formula.{Formula}
use Rattle.lv_first.specs.declared.formula.Formula.TheVariants as f
use Rattle.lv_first.specs.Formulas.{same_bit, constant, variable, negated, both, either, differ, truth, at_zero}
use Rattle.lv_first.proofs.Truths.{truth-Constant, truth-Variable, truth-Not, truth-And, truth-Or, truth-Xor}

pub zero-Constant : (b : Bool) → at_zero (truth (f.Constant b)) ≡ b
unfolding at_zero constant
zero-Constant b = ap (λ t. t (λ (k : ℕ). false)) (truth-Constant b)

pub zero-Variable : (k : ℕ) → at_zero (truth (f.Variable k)) ≡ false
unfolding at_zero variable
zero-Variable k = ap (λ t. t (λ (k : ℕ). false)) (truth-Variable k)

pub zero-Not : (a : Formula) → at_zero (truth (f.Not a)) ≡ not (at_zero (truth a))
unfolding at_zero negated
zero-Not a = ap (λ t. t (λ (k : ℕ). false)) (truth-Not a)

pub zero-And : (a b : Formula) → at_zero (truth (f.And a b)) ≡ (at_zero (truth a) && at_zero (truth b))
unfolding at_zero both
zero-And a b = ap (λ t. t (λ (k : ℕ). false)) (truth-And a b)

pub zero-Or : (a b : Formula) → at_zero (truth (f.Or a b)) ≡ (at_zero (truth a) || at_zero (truth b))
unfolding at_zero either
zero-Or a b = ap (λ t. t (λ (k : ℕ). false)) (truth-Or a b)

pub zero-Xor : (a b : Formula) → at_zero (truth (f.Xor a b)) ≡ not (same_bit (at_zero (truth a)) (at_zero (truth b)))
unfolding at_zero differ
zero-Xor a b = ap (λ t. t (λ (k : ℕ). false)) (truth-Xor a b)

pub ruleset zeros = (zero-Constant, zero-Variable, zero-Not, zero-And, zero-Or, zero-Xor)
