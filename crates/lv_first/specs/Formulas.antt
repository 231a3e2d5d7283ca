-- The truth of a formula over numbered variables.
use Rattle.std.specs.Prelude.{◌≡◌, ℕ, ◌+◌, ◌<◌, ◌≤◌, Bool, true, false, not, ◌&&◌, ◌||◌, if◌then◌else◌, ◌==◌, nat_lt}
use Rattle.lv_first.specs.declared.formula.Formula.{Formula, fold-Formula}
use Rattle.lv_first.specs.declared.formula.Formula.TheOpen.{Formula-F}

-- a truth value for each variable
abbrev pub Assignment : Type 0
Assignment = ℕ → Bool

-- a truth value for each assignment
abbrev pub Truth : Type 0
Truth = Assignment → Bool

abbrev pub same_bit : Bool → Bool → Bool
same_bit a b = if a then b else not b

unfoldable pub constant : Bool → Truth
constant b env = b

unfoldable pub variable : ℕ → Truth
variable k env = env k

unfoldable pub negated : Truth → Truth
negated s env = not (s env)

unfoldable pub both : Truth → Truth → Truth
both s t env = s env && t env

unfoldable pub either : Truth → Truth → Truth
either s t env = s env || t env

unfoldable pub differ : Truth → Truth → Truth
differ s t env = not (same_bit (s env) (t env))

unfoldable pub alike : Truth → Truth → Truth
alike s t env = same_bit (s env) (t env)

unfoldable pub implied : Truth → Truth → Truth
implied s t env = not (s env) || t env

abbrev pub truth_step : Formula-F Truth → Truth
truth_step (Formula-F.Constant b) = constant b
truth_step (Formula-F.Variable k) = variable k
truth_step (Formula-F.Not a) = negated a
truth_step (Formula-F.And a b) = both a b
truth_step (Formula-F.Or a b) = either a b
truth_step (Formula-F.Xor a b) = differ a b

unfoldable pub truth : Formula → Truth
truth f = fold-Formula Truth truth_step f

-- one variable fixed
abbrev pub with_value : Assignment → ℕ → Bool → Assignment
with_value env k b j = if j == k then b else env j

-- the variables of one copy among those of two: its registers lie `by` higher, its inputs are shared
abbrev pub copy_of : ℕ → ℕ → ℕ → Assignment → Assignment
copy_of registers inputs by env k =
    if nat_lt k registers then env (k + by) else if nat_lt k (registers + inputs) then env k else false

unfoldable pub fixing : ℕ → Bool → Truth → Truth
fixing k b t env = t (with_value env k b)

unfoldable pub in_copy : ℕ → ℕ → ℕ → Truth → Truth
in_copy registers inputs by t env = t (copy_of registers inputs by env)

-- the truth where every variable is false
unfoldable pub at_zero : Truth → Bool
at_zero t = t (λ k. false)

-- false at every variable that isn't from `start` to before `end`
pub record IsZeroOutside (start end : ℕ) (env : Assignment) : Type 0 where
  pub below : (k : ℕ) → k < start → env k ≡ false
  pub above : (k : ℕ) → end ≤ k → env k ≡ false

-- true whatever the values of the variables from `start` to before `end`, the others being false
pub record IsValid (start end : ℕ) (t : Truth) : Type 0 where
  pub holds : (env : Assignment) → IsZeroOutside start end env → t env ≡ true
