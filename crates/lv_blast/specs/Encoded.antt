-- What a graph's goal as clauses keeps.
use Rattle.std.specs.Prelude.{ℕ, ◌<◌, ◌≤◌, List, length, slice_index, sum}
use Rattle.lv_netlist.specs.Net.{IsWidth}
use Rattle.lv_clauses.specs.Sets.{SetValue}

-- the clauses, the widths of the inputs, the number of gates
pub record EncodedGoal : Type 0 where
  pub set : SetValue
  pub widths : List ℕ
  pub gates : ℕ

-- each width is one, and all bits are variables of the set
pub record HasBits (set : SetValue) (widths : List ℕ) : Type 0 where
  pub each : (i : ℕ) → i < length widths → IsWidth (slice_index widths i)
  pub room : sum widths ≤ set.vars
