-- What the clauses of a graph say.
use Rattle.std.specs.Prelude.{◌≡◌, ◌≢◌, ℕ, ◌+◌, ◌*◌, ◌<◌, ◌≤◌, Bool, true, false, length, None}
use Rattle.lv_aig.specs.declared.edge.Edge.{Edge}
use Rattle.lv_aig.specs.Edges.{Nodes, gate_at, edge_bit, IsValuation}
use Rattle.lv_clauses.specs.Sets.{SetValue}
use Rattle.lv_clauses.specs.Values.{Satisfies}
use Rattle.lv_clauses.specs.Decided.{IsDecidedAtRest}
use Rattle.lv_clauses.specs.Sizes.{HasNoEmpty}

-- the inputs come first
pub record HasInputs (d : ℕ) (nodes : Nodes) : Type 0 where
  pub within : d < length nodes
  pub gates : (k : ℕ) → d < k → k < length nodes → gate_at nodes k ≢ None

-- three clauses for each gate, and at most two for the goal
abbrev pub CountsGates : SetValue → ℕ → Type 0
CountsGates set gates = (goals : ℕ) × (goals ≤ 2) × (length set.clauses ≡ 3 * gates + goals)

-- the values that satisfy the set are the valuations of the graph at which the goal is 1; each node is a variable
pub record Encodes (nodes : Nodes) (d : ℕ) (goal : Edge) (set : SetValue) : Type 0 where
  pub vars : d ≤ set.vars
  pub sound : (values : ℕ → Bool) → values 0 ≡ false → Satisfies values set.clauses → IsValuation nodes values × (edge_bit values goal ≡ true)
  pub complete : (values : ℕ → Bool) → IsValuation nodes values → edge_bit values goal ≡ true → Satisfies values set.clauses
  pub decided : IsDecidedAtRest set d
  pub no_empty : HasNoEmpty set.clauses
