-- The value of an edge.
use Rattle.std.specs.Prelude.{◌≡◌, ◌≢◌, ℕ, ◌+◌, ◌<◌, ◌≤◌, Bool, true, false, not, ◌&&◌, if◌then◌else◌, ◌==◌, nat_lt, List, length, Option, Some, None}
use Rattle.std.proofs.Common.{get_or}
use Rattle.lv_aig.specs.declared.edge.Edge.{Edge}
use Rattle.lv_aig.specs.declared.edge.Gate.{Gate}

-- the gates by their nodes; an open node is an input, or the constant at 0
abbrev pub Nodes : Type 0
Nodes = List (Option Gate)

abbrev pub gate_at : Nodes → ℕ → Option Gate
gate_at nodes k = get_or nodes k None

abbrev pub zero_edge : Edge
zero_edge = record { node = 0; neg = false }

-- the value of an edge where each node has a value
abbrev pub edge_bit : (ℕ → Bool) → Edge → Bool
edge_bit values e = if e.neg then not (values e.node) else values e.node

-- the constant is 0, and each gate is both of its edges
pub record IsValuation (nodes : Nodes) (values : ℕ → Bool) : Type 0 where
  pub zero : values 0 ≡ false
  pub gates : (k : ℕ) (g : Gate) → k < length nodes → gate_at nodes k ≡ Some g → values k ≡ (edge_bit values g.left && edge_bit values g.right)

-- what the type keeps: a gate's nodes rise, and no two gates have the same edges
pub record IsGraph (nodes : Nodes) : Type 0 where
  pub some : 0 < length nodes
  pub open_zero : gate_at nodes 0 ≡ None
  pub rise : (k : ℕ) (g : Gate) → k < length nodes → gate_at nodes k ≡ Some g → (0 < g.left.node) × (g.left.node < g.right.node) × (g.right.node < k)
  pub shared : (j k : ℕ) (g : Gate) → j < k → k < length nodes → gate_at nodes j ≡ Some g → gate_at nodes k ≢ Some g

-- the old nodes stay, and each further one is a gate
pub record Grows (old new : Nodes) : Type 0 where
  pub more : length old ≤ length new
  pub same : (k : ℕ) → k < length old → gate_at new k ≡ gate_at old k
  pub gates : (k : ℕ) → length old ≤ k → k < length new → gate_at new k ≢ None

-- the edge that needs no gate, where one is constant, equal to the other or its negation
abbrev pub folded : Edge → Edge → Option Edge
folded a b = if a.node == b.node then (if (if a.neg then b.neg else not b.neg) then Some a else Some zero_edge) else if a.node == 0 then (if a.neg then Some b else Some zero_edge) else if b.node == 0 then (if b.neg then Some a else Some zero_edge) else None

-- both edges, the lower node first
abbrev pub ordered : Edge → Edge → Gate
ordered a b = if nat_lt a.node b.node then record { left = a; right = b } else record { left = b; right = a }

-- an edge of the graph with that value at each valuation
pub record Gives (old new : Nodes) (e : Edge) (value : (ℕ → Bool) → Bool) : Type 0 where
  pub grows : Grows old new
  pub edge : e.node < length new
  pub is : (values : ℕ → Bool) → IsValuation new values → edge_bit values e ≡ value values
