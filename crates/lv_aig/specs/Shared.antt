-- The gates that stand in a graph already, by their edges.
use Rattle.std.specs.Prelude.{◌≡◌, ℕ, ◌<◌, Bool, length, Some}
use Rattle.std.specs.HashMap.{HashMap, get}
use Rattle.lv_aig.specs.declared.edge.Gate.{Gate}
use Rattle.lv_aig.specs.contracts.edge.GatePartialEq.TheImpl as gate_eq
use Rattle.lv_aig.specs.Edges.{Nodes, gate_at}

abbrev pub same_gate : Gate → Gate → Bool
same_gate = (gate_eq.ghosts).eq

-- a gate stands at this node exactly where the map has the node
pub record Agrees {S : Type 0} (nodes : Nodes) (shared : HashMap Gate ℕ S) : Type 0 where
  pub found : (g : Gate) (k : ℕ) → get same_gate shared g ≡ Some k → (k < length nodes) × (gate_at nodes k ≡ Some g)
  pub known : (g : Gate) (k : ℕ) → k < length nodes → gate_at nodes k ≡ Some g → get same_gate shared g ≡ Some k
