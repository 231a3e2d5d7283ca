-- A query for those candidates whose switches are on.
use Rattle.std.specs.Prelude.{◌≡◌, ℕ, ◌+◌, ◌<◌, ◌≤◌, ◌==◌, not, List, [], ◌∷◌, ◌++◌, length, filter}
use Rattle.std.specs.List.{range_with_len}
use Rattle.lv_bits.specs.Words.{Bits}
use Rattle.lv_model.specs.Machine.{Query as Asked}
use Rattle.lv_model.specs.Meeting.{cycles_of}
use Rattle.lv_model.specs.Design.{Observers}
use Rattle.lv_netlist.specs.Net.{Net, width_at}
use Rattle.lv_netlist.specs.Run.{values_of, bits_at}
use Rattle.lv_netlist.specs.Fits.{FitsInputs, AreWords}
use Rattle.lv_netlist.specs.Stepping.{GraphCycle}
use Rattle.lv_netlist.specs.Queries.{port_widths, repeated, product_widths, AreMeeting}
use Rattle.lv_unroll.specs.Wires.{word_in}
use Rattle.lv_product.specs.declared.task.Query.{Query}
use Rattle.lv_product.specs.declared.task.Query.TheVariants.{Initial, Allowed, Base, Step, Imply}

-- the queries that are asked with switches
abbrev pub HasSwitches : Query → Type 0
HasSwitches Initial = ⊥
HasSwitches Allowed = ⊥
HasSwitches Base = Unit {0}
HasSwitches Step = Unit {0}
HasSwitches Imply = ⊥

-- the numbers below count whose switch, from this place on, isn't 0
abbrev pub switched_on : ℕ → ℕ → List Bits → List ℕ
switched_on from count words = filter (λ k. not ((bits_at words (from + k)).value == 0)) (range_with_len 0 count)

-- the widths of the words: those of the query, and 1 for each switch
abbrev pub switched_widths : Net → ℕ → ℕ → List ℕ
switched_widths net cycles count = product_widths net cycles ++ repeated count (1 ∷ [])

-- the goal of a graph without registers is 1 exactly where its inputs meet the query for the candidates whose switches aren't 0
pub record IsSwitchedGoalOf (net : Net) (o : Observers GraphCycle) (b count : ℕ) (q : Asked) (product : Net) (goal : ℕ) : Type 0 where
  pub closed : product.registers ≡ []
  pub within : goal < length product.nodes
  pub one : width_at product.nodes goal ≡ 1
  pub widths : port_widths product ≡ switched_widths net (cycles_of q b) count
  pub meets :
      (words : List Bits) → FitsInputs product words → AreWords words → (bits_at (values_of product [] words) goal).value ≡ 1 →
      AreMeeting net o b (switched_on (length (product_widths net (cycles_of q b))) count words) q words
  pub met :
      (words : List Bits) → FitsInputs product words → AreWords words →
      AreMeeting net o b (switched_on (length (product_widths net (cycles_of q b))) count words) q words →
      (bits_at (values_of product [] words) goal).value ≡ 1

-- the nodes from this place on are inputs of their numbers
pub record AreSwitches (net : Net) (from count : ℕ) : Type 0 where
  pub within : from + count ≤ length net.nodes
  pub words : (words : List Bits) (k : ℕ) → k < count → word_in net words (from + k) ≡ bits_at words (from + k)

-- the graph and its goal, and how many registers, inputs, cycles and switches the query has
pub record SwitchedValue : Type 0 where
  pub net : Net
  pub goal : ℕ
  pub registers : ℕ
  pub inputs : ℕ
  pub cycles : ℕ
  pub switches : ℕ
