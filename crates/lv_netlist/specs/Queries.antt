-- Queries of a graph's machine over one list of words: two states, the inputs of some cycles, and a truth value.
use Rattle.std.specs.Prelude.{◌≡◌, ℕ, zero, suc, ◌+◌, ◌*◌, ◌<◌, ◌==◌, Bool, not, List, [], ◌∷◌, ◌++◌, length, map, take, drop, sum}
use Rattle.lv_bits.specs.Words.{Bits}
use Rattle.lv_model.specs.Machine.{Query}
use Rattle.lv_model.specs.Meeting.{IsMetBy, cycles_of}
use Rattle.lv_model.specs.Design.{Observers}
use Rattle.lv_model.specs.Stepper.{unrolled}
use Rattle.lv_netlist.specs.Net.{Net, width_at}
use Rattle.lv_netlist.specs.Run.{values_of, bits_at}
use Rattle.lv_netlist.specs.Fits.{FitsInputs, AreWords}
use Rattle.lv_netlist.specs.Stepping.{GraphCycle, stepper_of, graph_machine}

-- the widths of the registers, and of the inputs
abbrev pub register_widths : Net → List ℕ
register_widths net = map (λ register. register.1.width) net.registers

abbrev pub port_widths : Net → List ℕ
port_widths net = map (λ port. port.1) net.inputs

-- the same list n times
abbrev pub repeated : ℕ → List ℕ → List ℕ
repeated zero xs = []
repeated (suc n) xs = xs ++ repeated n xs

-- the widths of a query's words: the left registers, the right registers, the inputs of each cycle, and the truth value
abbrev pub product_widths : Net → ℕ → List ℕ
product_widths net cycles = register_widths net ++ register_widths net ++ repeated cycles (port_widths net) ++ 1 ∷ []

-- the parts of a query's words
abbrev pub left_of : Net → List Bits → List Bits
left_of net words = take (length net.registers) words

abbrev pub right_of : Net → List Bits → List Bits
right_of net words = take (length net.registers) (drop (length net.registers) words)

-- the words in pieces of n
abbrev pub pieces : ℕ → ℕ → List Bits → List (List Bits)
pieces n zero words = []
pieces n (suc count) words = take n words ∷ pieces n count (drop n words)

abbrev pub cycles_in : Net → ℕ → List Bits → List (List Bits)
cycles_in net cycles words = pieces (length net.inputs) cycles (drop (length net.registers + length net.registers) words)

abbrev pub aligned_in : Net → ℕ → List Bits → Bool
aligned_in net cycles words = not ((bits_at words (length net.registers + length net.registers + cycles * length net.inputs)).value == 0)

-- the words meet the query of the graph's machine under these observers, b cycles ahead, for the list s
abbrev pub AreMeeting : Net → Observers GraphCycle → ℕ → List ℕ → Query → List Bits → Type 0
AreMeeting net o b s q words =
    let n = cycles_of q b in
    let t = stepper_of net in
    IsMetBy (graph_machine net o) b s q
    (unrolled t (left_of net words) (cycles_in net n words)) (unrolled t (right_of net words) (cycles_in net n words)) (aligned_in net n words)

-- the goal of a graph without registers is 1 exactly where its inputs meet the query
pub record IsGoalOf (net : Net) (o : Observers GraphCycle) (b : ℕ) (s : List ℕ) (q : Query) (product : Net) (goal : ℕ) : Type 0 where
  pub closed : product.registers ≡ []
  pub within : goal < length product.nodes
  pub one : width_at product.nodes goal ≡ 1
  pub widths : port_widths product ≡ product_widths net (cycles_of q b)
  pub meets : (words : List Bits) → FitsInputs product words → AreWords words → (bits_at (values_of product [] words) goal).value ≡ 1 → AreMeeting net o b s q words
  pub met : (words : List Bits) → FitsInputs product words → AreWords words → AreMeeting net o b s q words → (bits_at (values_of product [] words) goal).value ≡ 1

-- the bits of a query
abbrev pub query_bits : Net → ℕ → Query → ℕ
query_bits net b q = sum (product_widths net (cycles_of q b))

-- the free bits of a graph that is looked at b cycles ahead: those of the longest query
abbrev pub free_bits : Net → ℕ → ℕ
free_bits net b = 2 * sum (register_widths net) + (b + 2) * sum (port_widths net) + 1
