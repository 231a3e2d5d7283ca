-- A graph as a machine: its state is the words of its registers, its input the words of its inputs.
use Rattle.std.specs.Prelude.{ℕ, List, map}
use Rattle.lv_bits.specs.Words.{Bits}
use Rattle.lv_model.specs.Machine.{Machine}
use Rattle.lv_model.specs.Design.{Observers, machine_of}
use Rattle.lv_model.specs.Stepper.{Cycle, Stepper, stepped, unrolled}
use Rattle.lv_netlist.specs.Net.{Net}
use Rattle.lv_netlist.specs.Run.{values_of, next_state, bits_at}
use Rattle.lv_netlist.specs.Fits.{FitsInputs, FitsState, AreWords}

-- the registers and the inputs of one cycle
abbrev pub GraphCycle : Type 0
GraphCycle = Cycle (List Bits) (List Bits)

abbrev pub stepper_of : Net → Stepper (List Bits) (List Bits)
stepper_of net = record {
  IsState = λ state. FitsState net state × AreWords state;
  IsInput = λ inputs. FitsInputs net inputs × AreWords inputs;
  next = λ state inputs. next_state net (values_of net state inputs);
}

-- the machine of a graph under the observers of its cycles
abbrev pub graph_machine : Net → Observers GraphCycle → Machine GraphCycle
graph_machine net observers = machine_of (stepped (stepper_of net)) observers

-- the value of node k in a cycle
abbrev pub node_value : Net → ℕ → GraphCycle → ℕ
node_value net k cycle = (bits_at (values_of net cycle.state cycle.input) k).value

-- the values of all nodes in each cycle of the run from a state, under these inputs
abbrev pub run_of : Net → List Bits → List (List Bits) → List (List Bits)
run_of net state inputs = map (λ cycle. values_of net cycle.state cycle.input) (unrolled (stepper_of net) state inputs)
