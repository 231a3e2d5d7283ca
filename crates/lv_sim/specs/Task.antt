-- What the type of a task keeps.
use Rattle.std.specs.Prelude.{ℕ, ◌<◌, List, length, All}
use Rattle.lv_bits.specs.Words.{Bits}
use Rattle.lv_netlist.specs.declared.graph.Inputs.{Inputs}
use Rattle.lv_netlist.specs.Net.{Net}
use Rattle.lv_netlist.specs.Fits.{FitsInputs, FitsState}

-- the shown numbers are nodes; one word per register, and per input in each cycle, of its width
pub record FitsTask (net : Net) (shown : List ℕ) (registers : List Bits) (cycles : List Inputs) : Type 0 where
  pub show : All (λ (k : ℕ). k < length net.nodes) shown
  pub state : FitsState net registers
  pub inputs : All (λ (i : Inputs). FitsInputs net i.words.items) cycles
