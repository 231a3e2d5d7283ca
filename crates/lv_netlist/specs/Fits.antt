-- Words that fit a graph.
use Rattle.std.specs.Prelude.{◌≡◌, ℕ, ◌<◌, ◌^◌, List, length}
use Rattle.lv_bits.specs.Words.{Bits}
use Rattle.lv_netlist.specs.Net.{Net, input_width, register_width, width_at}
use Rattle.lv_netlist.specs.Run.{bits_at}

-- one word per input, of its width
pub record FitsInputs (net : Net) (inputs : List Bits) : Type 0 where
  pub count : length inputs ≡ length net.inputs
  pub widths : (i : ℕ) → i < length net.inputs → (bits_at inputs i).width ≡ input_width net i

-- one word per register, of its width
pub record FitsState (net : Net) (state : List Bits) : Type 0 where
  pub count : length state ≡ length net.registers
  pub widths : (i : ℕ) → i < length net.registers → (bits_at state i).width ≡ register_width net i

-- the first k words have the widths of the first k nodes
pub record FitsNodes (net : Net) (k : ℕ) (values : List Bits) : Type 0 where
  pub count : length values ≡ k
  pub widths : (j : ℕ) → j < k → (bits_at values j).width ≡ width_at net.nodes j

-- each value fits its width, as the type of a word keeps it
abbrev pub AreWords : List Bits → Type 0
AreWords words = (i : ℕ) → i < length words → (bits_at words i).value < 2 ^ (bits_at words i).width
