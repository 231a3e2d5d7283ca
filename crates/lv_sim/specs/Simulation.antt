-- A simulator as contracts see it.
use Rattle.std.specs.Prelude.{List}
use Rattle.lv_bits.specs.Words.{Bits}

-- the values of the registers, and those of the nodes at the last settle
pub record Simulation : Type 0 where
  pub state : List Bits
  pub values : List Bits
