-- The number of a known value.
use Rattle.std.specs.Prelude.{ℕ}
use Rattle.lv_values.specs.declared.value.Value.{Value}
use Rattle.lv_values.specs.declared.value.Value.TheVariants.{Known, Node}

abbrev pub known_of : Value → ℕ
known_of (Known x) = x.value
known_of (Node k width) = 0
