-- How many bits registers have.
use Rattle.std.specs.Prelude.{ℕ, ◌+◌, ◌*◌, Bool, List, [], ◌∷◌, length, if◌then◌else◌}
use Rattle.lv_source.specs.Names.{Declared, width_of}
use Rattle.lv_source.specs.Views.{register_view_bits}
use Rattle.lv_flat.specs.declared.flat.Flat.{Flat}
use Rattle.lv_flat.specs.Signals.{Signals}
use Rattle.lv_lower_blocks.specs.Aimed.{cell_count}
use Rattle.lv_settles.specs.Rules.{signals_in}
use Rattle.lv_lower.specs.Slots.{names_of, views_of}

-- in all its cells
abbrev pub signal_bits : Declared → ℕ
signal_bits d = cell_count d.array * width_of d

abbrev pub bits_if : Bool → Declared → ℕ
bits_if register d = if register then signal_bits d else 0

-- of the signals that are registers
abbrev pub bits_of : List Bool → Signals → ℕ
bits_of [] S = 0
bits_of (f ∷ fs) [] = 0
bits_of (f ∷ fs) (d ∷ S) = bits_if f d + bits_of fs S

abbrev pub state_bits : Flat → ℕ
state_bits f = length (register_view_bits (signals_in (names_of f)) (views_of f))
