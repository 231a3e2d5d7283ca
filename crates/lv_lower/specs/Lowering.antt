-- What a design is lowered to.
use Rattle.std.specs.Prelude.{◌≡◌, ◌<◌, ◌≤◌, Result, Ok, Err}
use Rattle.lv_flat.specs.declared.flat.Flat.{Flat}
use Rattle.lv_lower.specs.declared.design.LowerError.{LowerError}
use Rattle.lv_lower.specs.declared.design.LowerError.TheVariants.{Limit, NoMemory}
use Rattle.lv_lower.specs.declared.lowered.Lowered.{Lowered}
use Rattle.lv_lower.specs.Bits.{state_bits}
use Rattle.lv_lower.specs.Lowered.{IsLowered}
use Rattle.lv_lower.specs.Slots.{names_of, views_of}

abbrev pub IsGraphOf : Flat → Lowered → Type 0
IsGraphOf f l = IsLowered (names_of f) (views_of f) l.graph l.table.items l.first.items

-- the graph, or the number of bits of the registers, exactly where it is above 65,536; or want of memory, which says nothing
abbrev pub IsLowering : Flat → Result Lowered LowerError → Type 0
IsLowering f (Ok l) = IsGraphOf f l × (state_bits f ≤ 65536)
IsLowering f (Err (Limit n)) = (n ≡ state_bits f) × (65536 < n)
IsLowering f (Err NoMemory) = Unit {0}
