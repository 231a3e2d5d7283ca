-- Bounds of arrays that a machine's word holds.
use Rattle.std.specs.Prelude.{◌^◌, nat_lt, Bool, true, List, Option, Some, None}
use Rattle.std.specs.List.{list_all}
use Rattle.lv_source.specs.Names.{Bounds, high}
use Rattle.lv_flat.specs.declared.signal.Signal.{Signal}
use Rattle.lv_flat.specs.Signals.{declared}

abbrev pub is_small : Option Bounds → Bool
is_small None = true
is_small (Some b) = nat_lt (high b) (2 ^ 64)

abbrev pub has_small_array : Signal → Bool
has_small_array s = is_small (declared s).array

abbrev pub are_small : List Signal → Bool
are_small ss = list_all has_small_array ss
