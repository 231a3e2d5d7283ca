-- A signal of the list as a declaration.
use Rattle.std.specs.Prelude.{ℕ, List, map, Option, Some, None, slice_index_or}
use Rattle.lv_source.specs.Names.{Bounds, Declared, no_declaration}
use Rattle.lv_source.specs.Names as names
use Rattle.lv_flat.specs.declared.signal.Signal.{Signal}
use Rattle.lv_flat.specs.declared.sort.Sort.{Sort}
use Rattle.lv_flat.specs.declared.sort.Sort.TheVariants.{Input, Net, Variable, Clock}

abbrev pub sort_of : Sort → names.Sort
sort_of Input = names.Input
sort_of Net = names.Net
sort_of Variable = names.Variable
sort_of Clock = names.Clock

abbrev pub bounds_of : Option (ℕ × ℕ) → Option Bounds
bounds_of None = None
bounds_of (Some b) = Some (record { left = b.0; right = b.1 })

abbrev pub declared : Signal → Declared
declared s = record {
  path = s.path;
  bounds = record { left = s.left; right = s.right };
  ranged = s.ranged;
  signed = s.signed;
  array = bounds_of s.array;
  sort = sort_of s.sort;
}

-- the signals and clocks by number
abbrev pub Signals : Type 0
Signals = List Declared

abbrev pub declared_all : List Signal → Signals
declared_all ss = map declared ss

abbrev pub signal_at : Signals → ℕ → Declared
signal_at S k = slice_index_or S k no_declaration
