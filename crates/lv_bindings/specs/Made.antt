-- What the declarations of a name make of it.
use Rattle.std.specs.Prelude.{◌≡◌, ℕ, ◌≤◌, Bool, false, ◌&&◌, if◌then◌else◌, ◌==◌, List, Option, Some, None, bytes_eq, ⊤, slice_get}
use Rattle.std.specs.List.{list_any}
use Rattle.lv_ast.specs.Names.{Name, below, spelled}
use Rattle.lv_source.specs.Names.{Bounds, Declared, Sort, Input, Net, Variable, Clock, size}
use Rattle.lv_source.specs.Scopes.{is_among}
use Rattle.lv_scopes.specs.Ranges.{pair_of}
use Rattle.lv_flat.specs.Signals.{bounds_of}
use Rattle.lv_symbols.specs.declared.symbol.Symbol.{Symbol}
use Rattle.lv_symbols.specs.declared.symbol.Symbol.TheVariants as y
use Rattle.lv_bindings.specs.declared.group.Group.{Group}

-- a vector has 128 bits at most
abbrev pub IsNarrow : Symbol → Type 0
IsNarrow (y.Signal ranged signed bounds array) = size (pair_of bounds) ≤ 128
IsNarrow y.Constant = ⊤
IsNarrow (y.Index genvar) = ⊤
IsNarrow y.Other = ⊤

pub record AreNarrow (ys : List Symbol) : Type 0 where
  pub each : (k : ℕ) (y : Symbol) → slice_get ys k ≡ Some y → IsNarrow y

abbrev pub sort_by : Bool → Bool → Group → Sort
sort_by top clock g = if clock then Clock else if g.variable then Variable else if top && g.input then Input else Net

-- an input of one bit to which a clock is connected
abbrev pub is_clock_by : List Name → Name → Group → ℕ × ℕ → Bool
is_clock_by connected name g bounds = g.input && (bounds.0 == bounds.1) && is_among connected name

-- the signal or clock that a symbol makes
abbrev pub made : Name → Sort → Symbol → Option Declared
made path sort (y.Signal ranged signed bounds array) =
    Some (record { path = path; bounds = pair_of bounds; ranged = ranged; signed = signed; array = bounds_of array; sort = sort })
made path sort y.Constant = None
made path sort (y.Index genvar) = None
made path sort y.Other = None

-- by the bounds that a symbol has
abbrev pub is_clock_of : List Name → Name → Group → Symbol → Bool
is_clock_of connected name g (y.Signal ranged signed bounds array) = is_clock_by connected name g bounds
is_clock_of connected name g y.Constant = false
is_clock_of connected name g (y.Index genvar) = false
is_clock_of connected name g y.Other = false

-- the signal or clock that a name is, by its declarations and the symbol of the first of them
abbrev pub made_by : Name → Bool → List Name → Name → Group → Symbol → Option Declared
made_by path top connected name g y = made (below path (spelled name)) (sort_by top (is_clock_of connected name g y) g) y
