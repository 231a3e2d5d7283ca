-- What a name stands for.
use Rattle.std.specs.Prelude.{ℕ, ◌+◌, ◌-◌, min, max, Bool, true, false, ◌&&◌, if◌then◌else◌, [], bytes_eq, Option, Some, None}
use Rattle.lv_ast.specs.declared.expr.Path.{Path}
use Rattle.lv_ast.specs.Names.{Name, has_no_steps}

-- the bounds of a vector or of an array
pub record Bounds : Type 0 where
  pub left : ℕ
  pub right : ℕ

abbrev pub low : Bounds → ℕ
low b = min b.left b.right

abbrev pub high : Bounds → ℕ
high b = max b.left b.right

-- how many numbers lie between them
abbrev pub size : Bounds → ℕ
size b = high b - low b + 1

pub data Sort : Type 0 where
  Input : Sort
  Net : Sort
  Variable : Sort
  Clock : Sort
  -- a parameter, or the index of a loop that stands around
  Constant : (value : ℕ) → Sort
  -- a genvar, or an integer, outside of its loop
  Index : (genvar : Bool) → Sort
  -- an instance or a label
  Other : Sort

pub record Declared : Type 0 where
  -- the whole path from the top
  pub path : Name
  -- those of its bits
  pub bounds : Bounds
  pub ranged : Bool
  pub signed : Bool
  pub array : Option Bounds
  pub sort : Sort

-- what each name stands for
abbrev pub Names : Type 0
Names = Path → Option Declared

-- the names at a place, and which constants are declared before it
pub record Here : Type 0 where
  pub names : Names
  pub early : Path → Bool

-- a value for each path
abbrev pub Valuation : Type 0
Valuation = Name → ℕ

abbrev pub no_declaration : Declared
no_declaration = record { path = []; bounds = record { left = 0; right = 0 }; ranged = false; signed = false; array = None; sort = Other }

abbrev pub width_of : Declared → ℕ
width_of d = size d.bounds

abbrev pub known : Option Declared → Declared
known None = no_declaration
known (Some d) = d

abbrev pub is_signal_sort : Sort → Bool
is_signal_sort Input = true
is_signal_sort Net = true
is_signal_sort Variable = true
is_signal_sort _ = false

abbrev pub is_constant_sort : Sort → Bool
is_constant_sort (Constant x) = true
is_constant_sort _ = false

abbrev pub is_clock_sort : Sort → Bool
is_clock_sort Clock = true
is_clock_sort _ = false

abbrev pub is_variable_sort : Sort → Bool
is_variable_sort Variable = true
is_variable_sort _ = false

abbrev pub is_input_sort : Sort → Bool
is_input_sort Input = true
is_input_sort _ = false

-- one more name
abbrev pub with_name : Names → Name → Option Declared → Names
with_name names name d p = if has_no_steps p && bytes_eq p.name name then d else names p

-- one more constant that is declared before
abbrev pub with_early : (Path → Bool) → Name → Path → Bool
with_early early name p = if has_no_steps p && bytes_eq p.name name then true else early p
