-- What a declaration makes of its name, and what can be told of it.
use Rattle.std.specs.Prelude.{◌≡◌, ℕ, ◌+◌, Bool, if◌then◌else◌, List, [], ◌∷◌, ◌++◌, map, Option, None, Some, Contains, flat_map, ⊤}
use Rattle.std.specs.Option.{option_map}
use Rattle.lv_ast.specs.declared.expr.Expr.{Expr}
use Rattle.lv_ast.specs.declared.item.Range.{Range}
use Rattle.lv_source.specs.Names.{Bounds, Names, Here}
use Rattle.lv_source.specs.Declarations.{Direction, Wire, Reg, Parameter, Index, Instance, Label, Declaration}
use Rattle.lv_source.specs.Scopes.{is_parameter, is_ranged, range_bounds, array_bounds}
use Rattle.lv_source.specs.ScopeRules.{declaration_sites, range_fault}
use Rattle.lv_const.specs.declared.error.ConstError.{ConstError}
use Rattle.lv_const.specs.declared.error.ConstError.TheVariants as x
use Rattle.lv_const.specs.Faults.{all_faults}
use Rattle.lv_scopes.specs.Numbers.{AreClean}
use Rattle.lv_scopes.specs.Parameters.{value_sites}
use Rattle.lv_symbols.specs.declared.symbol.Symbol.{Symbol}
use Rattle.lv_symbols.specs.declared.symbol.Symbol.TheVariants as y
use Rattle.lv_symbols.specs.declared.symbol.SymbolError.{SymbolError}
use Rattle.lv_symbols.specs.declared.symbol.SymbolError.TheVariants as e

-- ---- symbols

abbrev pub ends : Bounds → ℕ × ℕ
ends b = (b.left, b.right)

abbrev pub signal_symbol : Names → Bool → Option Range → Option Range → Symbol
signal_symbol names signed range array = y.Signal (is_ranged range) signed (ends (range_bounds names range)) (option_map ends (array_bounds names array))

-- what a declaration makes of its name, where these are the constants
abbrev pub symbol_of : Names → Declaration → Symbol
symbol_of names d = elim d.thing [
  | Direction output word signed range ↦ signal_symbol names signed range None
  | Wire signed range ↦ signal_symbol names signed range None
  | Reg signed range array ↦ signal_symbol names signed range array
  | Parameter local signed range value ↦ y.Constant
  | Index genvar ↦ y.Index genvar
  | Instance ↦ y.Other
  | Label ↦ y.Other
]

-- ---- faults

-- what can be told of a declaration where it stands: a range that is not allowed, or a fault of a node of its ranges or of its own value
abbrev pub own_faults : Here → Declaration → List ConstError
own_faults here d = map x.Range (range_fault here.names d) ++ flat_map (all_faults here.early) (declaration_sites here.names d)

-- nothing can be told of it
pub record IsSoundHere (here : Here) (d : Declaration) : Type 0 where
  pub allowed : range_fault here.names d ≡ []
  pub clean : AreClean here.early (declaration_sites here.names d)

abbrev pub range_in : Declaration → Option Range
range_in d = elim d.thing [
  | Parameter local signed range value ↦ range
  | Direction output word signed range ↦ range
  | Wire signed range ↦ range
  | Reg signed range array ↦ range
  | Index genvar ↦ None
  | Instance ↦ None
  | Label ↦ None
]

-- the faults of the value that an instance gives it, which is read outside
abbrev pub given_faults : Here → Here → Option Expr → Declaration → List ConstError
given_faults here outside None d = []
given_faults here outside (Some value) d = flat_map (all_faults outside.early) (value_sites here outside (range_in d) value)

abbrev pub IsGivenClean : Here → Here → Option Range → Option Expr → Type 0
IsGivenClean here outside range None = ⊤
IsGivenClean here outside range (Some value) = AreClean outside.early (value_sites here outside range value)

-- what is told of it; of a value that an instance gives it, where nothing can be told of itself
abbrev pub IsToldOf : Here → Here → Option Expr → Declaration → SymbolError → Type 0
IsToldOf here outside given d (e.Own y) = Contains (own_faults here d) y
IsToldOf here outside given d (e.Given y) = Contains (given_faults here outside given d) y × IsSoundHere here d
IsToldOf here outside given d e.NoMemory = ⊤

-- how many of them are parameters
abbrev pub parameters_in : List Declaration → ℕ
parameters_in [] = 0
parameters_in (d ∷ ds) = (if is_parameter d then 1 else 0) + parameters_in ds
