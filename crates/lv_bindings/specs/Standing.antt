-- What a table says of a name, in a scope.
use Rattle.std.specs.Prelude.{◌≡◌, ℕ, ◌+◌, Bool, true, List, [], Option, Some, None, slice_get}
use Rattle.std.specs.List.{list_any}
use Rattle.lv_ast.specs.Names.{Name, alone}
use Rattle.lv_source.specs.Names.{Declared}
use Rattle.lv_source.specs.Names.{Index as IndexSort, Other as OtherSort}
use Rattle.lv_source.specs.Declarations.{declared_as}
use Rattle.lv_source.specs.Scopes.{is_parameter, other}
use Rattle.lv_source.specs.Parts.{is_declared_sort}
use Rattle.lv_symbols.specs.Frames.{Frame}
use Rattle.lv_bindings.specs.declared.table.Binding.{Binding}
use Rattle.lv_bindings.specs.declared.table.Binding.TheVariants as b
use Rattle.lv_bindings.specs.declared.table.Table.{Table}
use Rattle.lv_bindings.specs.Tables.{bound_in}

-- a number of these signals, of which the first has this number
pub record IsSignal (first : ℕ) (signals : List Declared) (k : ℕ) (d : Declared) : Type 0 where
  pub at : ℕ
  pub number : k ≡ first + at
  pub is : slice_get signals at ≡ Some d
  pub sort : is_declared_sort d.sort ≡ true

-- what a name is bound to: a signal that it stands for, or a parameter that is declared; of a name without a binding there is no declaration
abbrev pub Says : ℕ → List Declared → Frame → Name → Option Binding → Type 0
Says first signals f name None = declared_as name f.scope.declarations ≡ []
Says first signals f name (Some (b.Signal k)) = (d : Declared) × (f.scope.names (alone name) ≡ Some d) × IsSignal first signals k d
Says first signals f name (Some b.Constant) = list_any is_parameter (declared_as name f.scope.declarations) ≡ true
Says first signals f name (Some (b.Index genvar)) = f.scope.names (alone name) ≡ Some (other (IndexSort genvar))
Says first signals f name (Some b.Other) = f.scope.names (alone name) ≡ Some (other OtherSort)

-- of each name
pub record IsTable (first : ℕ) (signals : List Declared) (t : Table) (f : Frame) : Type 0 where
  pub says : (name : Name) → Says first signals f name (bound_in t name)
