-- The scopes that the declarations of a text belong to, with the constants before each declaration.
use Rattle.std.specs.Prelude.{◌≡◌, ℕ, ◌+◌, ◌≤◌, ◌<◌, Bool, true, false, List, [], ◌++◌, map, length, take, Option, None, Some, slice_get}
use Rattle.std.specs.List.{list_any}
use Rattle.std.specs.Option.{option_map}
use Rattle.lv_ast.specs.declared.expr.Expr.{Expr}
use Rattle.lv_ast.specs.declared.expr.Path.{Path}
use Rattle.lv_ast.specs.declared.stmt.Ident.{Ident}
use Rattle.lv_ast.specs.declared.item.Item.{Item}
use Rattle.lv_ast.specs.declared.item.Module.{Module}
use Rattle.lv_ast.specs.Names.{Name, has_no_steps}
use Rattle.lv_source.specs.Names.{Names, Here}
use Rattle.lv_source.specs.Declarations.{Direction, Wire, Reg, Parameter, Index, Instance, Label, Declaration, declared_as}
use Rattle.lv_source.specs.Scopes.{Scope, Override, is_parameter, with_parameters, scope_names, override_of, no_names, module_scope, turn_scope, early_at, here_at}
use Rattle.lv_source.specs.Effect.{with_index}
use Rattle.lv_source.specs.Constants.{early_or_none}
use Rattle.lv_const.specs.declared.consts.Entry.{Entry}
use Rattle.lv_const.specs.Constants.{names_of}
use Rattle.lv_const.specs.Wherever.{AreDeclared}
use Rattle.lv_symbols.specs.declared.givens.Givens.{Givens}
use Rattle.lv_symbols.specs.declared.symbol.Symbol.{Symbol}
use Rattle.lv_symbols.specs.declared.symbol.SymbolError.{SymbolError}
use Rattle.lv_symbols.specs.Giving.{AreOverrides}
use Rattle.lv_symbols.specs.Making.{range_in, symbol_of, IsSoundHere, IsGivenClean, IsToldOf, parameters_in}

-- a scope, the constants that its names have from around it, the values that an instance gives its parameters, and where these are read
pub record Frame : Type 0 where
  pub scope : Scope
  pub base : Names
  pub overrides : List Override
  pub outside : Here

-- the constants of the scope where these declarations stand before, and all of them
abbrev pub constants_behind : Frame → List Declaration → Names
constants_behind f ds = with_parameters f.overrides f.base ds

abbrev pub constants_in : Frame → Names
constants_in f = constants_behind f f.scope.declarations

-- the name of a parameter is declared once
abbrev pub AreOnce : List Declaration → Type 0
AreOnce ds = (name : Name) → list_any is_parameter (declared_as name ds) ≡ true → length (declared_as name ds) ≡ 1

-- the names of the scope are those that its declarations make, and the name of a parameter is declared once
pub record IsScope (f : Frame) : Type 0 where
  pub top : Bool
  pub clocks : List Name
  pub names : f.scope.names ≡ scope_names (constants_in f) f.scope.path top clocks f.scope.declarations
  pub around : (p : Path) → has_no_steps p ≡ false → f.base p ≡ None
  pub once : AreOnce f.scope.declarations

-- the scope of a module, around which there are no constants
abbrev pub module_frame : Name → Bool → List Name → List Override → (Names → List Name) → Module → Here → Frame
module_frame path top around os clocks m outside =
    record { scope = module_scope path top around os clocks m; base = no_names; overrides = os; outside = outside }

-- that of a turn of a loop, around which there are those of the scope of the loop, and the index
abbrev pub turn_frame : Frame → ℕ → Ident → Ident → List Item → ℕ → Frame
turn_frame f k index label items value = record {
  scope = turn_scope f.scope k index label items value;
  base = with_index f.scope.names index.name value;
  overrides = [];
  outside = f.outside;
}

-- the scope has these declarations, these constants are declared before them and those where the values are read, and these are the values
pub record IsFrame (old there : List Entry) (g : Givens) (ds : List Declaration) (f : Frame) : Type 0 where
  pub declarations : f.scope.declarations ≡ ds
  pub scope : IsScope f
  pub before : AreDeclared (names_of old) (here_at f.scope 0)
  pub outside : AreDeclared (names_of there) f.outside
  pub givens : AreOverrides f.outside.names g f.overrides

-- in each such scope
pub record InEach (old there : List Entry) (g : Givens) (ds : List Declaration) (Holds : Frame → Type 0) : Type 0 where
  pub at : (f : Frame) → IsFrame old there g ds f → Holds f

-- the value that an instance gives it
abbrev pub given_value : List Override → Declaration → Option Expr
given_value os d = elim d.thing [
  | Parameter local signed range value ↦ option_map (λ o. o.value) (override_of local os d.name.name)
  | Direction output word signed range ↦ None
  | Wire signed range ↦ None
  | Reg signed range array ↦ None
  | Index genvar ↦ None
  | Instance ↦ None
  | Label ↦ None
]

-- each declaration has no fault where it stands, nor has a value that an instance gives it
pub record IsSoundIn (f : Frame) (k : ℕ) (d : Declaration) : Type 0 where
  pub own : IsSoundHere (here_at f.scope k) d
  pub given : IsGivenClean (here_at f.scope k) f.outside (range_in d) (given_value f.overrides d)

pub record AreSoundIn (f : Frame) (ds : List Declaration) : Type 0 where
  pub each : (k : ℕ) (d : Declaration) → slice_get ds k ≡ Some d → IsSoundIn f k d

-- of one of them that is told where it stands
pub record IsToldIn (f : Frame) (ds : List Declaration) (y : SymbolError) : Type 0 where
  pub at : ℕ
  pub declaration : Declaration
  pub is : slice_get ds at ≡ Some declaration
  pub told : IsToldOf (here_at f.scope at) f.outside (given_value f.overrides declaration) declaration y

-- where so many declarations stand before, the constants are the first ones: those before the scope, with one for each parameter
pub record ArePrefixes (old new : List Entry) (f : Frame) (ds : List Declaration) : Type 0 where
  pub each : (k : ℕ) → k ≤ length ds → AreDeclared (names_of (take (length old + parameters_in (take k ds)) new)) (here_at f.scope k)

-- ---- for the proof: where so many have been made

pub record IsPrefix (now : List Entry) (n : ℕ) (here : Here) : Type 0 where
  pub first : List Entry
  pub rest : List Entry
  pub whole : now ≡ first ++ rest
  pub count : length first ≡ n
  pub declared : AreDeclared (names_of first) here

pub record IsSoFar (old now : List Entry) (f : Frame) (ds : List Declaration) (k : ℕ) (ys : List Symbol) : Type 0 where
  pub names : (p : Path) → names_of now p ≡ early_or_none (early_at f.scope k p) (constants_behind f (take k ds) p)
  pub symbols : ys ≡ map (symbol_of (constants_in f)) (take k ds)
  pub here : ys ≡ map (symbol_of f.scope.names) (take k ds)
  pub sound : (j : ℕ) (d : Declaration) → j < k → slice_get ds j ≡ Some d → IsSoundIn f j d
  pub prefixes : (j : ℕ) → j ≤ k → IsPrefix now (length old + parameters_in (take j ds)) (here_at f.scope j)

pub record AreSoFar (old there : List Entry) (g : Givens) (ds : List Declaration) (k : ℕ) (now : List Entry) (ys : List Symbol) : Type 0 where
  pub longer : (es : List Entry) × (now ≡ old ++ es) × (length es ≡ parameters_in (take k ds))
  pub each : InEach old there g ds (λ f. IsSoFar old now f ds k ys)
