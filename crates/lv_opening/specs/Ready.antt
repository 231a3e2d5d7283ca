-- What is known of a scope before it is opened, and what afterwards.
use Rattle.std.specs.Prelude.{◌≡◌, ℕ, ◌++◌, List, map, length, flat_map, bytes_eq, ⊤, Result, IfOk, IfErr}
use Rattle.std.specs.List.{list_any}
use Rattle.lv_ast.specs.declared.item.Ports.{Ports}
use Rattle.lv_ast.specs.declared.item.Source.{Source}
use Rattle.lv_ast.specs.Names.{Name}
use Rattle.lv_source.specs.Declarations.{Declaration, declared_as}
use Rattle.lv_source.specs.Scopes.{is_output, here_at}
use Rattle.lv_source.specs.Parts.{scope_declared}
use Rattle.lv_const.specs.declared.consts.Entry.{Entry}
use Rattle.lv_const.specs.Constants.{names_of}
use Rattle.lv_const.specs.Wherever.{AreDeclared}
use Rattle.lv_flat.specs.Signals.{declared}
use Rattle.lv_scopes.specs.NameLists.{listed}
use Rattle.lv_scopes.specs.declared.table.NameTable.{NameTable}
use Rattle.lv_symbols.specs.declared.givens.Givens.{Givens}
use Rattle.lv_symbols.specs.declared.symbol.Symbol.{Symbol}
use Rattle.lv_symbols.specs.declared.symbol.SymbolError.{SymbolError}
use Rattle.lv_symbols.specs.declared.symbol.SymbolError.TheVariants as y
use Rattle.lv_symbols.specs.Making.{symbol_of}
use Rattle.lv_symbols.specs.Frames.{Frame, IsScope, IsFrame, AreOnce, AreSoundIn, IsToldIn, constants_in}
use Rattle.lv_bindings.specs.Bound.{IsBound, InBound}
use Rattle.lv_bindings.specs.declared.table.Table.{Table}
use Rattle.lv_bindings.specs.declared.order.Standing.{Standing}
use Rattle.lv_bindings.specs.Order.{Outside}
use Rattle.lv_bindings.specs.Standing.{IsTable}
use Rattle.lv_entries.specs.Entries.{value_entry}
use Rattle.lv_faults.specs.declared.fault.ScopeError.TheVariants as e
use Rattle.lv_faults.specs.Faults.{IsFaultIn, AreFaultlessDeclarations}
use Rattle.lv_repeats.specs.Whole.{IsWhole}
use Rattle.lv_opening.specs.declared.error.OpeningError.{OpeningError}
use Rattle.lv_opening.specs.declared.error.OpeningError.TheVariants as x
use Rattle.lv_opening.specs.declared.opened.Opened.{Opened}

-- a scope with these declarations and ports; where the name of each parameter is declared once, these are the constants before the first
-- declaration and those where the values that an instance gives are read, and this is what it has from around it
pub record IsReady (o : Outside) (base there : List Entry) (g : Givens) (ds : List Declaration) (ports : Ports) (f : Frame) : Type 0 where
  pub declarations : f.scope.declarations ≡ ds
  pub ports_are : f.scope.ports ≡ ports
  pub frame : AreOnce ds → IsFrame base there g ds f
  pub bound : AreOnce ds → (ys : List Symbol) → ys ≡ map (symbol_of (constants_in f)) ds → IsBound o ds ys f

-- in each such scope
pub record InReady (o : Outside) (base there : List Entry) (g : Givens) (ds : List Declaration) (ports : Ports) (Holds : Frame → Type 0) : Type 0 where
  pub at : (f : Frame) → IsReady o base there g ds ports f → Holds f

-- there is one
pub record HasFrame (o : Outside) (base there : List Entry) (g : Givens) (ds : List Declaration) (ports : Ports) : Type 0 where
  pub frame : Frame
  pub ready : IsReady o base there g ds ports frame

-- its names by table, its signals in order, its constants with those of its parameters, its outputs; nothing is told of its declarations
pub record IsOpened (base : List Entry) (first : ℕ) (f : Frame) (r : Opened) : Type 0 where
  pub scope : IsScope f
  pub signals : map (λ z. declared z.signal) r.signals.items ≡ scope_declared f.scope
  pub table : IsTable first (scope_declared f.scope) r.table f
  pub new : List Entry
  pub entries : r.entries.items ≡ base ++ flat_map (value_entry new) f.scope.declarations
  pub constants : AreDeclared (names_of new) (here_at f.scope (length f.scope.declarations))
  pub before : AreDeclared (names_of base) (here_at f.scope 0)
  pub outputs : (name : Name) → list_any (bytes_eq name) (listed r.outputs) ≡ list_any is_output (declared_as name f.scope.declarations)
  pub whole : IsWhole f.scope
  pub sound : AreSoundIn f f.scope.declarations
  pub faultless : AreFaultlessDeclarations f.scope

-- what is told of the scope, or of a declaration where it stands
abbrev pub IsNotOpened : Frame → OpeningError → Type 0
IsNotOpened f (x.Fault a) = (source : Source) → IsFaultIn source f.scope (e.Fault a)
IsNotOpened f (x.Own z) = IsToldIn f f.scope.declarations (y.Own z)
IsNotOpened f (x.Given z) = IsToldIn f f.scope.declarations (y.Given z)
IsNotOpened f x.NoMemory = ⊤

-- ---- for the proof

-- what is put together of a scope's names and constants
pub record IsKept (table : Table) (signals : List Standing) (base consts : List Entry) (outputs : NameTable) (ds : List Declaration) (r : Opened) : Type 0 where
  pub table_is : r.table ≡ table
  pub signals_are : r.signals.items ≡ signals
  pub outputs_are : r.outputs ≡ outputs
  pub entries : r.entries.items ≡ base ++ flat_map (value_entry consts) ds

-- the names of a scope with these declarations and symbols
pub record IsNamedScope (o : Outside) (base consts : List Entry) (ds : List Declaration) (ys : List Symbol) (first : ℕ) (r : Opened) : Type 0 where
  pub entries : r.entries.items ≡ base ++ flat_map (value_entry consts) ds
  pub outputs : (name : Name) → list_any (bytes_eq name) (listed r.outputs) ≡ list_any is_output (declared_as name ds)
  pub signals : InBound o ds ys (λ f. map (λ z. declared z.signal) r.signals.items ≡ scope_declared f.scope)
  pub table : InBound o ds ys (λ f. IsTable first (map (λ z. declared z.signal) r.signals.items) r.table f)

-- a scope whose symbols these are
pub record IsRead (o : Outside) (ds : List Declaration) (ys : List Symbol) (ports : Ports) (f : Frame) : Type 0 where
  pub declarations : f.scope.declarations ≡ ds
  pub ports_are : f.scope.ports ≡ ports
  pub here : ys ≡ map (symbol_of f.scope.names) ds
  pub bound : IsBound o ds ys f

-- its names, where they are sound as a whole
pub record IsReadScope (base consts : List Entry) (ds : List Declaration) (first : ℕ) (f : Frame) (r : Opened) : Type 0 where
  pub signals : map (λ z. declared z.signal) r.signals.items ≡ scope_declared f.scope
  pub table : IsTable first (scope_declared f.scope) r.table f
  pub entries : r.entries.items ≡ base ++ flat_map (value_entry consts) ds
  pub outputs : (name : Name) → list_any (bytes_eq name) (listed r.outputs) ≡ list_any is_output (declared_as name ds)
  pub whole : IsWhole f.scope

-- a name that is declared again, or a port without its direction
abbrev pub IsNoReadScope : Frame → OpeningError → Type 0
IsNoReadScope f (x.Fault a) = (source : Source) → IsFaultIn source f.scope (e.Fault a)
IsNoReadScope f (x.Own z) = ⊥
IsNoReadScope f (x.Given z) = ⊥
IsNoReadScope f x.NoMemory = ⊤

pub record ReadAnswer (o : Outside) (base consts : List Entry) (ds : List Declaration) (ys : List Symbol) (ports : Ports) (first : ℕ) (q : Result Opened OpeningError) : Type 0 where
  pub right : (f : Frame) → IsRead o ds ys ports f → IfOk q (IsReadScope base consts ds first f)
  pub wrong : (f : Frame) → IsRead o ds ys ports f → IfErr q (IsNoReadScope f)

abbrev pub spec_of_symbol : SymbolError → OpeningError
spec_of_symbol (y.Own z) = x.Own z
spec_of_symbol (y.Given z) = x.Given z
spec_of_symbol y.NoMemory = x.NoMemory
