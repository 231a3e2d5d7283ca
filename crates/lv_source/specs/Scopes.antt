-- The scopes of a top module: itself, its instances and the turns of its generate loops (IEEE 1364-2005, sections 12.1 to 12.4).
use Rattle.std.specs.Prelude.{ℕ, zero, suc, ◌+◌, ◌-◌, Bool, true, false, not, ◌&&◌, ◌||◌, if◌then◌else◌, ◌==◌, List, [], ◌∷◌, map, length, bytes_eq, Option, Some, None, flat_map, filter, find, take, ℤ, pos, negsuc}
use Rattle.std.specs.List.{list_any}
use Rattle.lv_bits.specs.Values.{signed_of}
use Rattle.lv_ast.specs.declared.expr.Path.{Path}
use Rattle.lv_ast.specs.declared.expr.Expr.{Expr}
use Rattle.lv_ast.specs.declared.expr.Expr.TheVariants as e
use Rattle.lv_ast.specs.declared.expr.Expr.{Row_of-Select, end_of-Select, more_of-Select}
use Rattle.lv_ast.specs.declared.stmt.Ident.{Ident}
use Rattle.lv_ast.specs.declared.item.Item.{Item}
use Rattle.lv_ast.specs.declared.item.Item.TheVariants as i
use Rattle.lv_ast.specs.declared.item.Params.{Params}
use Rattle.lv_ast.specs.declared.item.Range.{Range}
use Rattle.lv_ast.specs.declared.item.Conn.{Conn}
use Rattle.lv_ast.specs.declared.item.Inst.{Inst}
use Rattle.lv_ast.specs.declared.item.PortWord.TheVariants as w
use Rattle.lv_ast.specs.declared.item.Module.{Module}
use Rattle.lv_ast.specs.declared.item.Source.{Source}
use Rattle.lv_ast.specs.declared.item.Ports.{Ports}
use Rattle.lv_ast.specs.declared.item.Ports.TheVariants as p
use Rattle.lv_source.specs.Values.{Meaning, number_of, nowhere}
use Rattle.lv_ast.specs.Trees.{spread_all}
use Rattle.lv_ast.specs.Names.{Name, spelled, signed_decimal, at_index, below, has_no_steps, alone}
use Rattle.lv_source.specs.Names.{Bounds, Sort, Input, Net, Variable, Clock, Constant, Other, Declared, Names, Here, no_declaration, known, size, width_of, with_name, with_early, is_clock_sort}
use Rattle.lv_source.specs.Names.{Index as Index_sort}
use Rattle.lv_source.specs.Meaning.{meaning}
use Rattle.lv_source.specs.Effect.{assigned, turns, with_index}
use Rattle.lv_source.specs.Declarations.{Direction, Wire, Reg, Parameter, Index, Instance, Label, Declaration, of_item, of_items, of_module, module_items, port_names, declared_as}

pub record Scope : Type 0 where
  -- from the top, which has none
  pub path : Name
  pub declarations : List Declaration
  pub items : List Item
  pub names : Names
  -- which constants around it are declared before it
  pub early : Path → Bool
  -- the modules that stand around, its own among them
  pub around : List Name
  -- of a module; none in a turn of a loop
  pub ports : Ports
  pub params : List Params
  -- how many of the declarations stand before the items
  pub header : ℕ

-- ---- ranges

-- the number that a bound stands for
abbrev pub bound_number : Names → Expr → ℤ
bound_number names x = number_of (meaning names x) nowhere

abbrev pub bound : ℤ → ℕ
bound (pos n) = n
bound (negsuc n) = 0

abbrev pub bounds_of : Names → Range → Bounds
bounds_of names r = record { left = bound (bound_number names r.left); right = bound (bound_number names r.right) }

abbrev pub range_bounds : Names → Option Range → Bounds
range_bounds names None = record { left = 0; right = 0 }
range_bounds names (Some r) = bounds_of names r

abbrev pub array_bounds : Names → Option Range → Option Bounds
array_bounds names None = None
array_bounds names (Some r) = Some (bounds_of names r)

abbrev pub is_ranged : Option Range → Bool
is_ranged None = false
is_ranged (Some r) = true

-- ---- parameters

abbrev pub constant : Name → Bounds → Bool → ℕ → Declared
constant name bounds signed value =
    record { path = name; bounds = bounds; ranged = true; signed = signed; array = None; sort = Constant value }

-- the constant that a parameter becomes with a value that is read among `there`
abbrev pub parameter : Names → Ident → Bool → Option Range → Names → Expr → Declared
parameter here name signed None there value =
    let m : Meaning = meaning there value in
    constant name.name (record { left = m.width - 1; right = 0 }) (signed || m.signed) (m.value m.width m.signed nowhere)
parameter here name signed (Some r) there value =
    let b : Bounds = bounds_of here r in
    constant name.name b signed (assigned nowhere (size b) (meaning there value))

-- a value from an instance, with the names among which it is read
pub record Override : Type 0 where
  pub name : Name
  pub there : Names
  pub value : Expr

abbrev pub overridden : Names → Ident → Bool → Option Range → Expr → Option Override → Declared
overridden here name signed range value None = parameter here name signed range here value
overridden here name signed range value (Some o) = parameter here name signed range o.there o.value

abbrev pub override_of : Bool → List Override → Name → Option Override
override_of local os name = if local then None else find (λ o. bytes_eq o.name name) os

-- the parameters, each reading those before it
abbrev pub with_parameters : List Override → Names → List Declaration → Names
with_parameters os names [] = names
with_parameters os names (d ∷ ds) =
    with_parameters os (elim d.thing [
      | Parameter local signed range value ↦ with_name names d.name.name (Some (overridden names d.name signed range value (override_of local os d.name.name)))
      | Direction o w s r ↦ names
      | Wire s r ↦ names
      | Reg s r b ↦ names
      | Index g ↦ names
      | Instance ↦ names
      | Label ↦ names
    ]) ds

-- ---- signals

abbrev pub is_direction : Declaration → Bool
is_direction d = elim d.thing [ Direction o w s r ↦ true | Wire s r ↦ false | Reg s r b ↦ false | Parameter l s r v ↦ false | Index g ↦ false | Instance ↦ false | Label ↦ false ]

abbrev pub is_input : Declaration → Bool
is_input d = elim d.thing [ Direction o w s r ↦ not o | Wire s r ↦ false | Reg s r b ↦ false | Parameter l s r v ↦ false | Index g ↦ false | Instance ↦ false | Label ↦ false ]

abbrev pub is_output : Declaration → Bool
is_output d = elim d.thing [ Direction o w s r ↦ o | Wire s r ↦ false | Reg s r b ↦ false | Parameter l s r v ↦ false | Index g ↦ false | Instance ↦ false | Label ↦ false ]

abbrev pub is_reg : Declaration → Bool
is_reg d = elim d.thing [ Direction o word s r ↦ elim word [ w.Absent ↦ false | w.Wire ↦ false | w.Reg ↦ true ] | Wire s r ↦ false | Reg s r b ↦ true | Parameter l s r v ↦ false | Index g ↦ false | Instance ↦ false | Label ↦ false ]

abbrev pub sort_of : Bool → Bool → List Declaration → Sort
sort_of top clock ds =
    if clock then Clock else if list_any is_reg ds then Variable else if top && list_any is_input ds then Input else Net

abbrev pub signal : Names → Name → Name → Sort → Bool → Option Range → Option Range → Declared
signal names path name sort signed range array =
    let b : Bounds = range_bounds names range in
    record { path = below path (spelled name); bounds = b; ranged = is_ranged range; signed = signed; array = array_bounds names array; sort = sort }

abbrev pub other : Sort → Declared
other sort = record no_declaration { sort = sort }

-- what the declarations of one name make of it, by the first of them
abbrev pub stands_for : Names → Name → Bool → Bool → Path → List Declaration → Option Declared
stands_for names path top clock p [] = names p
stands_for names path top clock p (d ∷ ds) =
    let sort : Sort = sort_of top clock (d ∷ ds) in
    elim d.thing [
      | Direction o w signed range ↦ Some (signal names path d.name.name sort signed range None)
      | Wire signed range ↦ Some (signal names path d.name.name sort signed range None)
      | Reg signed range array ↦ Some (signal names path d.name.name sort signed range array)
      | Parameter l s r v ↦ names p
      | Index g ↦ Some (other (Index_sort g))
      | Instance ↦ Some (other Other)
      | Label ↦ Some (other Other)
    ]

abbrev pub is_among : List Name → Name → Bool
is_among names name = list_any (bytes_eq name) names

-- the names of a scope: its own before those around it
abbrev pub scope_names : Names → Name → Bool → List Name → List Declaration → Names
scope_names constants path top clocks ds p =
    if has_no_steps p then stands_for constants path top (is_among clocks p.name) p (declared_as p.name ds) else None

-- ---- clocks

-- the one-bit inputs of these names
abbrev pub is_one_bit_input : Names → List Declaration → Name → Bool
is_one_bit_input constants ds name =
    list_any is_input (declared_as name ds) && (width_of (known (scope_names constants [] true [] ds (alone name))) == 1)

abbrev pub is_no_select : {n : _} → Row_of-Select n → Bool
is_no_select end_of-Select = true
is_no_select (more_of-Select x xs) = false

-- an expression that is a clock name alone
abbrev pub is_clock : Names → Expr → Bool
is_clock names (e.Name' path n ss) = is_no_select ss && is_clock_sort (known (names path)).sort
is_clock names _ = false

-- ---- connections

-- a connection with the name of its port
pub record Link : Type 0 where
  pub port : Name
  pub conn : Conn

abbrev pub links : List Ident → List Conn → List Link
links ports [] = []
links ports (c ∷ cs) = elim c.name [
  | Some name ↦ record { port = name.name; conn = c } ∷ links ports cs
  | None ↦ elim ports [ [] ↦ [] | ◌∷◌ q qs ↦ record { port = q.name; conn = c } ∷ links qs cs ]
]

-- what of a declaration an instance can set
abbrev pub settable : Declaration → List Ident
settable d = elim d.thing [ Parameter local s r v ↦ if local then [] else d.name ∷ [] | Direction o w s r ↦ [] | Wire s r ↦ [] | Reg s r b ↦ [] | Index g ↦ [] | Instance ↦ [] | Label ↦ [] ]

abbrev pub override_by : Names → Link → List Override
override_by there l = elim l.conn.value [ None ↦ [] | Some x ↦ record { name = l.port; there = there; value = x } ∷ [] ]

abbrev pub clock_by : Names → Link → List Name
clock_by there l = elim l.conn.value [ None ↦ [] | Some x ↦ if is_clock there x then l.port ∷ [] else [] ]

-- ---- scopes

abbrev pub no_names : Names
no_names p = None

abbrev pub module_scope : Name → Bool → List Name → List Override → (Names → List Name) → Module → Scope
module_scope path top around os clocks m =
    let ds : List Declaration = of_module m in
    let constants : Names = with_parameters os no_names ds in
    record {
      path = path;
      declarations = ds;
      items = module_items m;
      names = scope_names constants path top (filter (is_one_bit_input constants ds) (clocks constants)) ds;
      early = λ p. false;
      around = m.name.name ∷ around;
      ports = m.ports;
      params = m.params;
      header = length ds - length (of_items (module_items m));
    }

abbrev pub module_named : Source → Name → Option Module
module_named source name = find (λ m. bytes_eq m.name.name name) source.modules

-- the parameters that an instance can set, in order
abbrev pub settable_in : Module → List Ident
settable_in m = flat_map settable (of_module m)

abbrev pub overrides : Names → List Conn → Module → List Override
overrides there settings m = flat_map (override_by there) (links (settable_in m) settings)

-- the width of a parameter of an instance with these settings; without a range that of the value
abbrev pub setting_width : Names → List Conn → Module → Name → ℕ
setting_width there settings m name = width_of (known (with_parameters (overrides there settings m) no_names (of_module m) (alone name)))

abbrev pub instance_scope : Scope → List Conn → Inst → Module → Scope
instance_scope s settings inst m =
    module_scope (below s.path (spelled inst.name.name)) false s.around (overrides s.names settings m)
    (λ constants. flat_map (clock_by s.names) (links (port_names m.ports) inst.conns)) m

-- an instance whose module stands around it already has no scope
abbrev pub instance_scopes : Scope → List Conn → Inst → Option Module → List Scope
instance_scopes s settings inst None = []
instance_scopes s settings inst (Some m) = if is_among s.around m.name.name then [] else instance_scope s settings inst m ∷ []

abbrev pub is_parameter : Declaration → Bool
is_parameter d = elim d.thing [ Direction o w s r ↦ false | Wire s r ↦ false | Reg s r b ↦ false | Parameter l s r v ↦ true | Index g ↦ false | Instance ↦ false | Label ↦ false ]

-- by the declarations of a name in a scope, and those that stand before
abbrev pub early_by : List Declaration → List Declaration → Bool → Bool
early_by [] before around = around
early_by (d ∷ ds) before around = list_any is_parameter before

-- which constants are declared where so many declarations stand before
abbrev pub early_at : Scope → ℕ → Path → Bool
early_at s k p = early_by (declared_as p.name s.declarations) (declared_as p.name (take k s.declarations)) (s.early p)

abbrev pub here_at : Scope → ℕ → Here
here_at s k = record { names = s.names; early = early_at s k }

-- a turn of a loop, where so many declarations stand before the loop
abbrev pub turn_scope : Scope → ℕ → Ident → Ident → List Item → ℕ → Scope
turn_scope s k index label items value =
    let path : Name = below s.path (at_index (spelled label.name) (signed_decimal (signed_of 32 value))) in
    let ds : List Declaration = of_items items in
    let constants : Names = with_parameters [] (with_index s.names index.name value) ds in
    record {
      path = path;
      declarations = ds;
      items = items;
      names = scope_names constants path false [] ds;
      early = with_early (early_at s k) index.name;
      around = s.around;
      ports = p.Empty;
      params = [];
      header = 0;
    }

-- each item with the count of the declarations before it
abbrev pub counted_from : ℕ → List Item → List (ℕ × Item)
counted_from k [] = []
counted_from k (x ∷ xs) = (k, x) ∷ counted_from (k + length (of_item x)) xs

abbrev pub counted_items : Scope → List (ℕ × Item)
counted_items s = counted_from s.header s.items

abbrev pub children_by : Source → Scope → ℕ × Item → List Scope
children_by source s (k, i.Instance kind settings insts) = flat_map (λ inst. instance_scopes s settings inst (module_named source kind.name)) insts
children_by source s (k, i.Loop' index start test again next label n items) =
    map (turn_scope s k index label (spread_all items)) (turns s.names index.name start test next)
children_by source s _ = []

abbrev pub children : Source → Scope → List Scope
children source s = flat_map (children_by source s) (counted_items s)

-- a scope before its children, to a depth
abbrev pub scopes_within : ℕ → Source → Scope → List Scope
scopes_within zero source s = []
scopes_within (suc n) source s = s ∷ flat_map (scopes_within n source) (children source s)
