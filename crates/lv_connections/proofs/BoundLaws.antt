-- A port of an instance is bound to a number.
use Rattle.std.proofs.Common.{◌≡◌, arith, Bool, true, false, ◌||◌, if◌then◌else◌, List, [], ◌∷◌, length, refl, sym, ap, ◌∙◌, Option, Some, None}
use Rattle.std.specs.Prelude.{bytes_eq, filter, flat_map}
use Rattle.std.specs.List.{list_any}
use Rattle.lv_ast.specs.declared.expr.Expr.{Expr}
use Rattle.lv_ast.specs.declared.expr.Path.{Path}
use Rattle.lv_ast.specs.declared.stmt.Ident.{Ident}
use Rattle.lv_ast.specs.declared.item.Conn.{Conn}
use Rattle.lv_ast.specs.declared.item.Inst.{Inst}
use Rattle.lv_ast.specs.declared.item.Module.{Module}
use Rattle.lv_ast.specs.declared.item.Range.{Range}
use Rattle.lv_ast.specs.Names.{Name, alone, below, spelled}
use Rattle.lv_source.specs.Names.{Names, Declared, known, with_name}
use Rattle.lv_source.specs.Names.{Index as IndexSort, Other as OtherSort}
use Rattle.lv_source.specs.Declarations.{Thing, Direction, Wire, Reg, Parameter, Index, Instance, Label, Declaration, of_module, port_names, declared_as}
use Rattle.lv_source.specs.Parts.{is_declared_sort}
use Rattle.lv_source.specs.Scopes.{Scope, Override, overridden, override_of, overrides, with_parameters, stands_for, is_parameter, is_among, is_one_bit_input, clock_by, links, instance_scope, no_names, other}
use Rattle.lv_scopes.specs.declared.table.NameTable.{NameTable}
use Rattle.lv_scopes.specs.NameLists.{listed}
use Rattle.lv_symbols.specs.Frames.{AreOnce}
use Rattle.lv_bindings.specs.declared.table.Binding.{Binding}
use Rattle.lv_bindings.specs.declared.table.Binding.TheVariants as b
use Rattle.lv_bindings.specs.declared.table.Table.{Table}
use Rattle.lv_bindings.specs.Tables.{bound_in}
use Rattle.lv_bindings.specs.Standing.{Says}
use Rattle.lv_flat.specs.Signals.{Signals}
use Rattle.lv_sinks.specs.declared.port.Port.{Port}
use Rattle.lv_connections.specs.Joined.{HasNames, IsPlainPort, port_by, bound_port}

abbrev NotDeclared : Option Declared → Type 0
NotDeclared o = is_declared_sort (known o).sort ≡ false

-- ---- constants are neither signals nor clocks

over_undeclared : (here : Names) (n : Ident) (signed : Bool) (range : Option Range) (value : Expr) (o : Option Override) →
    is_declared_sort (overridden here n signed range value o).sort ≡ false
over_undeclared here n signed None value None = refl
over_undeclared here n signed (Some r) value None = refl
over_undeclared here n signed None value (Some o) = refl
over_undeclared here n signed (Some r) value (Some o) = refl

with_undeclared : (b : Bool) (x : Declared) (y : Option Declared) → is_declared_sort x.sort ≡ false → NotDeclared y → NotDeclared (if b then Some x else y)
with_undeclared true x y h k = h
with_undeclared false x y h k = k

abbrev next_names : List Override → Names → Ident → Thing → Names
next_names os names n t = elim t as (λ _. Names) [
  | Parameter local signed range value ↦ with_name names n.name (Some (overridden names n signed range value (override_of local os n.name)))
  | Direction o w s r ↦ names
  | Wire s r ↦ names
  | Reg s r b ↦ names
  | Index g ↦ names
  | Instance ↦ names
  | Label ↦ names
]

next_undeclared : (os : List Override) (names : Names) (n : Ident) (t : Thing) (m : Name) → NotDeclared (names (alone m)) → NotDeclared (next_names os names n t (alone m))
next_undeclared os names n (Parameter local signed range value) m h =
    with_undeclared (bytes_eq m n.name) _ (names (alone m)) (over_undeclared names n signed range value (override_of local os n.name)) h
next_undeclared os names n (Direction o w s r) m h = h
next_undeclared os names n (Wire s r) m h = h
next_undeclared os names n (Reg s r b) m h = h
next_undeclared os names n (Index g) m h = h
next_undeclared os names n Instance m h = h
next_undeclared os names n Label m h = h

kept_undeclared : (os : List Override) (names : Names) (ds : List Declaration) (m : Name) → NotDeclared (names (alone m)) → NotDeclared (with_parameters os names ds (alone m))
kept_undeclared os names [] m h = h
kept_undeclared os names (d ∷ ds) m h = kept_undeclared os (next_names os names d.name d.thing) ds m (next_undeclared os names d.name d.thing m h)

-- ---- a parameter that is declared once is one

module _ (names : Names) (path : Name) (top clock : Bool) (p : Path) (h : NotDeclared (names p)) where
  one-parameter : (n : Ident) (t : Thing) → is_parameter (record { name = n; thing = t }) ≡ true → NotDeclared (stands_for names path top clock p (record { name = n; thing = t } ∷ []))
  one-parameter n (Parameter local s r v) e = h
  one-parameter n (Direction o w s r) e = cc
  one-parameter n (Wire s r) e = cc
  one-parameter n (Reg s r b) e = cc
  one-parameter n (Index g) e = cc
  one-parameter n Instance e = cc
  one-parameter n Label e = cc

  or-false : (b : Bool) → (b || false) ≡ true → b ≡ true
  or-false true e = refl
  or-false false e = e

  only-parameter : (ds : List Declaration) → list_any is_parameter ds ≡ true → length ds ≡ 1 → NotDeclared (stands_for names path top clock p ds)
  only-parameter [] e l = cc
  only-parameter (d ∷ []) e l = one-parameter d.name d.thing (or-false (is_parameter d) e)
  only-parameter (d ∷ c ∷ ds) e l = absurd (omega (arith, l))

clash : {X : Type 0} (b : Bool) → b ≡ true → b ≡ false → X
clash b h k = absurd (cc)

-- ---- the port

module _ (S : Signals) (t : Table) (outputs : NameTable) (s : Scope) (settings : List Conn) (inst : Inst) (m : Module) (name : Name)
    (h : HasNames S t outputs (instance_scope s settings inst m)) (q : IsPlainPort (instance_scope s settings inst m) name) (once : AreOnce (of_module m)) where
  abbrev child : Scope
  child = instance_scope s settings inst m

  abbrev constants : Names
  constants = with_parameters (overrides s.names settings m) no_names (of_module m)

  constant-name : NotDeclared (constants (alone name))
  constant-name = kept_undeclared (overrides s.names settings m) no_names (of_module m) name refl

  is-declared : is_declared_sort (known (child.names (alone name))).sort ≡ true
  is-declared = ap (λ o. is_declared_sort (known o).sort) q.there ∙ q.sort

  names-same : h.frame.scope.names (alone name) ≡ child.names (alone name)
  names-same = ap (λ (s : Scope). s.names (alone name)) h.scope

  declared-same : declared_as name h.frame.scope.declarations ≡ declared_as name (of_module m)
  declared-same = ap (λ (s : Scope). declared_as name s.declarations) h.scope

  unsorted : (z : Option Declared) → h.frame.scope.names (alone name) ≡ z → NotDeclared z → ⊥
  unsorted z e n = clash _ is-declared (ap (λ o. is_declared_sort (known o).sort) (sym names-same ∙ e) ∙ n)

  abbrev clock : Bool
  clock = is_among (filter (is_one_bit_input constants (of_module m)) (flat_map (clock_by s.names) (links (port_names m.ports) inst.conns))) name

  abbrev stands : List Declaration → Option Declared
  stands ds = stands_for constants (below s.path (spelled inst.name.name)) false clock (alone name) ds

  by-declarations : (ds : List Declaration) → declared_as name (of_module m) ≡ ds → NotDeclared (stands ds) → ⊥
  by-declarations ds e n = clash (is_declared_sort (known (stands ds)).sort) (sym (ap (λ xs. is_declared_sort (known (stands xs)).sort) e) ∙ is-declared) n

  bound-by : (o : Option Binding) → Says h.first h.own h.frame name o → (out : Bool) → (p : Port) × (Some p ≡ port_by o out)
  bound-by None says out = absurd (by-declarations [] (sym declared-same ∙ says) constant-name)
  bound-by (Some (b.Signal k)) says out = (record { signal = k; output = out }, refl)
  bound-by (Some b.Constant) says out =
      (let e : list_any is_parameter (declared_as name (of_module m)) ≡ true = ap (list_any is_parameter) (sym declared-same) ∙ says in
      absurd (by-declarations (declared_as name (of_module m)) refl (only-parameter constants (below s.path (spelled inst.name.name)) false clock (alone name) constant-name (declared_as name (of_module m)) e (once name e))))
  bound-by (Some (b.Index genvar)) says out = absurd (unsorted (Some (other (IndexSort genvar))) says refl)
  bound-by (Some b.Other) says out = absurd (unsorted (Some (other OtherSort)) says refl)

  pub port-bound : (p : Port) × (Some p ≡ bound_port t outputs name)
  port-bound = bound-by (bound_in t name) (h.table.says name) (list_any (bytes_eq name) (listed outputs))
