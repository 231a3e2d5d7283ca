-- What the names of a table stand for.
use Rattle.std.specs.Prelude.{◌≡◌, ℕ, suc, List, [], ◌∷◌, map, Option, Some, None, bytes_eq, slice_get, slice_set}
use Rattle.std.specs.List.{position}
use Rattle.lv_ast.specs.Names.{Name}
use Rattle.lv_scopes.specs.NameLists.{listed}
use Rattle.lv_symbols.specs.declared.symbol.Symbol.{Symbol}
use Rattle.lv_symbols.specs.declared.symbol.Symbol.TheVariants as y
use Rattle.lv_bindings.specs.declared.group.Group.{Group}
use Rattle.lv_bindings.specs.declared.table.Binding.{Binding}
use Rattle.lv_bindings.specs.declared.table.Binding.TheVariants as b
use Rattle.lv_bindings.specs.declared.table.Table.{Table}
use Rattle.lv_source.specs.Declarations.{Declaration}
use Rattle.lv_bindings.specs.declared.scope.Named.{Named}
use Rattle.lv_bindings.specs.Order.{Seen, Outside, seen, in_order_seen, all_standing}

abbrev pub bound_by : List Binding → Option ℕ → Option Binding
bound_by bs None = None
bound_by bs (Some i) = slice_get bs i

-- what a name stands for, where the table has it
abbrev pub bound_in : Table → Name → Option Binding
bound_in t name = bound_by t.bindings.items (position (bytes_eq name) (listed t.names))

-- ---- one by one

-- by its symbol, a signal aside
abbrev pub plain_binding : Option Symbol → Binding
plain_binding None = b.Other
plain_binding (Some (y.Signal ranged signed bounds array)) = b.Other
plain_binding (Some y.Constant) = b.Constant
plain_binding (Some (y.Index genvar)) = b.Index genvar
plain_binding (Some y.Other) = b.Other

abbrev pub plain_bindings : List Symbol → List Group → List Binding
plain_bindings ys gs = map (λ g. plain_binding (slice_get ys g.first)) gs

abbrev pub bound_at : List Binding → ℕ → ℕ → List Binding
bound_at bs number signal = slice_set bs number (b.Signal signal)

-- the signals in order, from a number on
abbrev pub assigned : ℕ → List Seen → List Binding → List Binding
assigned k [] bs = bs
assigned k (z ∷ zs) bs = assigned (suc k) zs (bound_at bs z.number k)

-- the names and bindings of a table, and the signals in order, by the groups and symbols
pub record IsNamed (ns : List Name) (gs : List Group) (o : Outside) (ds : List Declaration) (ys : List Symbol) (first : ℕ) (x : Named) : Type 0 where
  pub names : listed x.table.names ≡ ns
  pub signals : map seen x.signals.items ≡ in_order_seen (all_standing ns o ds ys)
  pub bindings : x.table.bindings.items ≡ assigned first (map seen x.signals.items) (plain_bindings ys gs)
