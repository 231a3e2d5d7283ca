-- Where the signals of a scope stand.
use Rattle.std.specs.Prelude.{ℕ, Bool, true, false, if◌then◌else◌, ◌==◌, nat_le, List, [], ◌∷◌, map, Option, Some, None, slice_get, bytes_eq, flat_map}
use Rattle.std.specs.List.{position_or_len}
use Rattle.lv_ast.specs.Names.{Name}
use Rattle.lv_source.specs.Names.{Declared}
use Rattle.lv_source.specs.Declarations.{Declaration}
use Rattle.lv_source.specs.Parts.{numbered_from}
use Rattle.lv_scopes.specs.NameLists.{listed}
use Rattle.lv_flat.specs.Signals.{declared}
use Rattle.lv_symbols.specs.declared.symbol.Symbol.{Symbol}
use Rattle.lv_bindings.specs.declared.around.Around.{Around}
use Rattle.lv_bindings.specs.declared.group.Group.{Group}
use Rattle.lv_bindings.specs.declared.order.Standing.{Standing}
use Rattle.lv_bindings.specs.Grouping.{Numbered, group_for, place}
use Rattle.lv_bindings.specs.Made.{made_by}

-- the path of a scope, whether it is the top, and the names to which a clock is connected
pub record Outside : Type 0 where
  pub path : Name
  pub top : Bool
  pub connected : List Name

abbrev pub outside : Around → Outside
outside a = record { path = a.path.now; top = a.top; connected = listed a.connected.now }

-- a signal with its place and the number of its name
pub record Seen : Type 0 where
  pub place : ℕ
  pub number : ℕ
  pub signal : Declared

abbrev pub seen : Standing → Seen
seen z = record { place = z.place; number = z.number; signal = declared z.signal }

-- ---- the signals in the order of the declarations

-- the group of a declaration, if its signal stands there
abbrev pub group_standing : Option Group → ℕ → Option Group
group_standing None k = None
group_standing (Some g) k = if place g == k then Some g else None

abbrev pub signal_with : Outside → Name → Group → Option Symbol → Option Declared
signal_with o name g None = None
signal_with o name g (Some y) = made_by o.path o.top o.connected name g y

-- the signal of a group, by the symbol of its first declaration
abbrev pub signal_by : Outside → Name → List Symbol → Option Group → Option Declared
signal_by o name ys None = None
signal_by o name ys (Some g) = signal_with o name g (slice_get ys g.first)

abbrev pub seen_if : ℕ → ℕ → Option Declared → List Seen
seen_if place number None = []
seen_if place number (Some d) = record { place = place; number = number; signal = d } ∷ []

-- the signal that stands at a declaration, if there is one
abbrev pub standing_at : List Name → Outside → List Declaration → List Symbol → Numbered → List Seen
standing_at names o ds ys x =
    seen_if x.1.name.place (position_or_len (bytes_eq x.1.name.name) names)
    (signal_by o x.1.name.name ys (group_standing (group_for ds x.1.name.name) x.0))

abbrev pub all_standing : List Name → Outside → List Declaration → List Symbol → List Seen
all_standing names o ds ys = flat_map (standing_at names o ds ys) (numbered_from 0 ds)

-- ---- in the order of the places, as the signals of a scope

abbrev pub put_in : Standing → List Standing → List Standing
put_in d [] = d ∷ []
put_in d (e ∷ es) = if nat_le d.place e.place then d ∷ e ∷ es else e ∷ put_in d es

abbrev pub in_order : List Standing → List Standing
in_order [] = []
in_order (d ∷ ds) = put_in d (in_order ds)

abbrev pub put_in_seen : Seen → List Seen → List Seen
put_in_seen d [] = d ∷ []
put_in_seen d (e ∷ es) = if nat_le d.place e.place then d ∷ e ∷ es else e ∷ put_in_seen d es

abbrev pub in_order_seen : List Seen → List Seen
in_order_seen [] = []
in_order_seen (d ∷ ds) = put_in_seen d (in_order_seen ds)
