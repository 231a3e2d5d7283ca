-- The rules that names, declarations, instances and expressions of a scope can break, one by one, each with the places where it is told.
use Rattle.std.specs.Prelude.{ℕ, Bool, true, false, not, ◌&&◌, ◌||◌, if◌then◌else◌, ◌==◌, nat_lt, List, [], ◌∷◌, ◌++◌, map, length, take, drop, bytes_eq, Option, Some, None, flat_map, filter}
use Rattle.std.specs.List.{list_any}
use Rattle.lv_ast.specs.declared.expr.Expr.{Expr}
use Rattle.lv_ast.specs.declared.stmt.Ident.{Ident}
use Rattle.lv_ast.specs.declared.stmt.Target.{Target}
use Rattle.lv_ast.specs.declared.item.Item.{Item}
use Rattle.lv_ast.specs.declared.item.Item.TheVariants as i
use Rattle.lv_ast.specs.declared.item.Range.{Range}
use Rattle.lv_ast.specs.declared.item.Conn.{Conn}
use Rattle.lv_ast.specs.declared.item.Inst.{Inst}
use Rattle.lv_ast.specs.declared.item.Module.{Module}
use Rattle.lv_ast.specs.declared.item.Ports.{Ports}
use Rattle.lv_ast.specs.declared.item.Ports.TheVariants as p
use Rattle.lv_ast.specs.declared.item.PortWord.TheVariants as w
use Rattle.lv_ast.specs.declared.item.Source.{Source}
use Rattle.lv_ast.specs.declared.item.Watch.TheVariants as v
use Rattle.lv_ast.specs.Names.{Name, alone}
use Rattle.lv_source.specs.Names.{Names, Here, Sort, Input, Net, Variable, Clock, Constant, Other, Declared, Bounds, known, size, is_signal_sort, is_clock_sort}
use Rattle.lv_source.specs.Names.{Index as IndexSort}
use Rattle.lv_source.specs.Declarations.{Thing, Direction, Wire, Reg, Parameter, Index, Instance, Label, Declaration, port_names, declared_as}
use Rattle.lv_source.specs.Scopes.{Scope, module_named, instance_scopes, is_among, is_direction, is_output, links, Link, settable_in, setting_width, bound_number, range_bounds, here_at, counted_items}
use Rattle.lv_source.specs.PartSites.{port_width, link_sites}
use Rattle.lv_source.specs.Parts.{numbered_from, as_target}
use Rattle.lv_source.specs.Sites.{Driven, Site, Spot, spots, first_place, first_of, walk, expr_sites, target_sites}
use Rattle.lv_source.specs.Standing.{Empty, Test, Choose, Repeat, Assign, Standing, standing, stmt_spots, target_width, header_spots}
use Rattle.lv_source.specs.NodeRules.{is_bound, is_width, unknown_name, not_constant, zero_divisor, out_of_range, clock_use}

abbrev pub place_if : Bool → ℕ → List ℕ
place_if holds place = if holds then place ∷ [] else []

abbrev pub is_none : {A : Type 0} → Option A → Bool
is_none None = true
is_none (Some x) = false

abbrev pub first_in : Names → Expr → ℕ
first_in names x = first_place (walk names x).shown

-- ---- the expressions of a scope

abbrev pub maybe_sites : Bool → Names → ℕ → Option Expr → List Site
maybe_sites constant names width None = []
maybe_sites constant names width (Some x) = expr_sites constant names width x

abbrev pub range_sites : Names → Option Range → List Site
range_sites names None = []
range_sites names (Some r) = expr_sites true names 0 r.left ++ expr_sites true names 0 r.right

abbrev pub parameter_width : Names → Option Range → ℕ
parameter_width names None = 0
parameter_width names (Some r) = size (range_bounds names (Some r))

abbrev pub declaration_sites : Names → Declaration → List Site
declaration_sites names d = elim d.thing [
  | Direction o word s range ↦ range_sites names range
  | Wire s range ↦ range_sites names range
  | Reg s range array ↦ range_sites names range ++ range_sites names array
  | Parameter local s range value ↦ range_sites names range ++ expr_sites true names (parameter_width names range) value
  | Index g ↦ []
  | Instance ↦ []
  | Label ↦ []
]

abbrev pub inst_sites : Source → Scope → Names → List Conn → Inst → Option Module → List Site
inst_sites source s names settings inst None = []
inst_sites source s names settings inst (Some m) =
    flat_map (λ child. flat_map (link_sites names child) (links (port_names m.ports) inst.conns)) (instance_scopes s settings inst (Some m))

-- each setting at the width at which its value is taken
abbrev pub setting_sites : Scope → Names → List Conn → Option Module → List Site
setting_sites s names settings None = flat_map (λ c. maybe_sites true names 0 c.value) settings
setting_sites s names settings (Some m) =
    flat_map (λ l. maybe_sites true names (setting_width s.names settings m l.port) l.conn.value) (links (settable_in m) settings) ++
    flat_map (λ c. if is_none c.name then maybe_sites true names 0 c.value else []) (drop (length (settable_in m)) settings)

abbrev pub item_sites : Source → Scope → Names → Item → List Site
item_sites source s names (i.Wire signed range nets) = flat_map (λ n. maybe_sites false names (port_width s n.name.name) n.value) nets
item_sites source s names (i.Assign list) = flat_map (λ a. target_sites names Driven a.target ++ expr_sites false names (target_width names a.target) a.value) list
item_sites source s names (i.Instance kind settings insts) =
    setting_sites s names settings (module_named source kind.name) ++ flat_map (λ inst. inst_sites source s names settings inst (module_named source kind.name)) insts
item_sites source s names _ = []

abbrev pub item_spots : Source → Scope → Here → Item → List Spot
item_spots source s here (i.Always watch stmt place) = stmt_spots here stmt
item_spots source s here (i.Loop' index start test again next label n items) = header_spots here index start test next
item_spots source s here x = spots here (item_sites source s here.names x)

-- each item where it stands
abbrev pub here_items : {A : Type 0} → (Here → Item → List A) → Scope → List A
here_items f s = flat_map (λ kx. f (here_at s kx.0) kx.1) (counted_items s)

abbrev pub at_items : {A : Type 0} → (Names → Item → List A) → Scope → List A
at_items f s = flat_map (f s.names) s.items

abbrev pub scope_spots : Source → Scope → List Spot
scope_spots source s =
    flat_map (λ kd. spots (here_at s kd.0) (declaration_sites s.names kd.1)) (numbered_from 0 s.declarations) ++ here_items (item_spots source s) s

abbrev pub standing_in : Here → Item → List Standing
standing_in here (i.Always watch stmt place) = standing here stmt
standing_in here _ = []

abbrev pub scope_standing : Scope → List Standing
scope_standing s = here_items standing_in s

-- ---- UnknownModule: an instance names no module

abbrev pub unknown_module_in : Source → Names → Item → List ℕ
unknown_module_in source names (i.Instance kind settings insts) = place_if (is_none (module_named source kind.name)) kind.place
unknown_module_in source names _ = []

abbrev pub unknown_modules : Source → Scope → List ℕ
unknown_modules source s = at_items (unknown_module_in source) s

-- ---- UnknownName

-- a loop wants an index outside of its own loop: a genvar around items, an integer in a block
abbrev pub is_index_of : Bool → Option Declared → Bool
is_index_of genvar None = false
is_index_of genvar (Some d) = elim d.sort [ Input ↦ false | Net ↦ false | Variable ↦ false | Clock ↦ false | Constant x ↦ false | IndexSort g ↦ if g then genvar else not genvar | Other ↦ false ]

abbrev pub header_names : Bool → Names → Ident → Ident → List ℕ
header_names genvar names index again =
    place_if (not (is_index_of genvar (names (alone index.name)))) index.place ++ place_if (not (bytes_eq index.name again.name)) again.place

abbrev pub unknown_in_form : Standing → List ℕ
unknown_in_form k = elim k.form [
  | Empty ↦ []
  | Test x ↦ []
  | Choose x arms ↦ []
  | Repeat index start test again next ↦ header_names false k.here.names index again
  | Assign at_once t x ↦ []
]

-- the settings that name no parameter which an instance can set
abbrev pub unlisted_names : List Ident → List Conn → List ℕ
unlisted_names listed cs = flat_map (λ c. elim c.name [ None ↦ [] | Some n ↦ place_if (not (list_any (λ q. bytes_eq q.name n.name) listed)) n.place ]) cs

abbrev pub settable_of : Option Module → List Ident
settable_of None = []
settable_of (Some m) = settable_in m

abbrev pub unknown_setting : Option Module → List Conn → List ℕ
unknown_setting None settings = []
unknown_setting (Some m) settings = unlisted_names (settable_of (Some m)) settings

-- neither a signal nor a clock
abbrev pub is_no_edge : Sort → Bool
is_no_edge sort = not (is_signal_sort sort) && not (is_clock_sort sort)

abbrev pub unknown_in_item : Source → Names → Item → List ℕ
unknown_in_item source names (i.Always (v.Posedge clock) stmt place) = place_if (is_no_edge (known (names (alone clock.name))).sort) clock.place
unknown_in_item source names (i.Instance kind settings insts) = unknown_setting (module_named source kind.name) settings
unknown_in_item source names (i.Loop' index start test again next label n items) = header_names true names index again
unknown_in_item source names _ = []

abbrev pub unknown_names : Source → Scope → List ℕ
unknown_names source s =
    flat_map (λ x. unknown_name x.site) (scope_spots source s) ++ flat_map unknown_in_form (scope_standing s) ++ at_items (unknown_in_item source) s

-- ---- NotConstant and ZeroDivisor

abbrev pub not_constants : Source → Scope → List ℕ
not_constants source s = flat_map not_constant (scope_spots source s)

abbrev pub zero_divisors : Source → Scope → List ℕ
zero_divisors source s = flat_map (λ x. zero_divisor x.site) (scope_spots source s)

-- ---- Range

-- both bounds are allowed, of a vector its width too
abbrev pub is_range : Names → Bool → Option Range → Bool
is_range names vector None = true
is_range names vector (Some r) =
    is_bound (bound_number names r.left) && is_bound (bound_number names r.right) && (not vector || is_width (size (range_bounds names (Some r))))

abbrev pub range_fault : Names → Declaration → List ℕ
range_fault names d = elim d.thing [
  | Direction o word s range ↦ place_if (not (is_range names true range)) d.name.place
  | Wire s range ↦ place_if (not (is_range names true range)) d.name.place
  | Reg s range array ↦ place_if (not (is_range names true range && is_range names false array)) d.name.place
  | Parameter local s range value ↦ place_if (not (is_range names true range)) d.name.place
  | Index g ↦ []
  | Instance ↦ []
  | Label ↦ []
]

-- the bits of a target together
abbrev pub target_fault : Names → Target → List ℕ
target_fault names t = place_if (not (is_width (target_width names t))) (first_of (flat_map (λ s. s.shown.places) (target_sites names Driven t)))

abbrev pub range_in_form : Standing → List ℕ
range_in_form k = elim k.form [
  | Empty ↦ []
  | Test x ↦ []
  | Choose x arms ↦ []
  | Repeat index start test again next ↦ []
  | Assign at_once t x ↦ target_fault k.here.names t
]

abbrev pub range_in_item : Names → Item → List ℕ
range_in_item names (i.Assign list) = flat_map (λ a. target_fault names a.target) list
range_in_item names _ = []

abbrev pub ranges : Source → Scope → List ℕ
ranges source s =
    flat_map (λ x. out_of_range x.site) (scope_spots source s) ++ flat_map (range_fault s.names) s.declarations ++ flat_map range_in_form (scope_standing s) ++ at_items range_in_item s

-- ---- Duplicate

abbrev pub same_sign : Bool → Bool → Bool
same_sign a b = if a then b else not b

abbrev pub same_range : Names → Option Range → Option Range → Bool
same_range names None None = true
same_range names (Some r) (Some q) = let a : Bounds = range_bounds names (Some r) in let b : Bounds = range_bounds names (Some q) in (a.left == b.left) && (a.right == b.right)
same_range names _ _ = false

-- a bare direction beside a `wire`, or for an output a `reg`, of equal range and sign
abbrev pub completes : Names → Thing → Thing → Bool
completes names (Direction o w.Absent s r) (Wire t q) = same_sign s t && same_range names r q
completes names (Direction o w.Absent s r) (Reg t q None) = o && same_sign s t && same_range names r q
completes names _ _ = false

abbrev pub is_pair : Names → Bool → List Declaration → Bool
is_pair names listed (a ∷ b ∷ []) = listed && (completes names a.thing b.thing || completes names b.thing a.thing)
is_pair names listed _ = false

abbrev pub listed_ports : Ports → List Name
listed_ports (p.Names names) = map (λ n. n.name) names
listed_ports _ = []

abbrev pub is_nil : {A : Type 0} → List A → Bool
is_nil [] = true
is_nil (x ∷ xs) = false

-- the later declarations of a name that is declared before
abbrev pub declared_again : Scope → ℕ × Declaration → List ℕ
declared_again s kd =
    let name : Name = kd.1.name.name in
    if is_pair s.names (is_among (listed_ports s.ports) name) (declared_as name s.declarations) then []
    else place_if (not (is_nil (declared_as name (take kd.0 s.declarations)))) kd.1.name.place

-- a `case` with two defaults
abbrev pub two_defaults : Standing → List ℕ
two_defaults k = elim k.form [
  | Empty ↦ []
  | Test x ↦ []
  | Choose x arms ↦ place_if (nat_lt 1 (length (filter is_nil arms))) (first_in k.here.names x)
  | Repeat index start test again next ↦ []
  | Assign at_once t x ↦ []
]

abbrev pub duplicates : Scope → List ℕ
duplicates s = flat_map (declared_again s) (numbered_from 0 s.declarations) ++ flat_map two_defaults (scope_standing s)

-- ---- Recursion: a module stands inside an instance of itself

abbrev pub recursive : Scope → Ident → List Inst → Option Module → List ℕ
recursive s kind insts None = []
recursive s kind insts (Some m) = if is_among s.around m.name.name then kind.place ∷ map (λ inst. inst.name.place) insts else []

abbrev pub recursion_in : Source → Scope → Names → Item → List ℕ
recursion_in source s names (i.Instance kind settings insts) = recursive s kind insts (module_named source kind.name)
recursion_in source s names _ = []

abbrev pub recursions : Source → Scope → List ℕ
recursions source s = at_items (recursion_in source s) s

-- ---- Port

-- a connection is told at its name, at its first token or where its expression begins
abbrev pub conn_places : Names → Conn → List ℕ
conn_places names c =
    elim c.name [ None ↦ [] | Some n ↦ n.place ∷ [] ] ++ c.place ∷ elim c.value [ None ↦ [] | Some x ↦ first_in names x ∷ [] ]

abbrev pub conn_if : Bool → Names → Conn → List ℕ
conn_if holds names c = if holds then conn_places names c else []

abbrev pub twice_linked : Names → List Link → List ℕ
twice_linked names [] = []
twice_linked names (l ∷ ls) = flat_map (λ k. conn_if (bytes_eq k.port l.port) names k.conn) ls ++ twice_linked names ls

abbrev pub is_ordered : Conn → Bool
is_ordered c = is_none c.name

abbrev pub is_listed : List Ident → Conn → Bool
is_listed ports c = elim c.name [ None ↦ true | Some n ↦ list_any (λ q. bytes_eq q.name n.name) ports ]

-- a port that the module hasn't, and ordered connections beyond the last one
abbrev pub unknown_ports : Names → List Ident → List Conn → List ℕ
unknown_ports names ports cs =
    flat_map (λ c. conn_if (not (is_listed ports c)) names c) cs ++ flat_map (λ c. conn_if (is_ordered c) names c) (drop (length ports) cs)

abbrev pub extra_settings : Names → List Ident → List Conn → List ℕ
extra_settings names listed cs = flat_map (λ c. conn_if (is_ordered c) names c) (drop (length listed) cs)

-- an output that is connected to an expression that is no target
abbrev pub no_target : Names → Scope → Link → List ℕ
no_target names child l = elim l.conn.value [
  | None ↦ []
  | Some x ↦ conn_if (list_any is_output (declared_as l.port child.declarations) && is_none (as_target names x)) names l.conn
]

abbrev pub inst_ports : Source → Scope → Names → List Conn → Module → Inst → List ℕ
inst_ports source s names settings m inst =
    unknown_ports names (port_names m.ports) inst.conns ++ twice_linked names (links (port_names m.ports) inst.conns) ++
    flat_map (λ child. flat_map (no_target names child) (links (port_names m.ports) inst.conns)) (instance_scopes s settings inst (Some m))

abbrev pub ports_by : Source → Scope → Names → List Conn → List Inst → Option Module → List ℕ
ports_by source s names settings insts None = []
ports_by source s names settings insts (Some m) =
    extra_settings names (settable_of (Some m)) settings ++ twice_linked names (links (settable_of (Some m)) settings) ++
    flat_map (inst_ports source s names settings m) insts

abbrev pub ports_in_item : Source → Scope → Names → Item → List ℕ
ports_in_item source s names (i.Instance kind settings insts) = ports_by source s names settings insts (module_named source kind.name)
ports_in_item source s names _ = []

-- ports that are listed without a direction, or have one without being listed
abbrev pub port_directions : Scope → List ℕ
port_directions s = elim s.ports [
  | p.Names names ↦
      flat_map (λ n. place_if (not (list_any is_direction (declared_as n.name s.declarations))) n.place) names ++
      flat_map (λ d. place_if (is_direction d && not (list_any (λ n. bytes_eq n.name d.name.name) names)) d.name.place) s.declarations
  | p.Absent ↦ flat_map (λ d. place_if (is_direction d) d.name.place) s.declarations
  | p.Empty ↦ flat_map (λ d. place_if (is_direction d) d.name.place) s.declarations
  | p.Declared ports ↦ []
]

abbrev pub other_range : Names → Option Range → Declaration → Declaration → List ℕ
other_range names r d e = elim e.thing [
  | Direction o word s q ↦ if same_range names q r then [] else d.name.place ∷ e.name.place ∷ []
  | Wire s q ↦ []
  | Reg s q a ↦ []
  | Parameter l s q x ↦ []
  | Index g ↦ []
  | Instance ↦ []
  | Label ↦ []
]

-- a direction, and a second one, a `wire` or `reg` of another range
abbrev pub two_ranges : Scope → Declaration → List ℕ
two_ranges s d = elim d.thing [
  | Wire sign r ↦ flat_map (other_range s.names r d) (declared_as d.name.name s.declarations)
  | Reg sign r a ↦ flat_map (other_range s.names r d) (declared_as d.name.name s.declarations)
  | Direction o word sign r ↦ flat_map (other_range s.names r d) (declared_as d.name.name s.declarations)
  | Parameter l sign r x ↦ []
  | Index g ↦ []
  | Instance ↦ []
  | Label ↦ []
]

abbrev pub ports : Source → Scope → List ℕ
ports source s = at_items (ports_in_item source s) s ++ port_directions s ++ flat_map (two_ranges s) s.declarations

-- ---- ClockUse in expressions and targets

abbrev pub clock_uses : Source → Scope → List ℕ
clock_uses source s = flat_map (λ x. clock_use x.site) (scope_spots source s)
