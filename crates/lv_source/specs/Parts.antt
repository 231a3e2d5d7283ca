-- The signals and the parts of a source.
use Rattle.std.specs.Prelude.{ℕ, suc, Bool, true, false, not, ◌&&◌, ◌||◌, if◌then◌else◌, nat_le, List, [], ◌∷◌, ◌++◌, map, take, bytes_eq, Option, Some, None, flat_map, filter, sum}
use Rattle.std.specs.List.{list_any}
use Rattle.lv_ast.specs.declared.expr.Expr.{Expr}
use Rattle.lv_ast.specs.declared.expr.Expr.TheOpen.{Expr-F, Select-F}
use Rattle.lv_ast.specs.declared.stmt.Ident.{Ident}
use Rattle.lv_ast.specs.declared.stmt.Stmt.{Stmt}
use Rattle.lv_ast.specs.declared.item.Item.{Item}
use Rattle.lv_ast.specs.declared.item.Item.TheVariants as i
use Rattle.lv_ast.specs.declared.item.NetName.{NetName}
use Rattle.lv_ast.specs.declared.item.Watch.{Watch}
use Rattle.lv_ast.specs.declared.item.Watch.TheVariants as w
use Rattle.lv_ast.specs.declared.item.Conn.{Conn}
use Rattle.lv_ast.specs.declared.item.Inst.{Inst}
use Rattle.lv_ast.specs.declared.item.Module.{Module}
use Rattle.lv_ast.specs.declared.item.Source.{Source}
use Rattle.lv_ast.specs.Trees.{fold_expr, count_items}
use Rattle.lv_ast.specs.Names.{Name, alone}
use Rattle.lv_source.specs.Names.{Names, Sort, Declared, Valuation, known, width_of, is_signal_sort, is_variable_sort, is_input_sort, is_clock_sort}
use Rattle.lv_source.specs.Places.{Bit, Place, has_bit, cells, whole}
use Rattle.lv_source.specs.Meaning.{Reading, Choice, is_nil, read_expr, read_step, index_reads}
use Rattle.lv_source.specs.Effect.{Piece, pieces, places, bits_in, write_all, assigned, left_by}
use Rattle.lv_source.specs.Flow.{flow, writes_of, block_writes, block_reads}
use Rattle.lv_source.specs.Declarations.{Declaration, port_names, declared_as}
use Rattle.lv_source.specs.Sites.{Site, expr_sites, sink_sites}
use Rattle.lv_source.specs.PartSites.{port_width, assign_sites, stmt_sites, clocks_in}
use Rattle.lv_source.specs.Scopes.{Scope, module_scope, module_named, instance_scopes, scopes_within, links, Link, is_clock, is_output, is_direction}

-- a source with its top module and the name of its clock
pub record Design : Type 0 where
  pub source : Source
  pub top : Name
  pub clock : Name

-- ---- scopes

-- no path of scopes is longer: none has a module twice, and the turns nest as the items do
abbrev pub depth : Source → ℕ
depth source = sum (map (λ m. suc (sum (map count_items m.items))) source.modules)

abbrev pub top_scope : Design → Module → Scope
top_scope d m = module_scope [] true [] [] (λ constants. d.clock ∷ []) m

abbrev pub scopes_from : Design → Option Module → List Scope
scopes_from d None = []
scopes_from d (Some m) = scopes_within (suc (depth d.source)) d.source (top_scope d m)

unfoldable pub scopes_of : Design → List Scope
scopes_of d = scopes_from d (module_named d.source d.top)

-- ---- signals

abbrev pub numbered_from : {A : Type 0} → ℕ → List A → List (ℕ × A)
numbered_from k [] = []
numbered_from k (x ∷ xs) = (k, x) ∷ numbered_from (suc k) xs

-- a signal stands where its direction does, and without one at its first declaration
abbrev pub is_first : Bool → List Declaration → List Declaration → Bool
is_first direction before all =
    if list_any is_direction all then direction && not (list_any is_direction before) else is_nil before

-- with its place, if it is of these sorts
abbrev pub declares_here : (Sort → Bool) → Scope → ℕ × Declaration → List (ℕ × Declared)
declares_here is s kx =
    let name : Name = kx.1.name.name in
    let d : Declared = known (s.names (alone name)) in
    if is d.sort && is_first (is_direction kx.1) (declared_as name (take kx.0 s.declarations)) (declared_as name s.declarations) then (kx.1.name.place, d) ∷ [] else []

abbrev pub stands_here : Scope → ℕ × Declaration → List (ℕ × Declared)
stands_here s kx = declares_here is_signal_sort s kx

-- in the order of their places
abbrev pub put_by_place : ℕ × Declared → List (ℕ × Declared) → List (ℕ × Declared)
put_by_place d [] = d ∷ []
put_by_place d (e ∷ es) = if nat_le d.0 e.0 then d ∷ e ∷ es else e ∷ put_by_place d es

abbrev pub by_place : List (ℕ × Declared) → List (ℕ × Declared)
by_place [] = []
by_place (d ∷ ds) = put_by_place d (by_place ds)

abbrev pub scope_signals : Scope → List Declared
scope_signals s = map (λ kx. kx.1) (by_place (flat_map (stands_here s) (numbered_from 0 s.declarations)))

unfoldable pub signals_of : Design → List Declared
signals_of d = flat_map scope_signals (scopes_of d)

-- ---- signals and clock names

abbrev pub is_declared_sort : Sort → Bool
is_declared_sort sort = is_signal_sort sort || is_clock_sort sort

abbrev pub scope_declared : Scope → List Declared
scope_declared s = map (λ kx. kx.1) (by_place (flat_map (declares_here is_declared_sort s) (numbered_from 0 s.declarations)))

-- the signals, and each clock name of a scope among them
unfoldable pub declared_of : Design → List Declared
declared_of d = flat_map scope_declared (scopes_of d)

abbrev pub is_signal : Declared → Bool
is_signal x = is_signal_sort x.sort

-- ---- parts

pub data Body : Type 0 where
  Assign : (target : List Piece) → (value : Reading) → Body
  Comb : (names : Names) → (stmt : Stmt) → Body
  Clocked : (names : Names) → (clock : Ident) → (stmt : Stmt) → Body

pub record At : Type 0 where
  pub path : Name
  pub place : ℕ

pub record Part : Type 0 where
  pub at : At
  -- the places of clock names in its expressions and targets
  pub clocks : List ℕ
  pub body : Body

-- an expression with the names that it is as a target, where it is one
pub record Sink : Type 0 where
  pub reading : Reading
  pub target : Option (List Piece)

abbrev pub join_targets : List Sink → Option (List Piece)
join_targets [] = Some []
join_targets (s ∷ ss) = elim s.target [ None ↦ None | Some ps ↦ elim (join_targets ss) [ None ↦ None | Some qs ↦ Some (ps ++ qs) ] ]

abbrev pub read_choice : Select-F Sink Choice → Choice
read_choice (Select-F.Bit a) = Select-F.Bit a.reading
read_choice (Select-F.Part a b) = Select-F.Part a.reading b.reading
read_choice (Select-F.Up a b) = Select-F.Up a.reading b.reading
read_choice (Select-F.Down a b) = Select-F.Down a.reading b.reading

abbrev pub read_layer : Expr-F Sink Choice → Expr-F Reading Choice
read_layer (Expr-F.Lit l) = Expr-F.Lit l
read_layer (Expr-F.Name path cs) = Expr-F.Name path cs
read_layer (Expr-F.Un op a) = Expr-F.Un op a.reading
read_layer (Expr-F.Bin op a b) = Expr-F.Bin op a.reading b.reading
read_layer (Expr-F.Div a b) = Expr-F.Div a.reading b.reading
read_layer (Expr-F.Rem a b) = Expr-F.Rem a.reading b.reading
read_layer (Expr-F.Cond c a b) = Expr-F.Cond c.reading a.reading b.reading
read_layer (Expr-F.Cat rs) = Expr-F.Cat (map (λ r. r.reading) rs)
read_layer (Expr-F.Rep n rs) = Expr-F.Rep n.reading (map (λ r. r.reading) rs)
read_layer (Expr-F.Cast signed a) = Expr-F.Cast signed a.reading

abbrev pub target_of_layer : Names → Expr-F Sink Choice → Option (List Piece)
target_of_layer names (Expr-F.Name path cs) = Some (record { path = path; declared = names path; choices = cs } ∷ [])
target_of_layer names (Expr-F.Cat ts) = join_targets ts
target_of_layer names _ = None

abbrev pub sink_step : Names → Expr-F Sink Choice → Sink
sink_step names x = record { reading = read_step names (read_layer x); target = target_of_layer names x }

unfoldable pub as_target : Names → Expr → Option (List Piece)
as_target names x = (fold_expr Sink Choice (sink_step names) read_choice x).target

abbrev pub whole_piece : Names → ℕ → Name → Piece
whole_piece names place name = record { path = record (alone name) { place = place }; declared = names (alone name); choices = [] }

abbrev pub whole_value : Names → Name → Reading
whole_value names name = read_step names (Expr-F.Name (alone name) [])

abbrev pub part : Scope → ℕ → List Site → Body → Part
part s place sites body = record { at = record { path = s.path; place = place }; clocks = clocks_in sites; body = body }

abbrev pub net_part : Scope → NetName → List Part
net_part s n = elim n.value [
  | None ↦ []
  | Some x ↦ part s n.name.place (expr_sites false s.names (port_width s n.name.name) x) (Assign (whole_piece s.names n.name.place n.name.name ∷ []) (read_expr s.names x)) ∷ []
]

abbrev pub output_part : Scope → ℕ → List Site → Reading → Option (List Piece) → List Part
output_part s place sites value None = []
output_part s place sites value (Some ps) = part s place sites (Assign ps value) ∷ []

-- a connection is an assignment from its source to its sink
abbrev pub link_body : Scope → Scope → Link → Expr → List Part
link_body s child l x =
    if is_clock s.names x && is_clock_sort (known (child.names (alone l.port))).sort then []
    else if list_any is_output (declared_as l.port child.declarations) then output_part s l.conn.place (sink_sites s.names x) (whole_value child.names l.port) (as_target s.names x)
    else part s l.conn.place (expr_sites false s.names (port_width child l.port) x) (Assign (whole_piece child.names l.conn.place l.port ∷ []) (read_expr s.names x)) ∷ []

abbrev pub link_part : Scope → Scope → Link → List Part
link_part s child l = elim l.conn.value [ None ↦ [] | Some x ↦ link_body s child l x ]

abbrev pub links_to : List Module → Inst → List Link
links_to [] inst = []
links_to (m ∷ ms) inst = links (port_names m.ports) inst.conns

abbrev pub option_list : {A : Type 0} → Option A → List A
option_list None = []
option_list (Some x) = x ∷ []

abbrev pub instance_parts : Source → Scope → Name → List Conn → Inst → List Part
instance_parts source s kind settings inst =
    let m : Option Module = module_named source kind in
    flat_map (λ child. flat_map (link_part s child) (links_to (option_list m) inst)) (instance_scopes s settings inst m)

abbrev pub always_body : Names → Stmt → Watch → Body
always_body names stmt w.Star = Comb names stmt
always_body names stmt w.Closed = Comb names stmt
always_body names stmt (w.Posedge clock) = Clocked names clock stmt

abbrev pub item_parts : Source → Scope → Item → List Part
item_parts source s (i.Wire signed range names) = flat_map (net_part s) names
item_parts source s (i.Assign list) = map (λ a. part s a.place (assign_sites s.names a) (Assign (pieces s.names a.target) (read_expr s.names a.value))) list
item_parts source s (i.Always watch stmt place) = part s place (stmt_sites s.names stmt) (always_body s.names stmt watch) ∷ []
item_parts source s (i.Instance kind settings insts) = flat_map (instance_parts source s kind.name settings) insts
item_parts source s _ = []

abbrev pub scope_parts : Source → Scope → List Part
scope_parts source s = flat_map (item_parts source s) s.items

unfoldable pub parts : Design → List Part
parts d = flat_map (scope_parts d.source) (scopes_of d)

-- ---- what a part drives and reads

abbrev pub drives : Part → List Bit
drives p = elim p.body [ Assign ps value ↦ writes_of ps | Comb names s ↦ block_writes (flow names s) | Clocked names c s ↦ block_writes (flow names s) ]

abbrev pub reads : Part → List Bit
reads p = elim p.body [ Assign ps value ↦ value.reads ++ flat_map (λ q. index_reads q.choices) ps | Comb names s ↦ block_reads (flow names s) | Clocked names c s ↦ block_reads (flow names s) ]

abbrev pub is_clocked : Part → Bool
is_clocked p = elim p.body [ Assign ps value ↦ false | Comb names s ↦ false | Clocked names c s ↦ true ]

abbrev pub is_comb : Part → Bool
is_comb p = elim p.body [ Assign ps value ↦ false | Comb names s ↦ true | Clocked names c s ↦ false ]

abbrev pub driven_by : List Part → Bit → Bool
driven_by ps b = list_any (λ p. has_bit (drives p) b) ps

abbrev pub read_by : List Part → Bit → Bool
read_by ps b = list_any (λ p. has_bit (reads p) b) ps

-- what is left of v where the part has been carried out on it
abbrev pub after : Part → Valuation → Valuation
after p v = elim p.body [
  | Assign ps value ↦ (let qs : List Place = places v ps in write_all v qs (assigned v (bits_in qs) value.meaning))
  | Comb names s ↦ left_by names s v
  | Clocked names c s ↦ left_by names s v
]

-- ---- registers and inputs

-- a variable that no combinational block drives
abbrev pub is_register : List Part → Declared → Bool
is_register ps d = is_variable_sort d.sort && not (list_any (driven_by (filter is_comb ps)) (whole d))

abbrev pub register_signals : Design → List Declared
register_signals d = let ps : List Part = parts d in filter (is_register ps) (signals_of d)

abbrev pub registers_of : Design → List Name
registers_of d = flat_map cells (register_signals d)

abbrev pub inputs_of : Design → List Name
inputs_of d = flat_map cells (filter (λ x. is_input_sort x.sort) (signals_of d))

-- a net, or a variable that a combinational block drives
abbrev pub is_wired : List Part → Declared → Bool
is_wired ps d = not (is_input_sort d.sort) && not (is_register ps d)

-- the width of the signal, or element, with this path; 0 where there is none
abbrev pub width_from : List Declared → Name → ℕ
width_from [] name = 0
width_from (d ∷ ds) name = if list_any (bytes_eq name) (cells d) then width_of d else width_from ds name

abbrev pub width_at : Design → Name → ℕ
width_at d name = width_from (signals_of d) name
