-- The readings and targets that the parts of a design have are those of expressions.
use Rattle.std.proofs.Common.{Bool, true, false, List, [], ◌∷◌, map, Option, Some, None}
use Rattle.std.specs.Prelude.{flat_map, if◌then◌else◌}
use Rattle.lv_ast.specs.declared.expr.Expr.{Expr}
use Rattle.lv_ast.specs.declared.expr.Expr.TheOpen.{Expr-F}
use Rattle.lv_ast.specs.declared.stmt.Stmt.{Stmt}
use Rattle.lv_ast.specs.declared.item.Item.{Item}
use Rattle.lv_ast.specs.declared.item.Item.TheVariants as i
use Rattle.lv_ast.specs.declared.item.Continuous.{Continuous}
use Rattle.lv_ast.specs.declared.item.NetName.{NetName}
use Rattle.lv_ast.specs.declared.item.Conn.{Conn}
use Rattle.lv_ast.specs.declared.item.Inst.{Inst}
use Rattle.lv_ast.specs.declared.item.Source.{Source}
use Rattle.lv_ast.specs.declared.item.Watch.{Watch}
use Rattle.lv_ast.specs.declared.item.Watch.TheVariants as w
use Rattle.lv_ast.specs.Names.{Name, alone}
use Rattle.lv_source.specs.Names.{Names}
use Rattle.lv_source.specs.Meaning.{Reading, read_expr}
use Rattle.lv_source.specs.Effect.{Piece, pieces}
use Rattle.lv_source.specs.Scopes.{Scope, Link, module_named, instance_scopes}
use Rattle.lv_source.specs.Sites.{Site, expr_sites, sink_sites}
use Rattle.lv_source.specs.PartSites.{port_width, assign_sites}
use Rattle.lv_source.specs.Parts.{Design, Part, Body, Assign, Comb, Clocked, part, net_part, output_part, link_body, link_part, instance_parts, always_body, item_parts, scope_parts, parts, scopes_of, whole_piece, whole_value, as_target, links_to, option_list}
use Rattle.lv_source.proofs.Each.{Each, each-join}
use Rattle.lv_source.proofs.Faithful.{Faithful}
use Rattle.lv_source.proofs.Readings.{faithful, node}
use Rattle.lv_source.proofs.Pieces.{FaithfulPiece, MaybeFaithful, pieces_faithful, target_faithful}

abbrev pub FaithfulBody : Body → Type 0
FaithfulBody (Assign ps value) = Each FaithfulPiece ps × Faithful value
FaithfulBody (Comb names s) = Unit {0}
FaithfulBody (Clocked names c s) = Unit {0}

abbrev pub FaithfulPart : Part → Type 0
FaithfulPart p = FaithfulBody p.body

each-flat : {A B : Type 0} (P : B → Type 0) (f : A → List B) → ((x : A) → Each P (f x)) → (xs : List A) → Each P (flat_map f xs)
each-flat P f h [] = tt
each-flat P f h (x ∷ xs) = each-join P (f x) (flat_map f xs) (h x) (each-flat P f h xs)

each-mapped : {A B : Type 0} (P : B → Type 0) (f : A → B) → ((x : A) → P (f x)) → (xs : List A) → Each P (map f xs)
each-mapped P f h [] = tt
each-mapped P f h (x ∷ xs) = (h x, each-mapped P f h xs)

whole_faithful : (names : Names) (name : Name) → Faithful (whole_value names name)
whole_faithful names name = node names (Expr-F.Name (alone name) []) tt

net_faithful : (s : Scope) (n : NetName) → (x : Option Expr) →
    Each FaithfulPart (elim x [ None ↦ [] | Some x ↦ part s n.name.place (expr_sites false s.names (port_width s n.name.name) x) (Assign (whole_piece s.names n.name.place n.name.name ∷ []) (read_expr s.names x)) ∷ [] ])
net_faithful s n None = tt
net_faithful s n (Some x) = (((tt, tt), faithful s.names x), tt)

output_faithful : (s : Scope) (place : _) (sites : List Site) (value : Reading) → Faithful value → (o : Option (List Piece)) → MaybeFaithful o → Each FaithfulPart (output_part s place sites value o)
output_faithful s place sites value f None h = tt
output_faithful s place sites value f (Some ps) h = ((h, f), tt)

both_ways : (P : Part → Type 0) (a b : Bool) (xs ys : List Part) → Each P xs → Each P ys → Each P (if a then [] else if b then xs else ys)
both_ways P true b xs ys h k = tt
both_ways P false true xs ys h k = h
both_ways P false false xs ys h k = k

link_by : (s child : Scope) (l : Link) (x : Option Expr) → Each FaithfulPart (elim x [ None ↦ [] | Some x ↦ link_body s child l x ])
link_by s child l None = tt
link_by s child l (Some x) =
    both_ways FaithfulPart _ _ (output_part s l.conn.place (sink_sites s.names x) (whole_value child.names l.port) (as_target s.names x))
    (part s l.conn.place (expr_sites false s.names (port_width child l.port) x) (Assign (whole_piece child.names l.conn.place l.port ∷ []) (read_expr s.names x)) ∷ [])
    (output_faithful s l.conn.place (sink_sites s.names x) (whole_value child.names l.port) (whole_faithful child.names l.port) (as_target s.names x) (target_faithful s.names x))
    (((tt, tt), faithful s.names x), tt)

link_faithful : (s child : Scope) (l : Link) → Each FaithfulPart (link_part s child l)
link_faithful s child l = link_by s child l l.conn.value

instance_faithful : (source : Source) (s : Scope) (kind : Name) (settings : List Conn) (inst : Inst) → Each FaithfulPart (instance_parts source s kind settings inst)
instance_faithful source s kind settings inst =
    let ls : List Link = links_to (option_list (module_named source kind)) inst in
    each-flat FaithfulPart (λ child. flat_map (link_part s child) ls) (λ child. each-flat FaithfulPart (link_part s child) (link_faithful s child) ls)
    (instance_scopes s settings inst (module_named source kind))

always_faithful : (names : Names) (stmt : Stmt) (watch : Watch) → FaithfulBody (always_body names stmt watch)
always_faithful names stmt w.Star = tt
always_faithful names stmt w.Closed = tt
always_faithful names stmt (w.Posedge clock) = tt

assign_faithful : (s : Scope) (a : Continuous) → FaithfulPart (part s a.place (assign_sites s.names a) (Assign (pieces s.names a.target) (read_expr s.names a.value)))
assign_faithful s a = (pieces_faithful s.names a.target, faithful s.names a.value)

item_faithful : (source : Source) (s : Scope) (x : Item) → Each FaithfulPart (item_parts source s x)
item_faithful source s (i.Wire signed range names) = each-flat FaithfulPart (net_part s) (λ n. net_faithful s n n.value) names
item_faithful source s (i.Assign list) = each-mapped FaithfulPart (λ (a : Continuous). part s a.place (assign_sites s.names a) (Assign (pieces s.names a.target) (read_expr s.names a.value))) (assign_faithful s) list
item_faithful source s (i.Always watch stmt place) = (always_faithful s.names stmt watch, tt)
item_faithful source s (i.Instance kind settings insts) = each-flat FaithfulPart (instance_parts source s kind.name settings) (instance_faithful source s kind.name settings) insts
item_faithful source s _ = tt

pub parts_faithful : (d : Design) → Each FaithfulPart (parts d)
unfolding parts
parts_faithful d = each-flat FaithfulPart (scope_parts d.source) (λ s. each-flat FaithfulPart (item_parts d.source s) (item_faithful d.source s) s.items) (scopes_of d)
