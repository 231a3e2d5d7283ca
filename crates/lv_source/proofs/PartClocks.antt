-- Uses of clocks in the expressions of scopes are told by their parts, where no port is at fault.
use Rattle.std.proofs.Common.{◌≡◌, ℕ, suc, ◌+◌, Bool, true, false, ◌&&◌, List, [], ◌∷◌, ◌++◌, map, length, inl, inr, subst, refl, sym, ap, ◌∙◌, Option, Some, None}
use Rattle.std.specs.Prelude.{flat_map, drop, if◌then◌else◌}
use Rattle.std.specs.List.{list_any}
use Rattle.std.proofs.lemmas.Grind.{flat_map-append}
use Rattle.lv_ast.specs.declared.expr.Expr.{Expr}
use Rattle.lv_ast.specs.declared.item.Item.{Item}
use Rattle.lv_ast.specs.declared.item.Item.TheVariants as i
use Rattle.lv_ast.specs.declared.item.Range.{Range}
use Rattle.lv_ast.specs.declared.item.Continuous.{Continuous}
use Rattle.lv_ast.specs.declared.item.NetName.{NetName}
use Rattle.lv_ast.specs.declared.item.Conn.{Conn}
use Rattle.lv_ast.specs.declared.item.Inst.{Inst}
use Rattle.lv_ast.specs.declared.item.Module.{Module}
use Rattle.lv_ast.specs.declared.item.Source.{Source}
use Rattle.lv_ast.specs.Names.{Name, alone}
use Rattle.lv_source.specs.Names.{Names, Here, known, is_clock_sort}
use Rattle.lv_source.specs.Meaning.{Reading, read_expr}
use Rattle.lv_source.specs.Effect.{Piece, pieces}
use Rattle.lv_source.specs.Declarations.{Thing, Direction, Wire, Reg, Parameter, Index, Instance, Label, Declaration, of_item, port_names, declared_as}
use Rattle.lv_source.specs.Scopes.{Scope, Link, module_named, instance_scopes, links, is_clock, is_output, here_at, counted_from, settable_in, setting_width}
use Rattle.lv_source.specs.Sites.{Site, Spot, spots, expr_sites, sink_sites}
use Rattle.lv_source.specs.PartSites.{port_width, assign_sites, link_sites, stmt_sites, clocks_in}
use Rattle.lv_source.specs.Parts.{Design, Part, At, Assign, part, net_part, output_part, link_body, link_part, instance_parts, item_parts, scope_parts, parts, scopes_of, whole_piece, whole_value, as_target, links_to, option_list, numbered_from}
use Rattle.lv_source.specs.ScopeRules.{is_none, conn_if, conn_places, first_in, no_target, inst_ports, ports_by, ports_in_item, ports, at_items, maybe_sites, range_sites, declaration_sites, parameter_width, inst_sites, setting_sites, item_spots, clock_uses, unknown_ports, twice_linked, extra_settings, settable_of, port_directions}
use Rattle.lv_source.specs.Legal.{Port, ClockUse, places_of, in_scopes, top_clock}
use Rattle.lv_source.specs.Views.{at_view, views_of, named_clocks, clock_views}
use Rattle.lv_source.proofs.Refused.{In}
use Rattle.lv_source.proofs.FaultLaws.{append-left, append-right, scopes_clean}
use Rattle.lv_source.proofs.Bridges.{two, map-join, each, bridge_clocks}
use Rattle.lv_source.proofs.Facts.{some_same}
use Rattle.lv_source.proofs.ClockNames.{uses, spots_use, uses_join, both_nothing, flat_silent, fixed_silent, header_silent, stmt_use, flat-flat}

nil-right : {A : Type 0} (xs : List A) → xs ≡ xs ++ []
nil-right [] = refl
nil-right (x ∷ xs) = ap (λ zs. x ∷ zs) (nil-right xs)

abbrev at_path : Name → ℕ → At
at_path path place = record { path = path; place = place }

abbrev part_clocks : List Part → List At
part_clocks ps = flat_map (λ p. map (at_path p.at.path) p.clocks) ps

-- the sites tell what the parts tell
abbrev Told : Scope → List ℕ → List Part → Type 0
Told s ns ps = map (at_path s.path) ns ≡ part_clocks ps

join_told : (s : Scope) (ms ns : List ℕ) (ps qs : List Part) → Told s ms ps → Told s ns qs → Told s (ms ++ ns) (ps ++ qs)
join_told s ms ns ps qs h k =
    map-join (at_path s.path) ms ns ∙ (two (λ (a b : List At). a ++ b) _ _ _ _ h k ∙ sym (flat_map-append (λ p. map (at_path p.at.path) p.clocks) ps qs))

sites_told : {A : Type 0} (s : Scope) (f : A → List Site) (g : A → List Part) (xs : List A) → ((x : A) → In x xs → Told s (clocks_in (f x)) (g x)) → Told s (clocks_in (flat_map f xs)) (flat_map g xs)
sites_told s f g [] h = refl
sites_told s f g (x ∷ xs) h =
    ap (map (at_path s.path)) (flat_map-append _ (f x) (flat_map f xs)) ∙
    join_told s (clocks_in (f x)) (clocks_in (flat_map f xs)) (g x) (flat_map g xs) (h x (inl refl)) (sites_told s f g xs (λ y j. h y (inr j)))

one_told : (s : Scope) (place : ℕ) (sites : List Site) (body : _) → Told s (clocks_in sites) (part s place sites body ∷ [])
one_told s place sites body = nil-right (map (at_path s.path) (clocks_in sites))

-- ---- items

net_told : (s : Scope) (n : NetName) (o : Option Expr) →
    Told s (clocks_in (maybe_sites false s.names (port_width s n.name.name) o)) (elim o [
      | None ↦ []
      | Some x ↦ part s n.name.place (expr_sites false s.names (port_width s n.name.name) x) (Assign (whole_piece s.names n.name.place n.name.name ∷ []) (read_expr s.names x)) ∷ []
    ])
net_told s n None = refl
net_told s n (Some x) = nil-right (map (at_path s.path) (clocks_in (expr_sites false s.names (port_width s n.name.name) x)))

assigns_told : (s : Scope) (list : List Continuous) →
    Told s (clocks_in (flat_map (assign_sites s.names) list)) (map (λ (a : Continuous). part s a.place (assign_sites s.names a) (Assign (pieces s.names a.target) (read_expr s.names a.value))) list)
assigns_told s [] = refl
assigns_told s (a ∷ list) =
    ap (map (at_path s.path)) (flat_map-append _ (assign_sites s.names a) (flat_map (assign_sites s.names) list)) ∙
    (map-join (at_path s.path) (clocks_in (assign_sites s.names a)) (clocks_in (flat_map (assign_sites s.names) list)) ∙
    ap (λ (ns : List At). map (at_path s.path) (clocks_in (assign_sites s.names a)) ++ ns) (assigns_told s list))

never_empty : (xs : List ℕ) (y : ℕ) (ys : List ℕ) → xs ++ y ∷ ys ≡ [] → ⊥
never_empty [] y ys h = cc
never_empty (x ∷ xs) y ys h = cc

told_conn : (names : Names) (c : Conn) → conn_places names c ≡ [] → ⊥
told_conn names c h = never_empty (elim c.name [ None ↦ [] | Some n ↦ n.place ∷ [] ]) c.place (elim c.value [ None ↦ [] | Some x ↦ first_in names x ∷ [] ]) h

output_told : (s : Scope) (place : ℕ) (sites : List Site) (value : Reading) (o : Option (List Piece)) → (is_none o ≡ true → ⊥) → Told s (clocks_in sites) (output_part s place sites value o)
output_told s place sites value None h = absurd (h refl)
output_told s place sites value (Some ps) h = nil-right (map (at_path s.path) (clocks_in sites))

link_if : (s : Scope) (a b : Bool) (xs ys : List Site) (ps qs : List Part) → (b ≡ true → Told s (clocks_in xs) ps) → Told s (clocks_in ys) qs →
    Told s (clocks_in (if a then [] else if b then xs else ys)) (if a then [] else if b then ps else qs)
link_if s true b xs ys ps qs h k = refl
link_if s false true xs ys ps qs h k = h refl
link_if s false false xs ys ps qs h k = k

conn_by : (names : Names) (c : Conn) (b n : Bool) → conn_if (b && n) names c ≡ [] → b ≡ true → n ≡ true → ⊥
conn_by names c true true h e f = told_conn names c h
conn_by names c true false h e f = cc
conn_by names c false n h e f = cc

link_by : (s child : Scope) (l : Link) (o : Option Expr) →
    elim o as (λ _. List ℕ) [ None ↦ [] | Some x ↦ conn_if (list_any is_output (declared_as l.port child.declarations) && is_none (as_target s.names x)) s.names l.conn ] ≡ [] →
    Told s (clocks_in (elim o as (λ _. List Site) [
      | None ↦ []
      | Some x ↦
          (if is_clock s.names x && is_clock_sort (known (child.names (alone l.port))).sort then []
          else if list_any is_output (declared_as l.port child.declarations) then sink_sites s.names x
          else expr_sites false s.names (port_width child l.port) x)
    ])) (elim o as (λ _. List Part) [ None ↦ [] | Some x ↦ link_body s child l x ])
link_by s child l None h = refl
link_by s child l (Some x) h =
    link_if s (is_clock s.names x && is_clock_sort (known (child.names (alone l.port))).sort) (list_any is_output (declared_as l.port child.declarations)) (sink_sites s.names x)
    (expr_sites false s.names (port_width child l.port) x) (output_part s l.conn.place (sink_sites s.names x) (whole_value child.names l.port) (as_target s.names x))
    (part s l.conn.place (expr_sites false s.names (port_width child l.port) x) (Assign (whole_piece child.names l.conn.place l.port ∷ []) (read_expr s.names x)) ∷ [])
    (λ b. output_told s l.conn.place (sink_sites s.names x) (whole_value child.names l.port) (as_target s.names x) (conn_by s.names l.conn _ (is_none (as_target s.names x)) h b))
    (nil-right (map (at_path s.path) (clocks_in (expr_sites false s.names (port_width child l.port) x))))

none_of : {A B : Type 0} (f : A → List B) (xs : List A) → flat_map f xs ≡ [] → (x : A) → In x xs → f x ≡ []
none_of f [] h x i = absurd i
none_of f (y ∷ ys) h x (inl e) = ap f (sym e) ∙ append-left (f y) (flat_map f ys) h
none_of f (y ∷ ys) h x (inr i) = none_of f ys (append-right (f y) (flat_map f ys) h) x i

module _ (source : Source) (s : Scope) where
  inst_told : (kind : Name) (settings : List Conn) (inst : Inst) (o : Option Module) → ((m : Module) → o ≡ Some m → inst_ports source s s.names settings m inst ≡ []) →
      Told s (clocks_in (inst_sites source s s.names settings inst o)) (flat_map (λ child. flat_map (link_part s child) (links_to (option_list o) inst)) (instance_scopes s settings inst o))
  inst_told kind settings inst None f = refl
  inst_told kind settings inst (Some m) f =
      let ls : List Link = links (port_names m.ports) inst.conns in
      let clean : flat_map (λ child. flat_map (no_target s.names child) ls) (instance_scopes s settings inst (Some m)) ≡ [] =
      append-right (unknown_ports s.names (port_names m.ports) inst.conns ++ twice_linked s.names ls) _ (f m refl) in
      sites_told s (λ child. flat_map (link_sites s.names child) ls) (λ child. flat_map (link_part s child) ls) (instance_scopes s settings inst (Some m))
      (λ child j. sites_told s (link_sites s.names child) (link_part s child) ls
      (λ l k. link_by s child l l.conn.value (none_of (no_target s.names child) ls (none_of (λ child. flat_map (no_target s.names child) ls) _ clean child j) l k)))

  maybe_silent : (names : Names) (width : ℕ) (o : Option Expr) → clocks_in (maybe_sites true names width o) ≡ []
  maybe_silent names width None = refl
  maybe_silent names width (Some x) = fixed_silent names width x

  flat_fixed : {A : Type 0} (f : A → List Site) (xs : List A) → ((x : A) → clocks_in (f x) ≡ []) → clocks_in (flat_map f xs) ≡ []
  flat_fixed f [] h = refl
  flat_fixed f (x ∷ xs) h = both_nothing (f x) (flat_map f xs) (h x) (flat_fixed f xs h)

  if_fixed : (b : Bool) (xs : List Site) → clocks_in xs ≡ [] → clocks_in (if b then xs else []) ≡ []
  if_fixed true xs h = h
  if_fixed false xs h = refl

  settings_silent : (settings : List Conn) (o : Option Module) → clocks_in (setting_sites s s.names settings o) ≡ []
  settings_silent settings None = flat_fixed (λ c. maybe_sites true s.names 0 c.value) settings (λ c. maybe_silent s.names 0 c.value)
  settings_silent settings (Some m) =
      both_nothing (flat_map (λ l. maybe_sites true s.names (setting_width s.names settings m l.port) l.conn.value) (links (settable_in m) settings))
      (flat_map (λ c. if is_none c.name then maybe_sites true s.names 0 c.value else []) (drop (length (settable_in m)) settings))
      (flat_fixed (λ l. maybe_sites true s.names (setting_width s.names settings m l.port) l.conn.value) (links (settable_in m) settings) (λ l. maybe_silent s.names _ l.conn.value))
      (flat_fixed (λ c. if is_none c.name then maybe_sites true s.names 0 c.value else []) (drop (length (settable_in m)) settings)
      (λ c. if_fixed (is_none c.name) (maybe_sites true s.names 0 c.value) (maybe_silent s.names 0 c.value)))

  by_module : (settings : List Conn) (insts : List Inst) (o : Option Module) → ports_by source s s.names settings insts o ≡ [] → (inst : Inst) → In inst insts → (m : Module) → o ≡ Some m →
      inst_ports source s s.names settings m inst ≡ []
  by_module settings insts None h inst j m e = cc
  by_module settings insts (Some n) h inst j m e =
      subst (λ (z : Module). inst_ports source s s.names settings z inst ≡ []) (some_same n m e)
      (none_of (inst_ports source s s.names settings n) insts
      (append-right (extra_settings s.names (settable_of (Some n)) settings ++ twice_linked s.names (links (settable_of (Some n)) settings)) _ h) inst j)

  sites_of_spots : (here : Here) (xs : List Site) (ps : List Part) → Told s (clocks_in xs) ps → Told s (uses (spots here xs)) ps
  sites_of_spots here xs ps h = ap (map (at_path s.path)) (spots_use here xs) ∙ h

  item_told : (k : ℕ) (x : Item) → ports_in_item source s s.names x ≡ [] → Told s (uses (item_spots source s (here_at s k) x)) (item_parts source s x)
  item_told k (i.Wire signed range nets) h =
      sites_of_spots (here_at s k) (flat_map (λ n. maybe_sites false s.names (port_width s n.name.name) n.value) nets) (flat_map (net_part s) nets)
      (sites_told s (λ n. maybe_sites false s.names (port_width s n.name.name) n.value) (net_part s) nets (λ n j. net_told s n n.value))
  item_told k (i.Assign list) h = sites_of_spots (here_at s k) (flat_map (assign_sites s.names) list)
      (map (λ (a : Continuous). part s a.place (assign_sites s.names a) (Assign (pieces s.names a.target) (read_expr s.names a.value))) list) (assigns_told s list)
  item_told k (i.Always watch stmt place) h =
      ap (map (at_path s.path)) (stmt_use (here_at s k) stmt) ∙ nil-right (map (at_path s.path) (clocks_in (stmt_sites s.names stmt)))
  item_told k (i.Instance kind settings insts) h =
      let m : Option Module = module_named source kind.name in
      let as' : List Site = setting_sites s s.names settings m in
      let bs : List Site = flat_map (λ inst. inst_sites source s s.names settings inst m) insts in
      sites_of_spots (here_at s k) (as' ++ bs) (flat_map (instance_parts source s kind.name settings) insts)
      (ap (map (at_path s.path)) (flat_map-append _ as' bs ∙ ap (λ ns. ns ++ clocks_in bs) (settings_silent settings m)) ∙
      sites_told s (λ inst. inst_sites source s s.names settings inst m) (instance_parts source s kind.name settings) insts
      (λ inst j. inst_told kind.name settings inst m (by_module settings insts m h inst j)))
  item_told k (i.Loop' index start test again next label n items) h = ap (map (at_path s.path)) (header_silent (here_at s k) index start test next)
  item_told k (i.Port a) h = refl
  item_told k (i.Reg signed range names) h = refl
  item_told k (i.Index genvar names) h = refl
  item_told k (i.Params local ps) h = refl
  item_told k (i.Generate' n items) h = refl

  items_told : (k : ℕ) (xs : List Item) → flat_map (ports_in_item source s s.names) xs ≡ [] →
      Told s (uses (flat_map (λ (kx : ℕ × Item). item_spots source s (here_at s kx.0) kx.1) (counted_from k xs))) (flat_map (item_parts source s) xs)
  items_told k [] h = refl
  items_told k (x ∷ xs) h =
      ap (map (at_path s.path)) (uses_join (item_spots source s (here_at s k) x) _) ∙
      join_told s (uses (item_spots source s (here_at s k) x)) _ (item_parts source s x) (flat_map (item_parts source s) xs)
      (item_told k x (append-left (ports_in_item source s s.names x) _ h)) (items_told (k + length (of_item x)) xs (append-right (ports_in_item source s s.names x) _ h))

  -- ---- declarations

  range_silent : (names : Names) (o : Option Range) → clocks_in (range_sites names o) ≡ []
  range_silent names None = refl
  range_silent names (Some r) = both_nothing (expr_sites true names 0 r.left) (expr_sites true names 0 r.right) (fixed_silent names 0 r.left) (fixed_silent names 0 r.right)

  thing_silent : (name : _) (t : Thing) → clocks_in (declaration_sites s.names (record { name = name; thing = t })) ≡ []
  thing_silent name (Direction o word signed range) = range_silent s.names range
  thing_silent name (Wire signed range) = range_silent s.names range
  thing_silent name (Reg signed range array) = both_nothing (range_sites s.names range) (range_sites s.names array) (range_silent s.names range) (range_silent s.names array)
  thing_silent name (Parameter local signed range value) =
      both_nothing (range_sites s.names range) (expr_sites true s.names (parameter_width s.names range) value) (range_silent s.names range) (fixed_silent s.names (parameter_width s.names range) value)
  thing_silent name (Index g) = refl
  thing_silent name Instance = refl
  thing_silent name Label = refl

  scope_told : ports source s ≡ [] → Told s (clock_uses source s) (scope_parts source s)
  scope_told h =
      let ds : List Spot = flat_map (λ (kd : ℕ × Declaration). spots (here_at s kd.0) (declaration_sites s.names kd.1)) (numbered_from 0 s.declarations) in
      let xs : List Spot = flat_map (λ (kx : ℕ × Item). item_spots source s (here_at s kx.0) kx.1) (counted_from s.header s.items) in
      ap (map (at_path s.path)) (uses_join ds xs ∙ ap (λ ns. ns ++ uses xs)
      (flat_silent (λ (kd : ℕ × Declaration). spots (here_at s kd.0) (declaration_sites s.names kd.1)) (numbered_from 0 s.declarations)
      (λ kd. spots_use (here_at s kd.0) (declaration_sites s.names kd.1) ∙ thing_silent kd.1.name kd.1.thing))) ∙
      items_told s.header s.items (append-left (at_items (ports_in_item source s) s) _ (append-left (at_items (ports_in_item source s) s ++ port_directions s) _ h))

-- ---- the design

unnumbered : (f : Part → List At) (ps : List Part) (j : ℕ) → flat_map (λ (kp : ℕ × Part). f kp.1) (numbered_from j ps) ≡ flat_map f ps
unnumbered f [] j = refl
unnumbered f (p ∷ ps) j = ap (λ ns. f p ++ ns) (unnumbered f ps (suc j))

all_told : (d : Design) (ss : List Scope) → ((s : Scope) → In s ss → ports d.source s ≡ []) →
    flat_map (λ (s : Scope). map (at_path s.path) (clock_uses d.source s)) ss ≡ flat_map (λ s. part_clocks (scope_parts d.source s)) ss
all_told d [] h = refl
all_told d (s ∷ ss) h = two (λ (a b : List At). a ++ b) _ _ _ _ (scope_told d.source s (h s (inl refl))) (all_told d ss (λ u j. h u (inr j)))

-- where no port is at fault
pub clocks_told : (d : Design) → places_of d Port ≡ [] → in_scopes d (clock_uses d.source) ≡ named_clocks (views_of d)
unfolding places_of parts
clocks_told d h =
    all_told d (scopes_of d) (scopes_clean (ports d.source) (scopes_of d) h) ∙
    (sym (flat-flat (λ (p : Part). map (at_path p.at.path) p.clocks) (scope_parts d.source) (scopes_of d)) ∙
    (sym (unnumbered (λ p. map (at_path p.at.path) p.clocks) (parts d) 0) ∙
    each (λ k p. map (at_path p.at.path) p.clocks) (λ k v. map (at_view v) v.clocks) (parts d) 0 (λ k p. refl)))

pub clock_rule : (d : Design) → places_of d Port ≡ [] → places_of d ClockUse ≡ top_clock d ++ named_clocks (views_of d) ++ clock_views (views_of d)
unfolding places_of
clock_rule d h = two (λ (a b : List At). top_clock d ++ a ++ b) _ _ _ _ (clocks_told d h) (bridge_clocks d)
