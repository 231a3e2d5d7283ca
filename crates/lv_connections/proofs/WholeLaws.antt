-- The connections of an instance together.
use Rattle.std.proofs.Common.{◌≡◌, inl, inr, ℕ, true, false, ◌||◌, if◌then◌else◌, List, [], ◌∷◌, ◌++◌, map, refl, sym, ap, ◌∙◌, subst, Option, Some, None}
use Rattle.std.specs.Prelude.{flat_map, Contains, bytes_eq, not}
use Rattle.std.specs.List.{list_any}
use Rattle.std.proofs.lemmas.List.{append-nil, map-append}
use Rattle.std.proofs.lemmas.List.Elements.{Contains-append_left, Contains-append_right}
use Rattle.lv_ast.specs.declared.stmt.Ident.{Ident}
use Rattle.lv_ast.specs.declared.item.Conn.{Conn}
use Rattle.lv_ast.specs.declared.item.Inst.{Inst}
use Rattle.lv_ast.specs.declared.item.Item.TheVariants as i
use Rattle.lv_ast.specs.declared.item.Module.{Module}
use Rattle.lv_ast.specs.declared.item.Source.{Source}
use Rattle.lv_ast.specs.Names.{Name, alone}
use Rattle.lv_source.specs.Names.{Here, known}
use Rattle.lv_source.specs.Declarations.{port_names}
use Rattle.lv_source.specs.Scopes.{Scope, Link, here_at, module_named, instance_scope, instance_scopes, links}
use Rattle.lv_source.specs.ScopeRules.{inst_sites, inst_ports, no_target, unknown_ports, twice_linked, unlisted_names, place_if}
use Rattle.lv_source.specs.Sites.{Site, spots}
use Rattle.lv_source.specs.PartSites.{link_sites}
use Rattle.lv_source.specs.Parts.{Part, instance_parts, option_list, links_to}
use Rattle.lv_source.specs.Parts as parts
use Rattle.lv_source.specs.Views.{view_of}
use Rattle.lv_source.proofs.Refused.{In, in_contains, contains_in}
use Rattle.lv_source.proofs.Tests.{same_name}
use Rattle.lv_const.proofs.Told.{both-empty, first-empty, second-empty}
use Rattle.lv_scopes.specs.declared.table.NameTable.{NameTable}
use Rattle.lv_bindings.specs.declared.table.Table.{Table}
use Rattle.lv_flat.specs.declared.part.FlatPart.{FlatPart}
use Rattle.lv_flat.specs.Signals.{Signals}
use Rattle.lv_flat.specs.FlatViews.{flat_view}
use Rattle.lv_links.specs.declared.linked.Linked.{Linked}
use Rattle.lv_links.specs.declared.linked.LinkError.{LinkError}
use Rattle.lv_links.specs.declared.linked.LinkError.TheVariants as l
use Rattle.lv_links.specs.Linking.{all_links, AreLinked, IsLinkError}
use Rattle.lv_resolve.specs.Resolved.{AreFaultless}
use Rattle.lv_resolve.specs.declared.error.ResolveError.TheVariants as y
use Rattle.lv_faults.specs.declared.fault.Fault.TheVariants as f
use Rattle.lv_faults.specs.declared.fault.ScopeError.{ScopeError}
use Rattle.lv_faults.specs.declared.fault.ScopeError.TheVariants as e
use Rattle.lv_faults.specs.Faults.{IsItemFault}
use Rattle.lv_faults.proofs.InstanceFaults.{inst_told, port_told}
use Rattle.lv_connections.specs.Joined.{IsPlainPort, IsInstance, IsInstFault, IsPortFault, IsJoinFault, JoinsAll, JoinsNone, Joins, JoinsNot, AreParts, AreJoined, ArePlain, of_link, links_of}
use Rattle.lv_connections.proofs.PortLaws.{some-is}
use Rattle.lv_connections.proofs.JoinLaws.{fault-within}

-- ---- connections without their ports

pub link-fault : (ports : List Ident) (conns : List Conn) (z : LinkError) → IsLinkError ports conns z → IsPortFault ports conns (of_link z)
link-fault ports conns (l.Unlisted place) h = record {
  told = λ here. Contains-append_left (unknown_ports here.names ports conns) (twice_linked here.names (links ports conns)) place (h.1 here.names);
}
link-fault ports conns (l.Extra place) h = record {
  told = λ here. Contains-append_left (unknown_ports here.names ports conns) (twice_linked here.names (links ports conns)) place (h here.names).1;
}
link-fault ports conns (l.Twice place) h = record {
  told = λ here. Contains-append_right (unknown_ports here.names ports conns) (twice_linked here.names (links ports conns)) place (h here.names);
}
link-fault ports conns l.NoMemory h = record { told = λ here. tt }

-- ---- the ports that are connected

-- a name that is listed is that of a port
listed-port : (child : Scope) (name : Name) (ports : List Ident) → ((q : Ident) → In q ports → IsPlainPort child q.name) →
    list_any (λ q. bytes_eq q.name name) ports ≡ true → IsPlainPort child name
listed-port child name [] h k = cc
listed-port child name (q ∷ qs) h k =
    elim (bytes_eq q.name name) as (λ b. (b ≡ bytes_eq q.name name) → IsPlainPort child name) [
      | true ↦ λ e. subst (IsPlainPort child) (same_name q.name name (sym e)) (h q (inl refl))
      | false ↦ λ e. listed-port child name qs (λ p w. h p (inr w)) (ap (λ b. b || list_any (λ q. bytes_eq q.name name) qs) e ∙ k)
    ] refl

no-array : (child : Scope) (name : Name) → IsPlainPort child name → (known (child.names (alone name))).array ≡ None
no-array child name h = ap (λ o. (known o).array) h.there ∙ h.array

listed-one : (names : List Ident) (n : Ident) → place_if (not (list_any (λ q. bytes_eq q.name n.name) names)) n.place ≡ [] → list_any (λ q. bytes_eq q.name n.name) names ≡ true
listed-one names n h =
    elim (list_any (λ q. bytes_eq q.name n.name) names) as (λ b. place_if (not b) n.place ≡ [] → b ≡ true) [ true ↦ λ e. refl | false ↦ λ e. cc ] h

module _ (child : Scope) (all : List Ident) (h : (q : Ident) → In q all → IsPlainPort child q.name) where
  abbrev IsPlain : Link → Type 0
  IsPlain q = (known (child.names (alone q.port))).array ≡ None

  abbrev ArePorts : List Ident → Type 0
  ArePorts ports = (q : Ident) → In q ports → IsPlainPort child q.name

  abbrev ArePlainBehind : List Conn → Type 0
  ArePlainBehind cs = (ports : List Ident) → ArePorts ports → (q : Link) → In q (links ports cs) → IsPlain q

  abbrev names_by : Option Ident → List ℕ
  names_by o = elim o [ None ↦ [] | Some n ↦ place_if (not (list_any (λ q. bytes_eq q.name n.name) all)) n.place ]

  abbrev ordered : Conn → List Conn → List Ident → List Link
  ordered c cs ports = elim ports [ [] ↦ [] | ◌∷◌ q qs ↦ record { port = q.name; conn = c } ∷ links qs cs ]

  abbrev links_by : Conn → List Conn → List Ident → Option Ident → List Link
  links_by c cs ports o = elim o [
    | Some name ↦ record { port = name.name; conn = c } ∷ links ports cs
    | None ↦ elim ports [ [] ↦ [] | ◌∷◌ q qs ↦ record { port = q.name; conn = c } ∷ links qs cs ]
  ]

  plain-ordered : (c : Conn) (cs : List Conn) → ArePlainBehind cs → (ports : List Ident) → ArePorts ports → (q : Link) → In q (ordered c cs ports) → IsPlain q
  plain-ordered c cs ih [] g q w = absurd w
  plain-ordered c cs ih (n ∷ ns) g q (inl e) = subst IsPlain e (no-array child n.name (g n (inl refl)))
  plain-ordered c cs ih (n ∷ ns) g q (inr w) = ih ns (λ z v. g z (inr v)) q w

  plain-by : (c : Conn) (cs : List Conn) → ArePlainBehind cs → (ports : List Ident) → ArePorts ports → (o : Option Ident) → names_by o ≡ [] →
      (q : Link) → In q (links_by c cs ports o) → IsPlain q
  plain-by c cs ih ports g None u q w = plain-ordered c cs ih ports g q w
  plain-by c cs ih ports g (Some n) u q (inl e) = subst IsPlain e (no-array child n.name (listed-port child n.name all h (listed-one all n u)))
  plain-by c cs ih ports g (Some n) u q (inr w) = ih ports g q w

  pub plain-links : (conns : List Conn) → unlisted_names all conns ≡ [] → ArePlainBehind conns
  plain-links [] u ports g q w = absurd w
  plain-links (c ∷ cs) u ports g q w =
      plain-by c cs (plain-links cs (second-empty (names_by c.name) (unlisted_names all cs) u)) ports g c.name (first-empty (names_by c.name) (unlisted_names all cs) u) q w

-- ---- the instance

module _ (S : Signals) (here : Here) (path : Name) (m : Module) (inst : Inst) (t : Table) (outputs : NameTable) where
  module _ (source : Source) (s : Scope) (k : ℕ) (kind : Ident) (settings : List Conn) (w : IsInstance S here path m inst t outputs source s k kind settings) where
    abbrev child : Scope
    child = instance_scope s settings inst m

    abbrev sites : List Site
    sites = inst_sites source s s.names settings inst (module_named source kind.name)

    names-are : s.names ≡ here.names
    names-are = sym (ap (λ (h : Here). h.names) w.place)

    single : {A : Type 0} (g : Scope → List A) → flat_map g (instance_scopes s settings inst (Some m)) ≡ g child
    single g = ap (λ b. flat_map g (if b then [] else child ∷ [])) w.apart ∙ append-nil (g child)

    sites-are : sites ≡ flat_map (link_sites s.names child) (links_of m inst)
    sites-are = ap (λ o. inst_sites source s s.names settings inst o) w.named ∙ single (λ c. flat_map (link_sites s.names c) (links_of m inst))

    parts-are : instance_parts source s kind.name settings inst ≡ flat_map (parts.link_part s child) (links_of m inst)
    parts-are = ap (λ o. flat_map (λ c. flat_map (parts.link_part s c) (links_to (option_list o) inst)) (instance_scopes s settings inst o)) w.named ∙
        single (λ c. flat_map (parts.link_part s c) (links_of m inst))

    abbrev unlinked : List ℕ
    unlinked = unknown_ports s.names (port_names m.ports) inst.conns ++ twice_linked s.names (links_of m inst)

    ports-are : inst_ports source s s.names settings m inst ≡ unlinked ++ flat_map (no_target s.names child) (links_of m inst)
    ports-are = ap (λ ps. unlinked ++ ps) (single (λ c. flat_map (no_target s.names c) (links_of m inst)))

    nodes-are : spots here (flat_map (link_sites s.names child) (links_of m inst)) ≡ spots (here_at s k) sites
    nodes-are = ap (spots here) (sym sites-are) ∙ ap (λ h. spots h sites) w.place

    plain : unlisted_names (port_names m.ports) inst.conns ≡ [] → ArePlain child (links_of m inst)
    plain u q c = plain-links child (port_names m.ports) (λ z i. w.ports z (in_contains z (port_names m.ports) i)) inst.conns u
        (port_names m.ports) (λ z i. w.ports z (in_contains z (port_names m.ports) i)) q (contains_in q (links_of m inst) c)

    joined-parts : (ls : List Linked) → AreLinked (port_names m.ports) inst.conns ls → (old new : List FlatPart) → AreJoined S here s child (links_of m inst) old new →
        AreParts S source s k kind settings m inst old new
    joined-parts ls a old new j = record {
      more = j.more;
      adds = j.adds;
      views = ap (map (flat_view S)) j.adds ∙ (map-append (flat_view S) old j.more ∙
          ap (λ vs. map (flat_view S) old ++ vs) (j.views ∙ ap (map view_of) (sym parts-are)));
      good = λ o. j.good o (plain a.listed);
      faultless = record {
        nodes = subst AreFaultless nodes-are j.faultless;
        ports = λ n f. subst (λ (n : Module). inst_ports source s s.names settings n inst ≡ []) (some-is m n (sym w.named ∙ f))
            (ports-are ∙ both-empty unlinked (flat_map (no_target s.names child) (links_of m inst))
            (both-empty (unknown_ports s.names (port_names m.ports) inst.conns) (twice_linked s.names (links_of m inst)) (a.ports s.names) (a.once s.names)) j.targets);
      };
    }

    join-fault : (z : ScopeError) → IsJoinFault here s child (links_of m inst) z → IsInstFault source s k kind settings m inst z
    join-fault z h = fault-within (spots here (flat_map (link_sites s.names child) (links_of m inst))) (spots (here_at s k) sites)
        (flat_map (no_target s.names child) (links_of m inst)) (inst_ports source s s.names settings m inst)
        (λ g place c. subst (λ xs. Contains (flat_map g xs) place) nodes-are c)
        (λ place c. subst (λ ps. Contains ps place) (sym ports-are) (Contains-append_right unlinked (flat_map (no_target s.names child) (links_of m inst)) place c)) z h

    port-fault : (z : ScopeError) → IsPortFault (port_names m.ports) inst.conns z → IsInstFault source s k kind settings m inst z
    port-fault z h = fault-within [] (spots (here_at s k) sites) unlinked (inst_ports source s s.names settings m inst)
        (λ g place c. absurd (contains_in place [] c))
        (λ place c. subst (λ ps. Contains ps place) (sym ports-are) (Contains-append_left unlinked (flat_map (no_target s.names child) (links_of m inst)) place c)) z
        (h.told (record here { names = s.names }))

  pub joins : (ls : List Linked) → AreLinked (port_names m.ports) inst.conns ls → (old new : List FlatPart) → JoinsAll S here path t outputs (all_links ls) old new →
      Joins S here path m inst t outputs old new
  joins ls a old new j = record {
    at = λ source s k kind settings w. joined-parts source s k kind settings w ls a old new
        (subst (λ qs. AreJoined S here s (instance_scope s settings inst m) qs old new) a.are
        (j.at s (instance_scope s settings inst m) (names-are source s k kind settings w) w.path_is w.names));
  }

  pub joins-none : (ls : List Linked) → AreLinked (port_names m.ports) inst.conns ls → (z : ScopeError) → JoinsNone S here path t outputs (all_links ls) z →
      JoinsNot S here path m inst t outputs z
  joins-none ls a z j = record {
    at = λ source s k kind settings w. join-fault source s k kind settings w z
        (subst (λ qs. IsJoinFault here s (instance_scope s settings inst m) qs z) a.are
        (j.at s (instance_scope s settings inst m) (names-are source s k kind settings w) w.path_is w.names));
  }

  pub unlinked-none : (z : ScopeError) → IsPortFault (port_names m.ports) inst.conns z → JoinsNot S here path m inst t outputs z
  unlinked-none z h = record { at = λ source s k kind settings w. port-fault source s k kind settings w z h }

-- ---- what is told of an instance is told of its item

pub told-of-item : (source : Source) (s : Scope) (k : ℕ) (kind : Ident) (settings : List Conn) (insts : List Inst) (m : Module) (inst : Inst) (z : ScopeError) →
    module_named source kind.name ≡ Some m → Contains insts inst → IsInstFault source s k kind settings m inst z → IsItemFault source s (k, i.Instance kind settings insts) z
told-of-item source s k kind settings insts m inst (e.Fault (f.UnknownModule place)) n c h = absurd h
told-of-item source s k kind settings insts m inst (e.Fault (f.UnknownName place)) n c h = inst_told source s k kind settings insts inst (y.UnknownName place) c h
told-of-item source s k kind settings insts m inst (e.Fault (f.Duplicate place)) n c h = absurd h
told-of-item source s k kind settings insts m inst (e.Fault (f.NotConstant place)) n c h = inst_told source s k kind settings insts inst (y.NotConstant place) c h
told-of-item source s k kind settings insts m inst (e.Fault (f.ZeroDivisor place)) n c h = inst_told source s k kind settings insts inst (y.ZeroDivisor place) c h
told-of-item source s k kind settings insts m inst (e.Fault (f.Range place)) n c h = inst_told source s k kind settings insts inst (y.Range place) c h
told-of-item source s k kind settings insts m inst (e.Fault (f.Recursion place)) n c h = absurd h
told-of-item source s k kind settings insts m inst (e.Fault (f.Port place)) n c h = port_told source s k kind settings insts m inst place n c h
told-of-item source s k kind settings insts m inst e.NoMemory n c h = h
