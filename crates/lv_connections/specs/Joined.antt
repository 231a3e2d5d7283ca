-- The parts that the connections of an instance are.
use Rattle.std.specs.Prelude.{◌≡◌, ℕ, ◌+◌, Bool, true, false, List, [], ◌++◌, map, Option, Some, None, slice_get, bytes_eq, flat_map, Contains, ⊤}
use Rattle.std.specs.List.{list_any, list_all}
use Rattle.lv_ast.specs.declared.stmt.Ident.{Ident}
use Rattle.lv_ast.specs.declared.item.Conn.{Conn}
use Rattle.lv_ast.specs.declared.item.Inst.{Inst}
use Rattle.lv_ast.specs.declared.item.Module.{Module}
use Rattle.lv_ast.specs.declared.item.Source.{Source}
use Rattle.lv_ast.specs.Names.{Name, alone}
use Rattle.lv_source.specs.Names.{Here, Declared, known}
use Rattle.lv_source.specs.Declarations.{port_names, declared_as}
use Rattle.lv_source.specs.Scopes.{Scope, Link, here_at, module_named, instance_scope, is_among, is_output, links}
use Rattle.lv_source.specs.ScopeRules.{inst_sites, inst_ports, no_target, unknown_ports, twice_linked}
use Rattle.lv_source.specs.Sites.{Spot, spots}
use Rattle.lv_source.specs.PartSites.{link_sites}
use Rattle.lv_source.specs.Parts.{is_declared_sort, instance_parts, option_list}
use Rattle.lv_source.specs.Parts as parts
use Rattle.lv_source.specs.Views.{view_of}
use Rattle.lv_scopes.specs.declared.table.NameTable.{NameTable}
use Rattle.lv_scopes.specs.NameLists.{listed}
use Rattle.lv_symbols.specs.Frames.{Frame}
use Rattle.lv_bindings.specs.declared.table.Binding.{Binding}
use Rattle.lv_bindings.specs.declared.table.Binding.TheVariants as b
use Rattle.lv_bindings.specs.declared.table.Table.{Table}
use Rattle.lv_bindings.specs.Tables.{bound_in}
use Rattle.lv_bindings.specs.Standing.{IsTable}
use Rattle.lv_flat.specs.declared.part.FlatPart.{FlatPart}
use Rattle.lv_flat.specs.Signals.{Signals, signal_at}
use Rattle.lv_flat.specs.FlatViews.{flat_view}
use Rattle.lv_flat.specs.Good.{are_good}
use Rattle.lv_links.specs.declared.linked.LinkError.{LinkError}
use Rattle.lv_links.specs.declared.linked.LinkError.TheVariants as l
use Rattle.lv_resolve.specs.declared.error.ResolveError.TheVariants as y
use Rattle.lv_resolve.specs.Resolved.{AreFaultless, IsToldOf}
use Rattle.lv_sinks.specs.declared.port.Port.{Port}
use Rattle.lv_sinks.specs.declared.error.PartError.{PartError}
use Rattle.lv_sinks.specs.declared.error.PartError.TheVariants as p
use Rattle.lv_sinks.specs.Connected.{IsPort, IsLinkPart, has_link_operands}
use Rattle.lv_faults.specs.declared.fault.Fault.TheVariants as f
use Rattle.lv_faults.specs.declared.fault.ScopeError.{ScopeError}
use Rattle.lv_faults.specs.declared.fault.ScopeError.TheVariants as e
use Rattle.lv_faults.specs.Faults.{of_node}
use Rattle.lv_faults.specs.Instances.{IsFaultlessInst}

-- ---- the scope of the instance

-- these signals and clocks stand in the list of all from this number on
pub record StandFrom (S : Signals) (first : ℕ) (own : List Declared) : Type 0 where
  pub each : (j : ℕ) (d : Declared) → slice_get own j ≡ Some d → signal_at S (first + j) ≡ d

-- the table has the names of the scope, whose signals and clocks stand among all, and the list its outputs
pub record HasNames (S : Signals) (t : Table) (outputs : NameTable) (child : Scope) : Type 0 where
  pub first : ℕ
  pub own : List Declared
  pub frame : Frame
  pub scope : frame.scope ≡ child
  pub table : IsTable first own t frame
  pub signals : StandFrom S first own
  pub outputs_are : (name : Name) → list_any (bytes_eq name) (listed outputs) ≡ list_any is_output (declared_as name child.declarations)

-- a port stands there for a signal or clock that is no array
pub record IsPlainPort (child : Scope) (name : Name) : Type 0 where
  pub is : Declared
  pub there : child.names (alone name) ≡ Some is
  pub sort : is_declared_sort is.sort ≡ true
  pub array : is.array ≡ None

-- ---- an instance where it stands

-- in a scope of the source, at a place with these names and this path; its module doesn't stand around it, and so it has a scope
pub record IsInstance (S : Signals) (here : Here) (path : Name) (m : Module) (inst : Inst) (t : Table) (outputs : NameTable)
    (source : Source) (s : Scope) (k : ℕ) (kind : Ident) (settings : List Conn) : Type 0 where
  pub place : here ≡ here_at s k
  pub path_is : s.path ≡ path
  pub named : module_named source kind.name ≡ Some m
  pub apart : is_among s.around m.name.name ≡ false
  pub names : HasNames S t outputs (instance_scope s settings inst m)
  pub ports : (q : Ident) → Contains (port_names m.ports) q → IsPlainPort (instance_scope s settings inst m) q.name

abbrev pub links_of : Module → Inst → List Link
links_of m inst = links (port_names m.ports) inst.conns

-- its parts behind those before; they are good where the operators of the connections have their operands; nothing is told of it
pub record AreParts (S : Signals) (source : Source) (s : Scope) (k : ℕ) (kind : Ident) (settings : List Conn) (m : Module) (inst : Inst)
    (old new : List FlatPart) : Type 0 where
  pub more : List FlatPart
  pub adds : new ≡ old ++ more
  pub views : map (flat_view S) new ≡ map (flat_view S) old ++ map view_of (instance_parts source s kind.name settings inst)
  pub good : list_all has_link_operands (links_of m inst) ≡ true → are_good S more ≡ true
  pub faultless : IsFaultlessInst source s k kind settings inst

-- a fault of one of these nodes, or one of a port at one of these places
abbrev pub IsFaultOf : List Spot → List ℕ → ScopeError → Type 0
IsFaultOf xs ps (e.Fault (f.UnknownModule place)) = ⊥
IsFaultOf xs ps (e.Fault (f.UnknownName place)) = IsToldOf xs (y.UnknownName place)
IsFaultOf xs ps (e.Fault (f.Duplicate place)) = ⊥
IsFaultOf xs ps (e.Fault (f.NotConstant place)) = IsToldOf xs (y.NotConstant place)
IsFaultOf xs ps (e.Fault (f.ZeroDivisor place)) = IsToldOf xs (y.ZeroDivisor place)
IsFaultOf xs ps (e.Fault (f.Range place)) = IsToldOf xs (y.Range place)
IsFaultOf xs ps (e.Fault (f.Recursion place)) = ⊥
IsFaultOf xs ps (e.Fault (f.Port place)) = Contains ps place
IsFaultOf xs ps e.NoMemory = ⊤

abbrev pub IsInstFault : Source → Scope → ℕ → Ident → List Conn → Module → Inst → ScopeError → Type 0
IsInstFault source s k kind settings m inst z =
    IsFaultOf (spots (here_at s k) (inst_sites source s s.names settings inst (module_named source kind.name))) (inst_ports source s s.names settings m inst) z

-- wherever the instance stands there
pub record Joins (S : Signals) (here : Here) (path : Name) (m : Module) (inst : Inst) (t : Table) (outputs : NameTable) (old new : List FlatPart) : Type 0 where
  pub at : (source : Source) (s : Scope) (k : ℕ) (kind : Ident) (settings : List Conn) → IsInstance S here path m inst t outputs source s k kind settings →
      AreParts S source s k kind settings m inst old new

pub record JoinsNot (S : Signals) (here : Here) (path : Name) (m : Module) (inst : Inst) (t : Table) (outputs : NameTable) (z : ScopeError) : Type 0 where
  pub at : (source : Source) (s : Scope) (k : ℕ) (kind : Ident) (settings : List Conn) → IsInstance S here path m inst t outputs source s k kind settings →
      IsInstFault source s k kind settings m inst z

-- ---- for the proof

abbrev pub of_link : LinkError → ScopeError
of_link (l.Unlisted place) = e.Fault (f.Port place)
of_link (l.Extra place) = e.Fault (f.Port place)
of_link (l.Twice place) = e.Fault (f.Port place)
of_link l.NoMemory = e.NoMemory

abbrev pub of_part : PartError → ScopeError
of_part (p.NoTarget place) = e.Fault (f.Port place)
of_part (p.Fault z) = of_node z
of_part p.NoMemory = e.NoMemory

-- a port that the module hasn't, or one with two connections
pub record IsPortFault (ports : List Ident) (conns : List Conn) (z : ScopeError) : Type 0 where
  pub told : (here : Here) → IsFaultOf [] (unknown_ports here.names ports conns ++ twice_linked here.names (links ports conns)) z

-- the port of a name, by what the name is bound to and whether it is listed
abbrev pub port_by : Option Binding → Bool → Option Port
port_by None output = None
port_by (Some (b.Signal k)) output = Some (record { signal = k; output = output })
port_by (Some b.Constant) output = None
port_by (Some (b.Index genvar)) output = None
port_by (Some b.Other) output = None

abbrev pub bound_port : Table → NameTable → Name → Option Port
bound_port t outputs name = port_by (bound_in t name) (list_any (bytes_eq name) (listed outputs))

-- the part of one connection behind those before
pub record IsJoined (S : Signals) (here : Here) (s child : Scope) (q : Link) (old new : List FlatPart) : Type 0 where
  pub part : Option FlatPart
  pub adds : new ≡ old ++ option_list part
  pub is : IsLinkPart S here s child q part

abbrev pub IsJoinFault : Here → Scope → Scope → List Link → ScopeError → Type 0
IsJoinFault here s child ls z = IsFaultOf (spots here (flat_map (link_sites s.names child) ls)) (flat_map (no_target s.names child) ls) z

-- the ports of these connections are no arrays
abbrev pub ArePlain : Scope → List Link → Type 0
ArePlain child ls = (q : Link) → Contains ls q → (known (child.names (alone q.port))).array ≡ None

-- the parts of some connections
pub record AreJoined (S : Signals) (here : Here) (s child : Scope) (ls : List Link) (old new : List FlatPart) : Type 0 where
  pub more : List FlatPart
  pub adds : new ≡ old ++ more
  pub views : map (flat_view S) more ≡ map view_of (flat_map (parts.link_part s child) ls)
  pub good : list_all has_link_operands ls ≡ true → ArePlain child ls → are_good S more ≡ true
  pub faultless : AreFaultless (spots here (flat_map (link_sites s.names child) ls))
  pub targets : flat_map (no_target s.names child) ls ≡ []

-- in each scope with these names and this path, of an instance with this table and these outputs
pub record JoinsAll (S : Signals) (here : Here) (path : Name) (t : Table) (outputs : NameTable) (ls : List Link) (old new : List FlatPart) : Type 0 where
  pub at : (s child : Scope) → s.names ≡ here.names → s.path ≡ path → HasNames S t outputs child → AreJoined S here s child ls old new

pub record JoinsNone (S : Signals) (here : Here) (path : Name) (t : Table) (outputs : NameTable) (ls : List Link) (z : ScopeError) : Type 0 where
  pub at : (s child : Scope) → s.names ≡ here.names → s.path ≡ path → HasNames S t outputs child → IsJoinFault here s child ls z

-- of a port with this number
pub record JoinsOne (S : Signals) (here : Here) (path : Name) (port : Port) (q : Link) (old new : List FlatPart) : Type 0 where
  pub at : (s child : Scope) → s.names ≡ here.names → s.path ≡ path → IsPort S child q.port port → IsJoined S here s child q old new

pub record JoinsNotOne (S : Signals) (here : Here) (path : Name) (port : Port) (q : Link) (z : ScopeError) : Type 0 where
  pub at : (s child : Scope) → s.names ≡ here.names → s.path ≡ path → IsPort S child q.port port →
      IsFaultOf (spots here (link_sites s.names child q)) (no_target s.names child q) z
