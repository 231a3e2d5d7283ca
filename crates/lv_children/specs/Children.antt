-- What stands below a scope, item by item.
use Rattle.std.specs.Prelude.{◌≡◌, ℕ, List, [], ◌++◌, map, Contains, flat_map}
use Rattle.std.specs.Borrow.{Bor}
use Rattle.lv_resolve.specs.declared.error.ResolveError.TheVariants.{NoMemory}
use Rattle.lv_ast.specs.declared.stmt.Ident.{Ident}
use Rattle.lv_ast.specs.declared.item.Item.{Item}
use Rattle.lv_ast.specs.declared.item.Item.TheVariants as i
use Rattle.lv_ast.specs.declared.item.Module.{Module}
use Rattle.lv_ast.specs.declared.item.Source.{Source}
use Rattle.lv_ast.specs.declared.item.Conn.{Conn}
use Rattle.lv_ast.specs.declared.item.Inst.{Inst}
use Rattle.lv_ast.specs.Trees.{spread}
use Rattle.lv_ast.specs.Names.{Name}
use Rattle.lv_source.specs.Scopes.{Scope, instance_scope, turn_scope, children_by, module_named, links}
use Rattle.lv_source.specs.ScopeRules.{unknown_module_in, unknown_in_item, recursion_in, extra_settings, twice_linked, settable_of, ports_by}
use Rattle.lv_links.specs.declared.linked.LinkError.{LinkError}
use Rattle.lv_links.specs.declared.linked.LinkError.TheVariants as l
use Rattle.lv_children.specs.declared.child.Child.{Child}
use Rattle.lv_children.specs.declared.child.Child.TheVariants.{Instance, Turn}
use Rattle.lv_children.specs.declared.child.ChildError.{ChildError}
use Rattle.lv_children.specs.declared.child.ChildError.TheVariants as e

abbrev pub names_in : List (Bor Name) → List Name
names_in xs = map (λ x. x.now) xs

-- what a child is, without references
pub data Seen : Type 0 where
  InstanceOf : (m : Module) → (settings : List Conn) → (inst : Inst) → Seen
  TurnOf : (index label : Ident) → (items : List Item) → (value : ℕ) → Seen

abbrev pub seen : Child → Seen
seen (Instance m settings inst) = InstanceOf m.now settings.now inst.now
seen (Turn index label items value) = TurnOf index.now label.now items.now value

-- the scope that it is, in a scope where so many declarations stand before
abbrev pub child_scope : Scope → ℕ → Seen → Scope
child_scope s k (InstanceOf m settings inst) = instance_scope s settings inst m
child_scope s k (TurnOf index label items value) = turn_scope s k index label (flat_map spread items) value

abbrev pub all_seen : List Child → List Seen
all_seen cs = map seen cs

abbrev pub instance_of : Module → List Conn → Inst → Seen
instance_of m settings inst = InstanceOf m settings inst

abbrev pub turn_of : Ident → Ident → List Item → ℕ → Seen
turn_of index label items value = TurnOf index label items value

-- a scope of this source, around which these modules stand, its own among them
pub record IsWithin (modules : List Module) (around : List Name) (source : Source) (s : Scope) : Type 0 where
  pub modules_are : source.modules ≡ modules
  pub around_are : s.around ≡ around

-- the scopes of some are added
abbrev pub AddsScopes : Scope → ℕ → List Child → List Child → List Scope → Type 0
AddsScopes s k old new more = map (child_scope s k) (all_seen new) ≡ map (child_scope s k) (all_seen old) ++ more

-- these are the scopes of an item of instances, and nothing is told of its module and its settings
pub record AreInstances (source : Source) (s : Scope) (kind : Ident) (settings : List Conn) (insts : List Inst) (old new : List Child) : Type 0 where
  pub scopes : (k : ℕ) → AddsScopes s k old new (children_by source s (k, i.Instance kind settings insts))
  pub known : unknown_module_in source s.names (i.Instance kind settings insts) ≡ []
  pub named : unknown_in_item source s.names (i.Instance kind settings insts) ≡ []
  pub apart : recursion_in source s s.names (i.Instance kind settings insts) ≡ []
  pub few : extra_settings s.names (settable_of (module_named source kind.name)) settings ≡ []
  pub once : twice_linked s.names (links (settable_of (module_named source kind.name)) settings) ≡ []

-- the first fault of these that there is
abbrev pub AreNoInstances : Source → Scope → Ident → List Conn → List Inst → ChildError → Type 0
AreNoInstances source s kind settings insts (e.UnknownModule place) = Contains (unknown_module_in source s.names (i.Instance kind settings insts)) place
AreNoInstances source s kind settings insts (e.Recursion place) = Contains (recursion_in source s s.names (i.Instance kind settings insts)) place
AreNoInstances source s kind settings insts (e.UnknownSetting place) = Contains (unknown_in_item source s.names (i.Instance kind settings insts)) place
AreNoInstances source s kind settings insts (e.Port place) = Contains (ports_by source s s.names settings insts (module_named source kind.name)) place
AreNoInstances source s kind settings insts (e.Fault y) = y ≡ NoMemory
AreNoInstances source s kind settings insts e.Limit = ⊥

-- ---- for the proof

abbrev pub spec_told : LinkError → ChildError
spec_told (l.Unlisted place) = e.UnknownSetting place
spec_told (l.Extra place) = e.Port place
spec_told (l.Twice place) = e.Port place
spec_told l.NoMemory = e.Fault NoMemory
