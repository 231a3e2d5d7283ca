-- What is told of a scope, item by item and declaration by declaration.
use Rattle.std.specs.Prelude.{◌≡◌, ℕ, Bool, true, false, List, [], ◌++◌, flat_map, Contains, ⊤}
use Rattle.lv_ast.specs.declared.item.Item.{Item}
use Rattle.lv_ast.specs.declared.item.Source.{Source}
use Rattle.lv_source.specs.Declarations.{Declaration}
use Rattle.lv_source.specs.Faults.{site_faults, scope_faults}
use Rattle.lv_source.specs.Legal.{Kind, UnknownModule, UnknownName, Duplicate, NotConstant, ZeroDivisor, Range, Recursion, Port}
use Rattle.lv_source.specs.Parts.{numbered_from}
use Rattle.lv_source.specs.Scopes.{Scope, here_at, counted_items}
use Rattle.lv_source.specs.ScopeRules.{item_spots, standing_in, declaration_sites, unknown_module_in, unknown_in_form, unknown_in_item, two_defaults, declared_again, range_fault, range_in_form, range_in_item, recursion_in, ports_in_item, port_directions, two_ranges}
use Rattle.lv_source.specs.Sites.{spots}
use Rattle.lv_resolve.specs.declared.error.ResolveError.{ResolveError}
use Rattle.lv_resolve.specs.declared.error.ResolveError.TheVariants as y
use Rattle.lv_faults.specs.declared.fault.Fault.{Fault}
use Rattle.lv_faults.specs.declared.fault.Fault.TheVariants as f
use Rattle.lv_faults.specs.declared.fault.ScopeError.{ScopeError}
use Rattle.lv_faults.specs.declared.fault.ScopeError.TheVariants as e

-- ---- a fault by its kind and its place

abbrev pub kind_of : Fault → Kind
kind_of (f.UnknownModule p) = UnknownModule
kind_of (f.UnknownName p) = UnknownName
kind_of (f.Duplicate p) = Duplicate
kind_of (f.NotConstant p) = NotConstant
kind_of (f.ZeroDivisor p) = ZeroDivisor
kind_of (f.Range p) = Range
kind_of (f.Recursion p) = Recursion
kind_of (f.Port p) = Port

abbrev pub place_of : Fault → ℕ
place_of (f.UnknownModule p) = p
place_of (f.UnknownName p) = p
place_of (f.Duplicate p) = p
place_of (f.NotConstant p) = p
place_of (f.ZeroDivisor p) = p
place_of (f.Range p) = p
place_of (f.Recursion p) = p
place_of (f.Port p) = p

abbrev pub of_node : ResolveError → ScopeError
of_node (y.UnknownName p) = e.Fault (f.UnknownName p)
of_node (y.NotConstant p) = e.Fault (f.NotConstant p)
of_node (y.ZeroDivisor p) = e.Fault (f.ZeroDivisor p)
of_node (y.Range p) = e.Fault (f.Range p)
of_node y.NoMemory = e.NoMemory

-- the kinds that are told of scopes, apart from those that the rules on parts tell
abbrev pub is_scope_kind : Kind → Bool
is_scope_kind UnknownModule = true
is_scope_kind UnknownName = true
is_scope_kind Duplicate = true
is_scope_kind NotConstant = true
is_scope_kind ZeroDivisor = true
is_scope_kind Range = true
is_scope_kind Recursion = true
is_scope_kind Port = true
is_scope_kind _ = false

-- ---- an item where it stands

-- but for those of its nodes
abbrev pub item_rules : Source → Kind → Scope → ℕ × Item → List ℕ
item_rules source UnknownModule s x = unknown_module_in source s.names x.1
item_rules source UnknownName s x = flat_map unknown_in_form (standing_in (here_at s x.0) x.1) ++ unknown_in_item source s.names x.1
item_rules source Duplicate s x = flat_map two_defaults (standing_in (here_at s x.0) x.1)
item_rules source Range s x = flat_map range_in_form (standing_in (here_at s x.0) x.1) ++ range_in_item s.names x.1
item_rules source Recursion s x = recursion_in source s s.names x.1
item_rules source Port s x = ports_in_item source s s.names x.1
item_rules source _ s x = []

abbrev pub item_faults : Source → Kind → Scope → ℕ × Item → List ℕ
item_faults source kind s x = flat_map (site_faults kind) (item_spots source s (here_at s x.0) x.1) ++ item_rules source kind s x

abbrev pub IsItemFault : Source → Scope → ℕ × Item → ScopeError → Type 0
IsItemFault source s x (e.Fault a) = Contains (item_faults source (kind_of a) s x) (place_of a)
IsItemFault source s x e.NoMemory = ⊤

pub record IsFaultlessItem (source : Source) (s : Scope) (x : ℕ × Item) : Type 0 where
  pub none : (kind : Kind) → is_scope_kind kind ≡ true → item_faults source kind s x ≡ []

pub record AreFaultlessItems (source : Source) (s : Scope) : Type 0 where
  pub each : (x : ℕ × Item) → Contains (counted_items s) x → IsFaultlessItem source s x

-- ---- a declaration where it stands

abbrev pub declaration_rules : Kind → Scope → ℕ × Declaration → List ℕ
declaration_rules Duplicate s x = declared_again s x
declaration_rules Range s x = range_fault s.names x.1
declaration_rules Port s x = two_ranges s x.1
declaration_rules _ s x = []

abbrev pub declaration_faults : Kind → Scope → ℕ × Declaration → List ℕ
declaration_faults kind s x = flat_map (site_faults kind) (spots (here_at s x.0) (declaration_sites s.names x.1)) ++ declaration_rules kind s x

abbrev pub IsDeclarationFault : Scope → ℕ × Declaration → ScopeError → Type 0
IsDeclarationFault s x (e.Fault a) = Contains (declaration_faults (kind_of a) s x) (place_of a)
IsDeclarationFault s x e.NoMemory = ⊤

pub record AreFaultlessDeclarations (s : Scope) : Type 0 where
  pub each : (kind : Kind) (x : ℕ × Declaration) → is_scope_kind kind ≡ true → Contains (numbered_from 0 s.declarations) x → declaration_faults kind s x ≡ []
  pub directions : port_directions s ≡ []

-- ---- a scope

abbrev pub IsFaultIn : Source → Scope → ScopeError → Type 0
IsFaultIn source s (e.Fault a) = Contains (scope_faults source (kind_of a) s) (place_of a)
IsFaultIn source s e.NoMemory = ⊤

pub record IsFaultless (source : Source) (s : Scope) : Type 0 where
  pub none : (kind : Kind) → is_scope_kind kind ≡ true → scope_faults source kind s ≡ []
