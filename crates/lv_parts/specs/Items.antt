-- What is answered of an item that is no instance, where it stands.
use Rattle.std.specs.Prelude.{◌≡◌, ℕ, Bool, true, false, ◌||◌, List, [], None, Result, Ok, IfOk, IfErr}
use Rattle.std.specs.List.{list_all}
use Rattle.lv_ast.specs.declared.item.Item.{Item}
use Rattle.lv_ast.specs.declared.item.Item.TheVariants as i
use Rattle.lv_ast.specs.declared.item.NetName.{NetName}
use Rattle.lv_ast.specs.declared.item.Source.{Source}
use Rattle.lv_ast.specs.Names.{Name, alone}
use Rattle.lv_source.specs.Names.{Names, Here, known}
use Rattle.lv_source.specs.Scopes.{Scope, here_at}
use Rattle.lv_source.specs.ScopeRules.{standing_in}
use Rattle.lv_source.specs.Parts as parts
use Rattle.lv_flat.specs.declared.part.FlatPart.{FlatPart}
use Rattle.lv_flat.specs.Signals.{Signals}
use Rattle.lv_resolve_stmts.specs.Statements.{has_stmt_operands}
use Rattle.lv_faults.specs.Faults.{item_faults, IsFaultlessItem}
use Rattle.lv_parts.specs.declared.error.PartsError.{PartsError}
use Rattle.lv_parts.specs.Errors.{IsToldBy}
use Rattle.lv_parts.specs.Made.{AreAdded, AreAll}
use Rattle.lv_parts.specs.Nets.{has_net_operands, IsNet}
use Rattle.lv_parts.specs.Assigns.{has_assign_operands}
use Rattle.lv_parts.specs.Blocks.{HasEndless}

-- each operator has its number of operands, as the grammar gives it
abbrev pub has_item_operands : Item → Bool
has_item_operands (i.Wire signed range names) = list_all has_net_operands names
has_item_operands (i.Assign list) = list_all has_assign_operands list
has_item_operands (i.Always watch stmt place) = has_stmt_operands stmt
has_item_operands _ = true

abbrev pub nets_of : Item → List NetName
nets_of (i.Wire signed range names) = names
nets_of _ = []

abbrev pub is_instance : Item → Bool
is_instance (i.Instance kind settings insts) = true
is_instance _ = false

abbrev pub is_loop : Item → Bool
is_loop (i.Loop' index start test again next label n items) = true
is_loop _ = false

-- each net is a signal or a clock in the scope
abbrev pub AreNets : Names → Item → Type 0
AreNets names x = AreAll (IsNet names) (nets_of x)

-- and has no elements
abbrev pub HasNoElements : Names → NetName → Type 0
HasNoElements names n = (known (names (alone n.name.name))).array ≡ None

pub record IsWellItem (names : Names) (x : Item) : Type 0 where
  pub operands : has_item_operands x ≡ true
  pub arrays : AreAll (HasNoElements names) (nets_of x)

-- its parts are added, good where its operators have their operands and its nets have no elements; nothing is told of it, but for the header of a loop
pub record AreItemParts (S : Signals) (source : Source) (s : Scope) (k : ℕ) (x : Item) (old new : List FlatPart) : Type 0 where
  pub added : AreAdded S (parts.item_parts source s x) (IsWellItem s.names x) old new
  pub faultless : is_loop x ≡ false → IsFaultlessItem source s (k, x)

-- a fault of the item at its place; a loop in it that has more turns than are allowed; or want of memory
abbrev pub IsToldItem : Source → Scope → ℕ → Item → PartsError → Type 0
IsToldItem source s k x e = IsToldBy (λ kind. item_faults source kind s (k, x)) (HasEndless (standing_in (here_at s k) x)) e

pub record PartsAnswer (S : Signals) (source : Source) (s : Scope) (k : ℕ) (x : Item) (old new : List FlatPart) (r : Result (Unit {0}) PartsError) : Type 0 where
  pub right : IfOk r (λ u. AreItemParts S source s k x old new)
  pub wrong : IfErr r (IsToldItem source s k x)

-- in each scope with these names and this path, where so many declarations stand before the item
pub record ItemAnswer (S : Signals) (here : Here) (path : Name) (x : Item) (old new : List FlatPart) (r : Result (Unit {0}) PartsError) : Type 0 where
  pub at : (source : Source) (s : Scope) (k : ℕ) → here ≡ here_at s k → s.path ≡ path → is_instance x ≡ false → AreNets s.names x →
      PartsAnswer S source s k x old new r

-- instances and loops have no parts of their own
pub record AddsNothing (x : Item) (old new : List FlatPart) (r : Result (Unit {0}) PartsError) : Type 0 where
  pub same : is_instance x || is_loop x ≡ true → new ≡ old
  pub right : is_instance x || is_loop x ≡ true → r ≡ Ok tt
