-- The turns of a generate loop, as what stands below a scope.
use Rattle.std.specs.Prelude.{◌≡◌, ℕ, ◌<◌, ◌≤◌, true, List, [], length}
use Rattle.lv_ast.specs.declared.stmt.Ident.{Ident}
use Rattle.lv_ast.specs.declared.expr.Expr.{Expr}
use Rattle.lv_ast.specs.declared.item.Item.{Item}
use Rattle.lv_ast.specs.declared.item.Item.TheVariants as i
use Rattle.lv_ast.specs.declared.item.Source.{Source}
use Rattle.lv_source.specs.Names.{Here}
use Rattle.lv_source.specs.Effect.{turns}
use Rattle.lv_source.specs.Scopes.{Scope, children_by}
use Rattle.lv_source.specs.ScopeRules.{header_names}
use Rattle.lv_source.specs.Standing.{header_spots}
use Rattle.lv_resolve.specs.Resolved.{AreFaultless}
use Rattle.lv_headers.specs.Headers.{IsHeaderFault}
use Rattle.lv_children.specs.declared.child.Child.{Child}
use Rattle.lv_children.specs.declared.child.ChildError.{ChildError}
use Rattle.lv_children.specs.declared.child.ChildError.TheVariants as e
use Rattle.lv_children.specs.Children.{AddsScopes}

-- these are the scopes of a loop, and nothing is told of its header
pub record AreTurns (here : Here) (index : Ident) (start test : Expr) (again : Ident) (next : Expr) (label : Ident) (items : List Item) (most : ℕ) (old new : List Child) : Type 0 where
  pub scopes : (source : Source) (s : Scope) (k : ℕ) → s.names ≡ here.names →
      AddsScopes s k old new (children_by source s (k, i.Loop index start test again next label items))
  pub few : length (turns here.names index.name start test next) ≤ most
  pub faultless : AreFaultless (header_spots here index start test next)
  pub named : header_names true here.names index again ≡ []

-- a fault of the header, or too many turns
abbrev pub AreNoTurns : Here → Ident → Expr → Expr → Ident → Expr → ℕ → ChildError → Type 0
AreNoTurns here index start test again next most (e.UnknownModule place) = ⊥
AreNoTurns here index start test again next most (e.Recursion place) = ⊥
AreNoTurns here index start test again next most (e.UnknownSetting place) = ⊥
AreNoTurns here index start test again next most (e.Port place) = ⊥
AreNoTurns here index start test again next most (e.Fault y) = IsHeaderFault here true index start test again next y
AreNoTurns here index start test again next most e.Limit = most < length (turns here.names index.name start test next)
