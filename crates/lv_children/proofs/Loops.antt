-- The scopes of the turns of a loop.
use Rattle.std.proofs.Common.{◌≡◌, ℕ, List, [], ◌∷◌, ◌++◌, map, refl, sym, ap, ◌∙◌}
use Rattle.std.specs.Prelude.{flat_map}
use Rattle.std.proofs.lemmas.List.{map-append}
use Rattle.lv_ast.specs.declared.stmt.Ident.{Ident}
use Rattle.lv_ast.specs.declared.expr.Expr.{Expr}
use Rattle.lv_ast.specs.declared.item.Item.{Item}
use Rattle.lv_ast.specs.declared.item.Item.TheVariants as i
use Rattle.lv_ast.specs.declared.item.Source.{Source}
use Rattle.lv_ast.specs.Trees.{spread}
use Rattle.lv_ast.proofs.ItemFolds.{spread-Generate}
use Rattle.lv_source.specs.Names.{Names}
use Rattle.lv_source.specs.Effect.{turns}
use Rattle.lv_source.specs.Scopes.{Scope, turn_scope, children_by}
use Rattle.lv_children.specs.declared.child.Child.{Child}
use Rattle.lv_children.specs.Children.{all_seen, child_scope, turn_of, AddsScopes}

module _ (source : Source) (s : Scope) (k : ℕ) (index : Ident) (start test : Expr) (again : Ident) (next : Expr) (label : Ident) (items : List Item) where
  by_turns : (values : List ℕ) → map (child_scope s k) (map (turn_of index label items) values) ≡ map (turn_scope s k index label (flat_map spread items)) values
  by_turns [] = refl
  by_turns (v ∷ vs) = ap (λ ys. turn_scope s k index label (flat_map spread items) v ∷ ys) (by_turns vs)

  pub loop_scopes : (names : Names) → s.names ≡ names → (old new : List Child) (values : List ℕ) → values ≡ turns names index.name start test next →
      all_seen new ≡ all_seen old ++ map (turn_of index label items) values → AddsScopes s k old new (children_by source s (k, i.Loop index start test again next label items))
  loop_scopes names same old new values are adds =
      ap (map (child_scope s k)) adds ∙ (map-append (child_scope s k) (all_seen old) (map (turn_of index label items) values) ∙
      ap (λ ys. map (child_scope s k) (all_seen old) ++ ys)
      (by_turns values ∙ (ap (λ vs. map (turn_scope s k index label (flat_map spread items)) vs) (are ∙ ap (λ ns. turns ns index.name start test next) (sym same)) ∙
      ap (λ ys. map (turn_scope s k index label ys) (turns s.names index.name start test next)) (sym (spread-Generate items)))))
