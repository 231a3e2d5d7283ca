-- The answer on an item, from those on its parts.
use Rattle.std.proofs.Common.{◌≡◌, ℕ, ◌+◌, ◌<◌, ◌≤◌, true, List, [], ◌∷◌, map, length, ap, ◌∙◌, sym, subst, refl, arith, Result, Ok, Err}
use Rattle.lv_ast.specs.declared.expr.Expr.{Expr}
use Rattle.lv_ast.specs.declared.item.Item.{Item}
use Rattle.lv_ast.specs.declared.item.Item.TheVariants as i
use Rattle.lv_ast.specs.declared.stmt.Ident.{Ident}
use Rattle.lv_source.specs.Names.{Here}
use Rattle.lv_source.specs.Limits.{nodes_alone, item_size}
use Rattle.lv_source.specs.Scopes.{Scope}
use Rattle.lv_headers.specs.Headers.{IsHeaderFault}
use Rattle.lv_sizes.specs.declared.error.SizeError.{SizeError}
use Rattle.lv_sizes.specs.declared.size.Size.{Size}
use Rattle.lv_sizes.specs.Totals.{header_size}
use Rattle.lv_sizes.specs.Sizes.{IsTooMuch, IsSize, IsItemFault, ItemAnswer, NodesAnswer, LoopAnswer}

module _ (here : Here) (item : Item) (turns nodes : ℕ) where
  abbrev limit : Size
  limit = record { turns = turns; nodes = nodes }

  -- nodes alone
  pub nodes-item : (n : ℕ) (r : Result Size SizeError) → ((s : Scope) → item_size s item ≡ nodes_alone n) → NodesAnswer nodes n r → ItemAnswer here item turns nodes r
  nodes-item n (Ok z) e a = record {
    right = λ s h. subst (λ sz. IsSize turns nodes sz z) (sym (e s))
        (record {
          turns_are = a.right.turns_are;
          nodes_are = a.right.nodes_are;
          turns_few = omega (arith, a.right.turns_are);
          nodes_few = a.right.nodes_few;
        });
    wrong = λ s h. tt;
  }
  nodes-item n (Err y) e a = record {
    right = λ s h. tt;
    wrong = λ s h. subst (λ w. IsTooMuch limit (item_size s item) (IsItemFault here item) w) (sym a.wrong.0) (subst (λ sz. nodes < sz.nodes) (sym (e s)) a.wrong.1);
  }

  module _ (index again label : Ident) (start test next x z w : Expr) (items : List Item) (h : item ≡ i.Loop index start test again next label items)
      (p : x ≡ start) (q : z ≡ test) (u : w ≡ next) where
    loop-is : item ≡ i.Loop index x z again w label items
    loop-is =
        h ∙ (ap (λ m. i.Loop index m test again next label items) (sym p) ∙ (ap (λ m. i.Loop index x m again next label items) (sym q) ∙
        ap (λ m. i.Loop index x z again m label items) (sym u)))

    pub loop-item : (r : Result Size SizeError) → LoopAnswer here index x z again w turns nodes r → ItemAnswer here item turns nodes r
    loop-item (Ok m) a = record {
      right = λ s k. subst (λ sz. IsSize turns nodes sz m) (sym (ap (item_size s) loop-is ∙ ap (λ ns. header_size ns index x z w) k)) a.right;
      wrong = λ s k. tt;
    }
    loop-item (Err y) a = record {
      right = λ s k. tt;
      wrong = λ s k. subst (λ it. IsTooMuch limit (item_size s it) (IsItemFault here it) y) (sym loop-is)
          (subst (λ ns. IsTooMuch limit (header_size ns index x z w) (IsHeaderFault here true index x z again w) y) (sym k) a.wrong);
    }
