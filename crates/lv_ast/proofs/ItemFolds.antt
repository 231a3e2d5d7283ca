-- The items that stand in an item, by its form.
use Rattle.std.specs.Prelude.{◌≡◌, ℕ, suc, ◌+◌, List, [], ◌∷◌, ◌++◌, flat_map, map, sum, refl}
use Rattle.std.proofs.Common.{ap, sym, ◌∙◌}
use Rattle.std.proofs.lemmas.List.Sums.{sum_by-cons}
use Rattle.lv_ast.specs.declared.item.Item.{Item, Row_of-Item, end_of-Item, more_of-Item, items-the_row-Item, items_hidden-the_row-Item-0}
use Rattle.lv_ast.specs.declared.item.Item.TheBlock.{hidden-the_row-Item-0}
use Rattle.lv_ast.specs.declared.item.Item.TheVariants as i
use Rattle.lv_ast.specs.declared.expr.Expr.{Expr}
use Rattle.lv_ast.specs.declared.stmt.Ident.{Ident}
use Rattle.lv_ast.specs.Trees.{spread, spread_all, count_items, count_all}

spread-items : {n : _} (r : Row_of-Item n) → spread_all r ≡ flat_map spread (items-the_row-Item n r)
spread-items end_of-Item = refl
spread-items (more_of-Item x xs) = ap (λ ys. spread x ++ ys) (spread-items xs)

pub spread-Generate : (xs : List Item) → spread (i.Generate xs) ≡ flat_map spread xs
spread-Generate xs = spread-items (hidden-the_row-Item-0 xs) ∙ ap (λ ys. flat_map spread ys) (items_hidden-the_row-Item-0 xs)

pub spread-Loop : (index : Ident) (start test : Expr) (again : Ident) (next : Expr) (label : Ident) (xs : List Item) →
    spread (i.Loop index start test again next label xs) ≡ i.Loop index start test again next label xs ∷ []
spread-Loop index start test again next label xs = refl

count-items : {n : _} (r : Row_of-Item n) → count_all r ≡ sum (map count_items (items-the_row-Item n r))
count-items end_of-Item = refl
count-items (more_of-Item x xs) = ap (λ k. count_items x + k) (count-items xs) ∙ sym (sum_by-cons (λ (k : ℕ). k) (count_items x) (map count_items (items-the_row-Item _ xs)))

pub count-Generate : (xs : List Item) → count_items (i.Generate xs) ≡ suc (sum (map count_items xs))
count-Generate xs = ap suc (count-items (hidden-the_row-Item-0 xs) ∙ ap (λ ys. sum (map count_items ys)) (items_hidden-the_row-Item-0 xs))

pub count-Loop : (index : Ident) (start test : Expr) (again : Ident) (next : Expr) (label : Ident) (xs : List Item) →
    count_items (i.Loop index start test again next label xs) ≡ suc (sum (map count_items xs))
count-Loop index start test again next label xs =
    ap suc (count-items (hidden-the_row-Item-0 xs) ∙ ap (λ ys. sum (map count_items ys)) (items_hidden-the_row-Item-0 xs))
