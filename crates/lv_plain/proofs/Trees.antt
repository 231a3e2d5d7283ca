-- Plain statements and items by the form of the tree, as code builds it.
use Rattle.std.proofs.Common.{◌≡◌, ℕ, Bool, true, ◌&&◌, List, [], ◌∷◌, map, refl, sym, ap, ◌∙◌, Option, Some, None}
use Rattle.std.specs.List.{list_all}
use Rattle.lv_ast.specs.declared.expr.Expr.{Expr}
use Rattle.lv_ast.specs.declared.stmt.Ident.{Ident}
use Rattle.lv_ast.specs.declared.stmt.Arm.{Arm}
use Rattle.lv_ast.specs.declared.stmt.Stmt.{Stmt}
use Rattle.lv_ast.specs.declared.stmt.Target.{Target}
use Rattle.lv_ast.specs.declared.stmt.Stmt.TheVariants as b
use Rattle.lv_ast.specs.declared.item.Item.{Item, Row_of-Item, end_of-Item, more_of-Item, items-the_row-Item, items_hidden-the_row-Item-0}
use Rattle.lv_ast.specs.declared.item.Item.TheBlock.{hidden-the_row-Item-0}
use Rattle.lv_ast.specs.declared.item.Item.TheVariants as i
use Rattle.lv_ast.specs.PlainNames.{is_plain, plain_label, plain_step, plain_arm, plain_stmt, plain_item, plain_items}
use Rattle.lv_ast.proofs.StmtFolds.{fold_stmt-Null, fold_stmt-Block, fold_stmt-If, fold_stmt-If_else, fold_stmt-Case, fold_stmt-Loop, fold_stmt-Now, fold_stmt-Later}
use Rattle.lv_plain.proofs.Names.{and-both}
use Rattle.lv_plain.proofs.Gives.{Each, Maybe}

pub all_of : {A : Type 0} (q : A → Bool) (xs : List A) → Each (λ x. q x ≡ true) xs → list_all q xs ≡ true
all_of q [] h = refl
all_of q (x ∷ xs) h = and-both (q x) (list_all q xs) h.0 (all_of q xs h.1)

all_mapped : {A : Type 0} (q : A → Bool) (xs : List A) → Each (λ x. q x ≡ true) xs → list_all (λ b. b) (map q xs) ≡ true
all_mapped q [] h = refl
all_mapped q (x ∷ xs) h = and-both (q x) (list_all (λ b. b) (map q xs)) h.0 (all_mapped q xs h.1)

pub null_plain : plain_stmt b.Null ≡ true
unfolding plain_stmt
null_plain = fold_stmt-Null Bool Bool plain_step plain_arm

pub block_plain : (name : Option Ident) (ss : List Stmt) → plain_label name ≡ true → Each (λ s. plain_stmt s ≡ true) ss → plain_stmt (b.Block name ss) ≡ true
unfolding plain_stmt
block_plain name ss h k = fold_stmt-Block Bool Bool plain_step plain_arm name ss ∙ and-both (plain_label name) _ h (all_mapped plain_stmt ss k)

pub if_plain : (c : Expr) (s : Stmt) (o : Option Stmt) → plain_stmt s ≡ true → Maybe (λ t. plain_stmt t ≡ true) o → plain_stmt (b.If c s o) ≡ true
unfolding plain_stmt
if_plain c s None h k = fold_stmt-If Bool Bool plain_step plain_arm c s ∙ and-both (plain_stmt s) true h refl
if_plain c s (Some t) h k = fold_stmt-If_else Bool Bool plain_step plain_arm c s t ∙ and-both (plain_stmt s) (plain_stmt t) h k

arms_mapped : (xs : List Arm) → Each (λ (a : Arm). plain_stmt a.body ≡ true) xs → list_all (λ b. b) (map (λ (a : Arm). plain_stmt a.body) xs) ≡ true
arms_mapped xs h = all_mapped (λ (a : Arm). plain_stmt a.body) xs h

pub case_plain : (wild : Bool) (x : Expr) (arms : List Arm) → Each (λ (a : Arm). plain_stmt a.body ≡ true) arms → plain_stmt (b.Case wild x arms) ≡ true
unfolding plain_stmt
case_plain wild x arms h = fold_stmt-Case Bool Bool plain_step plain_arm wild x arms ∙ arms_mapped arms h

pub loop_plain : (index : Ident) (start test : Expr) (again : Ident) (next : Expr) (s : Stmt) → plain_stmt s ≡ true → plain_stmt (b.Loop index start test again next s) ≡ true
unfolding plain_stmt
loop_plain index start test again next s h = fold_stmt-Loop Bool Bool plain_step plain_arm index start test again next s ∙ h

pub now_plain : (t : Target) (x : Expr) (place : ℕ) → plain_stmt (b.Now t x place) ≡ true
unfolding plain_stmt
now_plain t x place = fold_stmt-Now Bool Bool plain_step plain_arm t x place

pub later_plain : (t : Target) (x : Expr) (place : ℕ) → plain_stmt (b.Later t x place) ≡ true
unfolding plain_stmt
later_plain t x place = fold_stmt-Later Bool Bool plain_step plain_arm t x place

-- ---- items

plain-rows : {n : _} (r : Row_of-Item n) → plain_items r ≡ list_all plain_item (items-the_row-Item n r)
plain-rows end_of-Item = refl
plain-rows (more_of-Item x xs) = ap (λ b. plain_item x && b) (plain-rows xs)

pub generate_plain : (xs : List Item) → Each (λ x. plain_item x ≡ true) xs → plain_item (i.Generate xs) ≡ true
generate_plain xs h = plain-rows (hidden-the_row-Item-0 xs) ∙ (ap (λ ys. list_all plain_item ys) (items_hidden-the_row-Item-0 xs) ∙ all_of plain_item xs h)

pub for_plain : (index : Ident) (start test : Expr) (again : Ident) (next : Expr) (label : Ident) (xs : List Item) → is_plain label ≡ true → Each (λ x. plain_item x ≡ true) xs →
    plain_item (i.Loop index start test again next label xs) ≡ true
for_plain index start test again next label xs h k =
    and-both (is_plain label) (plain_items (hidden-the_row-Item-0 xs)) h (plain-rows (hidden-the_row-Item-0 xs) ∙ (ap (λ ys. list_all plain_item ys) (items_hidden-the_row-Item-0 xs) ∙ all_of plain_item xs k))
