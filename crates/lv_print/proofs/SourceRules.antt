-- The tokens of targets, statements and items, by the form of the tree.
use Rattle.std.proofs.Common.{◌≡◌, ℕ, ◌<◌, Bool, List, [], ◌∷◌, ◌++◌, map, length, Option, Some, None, refl, sym, ap, ◌∙◌, arith}
use Rattle.std.specs.Prelude.{codes}
use Rattle.lv_ast.specs.declared.expr.Path.{Path}
use Rattle.lv_ast.specs.declared.expr.Select.{Select}
use Rattle.lv_ast.specs.declared.expr.Expr.{Expr}
use Rattle.lv_ast.specs.declared.stmt.Ident.{Ident}
use Rattle.lv_ast.specs.declared.stmt.Target.{Target}
use Rattle.lv_ast.specs.declared.stmt.Target.TheVariants as t
use Rattle.lv_ast.specs.declared.stmt.Arm.{Arm}
use Rattle.lv_ast.specs.declared.stmt.Stmt.{Stmt}
use Rattle.lv_ast.specs.declared.stmt.Stmt.TheVariants as b
use Rattle.lv_ast.specs.declared.item.Range.{Range}
use Rattle.lv_ast.specs.declared.item.Params.{Params}
use Rattle.lv_ast.specs.declared.item.Aport.{Aport}
use Rattle.lv_ast.specs.declared.item.NetName.{NetName}
use Rattle.lv_ast.specs.declared.item.RegName.{RegName}
use Rattle.lv_ast.specs.declared.item.Continuous.{Continuous}
use Rattle.lv_ast.specs.declared.item.Watch.{Watch}
use Rattle.lv_ast.specs.declared.item.Conn.{Conn}
use Rattle.lv_ast.specs.declared.item.Inst.{Inst}
use Rattle.lv_ast.specs.declared.item.Item.{Item, Row_of-Item, end_of-Item, more_of-Item, items-the_row-Item, items_hidden-the_row-Item-0}
use Rattle.lv_ast.specs.declared.item.Item.TheBlock.{hidden-the_row-Item-0}
use Rattle.lv_ast.specs.declared.item.Item.TheVariants as i
use Rattle.lv_ast.proofs.StmtFolds as fold
use Rattle.lv_print.specs.Written.{Written, mark, word, commas, joined}
use Rattle.lv_print.specs.Expressions.{parens, braces, expr_tokens}
use Rattle.lv_print.specs.Sources.{end, ident_tokens, perhaps, named_tokens, target_step, target_tokens, params_tokens, port_tokens, net_tokens, reg_tokens, loop_tokens, label_tokens, else_tokens, else_stmt, case_word, assigned_tokens, stmt_step, labels_tokens, arm_step, stmt_tokens, arm_tokens, continuous_tokens, watch_tokens, hash, index_word, params_word, declared_tokens, instance_tokens, block_tokens, item_fold, items_fold, item_tokens}
use Rattle.lv_print.specs.declared.paper.Paper.{Paper}
use Rattle.lv_print.specs.Paper.{put, with_tokens}
use Rattle.lv_print.proofs.Papers.{writing, with-more, with-append}

pub target-Name : (path : Path) (ss : List Select) → target_tokens (t.Name path ss) ≡ named_tokens path ss
unfolding target_tokens
target-Name path ss = fold.fold_target-Name (List Written) target_step path ss

pub target-Cat : (ts : List Target) → target_tokens (t.Cat ts) ≡ braces (commas (map target_tokens ts))
unfolding target_tokens
target-Cat ts = fold.fold_target-Cat (List Written) target_step ts

pub stmt-Null : stmt_tokens b.Null ≡ end
unfolding stmt_tokens
stmt-Null = fold.fold_stmt-Null (List Written) (List Written) stmt_step arm_step

pub stmt-Block : (label : Option Ident) (ss : List Stmt) → stmt_tokens (b.Block label ss) ≡ word (codes "begin") ∷ (perhaps label_tokens label ++ (joined (map stmt_tokens ss) ++ (word
    (codes "end") ∷ [])))
unfolding stmt_tokens
stmt-Block label ss = fold.fold_stmt-Block (List Written) (List Written) stmt_step arm_step label ss

pub stmt-If : (c : Expr) (s : Stmt) → stmt_tokens (b.If c s None) ≡ word (codes "if") ∷ mark (codes "(") ∷ (expr_tokens c ++ (mark (codes ")") ∷ (stmt_tokens s ++ [])))
unfolding stmt_tokens
stmt-If c s = fold.fold_stmt-If (List Written) (List Written) stmt_step arm_step c s

pub stmt-If_else : (c : Expr) (s r : Stmt) → stmt_tokens (b.If c s (Some r)) ≡ word (codes "if") ∷ mark (codes "(") ∷ (expr_tokens c ++ (mark (codes ")") ∷ (stmt_tokens s ++ else_tokens
    (stmt_tokens r))))
unfolding stmt_tokens
stmt-If_else c s r = fold.fold_stmt-If_else (List Written) (List Written) stmt_step arm_step c s r

pub stmt-Case : (wild : Bool) (x : Expr) (arms : List Arm) →
    stmt_tokens (b.Case wild x arms) ≡ case_word wild ∷ mark (codes "(") ∷ (expr_tokens x ++ (mark (codes ")") ∷ (joined (map arm_tokens arms) ++ (word (codes "endcase") ∷ []))))
unfolding stmt_tokens
stmt-Case wild x arms = fold.fold_stmt-Case (List Written) (List Written) stmt_step arm_step wild x arms

pub stmt-Loop : (index : Ident) (start test : Expr) (again : Ident) (next : Expr) (s : Stmt) →
    stmt_tokens (b.Loop index start test again next s) ≡ loop_tokens index start test again next ++ stmt_tokens s
unfolding stmt_tokens
stmt-Loop index start test again next s = fold.fold_stmt-Loop (List Written) (List Written) stmt_step arm_step index start test again next s

pub stmt-Now : (x : Target) (y : Expr) (place : ℕ) → stmt_tokens (b.Now x y place) ≡ assigned_tokens (codes "=") x y
unfolding stmt_tokens
stmt-Now x y place = fold.fold_stmt-Now (List Written) (List Written) stmt_step arm_step x y place

pub stmt-Later : (x : Target) (y : Expr) (place : ℕ) → stmt_tokens (b.Later x y place) ≡ assigned_tokens (codes "<=") x y
unfolding stmt_tokens
stmt-Later x y place = fold.fold_stmt-Later (List Written) (List Written) stmt_step arm_step x y place

pub labels-none : (xs : List Expr) → length xs ≡ 0 → labels_tokens xs ≡ word (codes "default") ∷ []
labels-none [] h = refl
labels-none (x ∷ xs) h = absurd (omega (arith, h))

pub labels-some : (xs : List Expr) → 0 < length xs → labels_tokens xs ≡ commas (map expr_tokens xs)
labels-some [] h = absurd (omega (arith, h))
labels-some (x ∷ xs) h = refl

pub hash-none : {X : Type 0} (f : X → List Written) (xs : List X) → length xs ≡ 0 → hash (map f xs) ≡ []
hash-none f [] h = refl
hash-none f (x ∷ xs) h = absurd (omega (arith, h))

pub hash-some : {X : Type 0} (f : X → List Written) (xs : List X) → 0 < length xs → hash (map f xs) ≡ mark (codes "#") ∷ parens (commas (map f xs))
hash-some f [] h = absurd (omega (arith, h))
hash-some f (x ∷ xs) h = refl

-- ---- items

items-row : {n : _} (r : Row_of-Item n) → items_fold r ≡ map item_fold (items-the_row-Item n r)
items-row end_of-Item = refl
items-row (more_of-Item x xs) = ap (λ ys. item_fold x ∷ ys) (items-row xs)

items-hidden : (xs : List Item) → items_fold (hidden-the_row-Item-0 xs) ≡ map item_fold xs
items-hidden xs = items-row (hidden-the_row-Item-0 xs) ∙ ap (λ ys. map item_fold ys) (items_hidden-the_row-Item-0 xs)

pub item-Port : (a : Aport) → item_tokens (i.Port a) ≡ port_tokens a ++ end
unfolding item_tokens
item-Port a = refl

pub item-Wire : (signed : Bool) (range : Option Range) (names : List NetName) → item_tokens (i.Wire signed range names) ≡ declared_tokens (word (codes "wire")) signed range (map net_tokens names)
unfolding item_tokens
item-Wire signed range names = refl

pub item-Reg : (signed : Bool) (range : Option Range) (names : List RegName) → item_tokens (i.Reg signed range names) ≡ declared_tokens (word (codes "reg")) signed range (map reg_tokens names)
unfolding item_tokens
item-Reg signed range names = refl

pub item-Index : (genvar : Bool) (names : List Ident) → item_tokens (i.Index genvar names) ≡ index_word genvar ∷ (commas (map ident_tokens names) ++ end)
unfolding item_tokens
item-Index genvar names = refl

pub item-Params : (local : Bool) (p : Params) → item_tokens (i.Params local p) ≡ params_word local ∷ (params_tokens p ++ end)
unfolding item_tokens
item-Params local p = refl

pub item-Assign : (list : List Continuous) → item_tokens (i.Assign list) ≡ word (codes "assign") ∷ (commas (map continuous_tokens list) ++ end)
unfolding item_tokens
item-Assign list = refl

pub item-Always : (w : Watch) (s : Stmt) (place : ℕ) → item_tokens (i.Always w s place) ≡ word (codes "always") ∷ mark (codes "@") ∷ (watch_tokens w ++ stmt_tokens s)
unfolding item_tokens
item-Always w s place = refl

pub item-Instance : (x : Ident) (settings : List Conn) (list : List Inst) → item_tokens (i.Instance x settings list) ≡ instance_tokens x settings list
unfolding item_tokens
item-Instance x settings list = refl

pub item-Generate : (xs : List Item) → item_tokens (i.Generate xs) ≡ word (codes "generate") ∷ (joined (map item_tokens xs) ++ (word (codes "endgenerate") ∷ []))
unfolding item_tokens
item-Generate xs = ap (λ ys. word (codes "generate") ∷ (joined ys ++ (word (codes "endgenerate") ∷ []))) (items-hidden xs)

pub item-Loop : (index : Ident) (start test : Expr) (again : Ident) (next : Expr) (label : Ident) (xs : List Item) →
    item_tokens (i.Loop index start test again next label xs) ≡ loop_tokens index start test again next ++ block_tokens label (joined (map item_tokens xs))
unfolding item_tokens
item-Loop index start test again next label xs = ap (λ ys. loop_tokens index start test again next ++ block_tokens label (joined ys)) (items-hidden xs)

-- ---- as code writes them

stmt-If_any : (c : Expr) (s : Stmt) (other : Option Stmt) → stmt_tokens (b.If c s other) ≡ word (codes "if") ∷ mark (codes "(") ∷ (expr_tokens c ++ (mark (codes ")") ∷ (stmt_tokens s ++
    perhaps else_stmt other)))
stmt-If_any c s None = stmt-If c s
stmt-If_any c s (Some r) = stmt-If_else c s r

-- a token, tokens in parentheses, and more
parens-written : (p0 p1 p2 : Paper) (v : Written) (x y : List Written) → p1 ≡ put p0 v → p2 ≡ with_tokens p1 (parens x) →
    with_tokens p2 y ≡ with_tokens p0 (v ∷ mark (codes "(") ∷ (x ++ (mark (codes ")") ∷ y)))
unfolding with_tokens
parens-written p0 p1 p2 v x y h i =
    ap (λ z. with_tokens z y) (i ∙ ap (λ z. with_tokens z (parens x)) h ∙ with-append (put (put p0 v) (mark (codes "("))) x (mark (codes ")") ∷ [])) ∙
    sym (with-append (put (put p0 v) (mark (codes "("))) x (mark (codes ")") ∷ y))

two-written : (p2 p3 : Paper) (x y : List Written) → p3 ≡ with_tokens p2 x → with_tokens p3 y ≡ with_tokens p2 (x ++ y)
two-written p2 p3 x y h = ap (λ z. with_tokens z y) h ∙ sym (with-append p2 x y)

last-written : (p3 : Paper) (v : Written) → put p3 v ≡ with_tokens p3 (v ∷ [])
unfolding with_tokens
last-written p3 v = refl

pub if_written : (x s r : Stmt) (c : Expr) (other : Option Stmt) (p0 p1 p2 p3 : Paper) → x ≡ b.If c s other → r ≡ s → p1 ≡ put p0 (word (codes "if")) → p2 ≡ with_tokens p1 (parens (expr_tokens c)) →
    p3 ≡ with_tokens p2 (stmt_tokens r) → with_tokens p3 (perhaps else_stmt other) ≡ with_tokens p0 (stmt_tokens x)
if_written x s r c other p0 p1 p2 p3 e f h i j =
    two-written p2 p3 (stmt_tokens s) (perhaps else_stmt other) (j ∙ ap (λ z. with_tokens p2 (stmt_tokens z)) f) ∙
    parens-written p0 p1 p2 (word (codes "if")) (expr_tokens c) (stmt_tokens s ++ perhaps else_stmt other) h i ∙ ap (with_tokens p0) (sym (ap stmt_tokens e ∙ stmt-If_any c s other))

pub case_written : (x : Stmt) (wild : Bool) (c : Expr) (list arms : List Arm) (p0 p1 p2 p3 : Paper) → x ≡ b.Case wild c arms → list ≡ arms → p1 ≡ put p0 (case_word wild) →
    p2 ≡ with_tokens p1 (parens (expr_tokens c)) → p3 ≡ with_tokens p2 (joined (map arm_tokens list)) → put p3 (word (codes "endcase")) ≡ with_tokens p0 (stmt_tokens x)
case_written x wild c list arms p0 p1 p2 p3 e f h i j =
    last-written p3 (word (codes "endcase")) ∙ two-written p2 p3 (joined (map arm_tokens arms)) (word (codes "endcase") ∷ []) (j ∙ ap (λ z. with_tokens p2 (joined (map arm_tokens z))) f) ∙
    parens-written p0 p1 p2 (case_word wild) (expr_tokens c) (joined (map arm_tokens arms) ++ (word (codes "endcase") ∷ [])) h i ∙ ap (with_tokens p0) (sym (ap stmt_tokens e ∙ stmt-Case wild c arms))

pub generate_written : (x : Item) (list xs : List Item) (p0 p1 p2 : Paper) → x ≡ i.Generate xs → list ≡ xs → p1 ≡ put p0 (word (codes "generate")) →
    p2 ≡ with_tokens p1 (joined (map item_tokens list)) →
    put p2 (word (codes "endgenerate")) ≡ with_tokens p0 (item_tokens x)
generate_written x list xs p0 p1 p2 e f h i =
    last-written p2 (word (codes "endgenerate")) ∙ two-written p1 p2 (joined (map item_tokens xs)) (word (codes "endgenerate") ∷ []) (i ∙ ap (λ z. with_tokens p1 (joined (map item_tokens z))) f) ∙
    ap (λ z. with_tokens z (joined (map item_tokens xs) ++ (word (codes "endgenerate") ∷ []))) h ∙ sym (with-more p0 (word (codes "generate")) _) ∙
    ap (with_tokens p0) (sym (ap item_tokens e ∙ item-Generate xs))

pub ruleset source_rules = (
  writing,
  target-Name,
  target-Cat,
  stmt-Null,
  stmt-Block,
  stmt-If,
  stmt-If_else,
  stmt-Case,
  stmt-Loop,
  stmt-Now,
  stmt-Later,
  labels-none,
  labels-some,
  item-Port,
  item-Wire,
  item-Reg,
  item-Index,
  item-Params,
  item-Assign,
  item-Always,
  item-Instance,
  item-Generate,
  item-Loop,
)

pub ruleset module_rules = (writing)
