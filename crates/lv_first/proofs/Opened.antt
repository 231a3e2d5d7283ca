-- What stands in a tree: its selects, its operands, its statements.
use Rattle.std.proofs.Common.{◌≡◌, List, [], refl, sym, ap, ◌∙◌}
use Rattle.std.specs.Prelude.{Option}
use Rattle.lv_bits.specs.declared.op.Op.{Op}
use Rattle.lv_ast.specs.declared.expr.Path.{Path}
use Rattle.lv_ast.specs.declared.expr.Select.{Select}
use Rattle.lv_ast.specs.declared.expr.Expr.{Expr, Row_of-Expr, end_of-Expr, more_of-Expr, items-the_row-Select, items_hidden-the_row-Select-0}
use Rattle.lv_ast.specs.declared.expr.Expr.TheBlock.{shape-the_row-Expr-1, hidden-the_row-Expr-1}
use Rattle.lv_ast.specs.declared.expr.Expr.TheVariants as e
use Rattle.lv_ast.specs.declared.stmt.Ident.{Ident}
use Rattle.lv_ast.specs.declared.stmt.Stmt.{Stmt, items-the_row-Stmt, items_hidden-the_row-Stmt-0}
use Rattle.lv_ast.specs.declared.stmt.Stmt.TheVariants as b

abbrev selects_in : Expr → List Select
selects_in (e.Name' path n ss) = items-the_row-Select _ ss
selects_in x = []

pub same_selects : (p q : Path) (ss ts : List Select) → e.Name p ss ≡ e.Name q ts → ss ≡ ts
same_selects p q ss ts h = sym (items_hidden-the_row-Select-0 ss) ∙ ap selects_in h ∙ items_hidden-the_row-Select-0 ts

abbrev first_in : {n : _} → Expr → Row_of-Expr n → Expr
first_in x end_of-Expr = x
first_in x (more_of-Expr y ys) = y

abbrev left_in : Expr → Expr
left_in (e.Un' op n a) = first_in (e.Un' op n a) a
left_in (e.Bin' op n a m c) = first_in (e.Bin' op n a m c) a
left_in x = x

abbrev right_in : Expr → Expr
right_in (e.Bin' op n a m c) = first_in (e.Bin' op n a m c) c
right_in x = x

left-Un : (op : Op) (a : Expr) → left_in (e.Un op a) ≡ a
unfolding shape-the_row-Expr-1 hidden-the_row-Expr-1 denote.Hole.Carrier.hidden
left-Un op a = refl

left-Bin : (op : Op) (a c : Expr) → left_in (e.Bin op a c) ≡ a
unfolding shape-the_row-Expr-1 hidden-the_row-Expr-1 denote.Hole.Carrier.hidden
left-Bin op a c = refl

right-Bin : (op : Op) (a c : Expr) → right_in (e.Bin op a c) ≡ c
unfolding shape-the_row-Expr-1 hidden-the_row-Expr-1 denote.Hole.Carrier.hidden
right-Bin op a c = refl

pub same_operand : (p q : Op) (a d : Expr) → e.Un p a ≡ e.Un q d → a ≡ d
same_operand p q a d h = sym (left-Un p a) ∙ ap left_in h ∙ left-Un q d

pub same_left : (p q : Op) (a c d f : Expr) → e.Bin p a c ≡ e.Bin q d f → a ≡ d
same_left p q a c d f h = sym (left-Bin p a c) ∙ ap left_in h ∙ left-Bin q d f

pub same_right : (p q : Op) (a c d f : Expr) → e.Bin p a c ≡ e.Bin q d f → c ≡ f
same_right p q a c d f h = sym (right-Bin p a c) ∙ ap right_in h ∙ right-Bin q d f

abbrev statements_in : Stmt → List Stmt
statements_in (b.Block' name n ss) = items-the_row-Stmt _ ss
statements_in s = []

pub same_statements : (m n : Option Ident) (ss ts : List Stmt) → b.Block m ss ≡ b.Block n ts → ss ≡ ts
same_statements m n ss ts h = sym (items_hidden-the_row-Stmt-0 ss) ∙ ap statements_in h ∙ items_hidden-the_row-Stmt-0 ts
