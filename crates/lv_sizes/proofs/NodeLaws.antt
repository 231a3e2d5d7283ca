-- The nodes of expressions and targets by the form of the tree.
use Rattle.std.proofs.Common.{◌≡◌, ℕ, Bool, suc, ◌+◌, ◌<◌, List, [], ◌∷◌, map, sum, ap, ◌∙◌, sym, refl, arith}
use Rattle.lv_bits.specs.declared.op.Op.{Op}
use Rattle.lv_ast.specs.declared.expr.Literal.{Literal}
use Rattle.lv_ast.specs.declared.expr.Path.{Path}
use Rattle.lv_ast.specs.declared.expr.Expr.{Expr}
use Rattle.lv_ast.specs.declared.expr.Expr.TheVariants as e
use Rattle.lv_ast.specs.declared.expr.Select.{Select}
use Rattle.lv_ast.specs.declared.expr.Select.TheVariants as s
use Rattle.lv_ast.specs.declared.stmt.Target.{Target}
use Rattle.lv_ast.specs.declared.stmt.Target.TheVariants as t
use Rattle.lv_ast.specs.Trees.{fold_expr, fold_select}
use Rattle.lv_ast.proofs.ExprFolds as fold
use Rattle.lv_ast.proofs.StmtFolds as stmts
use Rattle.lv_source.specs.Limits.{expr_nodes, expr_nodes_step, select_nodes, target_nodes, target_nodes_step}
use Rattle.lv_sizes.specs.Counts.{added, step_nodes}
use Rattle.lv_sizes.proofs.Sums.{sum-added, added-map}

added-all : {A : Type 0} (f : A → ℕ) (xs : List A) → sum (map f xs) ≡ added f xs
added-all f xs = sum-added f xs

pub nodes-Lit : (l : Literal) → expr_nodes (e.Lit l) ≡ 1
unfolding expr_nodes
nodes-Lit l = fold.fold_expr-Lit ℕ ℕ expr_nodes_step select_nodes l

pub nodes-Name : (p : Path) (ss : List Select) → expr_nodes (e.Name p ss) ≡ suc (added step_nodes ss)
unfolding expr_nodes step_nodes
nodes-Name p ss = fold.fold_expr-Name ℕ ℕ expr_nodes_step select_nodes p ss ∙ ap suc (added-all step_nodes ss)

pub nodes-Un : (op : Op) (a : Expr) → expr_nodes (e.Un op a) ≡ suc (expr_nodes a)
unfolding expr_nodes
nodes-Un op a = fold.fold_expr-Un ℕ ℕ expr_nodes_step select_nodes op a

pub nodes-Bin : (op : Op) (a b : Expr) → expr_nodes (e.Bin op a b) ≡ suc (expr_nodes a + expr_nodes b)
unfolding expr_nodes
nodes-Bin op a b = fold.fold_expr-Bin ℕ ℕ expr_nodes_step select_nodes op a b

pub nodes-Div : (a b : Expr) → expr_nodes (e.Div a b) ≡ suc (expr_nodes a + expr_nodes b)
unfolding expr_nodes
nodes-Div a b = fold.fold_expr-Div ℕ ℕ expr_nodes_step select_nodes a b

pub nodes-Rem : (a b : Expr) → expr_nodes (e.Rem a b) ≡ suc (expr_nodes a + expr_nodes b)
unfolding expr_nodes
nodes-Rem a b = fold.fold_expr-Rem ℕ ℕ expr_nodes_step select_nodes a b

pub nodes-Cond : (c a b : Expr) → expr_nodes (e.Cond c a b) ≡ suc (expr_nodes c + expr_nodes a + expr_nodes b)
unfolding expr_nodes
nodes-Cond c a b = fold.fold_expr-Cond ℕ ℕ expr_nodes_step select_nodes c a b

pub nodes-Cat : (es : List Expr) → expr_nodes (e.Cat es) ≡ suc (added expr_nodes es)
unfolding expr_nodes
nodes-Cat es = fold.fold_expr-Cat ℕ ℕ expr_nodes_step select_nodes es ∙ ap suc (added-all expr_nodes es)

pub nodes-Rep : (n : Expr) (es : List Expr) → expr_nodes (e.Rep n es) ≡ suc (expr_nodes n + added expr_nodes es)
unfolding expr_nodes
nodes-Rep n es = fold.fold_expr-Rep ℕ ℕ expr_nodes_step select_nodes n es ∙ ap (λ k. suc (expr_nodes n + k)) (added-all expr_nodes es)

pub nodes-Cast : (signed : Bool) (a : Expr) → expr_nodes (e.Cast signed a) ≡ suc (expr_nodes a)
unfolding expr_nodes
nodes-Cast signed a = fold.fold_expr-Cast ℕ ℕ expr_nodes_step select_nodes signed a

pub step-Bit : (a : Expr) → step_nodes (s.Bit a) ≡ expr_nodes a
unfolding expr_nodes step_nodes
step-Bit a = fold.fold_select-Bit ℕ ℕ expr_nodes_step select_nodes a

pub step-Part : (a b : Expr) → step_nodes (s.Part a b) ≡ expr_nodes a + expr_nodes b
unfolding expr_nodes step_nodes
step-Part a b = fold.fold_select-Part ℕ ℕ expr_nodes_step select_nodes a b

pub step-Up : (a b : Expr) → step_nodes (s.Up a b) ≡ expr_nodes a + expr_nodes b
unfolding expr_nodes step_nodes
step-Up a b = fold.fold_select-Up ℕ ℕ expr_nodes_step select_nodes a b

pub step-Down : (a b : Expr) → step_nodes (s.Down a b) ≡ expr_nodes a + expr_nodes b
unfolding expr_nodes step_nodes
step-Down a b = fold.fold_select-Down ℕ ℕ expr_nodes_step select_nodes a b

pub nodes-some : (x : Expr) → 0 < expr_nodes x
unfolding expr_nodes
nodes-some (e.Lit l) = omega arith
nodes-some (e.Name' path n ss) = omega arith
nodes-some (e.Un' op n a) = omega arith
nodes-some (e.Bin' op n a m b) = omega arith
nodes-some (e.Div' n a m b) = omega arith
nodes-some (e.Rem' n a m b) = omega arith
nodes-some (e.Cond' n c m a k b) = omega arith
nodes-some (e.Cat' n es) = omega arith
nodes-some (e.Rep' n a m es) = omega arith
nodes-some (e.Cast' signed n a) = omega arith

pub target-Name : (p : Path) (ss : List Select) → target_nodes (t.Name p ss) ≡ added step_nodes ss
unfolding target_nodes step_nodes
target-Name p ss = stmts.fold_target-Name ℕ target_nodes_step p ss ∙ added-all step_nodes ss

pub target-Cat : (ts : List Target) → target_nodes (t.Cat ts) ≡ added target_nodes ts
unfolding target_nodes
target-Cat ts = stmts.fold_target-Cat ℕ target_nodes_step ts ∙ added-all target_nodes ts

pub ruleset node_rules = (
  nodes-Lit,
  nodes-Name,
  nodes-Un,
  nodes-Bin,
  nodes-Div,
  nodes-Rem,
  nodes-Cond,
  nodes-Cat,
  nodes-Rep,
  nodes-Cast,
  step-Bit,
  step-Part,
  step-Up,
  step-Down,
  target-Name,
  target-Cat,
)
