-- The walk of each kind of node, as rewriting rules.
use Rattle.std.proofs.Common.{◌≡◌, Bool, List, map}
use Rattle.lv_bits.specs.declared.op.Op.{Op}
use Rattle.lv_ast.specs.declared.expr.Literal.{Literal}
use Rattle.lv_ast.specs.declared.expr.Path.{Path}
use Rattle.lv_ast.specs.declared.expr.Expr.{Expr}
use Rattle.lv_ast.specs.declared.expr.Expr.TheVariants as e
use Rattle.lv_ast.specs.declared.expr.Expr.TheOpen.{Expr-F, Select-F}
use Rattle.lv_ast.specs.declared.expr.Select.{Select}
use Rattle.lv_ast.specs.declared.expr.Select.TheVariants as s
use Rattle.lv_source.specs.Names.{Names}
use Rattle.lv_source.specs.Sites.{Walk, WalkStep, walk_step, walk_select_step, walk, walk_select}
use Rattle.lv_ast.proofs.ExprFolds as fold

module _ (names : Names) where
  pub walk-Lit : (l : Literal) → walk names (e.Lit l) ≡ walk_step names (Expr-F.Lit l)
  unfolding walk walk_select
  walk-Lit l = fold.fold_expr-Lit Walk WalkStep (walk_step names) walk_select_step l

  pub walk-Name : (path : Path) (ss : List Select) → walk names (e.Name path ss) ≡ walk_step names (Expr-F.Name path (map (walk_select names) ss))
  unfolding walk walk_select
  walk-Name path ss = fold.fold_expr-Name Walk WalkStep (walk_step names) walk_select_step path ss

  pub walk-Un : (op : Op) (a : Expr) → walk names (e.Un op a) ≡ walk_step names (Expr-F.Un op (walk names a))
  unfolding walk walk_select
  walk-Un op a = fold.fold_expr-Un Walk WalkStep (walk_step names) walk_select_step op a

  pub walk-Bin : (op : Op) (a b : Expr) → walk names (e.Bin op a b) ≡ walk_step names (Expr-F.Bin op (walk names a) (walk names b))
  unfolding walk walk_select
  walk-Bin op a b = fold.fold_expr-Bin Walk WalkStep (walk_step names) walk_select_step op a b

  pub walk-Div : (a b : Expr) → walk names (e.Div a b) ≡ walk_step names (Expr-F.Div (walk names a) (walk names b))
  unfolding walk walk_select
  walk-Div a b = fold.fold_expr-Div Walk WalkStep (walk_step names) walk_select_step a b

  pub walk-Rem : (a b : Expr) → walk names (e.Rem a b) ≡ walk_step names (Expr-F.Rem (walk names a) (walk names b))
  unfolding walk walk_select
  walk-Rem a b = fold.fold_expr-Rem Walk WalkStep (walk_step names) walk_select_step a b

  pub walk-Cond : (c a b : Expr) → walk names (e.Cond c a b) ≡ walk_step names (Expr-F.Cond (walk names c) (walk names a) (walk names b))
  unfolding walk walk_select
  walk-Cond c a b = fold.fold_expr-Cond Walk WalkStep (walk_step names) walk_select_step c a b

  pub walk-Cat : (es : List Expr) → walk names (e.Cat es) ≡ walk_step names (Expr-F.Cat (map (walk names) es))
  unfolding walk walk_select
  walk-Cat es = fold.fold_expr-Cat Walk WalkStep (walk_step names) walk_select_step es

  pub walk-Rep : (n : Expr) (es : List Expr) → walk names (e.Rep n es) ≡ walk_step names (Expr-F.Rep (walk names n) (map (walk names) es))
  unfolding walk walk_select
  walk-Rep n es = fold.fold_expr-Rep Walk WalkStep (walk_step names) walk_select_step n es

  pub walk-Cast : (signed : Bool) (a : Expr) → walk names (e.Cast signed a) ≡ walk_step names (Expr-F.Cast signed (walk names a))
  unfolding walk walk_select
  walk-Cast signed a = fold.fold_expr-Cast Walk WalkStep (walk_step names) walk_select_step signed a

  pub select-Bit : (a : Expr) → walk_select names (s.Bit a) ≡ Select-F.Bit (walk names a)
  unfolding walk walk_select
  select-Bit a = fold.fold_select-Bit Walk WalkStep (walk_step names) walk_select_step a

  pub select-Part : (a b : Expr) → walk_select names (s.Part a b) ≡ Select-F.Part (walk names a) (walk names b)
  unfolding walk walk_select
  select-Part a b = fold.fold_select-Part Walk WalkStep (walk_step names) walk_select_step a b

  pub select-Up : (a b : Expr) → walk_select names (s.Up a b) ≡ Select-F.Up (walk names a) (walk names b)
  unfolding walk walk_select
  select-Up a b = fold.fold_select-Up Walk WalkStep (walk_step names) walk_select_step a b

  pub select-Down : (a b : Expr) → walk_select names (s.Down a b) ≡ Select-F.Down (walk names a) (walk names b)
  unfolding walk walk_select
  select-Down a b = fold.fold_select-Down Walk WalkStep (walk_step names) walk_select_step a b

pub ruleset walk_rules = (
  walk-Lit,
  walk-Name,
  walk-Un,
  walk-Bin,
  walk-Div,
  walk-Rem,
  walk-Cond,
  walk-Cat,
  walk-Rep,
  walk-Cast,
  select-Bit,
  select-Part,
  select-Up,
  select-Down,
)
