-- What is judged of each kind of node, as rewriting rules.
use Rattle.std.proofs.Common.{◌≡◌, ℕ, Bool, true, List, map}
use Rattle.lv_bits.specs.declared.op.Op.{Op}
use Rattle.lv_ast.specs.declared.expr.Literal.{Literal}
use Rattle.lv_ast.specs.declared.expr.Expr.TheOpen.{Select-F}
use Rattle.lv_const.specs.declared.constant.Const.{Const}
use Rattle.lv_flat.specs.declared.expr.FlatExpr.{FlatExpr}
use Rattle.lv_flat.specs.declared.expr.FlatExpr.TheVariants as e
use Rattle.lv_flat.specs.declared.expr.FlatExpr.TheOpen.{FlatExpr-F}
use Rattle.lv_flat.specs.declared.expr.FlatSelect.{FlatSelect}
use Rattle.lv_flat.specs.declared.expr.FlatSelect.TheVariants as s
use Rattle.lv_flat.specs.Signals.{Signals}
use Rattle.lv_flat.specs.Judged.{Judged, JudgedSelect, judge_step, judge_choice, judge, judge_select, number}
use Rattle.lv_flat.proofs.ExprFolds as fold

module _ (S : Signals) where
  pub judge-Lit : (l : Literal) → judge S (e.Lit l) ≡ judge_step S (FlatExpr-F.Lit l)
  unfolding judge judge_select
  judge-Lit l = fold.fold_expr-Lit Judged JudgedSelect (judge_step S) judge_choice l

  pub judge-Const : (c : Const) (ss : List FlatSelect) → judge S (e.Const c ss) ≡ judge_step S (FlatExpr-F.Const c (map (judge_select S) ss))
  unfolding judge judge_select
  judge-Const c ss = fold.fold_expr-Const Judged JudgedSelect (judge_step S) judge_choice c ss

  pub judge-Signal : (k : ℕ) (ss : List FlatSelect) → judge S (e.Signal k ss) ≡ judge_step S (FlatExpr-F.Signal k (map (judge_select S) ss))
  unfolding judge judge_select
  judge-Signal k ss = fold.fold_expr-Signal Judged JudgedSelect (judge_step S) judge_choice k ss

  pub judge-Un : (op : Op) (a : FlatExpr) → judge S (e.Un op a) ≡ judge_step S (FlatExpr-F.Un op (judge S a))
  unfolding judge judge_select
  judge-Un op a = fold.fold_expr-Un Judged JudgedSelect (judge_step S) judge_choice op a

  pub judge-Bin : (op : Op) (a b : FlatExpr) → judge S (e.Bin op a b) ≡ judge_step S (FlatExpr-F.Bin op (judge S a) (judge S b))
  unfolding judge judge_select
  judge-Bin op a b = fold.fold_expr-Bin Judged JudgedSelect (judge_step S) judge_choice op a b

  pub judge-Div : (a b : FlatExpr) → judge S (e.Div a b) ≡ judge_step S (FlatExpr-F.Div (judge S a) (judge S b))
  unfolding judge judge_select
  judge-Div a b = fold.fold_expr-Div Judged JudgedSelect (judge_step S) judge_choice a b

  pub judge-Rem : (a b : FlatExpr) → judge S (e.Rem a b) ≡ judge_step S (FlatExpr-F.Rem (judge S a) (judge S b))
  unfolding judge judge_select
  judge-Rem a b = fold.fold_expr-Rem Judged JudgedSelect (judge_step S) judge_choice a b

  pub judge-Cond : (c a b : FlatExpr) → judge S (e.Cond c a b) ≡ judge_step S (FlatExpr-F.Cond (judge S c) (judge S a) (judge S b))
  unfolding judge judge_select
  judge-Cond c a b = fold.fold_expr-Cond Judged JudgedSelect (judge_step S) judge_choice c a b

  pub judge-Cat : (es : List FlatExpr) → judge S (e.Cat es) ≡ judge_step S (FlatExpr-F.Cat (map (judge S) es))
  unfolding judge judge_select
  judge-Cat es = fold.fold_expr-Cat Judged JudgedSelect (judge_step S) judge_choice es

  pub judge-Rep : (n : ℕ) (es : List FlatExpr) → judge S (e.Rep n es) ≡ judge_step S (FlatExpr-F.Rep n (map (judge S) es))
  unfolding judge judge_select
  judge-Rep n es = fold.fold_expr-Rep Judged JudgedSelect (judge_step S) judge_choice n es

  pub judge-Cast : (signed : Bool) (a : FlatExpr) → judge S (e.Cast signed a) ≡ judge_step S (FlatExpr-F.Cast signed (judge S a))
  unfolding judge judge_select
  judge-Cast signed a = fold.fold_expr-Cast Judged JudgedSelect (judge_step S) judge_choice signed a

  pub judge_select-Bit : (a : FlatExpr) → judge_select S (s.Bit a) ≡ record { choice = Select-F.Bit (judge S a).reading; good = (judge S a).good }
  unfolding judge judge_select
  judge_select-Bit a = fold.fold_select-Bit Judged JudgedSelect (judge_step S) judge_choice a

  pub judge_select-Part : (left right : ℕ) → judge_select S (s.Part left right) ≡ record { choice = Select-F.Part (number left) (number right); good = true }
  unfolding judge judge_select
  judge_select-Part left right = fold.fold_select-Part Judged JudgedSelect (judge_step S) judge_choice left right

  pub judge_select-Up : (a : FlatExpr) (width : ℕ) →
      judge_select S (s.Up a width) ≡ record { choice = Select-F.Up (judge S a).reading (number width); good = (judge S a).good }
  unfolding judge judge_select
  judge_select-Up a width = fold.fold_select-Up Judged JudgedSelect (judge_step S) judge_choice a width

  pub judge_select-Down : (a : FlatExpr) (width : ℕ) →
      judge_select S (s.Down a width) ≡ record { choice = Select-F.Down (judge S a).reading (number width); good = (judge S a).good }
  unfolding judge judge_select
  judge_select-Down a width = fold.fold_select-Down Judged JudgedSelect (judge_step S) judge_choice a width
