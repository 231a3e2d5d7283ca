-- What a statement of the source does, by its parts.
use Rattle.std.proofs.Common.{◌≡◌, ℕ, Bool, List, map, refl, Option, Some, None, ap, ◌∙◌}
use mathlib.Core.Path.{fun_ext}
use Rattle.lv_ast.specs.declared.expr.Expr.{Expr}
use Rattle.lv_ast.specs.declared.stmt.Ident.{Ident}
use Rattle.lv_ast.specs.declared.stmt.Target.{Target}
use Rattle.lv_ast.specs.declared.stmt.Arm.{Arm}
use Rattle.lv_ast.specs.declared.stmt.Stmt.{Stmt}
use Rattle.lv_ast.specs.declared.stmt.Stmt.TheVariants as b
use Rattle.lv_source.specs.Names.{Names}
use Rattle.lv_source.specs.Meaning.{read_expr}
use Rattle.lv_source.specs.Effect.{State, Effect, Label, ArmOf, arm_step, effect_step, executes, pieces, label_of, read_arm, one_by_one, case_of, with_index, turns}
use Rattle.lv_source.specs.Flow.{Flow, Flows, flow_step, flow, is_extended, still, all_flows, case_flow_of}
use Rattle.lv_source.specs.Summary.{Summary, Summaries, summary_step, summary, nothing_done, all_summaries, case_summary_of}
use Rattle.lv_source.specs.Views.{seen_of}
use Rattle.lv_ast.proofs.StmtFolds as fold
use Rattle.lv_source.proofs.Bridges.{map-map}
use Rattle.lv_flat.proofs.Doings.{Done, done_by, three, goal_of, done_null, done_all, done_if, done_case, done_now, done_later, all_by, if_by, case_by, now_by, later_by, arm_with}

by_same : (f g : State → State) (w u : Flow) (m n : Summary) → f ≡ g → w ≡ u → m ≡ n → done_by f w m ≡ done_by g u n
by_same f g w u m n h k l = three _ _ _ _ _ _ h (ap (λ (z : Flow). map seen_of z.events) k) l

module _ (names : Names) where
  abbrev pub source_done : Stmt → Done
  source_done t = done_by (executes names t) (flow names t) (summary names t)

  pub source-Null : source_done b.Null ≡ done_null
  unfolding executes flow summary
  source-Null = refl

  pub source-Block : (name : Option Ident) (body : List Stmt) → source_done (b.Block name body) ≡ done_all (map source_done body)
  unfolding executes flow summary
  source-Block name body =
      by_same _ _ _ _ _ _
      (ap (λ (f : Effect). f names) (fold.fold_stmt-Block Effect (ArmOf Effect) effect_step arm_step name body) ∙
      fun_ext (λ st. ap (λ fs. one_by_one fs st) (map-map (λ (f : Effect). f names) _ body)))
      (ap (λ (f : Flows). f names) (fold.fold_stmt-Block Flows (ArmOf Flows) flow_step arm_step name body) ∙
      ap all_flows (map-map (λ (f : Flows). f names) _ body))
      (ap (λ (f : Summaries). f names) (fold.fold_stmt-Block Summaries (ArmOf Summaries) summary_step arm_step name body) ∙
      ap all_summaries (map-map (λ (f : Summaries). f names) _ body)) ∙
      all_by (executes names) (flow names) (summary names) body

  pub source-If : (c : Expr) (s : Stmt) → source_done (b.If c s None) ≡ done_if (read_expr names c) (source_done s) done_null
  unfolding executes flow summary
  source-If c s =
      by_same _ _ _ _ _ _
      (ap (λ (f : Effect). f names) (fold.fold_stmt-If Effect (ArmOf Effect) effect_step arm_step c s))
      (ap (λ (f : Flows). f names) (fold.fold_stmt-If Flows (ArmOf Flows) flow_step arm_step c s))
      (ap (λ (f : Summaries). f names) (fold.fold_stmt-If Summaries (ArmOf Summaries) summary_step arm_step c s)) ∙
      if_by (read_expr names c) (executes names s) (λ z. z) (flow names s) still (summary names s) nothing_done

  pub source-If_else : (c : Expr) (s t : Stmt) → source_done (b.If c s (Some t)) ≡ done_if (read_expr names c) (source_done s) (source_done t)
  unfolding executes flow summary
  source-If_else c s t =
      by_same _ _ _ _ _ _
      (ap (λ (f : Effect). f names) (fold.fold_stmt-If_else Effect (ArmOf Effect) effect_step arm_step c s t))
      (ap (λ (f : Flows). f names) (fold.fold_stmt-If_else Flows (ArmOf Flows) flow_step arm_step c s t))
      (ap (λ (f : Summaries). f names) (fold.fold_stmt-If_else Summaries (ArmOf Summaries) summary_step arm_step c s t)) ∙
      if_by (read_expr names c) (executes names s) (executes names t) (flow names s) (flow names t) (summary names s) (summary names t)

  abbrev pub arm_labels_of : Arm → List Label
  arm_labels_of a = map (label_of names) a.labels

  pub source-Case : (wild : Bool) (x : Expr) (arms : List Arm) →
      source_done (b.Case wild x arms) ≡ done_case wild (is_extended x) (read_expr names x) (map (arm_with arm_labels_of (λ a. source_done a.body)) arms)
  unfolding executes flow summary
  source-Case wild x arms =
      by_same _ _ _ _ _ _
      (ap (λ (f : Effect). f names) (fold.fold_stmt-Case Effect (ArmOf Effect) effect_step arm_step wild x arms) ∙
      fun_ext (λ st. ap (λ as'. case_of wild (read_expr names x) as' st) (map-map (read_arm names) _ arms)))
      (ap (λ (f : Flows). f names) (fold.fold_stmt-Case Flows (ArmOf Flows) flow_step arm_step wild x arms) ∙
      ap (case_flow_of wild (is_extended x) (read_expr names x)) (map-map (read_arm names) _ arms))
      (ap (λ (f : Summaries). f names) (fold.fold_stmt-Case Summaries (ArmOf Summaries) summary_step arm_step wild x arms) ∙
      ap (case_summary_of wild (is_extended x) (read_expr names x)) (map-map (read_arm names) _ arms)) ∙
      case_by arm_labels_of (λ a. executes names a.body) (λ a. flow names a.body) (λ a. summary names a.body) wild (is_extended x) (read_expr names x) arms

  pub source-Now : (target : Target) (x : Expr) (place : ℕ) →
      source_done (b.Now target x place) ≡ done_now (goal_of (pieces names target)) (read_expr names x) place
  unfolding executes flow summary
  source-Now target x place = now_by (pieces names target) (read_expr names x) place

  pub source-Later : (target : Target) (x : Expr) (place : ℕ) →
      source_done (b.Later target x place) ≡ done_later (goal_of (pieces names target)) (read_expr names x) place
  unfolding executes flow summary
  source-Later target x place = later_by (pieces names target) (read_expr names x) place

-- a loop is its turns, one after another
pub source-Loop : (names : Names) (index : Ident) (start test : Expr) (again : Ident) (next : Expr) (s : Stmt) →
    source_done names (b.Loop index start test again next s) ≡ done_all
    (map (λ k. source_done (with_index names index.name k) s) (turns names index.name start test next))
unfolding executes flow summary
source-Loop names index start test again next s =
    let at : ℕ → Names = with_index names index.name in
    by_same _ _ _ _ _ _
    (ap (λ (f : Effect). f names) (fold.fold_stmt-Loop Effect (ArmOf Effect) effect_step arm_step index start test again next s))
    (ap (λ (f : Flows). f names) (fold.fold_stmt-Loop Flows (ArmOf Flows) flow_step arm_step index start test again next s))
    (ap (λ (f : Summaries). f names) (fold.fold_stmt-Loop Summaries (ArmOf Summaries) summary_step arm_step index start test again next s)) ∙
    all_by (λ k. executes (at k) s) (λ k. flow (at k) s) (λ k. summary (at k) s) (turns names index.name start test next)
