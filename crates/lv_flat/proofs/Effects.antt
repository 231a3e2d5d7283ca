-- What a statement does, its paths and what they have in common, by the form of the tree.
use Rattle.std.proofs.Common.{◌≡◌, ℕ, true, false, List, map, refl, Some, None, ap}
use Rattle.lv_source.specs.Effect.{State, Arm, case_of, one_by_one, if_of, now_of, later_of}
use Rattle.lv_source.specs.Flow.{Flow, still, all_flows, if_flow, case_flow_of, write_flow}
use Rattle.lv_source.specs.Summary.{Summary, nothing_done, all_summaries, if_summary, case_summary_of, write_summary}
use Rattle.std.specs.Prelude.{Bool}
use Rattle.lv_flat.specs.declared.expr.FlatExpr.{FlatExpr}
use Rattle.lv_flat.specs.declared.stmt.FlatTarget.{FlatTarget}
use Rattle.lv_flat.specs.declared.stmt.FlatArm.{FlatArm}
use Rattle.lv_flat.specs.declared.stmt.FlatStmt.{FlatStmt}
use Rattle.lv_flat.specs.declared.stmt.FlatStmt.TheVariants as b
use Rattle.lv_flat.specs.Signals.{Signals}
use Rattle.lv_flat.specs.Judged.{judge, reading}
use Rattle.lv_flat.specs.Executing.{Effect, pieces, label_of, arm_step, effect_step, executes}
use Rattle.lv_flat.specs.Flows.{flow_step, flow, summary_step, summary}
use Rattle.lv_flat.proofs.StmtFolds as fold

-- an arm, with what its statement is
abbrev pub read_arm : {A : Type 0} → Signals → (FlatStmt → A) → FlatArm → Arm A
read_arm S f a = record { labels = map (label_of S) a.labels; body = f a.body }

module _ (S : Signals) where
  pub executes-Null : (st : State) → executes S b.Null st ≡ st
  unfolding executes
  executes-Null st = refl

  pub executes-Block : (body : List FlatStmt) (st : State) → executes S (b.Block body) st ≡ one_by_one (map (executes S) body) st
  unfolding executes
  executes-Block body st = ap (λ (f : Effect). f st) (fold.fold_stmt-Block Effect (Arm Effect) (effect_step S) (arm_step S) body)

  pub executes-If : (c : FlatExpr) (s : FlatStmt) (st : State) → executes S (b.If c s None) st ≡ if_of (reading S c) (executes S s) (λ (z : State). z) st
  unfolding executes
  executes-If c s st = ap (λ (f : Effect). f st) (fold.fold_stmt-If Effect (Arm Effect) (effect_step S) (arm_step S) c s)

  pub executes-If_else : (c : FlatExpr) (s t : FlatStmt) (st : State) → executes S (b.If c s (Some t)) st ≡ if_of (reading S c) (executes S s) (executes S t) st
  unfolding executes
  executes-If_else c s t st = ap (λ (f : Effect). f st) (fold.fold_stmt-If_else Effect (Arm Effect) (effect_step S) (arm_step S) c s t)

  pub executes-Case : (wild : Bool) (x : FlatExpr) (arms : List FlatArm) (st : State) →
      executes S (b.Case wild x arms) st ≡ case_of wild (reading S x) (map (read_arm S (executes S)) arms) st
  unfolding executes
  executes-Case wild x arms st = ap (λ (f : Effect). f st) (fold.fold_stmt-Case Effect (Arm Effect) (effect_step S) (arm_step S) wild x arms)

  pub executes-Now : (target : FlatTarget) (x : FlatExpr) (place : ℕ) (st : State) →
      executes S (b.Now target x place) st ≡ now_of (pieces S target) (reading S x) st
  unfolding executes
  executes-Now target x place st = refl

  pub executes-Later : (target : FlatTarget) (x : FlatExpr) (place : ℕ) (st : State) →
      executes S (b.Later target x place) st ≡ later_of (pieces S target) (reading S x) st
  unfolding executes
  executes-Later target x place st = refl

  pub flow-Null : flow S b.Null ≡ still
  unfolding flow
  flow-Null = refl

  pub flow-Block : (body : List FlatStmt) → flow S (b.Block body) ≡ all_flows (map (flow S) body)
  unfolding flow
  flow-Block body = fold.fold_stmt-Block Flow (Arm Flow) (flow_step S) (arm_step S) body

  pub flow-If : (c : FlatExpr) (s : FlatStmt) → flow S (b.If c s None) ≡ if_flow (reading S c) (flow S s) still
  unfolding flow
  flow-If c s = fold.fold_stmt-If Flow (Arm Flow) (flow_step S) (arm_step S) c s

  pub flow-If_else : (c : FlatExpr) (s t : FlatStmt) → flow S (b.If c s (Some t)) ≡ if_flow (reading S c) (flow S s) (flow S t)
  unfolding flow
  flow-If_else c s t = fold.fold_stmt-If_else Flow (Arm Flow) (flow_step S) (arm_step S) c s t

  pub flow-Case : (wild : Bool) (x : FlatExpr) (arms : List FlatArm) →
      flow S (b.Case wild x arms) ≡ case_flow_of wild (judge S x).extends (reading S x) (map (read_arm S (flow S)) arms)
  unfolding flow
  flow-Case wild x arms = fold.fold_stmt-Case Flow (Arm Flow) (flow_step S) (arm_step S) wild x arms

  pub flow-Now : (target : FlatTarget) (x : FlatExpr) (place : ℕ) → flow S (b.Now target x place) ≡ write_flow true (pieces S target) (reading S x) place
  unfolding flow
  flow-Now target x place = refl

  pub flow-Later : (target : FlatTarget) (x : FlatExpr) (place : ℕ) → flow S (b.Later target x place) ≡ write_flow false (pieces S target) (reading S x) place
  unfolding flow
  flow-Later target x place = refl

  pub summary-Null : summary S b.Null ≡ nothing_done
  unfolding summary
  summary-Null = refl

  pub summary-Block : (body : List FlatStmt) → summary S (b.Block body) ≡ all_summaries (map (summary S) body)
  unfolding summary
  summary-Block body = fold.fold_stmt-Block Summary (Arm Summary) (summary_step S) (arm_step S) body

  pub summary-If : (c : FlatExpr) (s : FlatStmt) → summary S (b.If c s None) ≡ if_summary (reading S c) (summary S s) nothing_done
  unfolding summary
  summary-If c s = fold.fold_stmt-If Summary (Arm Summary) (summary_step S) (arm_step S) c s

  pub summary-If_else : (c : FlatExpr) (s t : FlatStmt) → summary S (b.If c s (Some t)) ≡ if_summary (reading S c) (summary S s) (summary S t)
  unfolding summary
  summary-If_else c s t = fold.fold_stmt-If_else Summary (Arm Summary) (summary_step S) (arm_step S) c s t

  pub summary-Case : (wild : Bool) (x : FlatExpr) (arms : List FlatArm) →
      summary S (b.Case wild x arms) ≡ case_summary_of wild (judge S x).extends (reading S x) (map (read_arm S (summary S)) arms)
  unfolding summary
  summary-Case wild x arms = fold.fold_stmt-Case Summary (Arm Summary) (summary_step S) (arm_step S) wild x arms

  pub summary-Now : (target : FlatTarget) (x : FlatExpr) (place : ℕ) → summary S (b.Now target x place) ≡ write_summary (pieces S target) (reading S x)
  unfolding summary
  summary-Now target x place = refl

  pub summary-Later : (target : FlatTarget) (x : FlatExpr) (place : ℕ) → summary S (b.Later target x place) ≡ write_summary (pieces S target) (reading S x)
  unfolding summary
  summary-Later target x place = refl
