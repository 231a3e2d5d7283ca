-- What a flat statement does, by its parts.
use Rattle.std.proofs.Common.{◌≡◌, ℕ, Bool, List, map, Some, None, ap, ◌∙◌}
use mathlib.Core.Path.{fun_ext}
use Rattle.lv_source.specs.Effect.{State, Label}
use Rattle.lv_source.specs.Flow.{Flow, still}
use Rattle.lv_source.specs.Summary.{Summary, nothing_done}
use Rattle.lv_source.specs.Views.{seen_of}
use Rattle.lv_flat.specs.declared.expr.FlatExpr.{FlatExpr}
use Rattle.lv_flat.specs.declared.stmt.FlatTarget.{FlatTarget}
use Rattle.lv_flat.specs.declared.stmt.FlatArm.{FlatArm}
use Rattle.lv_flat.specs.declared.stmt.FlatStmt.{FlatStmt}
use Rattle.lv_flat.specs.declared.stmt.FlatStmt.TheVariants as b
use Rattle.lv_flat.specs.Signals.{Signals}
use Rattle.lv_flat.specs.Judged.{judge, reading}
use Rattle.lv_flat.specs.Executing.{pieces, label_of, executes}
use Rattle.lv_flat.specs.Flows.{flow, summary}
use Rattle.lv_flat.proofs.Effects as f
use Rattle.lv_flat.proofs.Doings.{Done, done_by, three, goal_of, done_null, done_all, done_if, done_case, done_now, done_later, all_by, if_by, case_by, now_by, later_by, arm_with}

by_same : (f g : State → State) (w u : Flow) (m n : Summary) → f ≡ g → w ≡ u → m ≡ n → done_by f w m ≡ done_by g u n
by_same f g w u m n h k l = three _ _ _ _ _ _ h (ap (λ (z : Flow). map seen_of z.events) k) l

module _ (S : Signals) where
  abbrev pub flat_done : FlatStmt → Done
  flat_done t = done_by (executes S t) (flow S t) (summary S t)

  pub flat-Null : flat_done b.Null ≡ done_null
  flat-Null = by_same _ _ _ _ _ _ (fun_ext (λ st. f.executes-Null S st)) (f.flow-Null S) (f.summary-Null S)

  pub flat-Block : (body : List FlatStmt) → flat_done (b.Block body) ≡ done_all (map flat_done body)
  flat-Block body =
      by_same _ _ _ _ _ _ (fun_ext (λ st. f.executes-Block S body st)) (f.flow-Block S body) (f.summary-Block S body) ∙
      all_by (executes S) (flow S) (summary S) body

  pub flat-If : (c : FlatExpr) (s : FlatStmt) → flat_done (b.If c s None) ≡ done_if (reading S c) (flat_done s) done_null
  flat-If c s =
      by_same _ _ _ _ _ _ (fun_ext (λ st. f.executes-If S c s st)) (f.flow-If S c s) (f.summary-If S c s) ∙
      if_by (reading S c) (executes S s) (λ z. z) (flow S s) still (summary S s) nothing_done

  pub flat-If_else : (c : FlatExpr) (s t : FlatStmt) → flat_done (b.If c s (Some t)) ≡ done_if (reading S c) (flat_done s) (flat_done t)
  flat-If_else c s t =
      by_same _ _ _ _ _ _ (fun_ext (λ st. f.executes-If_else S c s t st)) (f.flow-If_else S c s t) (f.summary-If_else S c s t) ∙
      if_by (reading S c) (executes S s) (executes S t) (flow S s) (flow S t) (summary S s) (summary S t)

  abbrev pub arm_labels_of : FlatArm → List Label
  arm_labels_of a = map (label_of S) a.labels

  pub flat-Case : (wild : Bool) (x : FlatExpr) (arms : List FlatArm) →
      flat_done (b.Case wild x arms) ≡ done_case wild (judge S x).extends (reading S x) (map (arm_with arm_labels_of (λ a. flat_done a.body)) arms)
  flat-Case wild x arms =
      by_same _ _ _ _ _ _ (fun_ext (λ st. f.executes-Case S wild x arms st)) (f.flow-Case S wild x arms) (f.summary-Case S wild x arms) ∙
      case_by arm_labels_of (λ a. executes S a.body) (λ a. flow S a.body) (λ a. summary S a.body) wild (judge S x).extends (reading S x) arms

  pub flat-Now : (target : FlatTarget) (x : FlatExpr) (place : ℕ) → flat_done (b.Now target x place) ≡ done_now (goal_of (pieces S target)) (reading S x) place
  flat-Now target x place =
      by_same _ _ _ _ _ _ (fun_ext (λ st. f.executes-Now S target x place st)) (f.flow-Now S target x place) (f.summary-Now S target x place) ∙
      now_by (pieces S target) (reading S x) place

  pub flat-Later : (target : FlatTarget) (x : FlatExpr) (place : ℕ) →
      flat_done (b.Later target x place) ≡ done_later (goal_of (pieces S target)) (reading S x) place
  flat-Later target x place =
      by_same _ _ _ _ _ _ (fun_ext (λ st. f.executes-Later S target x place st)) (f.flow-Later S target x place) (f.summary-Later S target x place) ∙
      later_by (pieces S target) (reading S x) place
