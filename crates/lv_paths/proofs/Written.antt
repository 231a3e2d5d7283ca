-- The bits that a statement may write, by the form of the tree.
use Rattle.std.proofs.Common.{◌≡◌, ℕ, Bool, List, [], ◌++◌, map, flat_map, Some, None, ◌∙◌, ap}
use Rattle.lv_source.specs.Flow.{writes_of}
use Rattle.lv_source.specs.Places.{Bit}
use Rattle.lv_source.specs.Summary.{Summary, nothing_done}
use Rattle.lv_flat.specs.declared.expr.FlatExpr.{FlatExpr}
use Rattle.lv_flat.specs.declared.stmt.FlatTarget.{FlatTarget}
use Rattle.lv_flat.specs.declared.stmt.FlatArm.{FlatArm}
use Rattle.lv_flat.specs.declared.stmt.FlatStmt.{FlatStmt}
use Rattle.lv_flat.specs.declared.stmt.FlatStmt.TheVariants as b
use Rattle.lv_flat.specs.Signals.{Signals}
use Rattle.lv_flat.specs.Judged.{reading}
use Rattle.lv_flat.specs.Executing.{pieces}
use Rattle.lv_flat.specs.Flows.{summary}
use Rattle.lv_paths.specs.Ways.{arm_summary}
use Rattle.lv_paths.proofs.Trees.{sum-Null, sum-Block, sum-If, sum-If_else, sum-Case, sum-Now, sum-Later, can_miss, branch-written, all-written, arms-written}

module _ (S : Signals) where
  abbrev pub written : FlatStmt → List Bit
  written x = (summary S x).written

  pub written-Null : (x : FlatStmt) → x ≡ b.Null → written x ≡ []
  written-Null x e = ap (λ (p : Summary). p.written) (sum-Null S x e)

  pub written-Block : (x : FlatStmt) (body : List FlatStmt) → x ≡ b.Block body → written x ≡ flat_map (λ (p : Summary). p.written) (map (summary S) body)
  written-Block x body e = ap (λ (p : Summary). p.written) (sum-Block S x body e) ∙ all-written (map (summary S) body)

  pub written-If : (x : FlatStmt) (c : FlatExpr) (s : FlatStmt) → x ≡ b.If c s None → written x ≡ written s ++ []
  written-If x c s e = ap (λ (p : Summary). p.written) (sum-If S x c s e) ∙ branch-written (reading S c) (summary S s) nothing_done

  pub written-If_else : (x : FlatStmt) (c : FlatExpr) (s t : FlatStmt) → x ≡ b.If c s (Some t) → written x ≡ written s ++ written t
  written-If_else x c s t e = ap (λ (p : Summary). p.written) (sum-If_else S x c s t e) ∙ branch-written (reading S c) (summary S s) (summary S t)

  pub written-Case : (x : FlatStmt) (wild : Bool) (c : FlatExpr) (arms : List FlatArm) → x ≡ b.Case wild c arms →
      written x ≡ flat_map (λ (p : Summary). p.written) (map (arm_summary S) arms)
  written-Case x wild c arms e = ap (λ (p : Summary). p.written) (sum-Case S x wild c arms e) ∙ arms-written (can_miss S wild c arms) (map (arm_summary S) arms)

  pub written-Now : (x : FlatStmt) (t : FlatTarget) (v : FlatExpr) (place : ℕ) → x ≡ b.Now t v place → written x ≡ writes_of (pieces S t)
  written-Now x t v place e = ap (λ (p : Summary). p.written) (sum-Now S x t v place e)

  pub written-Later : (x : FlatStmt) (t : FlatTarget) (v : FlatExpr) (place : ℕ) → x ≡ b.Later t v place → written x ≡ writes_of (pieces S t)
  written-Later x t v place e = ap (λ (p : Summary). p.written) (sum-Later S x t v place e)
