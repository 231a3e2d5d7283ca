-- The paths through a flat statement, and what they have in common.
use Rattle.std.specs.Prelude.{Option, Some, None}
use Rattle.lv_source.specs.Effect.{Arm}
use Rattle.lv_source.specs.Flow.{Flow, still, all_flows, if_flow, case_flow_of, write_flow}
use Rattle.lv_source.specs.Summary.{Summary, nothing_done, all_summaries, if_summary, case_summary_of, write_summary}
use Rattle.std.specs.Prelude.{true, false}
use Rattle.lv_flat.specs.declared.stmt.FlatStmt.{FlatStmt}
use Rattle.lv_flat.specs.declared.stmt.FlatStmt.TheOpen.{FlatStmt-F}
use Rattle.lv_flat.specs.Signals.{Signals}
use Rattle.lv_flat.specs.Judged.{judge, reading}
use Rattle.lv_flat.specs.Executing.{pieces, arm_step}
use Rattle.lv_flat.specs.Trees.{fold_stmt}

abbrev pub flow_or : Option Flow → Flow
flow_or None = still
flow_or (Some f) = f

abbrev pub flow_step : Signals → FlatStmt-F Flow (Arm Flow) → Flow
flow_step S FlatStmt-F.Null = still
flow_step S (FlatStmt-F.Block body) = all_flows body
flow_step S (FlatStmt-F.If x then_ else_) = if_flow (reading S x) then_ (flow_or else_)
flow_step S (FlatStmt-F.Case wild x arms) = case_flow_of wild (judge S x).extends (reading S x) arms
flow_step S (FlatStmt-F.Now target x place) = write_flow true (pieces S target) (reading S x) place
flow_step S (FlatStmt-F.Later target x place) = write_flow false (pieces S target) (reading S x) place

unfoldable pub flow : Signals → FlatStmt → Flow
flow S stmt = fold_stmt Flow (Arm Flow) (flow_step S) (arm_step S) stmt

abbrev pub summary_or : Option Summary → Summary
summary_or None = nothing_done
summary_or (Some s) = s

abbrev pub summary_step : Signals → FlatStmt-F Summary (Arm Summary) → Summary
summary_step S FlatStmt-F.Null = nothing_done
summary_step S (FlatStmt-F.Block body) = all_summaries body
summary_step S (FlatStmt-F.If x then_ else_) = if_summary (reading S x) then_ (summary_or else_)
summary_step S (FlatStmt-F.Case wild x arms) = case_summary_of wild (judge S x).extends (reading S x) arms
summary_step S (FlatStmt-F.Now target x place) = write_summary (pieces S target) (reading S x)
summary_step S (FlatStmt-F.Later target x place) = write_summary (pieces S target) (reading S x)

unfoldable pub summary : Signals → FlatStmt → Summary
summary S stmt = fold_stmt Summary (Arm Summary) (summary_step S) (arm_step S) stmt
