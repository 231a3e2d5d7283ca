use Rattle.std.proofs.Common.{sym, ◌∙◌}
use Rattle.lv_source.specs.Views.{is_combinational}
use Rattle.lv_extents.specs.Extents.{way_of}
use Rattle.lv_rules.specs.Rules.{is_late_step, step_place}
use Rattle.lv_rules.proofs.Found.{found_if, none_if}
use Rattle.lv_rules.proofs.local.late_place.Goals as goal

pub returns-then-is_combinational : goal.returns-then-is_combinational
returns-then-is_combinational c =
    found_if is_late_step step_place (is_combinational (way_of c.args.x.now.way)) c.args.x.now.steps c.as_slice.result.now c.late_step.result
    (sym c.is_combinational.ensures ∙ c.if-is_combinational.true) c.as_slice.ensures c.late_step.ensures

pub returns-else-is_combinational : goal.returns-else-is_combinational
returns-else-is_combinational c =
    none_if is_late_step (is_combinational (way_of c.args.x.now.way)) c.args.x.now.steps (sym c.is_combinational.ensures ∙ c.if-is_combinational.false)
