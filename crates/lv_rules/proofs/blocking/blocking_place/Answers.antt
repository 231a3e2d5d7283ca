use Rattle.std.proofs.Common.{sym, ◌∙◌}
use Rattle.lv_source.specs.Views.{is_edge}
use Rattle.lv_flat.specs.Signals.{declared_all}
use Rattle.lv_extents.specs.Extents.{way_of}
use Rattle.lv_rules.specs.Rules.{step_place}
use Rattle.lv_rules.specs.Reads.{is_blocking_step}
use Rattle.lv_rules.proofs.Found.{found_if, none_if}
use Rattle.lv_rules.proofs.blocking.blocking_place.Goals as goal

pub returns-then-is_edge : goal.returns-then-is_edge
returns-then-is_edge c =
    found_if (is_blocking_step (declared_all c.args.signals.now) c.args.late.now c.args.readers.now c.args.part) step_place (is_edge (way_of c.args.x.now.way)) c.args.x.now.steps c.as_slice.result.now
    c.blocking_step.result (sym c.is_edge.ensures ∙ c.if-is_edge.true) c.as_slice.ensures c.blocking_step.ensures

pub returns-else-is_edge : goal.returns-else-is_edge
returns-else-is_edge c =
    none_if (is_blocking_step (declared_all c.args.signals.now) c.args.late.now c.args.readers.now c.args.part) (is_edge (way_of c.args.x.now.way)) c.args.x.now.steps
    (sym c.is_edge.ensures ∙ c.if-is_edge.false)
