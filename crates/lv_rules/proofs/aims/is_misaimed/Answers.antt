use Rattle.std.proofs.Common.{sym, ◌∙◌}
use Rattle.lv_flat.specs.Signals.{sort_of}
use Rattle.lv_extents.specs.Extents.{way_of}
use Rattle.lv_rules.specs.Rules.{is_misaimed}
use Rattle.lv_rules.proofs.Found.{later_aims}
use Rattle.lv_rules.proofs.aims.is_misaimed.Goals as goal

pub returns-else-some_misaimed : goal.returns-else-some_misaimed
returns-else-some_misaimed c =
    c.some_step_misaimed.ensures ∙
    later_aims (λ a. is_misaimed (way_of c.args.x.now.way) (sort_of a.sort)) c.args.x.now c.as_slice.result.now c.as_slice-else-some_misaimed.result.now
    c.as_slice.ensures c.as_slice-else-some_misaimed.ensures (sym c.some_misaimed.ensures ∙ c.if-some_misaimed.false)
