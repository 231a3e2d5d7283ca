use Rattle.std.proofs.Common.{sym, ◌∙◌}
use Rattle.lv_rules.specs.Rules.{is_unsure}
use Rattle.lv_rules.proofs.Found.{later_aims}
use Rattle.lv_rules.proofs.aims.is_unsure.Goals as goal

pub returns-else-some_unsure : goal.returns-else-some_unsure
returns-else-some_unsure c =
    c.some_step_unsure.ensures ∙
    later_aims is_unsure c.args.x.now c.as_slice.result.now c.as_slice-else-some_unsure.result.now
    c.as_slice.ensures c.as_slice-else-some_unsure.ensures (sym c.some_unsure.ensures ∙ c.if-some_unsure.false)
