use Rattle.std.proofs.Common.{◌∙◌, sym}
use Rattle.lv_contract.proofs.Views.{text_in-here, text_in-past}
use Rattle.lv_contract.proofs.values.text_in.Goals as goal

pub returns-then-at-values : goal.returns-then-at-values
returns-then-at-values c = c.text_of.ensures ∙ text_in-here c.args.values.now c.args.at c.index-values-at.result c.if-at-values.true (sym c.index-values-at.is)

pub returns-else-at-values : goal.returns-else-at-values
returns-else-at-values c = text_in-past c.args.values.now c.args.at c.if-at-values.false
