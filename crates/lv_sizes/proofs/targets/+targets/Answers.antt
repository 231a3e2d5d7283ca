use Rattle.lv_sizes.proofs.Sums.{spends-same}
use Rattle.lv_sizes.proofs.NodeLaws as nodes
use Rattle.lv_sizes.proofs.targets.+targets.Goals as goal

pub spend_target-returns-in-Name : goal.spend_target-returns-in-Name
spend_target-returns-in-Name t c = spends-same c.args.left _ _ _ (cc (nodes.target-Name c.in-Name.field-0 c.in-Name.selects)) c.spend_selects.ensures

pub spend_target-returns-in-Cat : goal.spend_target-returns-in-Cat
spend_target-returns-in-Cat t c = spends-same c.args.left _ _ _ (cc (nodes.target-Cat c.in-Cat.parts)) c.spend_targets.ensures
