use Rattle.std.proofs.Common.{length}
use Rattle.lv_first.proofs.queries.+every_alike.Given as goal

abbrev pub decreases-every_alike : goal.decreases-every_alike
decreases-every_alike l = length l.formulas.now
