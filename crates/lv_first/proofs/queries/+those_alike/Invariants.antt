use Rattle.std.proofs.Common.{length}
use Rattle.lv_first.proofs.queries.+those_alike.Given as goal

abbrev pub decreases-those_alike : goal.decreases-those_alike
decreases-those_alike l = length l.numbers.now
