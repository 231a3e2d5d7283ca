use Rattle.std.proofs.Common.{◌-◌}
use Rattle.lv_first.proofs.splitter.+is_valid.Given as goal

abbrev pub decreases-is_valid : goal.decreases-is_valid
decreases-is_valid l = l.end - l.start
