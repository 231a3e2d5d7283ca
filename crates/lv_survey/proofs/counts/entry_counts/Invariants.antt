use Rattle.lv_declared.specs.Listing.{all_declared}
use Rattle.lv_survey.proofs.Counting.{IsCounting}
use Rattle.lv_survey.proofs.counts.entry_counts.Given as goal

abbrev pub invariant-loop-declaration : goal.invariant-loop-declaration
invariant-loop-declaration l = IsCounting l.base (all_declared l.declarations) l.declaration-index l.count l.counts.items
