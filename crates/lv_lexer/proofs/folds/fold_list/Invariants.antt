use Rattle.std.proofs.Common.{length}
use Rattle.lv_lexer.specs.Steps.{Folding}
use Rattle.lv_lexer.proofs.folds.fold_list.Given as goal

abbrev pub invariant-loop-token : goal.invariant-loop-token
invariant-loop-token l = Folding l.text l.list l.fold l.rest

abbrev pub decreases-loop-token : goal.decreases-loop-token
decreases-loop-token l = length l.rest
