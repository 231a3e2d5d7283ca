use Rattle.lv_distinct.proofs.Designs.{code_distinct}
use Rattle.lv_distinct.proofs.cells_are_distinct.Goals as goal

pub returns : goal.returns
returns c = λ d plain limits none same. code_distinct c.args.signals.now d c.arrays_are_small.ensures plain limits none same
