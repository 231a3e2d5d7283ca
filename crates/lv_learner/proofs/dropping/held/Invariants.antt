use Rattle.std.proofs.Common.{◌≡◌, take}
use Rattle.std.specs.List.{filter}
use Rattle.lv_product.specs.Values.{holds_at}
use Rattle.lv_learner.proofs.dropping.held.Given as goal

abbrev pub invariant-loop-k : goal.invariant-loop-k
invariant-loop-k l = l.numbers.items ≡ filter (holds_at l.task.candidates.items l.left.values l.right.values l.aligned) (take l.k-index l.kept.numbers.items)
