use Rattle.std.proofs.Common.{◌≡◌, take}
use Rattle.lv_netlist.specs.Queries.{register_widths}
use Rattle.lv_learner.specs.Cuts.{cut}
use Rattle.lv_learner.proofs.given.state_words.Given as goal

abbrev pub invariant-loop-k : goal.invariant-loop-k
invariant-loop-k l = l.words.items ≡ cut (take l.k (register_widths l.graph)) (take l.k l.values)
