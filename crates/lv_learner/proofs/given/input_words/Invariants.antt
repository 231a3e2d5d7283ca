use Rattle.std.proofs.Common.{◌≡◌, take}
use Rattle.lv_netlist.specs.Queries.{port_widths}
use Rattle.lv_learner.specs.Cuts.{cut}
use Rattle.lv_learner.proofs.given.input_words.Given as goal

abbrev pub invariant-loop-k : goal.invariant-loop-k
invariant-loop-k l = l.words.items ≡ cut (take l.k (port_widths l.graph)) (take l.k l.values)
