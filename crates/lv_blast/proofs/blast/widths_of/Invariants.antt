use Rattle.std.proofs.Common.{◌≡◌, take, map}
use Rattle.lv_blast.proofs.blast.widths_of.Given as goal

abbrev pub invariant-loop-i : goal.invariant-loop-i
invariant-loop-i l = l.widths.items ≡ map (λ input. input.1) (take l.i l.graph.inputs)
