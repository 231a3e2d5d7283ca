use Rattle.std.proofs.Common.{◌≡◌, ◌-◌}
use Rattle.lv_print.specs.Literals.{first_from, gives_back, fewest}
use Rattle.lv_print.proofs.literal.fewest.Given as goal

abbrev pub invariant-loop-k : goal.invariant-loop-k
invariant-loop-k l = fewest l.width l.value l.wild ≡ first_from (gives_back l.width l.value l.wild) (128 - l.k) l.k
