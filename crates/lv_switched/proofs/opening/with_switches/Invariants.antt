use Rattle.std.proofs.Common.{◌≡◌, ◌++◌, ◌∷◌, []}
use Rattle.lv_netlist.specs.Queries.{repeated}
use Rattle.lv_switched.proofs.opening.with_switches.Given as goal

abbrev pub invariant-loop-k : goal.invariant-loop-k
invariant-loop-k l = l.all.items ≡ l.fn.widths.items ++ repeated l._k (1 ∷ [])
