use Rattle.std.proofs.Common.{◌*◌, ◌≤◌, ◌-◌}
use Rattle.lv_source.specs.Values.{repeated}
use Rattle.lv_values.specs.Worlds.{Gives, IsKnown, width_of, number}
use Rattle.lv_lower_exprs.proofs.expr.repeated.Given as goal

abbrev pub invariant-loop-i : goal.invariant-loop-i
invariant-loop-i l = record {
  some : 1 ≤ l.i;
  most : l.i ≤ l.count;
  gives : Gives l.initial.b l.b l.acc (l.i * width_of l.x) (λ w. repeated l.i (width_of l.x) (number w l.x));
  known : IsKnown l.x → IsKnown l.acc;
}

abbrev pub decreases-loop-i : goal.decreases-loop-i
decreases-loop-i l = l.count - l.i
