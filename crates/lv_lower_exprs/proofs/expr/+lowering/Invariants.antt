use Rattle.std.proofs.Common.{◌≤◌, ◌-◌, ◌≡◌, true, length, take, map}
use Rattle.std.specs.List.{list_all}
use Rattle.lv_source.specs.Values.{joined, widths}
use Rattle.lv_source.specs.Meaning.{Reading}
use Rattle.lv_flat.specs.Signals.{declared_all}
use Rattle.lv_flat.specs.Cells.{all_cells}
use Rattle.lv_flat.specs.Judged.{meaning, reading}
use Rattle.lv_values.specs.Worlds.{IsKnown}
use Rattle.lv_lower_exprs.specs.Tables.{Means}
use Rattle.lv_lower_exprs.proofs.expr.+lowering.Given as goal

abbrev pub invariant-joined-loop-i : goal.invariant-joined-loop-i
invariant-joined-loop-i l = record {
  some : 1 ≤ l.i;
  most : l.i ≤ length l.es;
  means : Means l.fn.b l.b l.acc (all_cells (declared_all l.signals)) l.table (widths (map (meaning (declared_all l.signals)) (take l.i l.es))) (λ v. joined v (map (meaning (declared_all l.signals)) (take l.i l.es)));
  known : list_all (λ (x : Reading). x.constant) (map (reading (declared_all l.signals)) (take l.i l.es)) ≡ true → IsKnown l.acc;
}

abbrev pub decreases-joined-loop-i : goal.decreases-joined-loop-i
decreases-joined-loop-i l = length l.es - l.i
