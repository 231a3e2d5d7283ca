use Rattle.std.proofs.Common.{◌≡◌, ℕ, ◌<◌, ◌&&◌, take, length}
use Rattle.std.specs.List.{list_any}
use Rattle.lv_source.specs.Views.{is_edge}
use Rattle.lv_extents.specs.Extents.{way_of}
use Rattle.lv_rules.specs.Drives.{is_marked}
use Rattle.lv_rules.specs.Reads.{steps_later}
use Rattle.lv_rules.proofs.late.late_signals.Given as goal

abbrev pub invariant-loop-x : goal.invariant-loop-x
invariant-loop-x l = record {
  len : length l.marks.items ≡ l.count;
  marked : (s : ℕ) → s < l.count → is_marked l.marks.items s ≡ list_any (λ x. is_edge (way_of x.way) && steps_later s x.steps) (take l.x-index l.extents);
}
