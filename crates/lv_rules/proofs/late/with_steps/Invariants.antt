use Rattle.std.proofs.Common.{◌≡◌, ℕ, ◌<◌, ◌||◌, ◌&&◌, take, length}
use Rattle.lv_rules.specs.Drives.{is_marked}
use Rattle.lv_rules.specs.Reads.{steps_later}
use Rattle.lv_rules.proofs.late.with_steps.Given as goal

abbrev pub invariant-loop-s : goal.invariant-loop-s
invariant-loop-s l = record {
  len : length l.made.items ≡ length l.fn.marks.items;
  marked : (k : ℕ) → k < length l.fn.marks.items → is_marked l.made.items k ≡ (is_marked l.fn.marks.items k || l.on && steps_later k (take l.s-index l.steps));
}
