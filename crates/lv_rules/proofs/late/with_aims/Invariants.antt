use Rattle.std.proofs.Common.{◌≡◌, ℕ, ◌<◌, ◌||◌, ◌&&◌, take, length}
use Rattle.lv_rules.specs.Drives.{is_marked}
use Rattle.lv_rules.specs.Reads.{aims_name}
use Rattle.lv_rules.proofs.late.with_aims.Given as goal

abbrev pub invariant-loop-a : goal.invariant-loop-a
invariant-loop-a l = record {
  len : length l.made.items ≡ length l.fn.marks.items;
  marked : (k : ℕ) → k < length l.fn.marks.items → is_marked l.made.items k ≡ (is_marked l.fn.marks.items k || l.on && aims_name k (take l.a-index l.aims));
}
