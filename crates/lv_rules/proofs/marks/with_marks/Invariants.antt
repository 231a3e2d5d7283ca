use Rattle.std.proofs.Common.{◌≡◌, ℕ, ◌<◌, ◌||◌, take, length}
use Rattle.lv_rules.specs.Drives.{is_marked, names}
use Rattle.lv_rules.proofs.marks.with_marks.Given as goal

abbrev pub invariant-loop-span : goal.invariant-loop-span
invariant-loop-span l = record {
  len : length l.made.items ≡ length l.fn.marks.items;
  marked : (s : ℕ) → s < length l.fn.marks.items → is_marked l.made.items s ≡ (is_marked l.fn.marks.items s || names s (take l.span-index l.spans));
}
