use Rattle.std.proofs.Common.{◌≡◌, ℕ, ◌<◌, ◌||◌, ◌&&◌, ◌==◌, not, take, length}
use Rattle.lv_rules.specs.Drives.{names}
use Rattle.lv_rules.specs.Reads.{others_read, reader_at}
use Rattle.lv_rules.proofs.readers.with_readers.Given as goal

abbrev pub invariant-loop-span : goal.invariant-loop-span
invariant-loop-span l = record {
  len : length l.made.items ≡ length l.fn.readers.items;
  read : (s k : ℕ) → s < length l.fn.readers.items →
      others_read (reader_at l.made.items s) k ≡ (others_read (reader_at l.fn.readers.items s) k || names s (take l.span-index l.spans) && not (l.part == k));
}
