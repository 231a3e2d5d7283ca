use Rattle.std.proofs.Common.{◌≡◌, ℕ, ◌<◌, take, length}
use Rattle.std.specs.List.{list_any}
use Rattle.lv_source.specs.PartRules.{others}
use Rattle.lv_rules.specs.Drives.{names}
use Rattle.lv_rules.specs.Reads.{others_read, reader_at}
use Rattle.lv_rules.proofs.readers.readers_of.Given as goal

abbrev pub invariant-loop-part : goal.invariant-loop-part
invariant-loop-part l = record {
  len : length l.readers.items ≡ l.count;
  read : (s k : ℕ) → s < l.count → others_read (reader_at l.readers.items s) k ≡ list_any (λ x. names s x.reads) (others k (take l.part l.extents));
}
