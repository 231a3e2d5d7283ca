use Rattle.std.proofs.Common.{length}
use Rattle.lv_clauses.specs.Values.{values_of}
use Rattle.lv_blast.proofs.Assigned.{Read}
use Rattle.lv_blast.proofs.encoded.words_of.Given as goal

abbrev pub invariant-loop-width : goal.invariant-loop-width
invariant-loop-width l = Read (values_of l.found) (length l.found) l.widths l.words.items l.from l.width-index
