use Rattle.lv_entries.proofs.Sequence.{first_are}
use Rattle.lv_entries.proofs.laws.entries_before_are_first.Goals as goal

pub returns : goal.returns
returns c = λ around s k es h. first_are around s k es h
