use Rattle.lv_entries.proofs.Sequence.{declared_where}
use Rattle.lv_entries.proofs.laws.entries_are_declared.Goals as goal

pub returns : goal.returns
returns c = λ around s k es a h. declared_where around s k es a h
