use Rattle.lv_entries.proofs.Sequence.{values_are}
use Rattle.lv_entries.proofs.laws.values_are_entries.Goals as goal

pub returns : goal.returns
returns c = λ around s es cs h at. values_are s cs at around es h
