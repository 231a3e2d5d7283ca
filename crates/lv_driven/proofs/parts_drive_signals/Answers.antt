use Rattle.lv_source.specs.Parts.{parts, signals_of}
use Rattle.lv_source.proofs.Kids.{in_index}
use Rattle.lv_source.proofs.Driven.{drives_known}
use Rattle.lv_source.proofs.Drives.{parts_known, bit_placed}
use Rattle.lv_driven.proofs.parts_drive_signals.Goals as goal

pub returns : goal.returns
returns c = λ d legal plain k p b e h. bit_placed d legal plain b (drives_known (signals_of d) p (parts_known d p (in_index p (parts d) k e)) b h)
