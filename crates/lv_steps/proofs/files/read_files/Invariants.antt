use Rattle.std.proofs.Common.{take}
use Rattle.lv_steps.proofs.Reading.{Gathered}
use Rattle.lv_steps.proofs.files.read_files.Given as goal

abbrev pub invariant-loop-name : goal.invariant-loop-name
invariant-loop-name g l = Gathered l.limit (g.H.Shelf.state l.fn.shelf) (g.H.Shelf.state l.shelf) (take l.name-index l.names) l.parts
