use Rattle.lv_io.proofs.Lookup.{Passed}
use Rattle.lv_io.proofs.mem_shelf.place_of.Given as goal

abbrev pub invariant-loop-place : goal.invariant-loop-place
invariant-loop-place l = Passed l.files l.name l.place
