use Rattle.std.proofs.Common.{◌≡◌, take}
use Rattle.lv_entries.proofs.copies.constants_of.Given as goal

abbrev pub invariant-loop-entry : goal.invariant-loop-entry
invariant-loop-entry l = l.consts ≡ take l.entry-index l.entry-items
