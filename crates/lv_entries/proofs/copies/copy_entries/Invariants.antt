use Rattle.std.proofs.Common.{◌≡◌, ◌++◌, take}
use Rattle.lv_entries.proofs.copies.copy_entries.Given as goal

abbrev pub invariant-loop-entry : goal.invariant-loop-entry
invariant-loop-entry l = l.into.items ≡ l.initial.into.items ++ take l.entry-index l.entry-items
