use Rattle.std.proofs.Common.{◌≡◌, ◌++◌, take}
use Rattle.lv_paths.proofs.writes.add_copies.Given as goal

abbrev pub invariant-loop-span : goal.invariant-loop-span
invariant-loop-span l = l.into ≡ l.fn.into ++ take l.span-index l.from
