use Rattle.std.proofs.Common.{◌≡◌, ◌++◌, take}
use Rattle.lv_extents.proofs.parts.add_spans.Given as goal

abbrev pub invariant-loop-span : goal.invariant-loop-span
invariant-loop-span l = l.into ≡ l.fn.into ++ take l.span-index l.from
