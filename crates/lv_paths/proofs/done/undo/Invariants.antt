use Rattle.std.proofs.Common.{◌≡◌, ℕ, not, ◌&&◌, take}
use Rattle.lv_spans.specs.Sets.{Cell}
use Rattle.lv_paths.specs.Bits.{holds, cells_have}
use Rattle.lv_paths.proofs.done.undo.Given as goal

abbrev pub invariant-loop-span : goal.invariant-loop-span
invariant-loop-span l = (q : Cell) (i : ℕ) → holds l.done.entries q i ≡ (holds l.fn.done.entries q i && not (cells_have (take l.span-index l.log) q i))
