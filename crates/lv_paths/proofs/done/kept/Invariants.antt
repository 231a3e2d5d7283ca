use Rattle.std.proofs.Common.{◌≡◌, ℕ, ◌&&◌, take}
use Rattle.lv_spans.specs.Sets.{Cell}
use Rattle.lv_paths.specs.Bits.{holds, cells_have}
use Rattle.lv_paths.proofs.done.kept.Given as goal

abbrev pub invariant-loop-span : goal.invariant-loop-span
invariant-loop-span l = (q : Cell) (i : ℕ) → cells_have l.rest q i ≡ (cells_have (take l.span-index l.spans) q i && holds l.done.entries q i)
