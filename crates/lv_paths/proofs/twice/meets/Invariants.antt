use Rattle.std.proofs.Common.{◌≡◌, ℕ, ◌&&◌, false, take}
use Rattle.lv_spans.specs.Sets.{Cell, has}
use Rattle.lv_spans.specs.Domain.{spans_have}
use Rattle.lv_paths.proofs.twice.meets.Given as goal

abbrev pub invariant-loop-s : goal.invariant-loop-s
invariant-loop-s l = (q : Cell) (i : ℕ) → (spans_have (take l.s-index l.spans) q i && has l.set q i) ≡ false
