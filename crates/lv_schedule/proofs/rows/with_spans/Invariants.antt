use Rattle.std.proofs.Common.{◌≡◌, ℕ, ◌||◌, take}
use Rattle.lv_spans.specs.Sets.{Cell, has}
use Rattle.lv_spans.specs.Domain.{spans_have}
use Rattle.lv_schedule.proofs.rows.with_spans.Given as goal

abbrev pub invariant-loop-s : goal.invariant-loop-s
invariant-loop-s l = (q : Cell) (i : ℕ) → has l.made q i ≡ (has l.fn.set q i || spans_have (take l.s-index l.spans) q i)
