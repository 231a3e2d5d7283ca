use Rattle.std.proofs.Common.{◌≡◌, ℕ, ◌||◌, take}
use Rattle.std.specs.Prelude.{All}
use Rattle.lv_flat.specs.Signals.{Signals}
use Rattle.lv_spans.specs.Sets.{Cell, has}
use Rattle.lv_spans.specs.Domain.{IsSpan, IsWithin, spans_have}
use Rattle.lv_paths.proofs.writes.with_spans.Given as goal

abbrev pub invariant-loop-s : goal.invariant-loop-s
invariant-loop-s l = record {
  added : (q : Cell) (i : ℕ) → has l.made q i ≡ (has l.fn.set q i || spans_have (take l.s-index l.spans) q i);
  within : (S : Signals) → IsWithin S l.fn.set → All (IsSpan S) l.spans → IsWithin S l.made;
}
