use Rattle.std.proofs.Common.{◌≡◌, ℕ, take}
use Rattle.std.specs.List.{list_any}
use Rattle.lv_spans.specs.Sets.{Cell, has}
use Rattle.lv_spans.specs.Domain.{spans_have}
use Rattle.lv_rules.proofs.undriven.all_driven.Given as goal

abbrev pub invariant-loop-x : goal.invariant-loop-x
invariant-loop-x l = (q : Cell) (i : ℕ) → has l.driven q i ≡ list_any (λ x. spans_have x.drives q i) (take l.x-index l.extents)
