use Rattle.std.proofs.Common.{rules, arith, ◌∙◌, ap}
use Rattle.lv_first.specs.Formulas.{truth}
use Rattle.lv_first.proofs.Truths.{truth-Constant}
use Rattle.lv_first.proofs.Splits.{decided_at_end, decided_constant, refuted_low, decided_high}
use Rattle.lv_first.proofs.splitter.+is_valid.Goals as goal

pub returns-then-start-end : goal.returns-then-start-end
returns-then-start-end t c = decided_at_end _ _ _ _ c.value_at_zero.ensures c.if-start-end.true

pub returns-in-Constant : goal.returns-in-Constant
returns-in-Constant t c = decided_constant _ _ _ _ (ap truth c.in-Constant.is ∙ truth-Constant _)

pub returns-then-not-low : goal.returns-then-not-low
returns-then-not-low t c = refuted_low _ _ _ _ _ (omega arith) c.in_ok-low.ensures c.in_ok-low-2.ensures (search rules)

pub returns : goal.returns
returns t c = decided_high _ _ _ _ _ _ _ (omega arith) c.in_ok-low.ensures c.in_ok-high.ensures c.in_ok-low-2.ensures c.in_ok-high-2.ensures (search rules)
