use Rattle.std.proofs.Common.{ℕ, refl, ap}
use Rattle.lv_grammar.specs.Rules as rules
use Rattle.lv_parser.proofs.Paths.{begin, through, then, last, refuse, refuse_last}
use Rattle.lv_parser.proofs.Fronts.{exit}
use Rattle.lv_ast.specs.declared.expr.Expr.{Expr}
use Rattle.lv_ast.specs.declared.stmt.Target.{Target}
use Rattle.lv_ast.specs.declared.item.Continuous.{Continuous}
use Rattle.lv_parser.proofs.Instead.{instead}
use Rattle.lv_parser.proofs.items.continuous.Goals as goal

abbrev continuous_at : Target → Expr → ℕ → Continuous
continuous_at target value place = record { target = target; value = value; place = place }

pub returns-in_err-target-clause-answer : goal.returns-in_err-target-clause-answer
returns-in_err-target-clause-answer c = λ d t. exit _ c.from_residual.ensures.1 (refuse (through (begin rules.continuous c.args.at refl)) (c.in_err-target.ensures.answer d t) refl)

pub returns-in_err-right-clause-answer : goal.returns-in_err-right-clause-answer
returns-in_err-right-clause-answer c = λ d t.
    let w1 = then (through (begin rules.continuous c.args.at refl)) (c.in_ok-target.ensures.answer d t) in
    exit _ c.from_residual-in_err-right.ensures.1 (refuse w1 (c.in_err-right.ensures.answer d) refl)

pub returns-in_err-value-clause-answer : goal.returns-in_err-value-clause-answer
returns-in_err-value-clause-answer c = λ d t.
    let w1 = then (through (begin rules.continuous c.args.at refl)) (c.in_ok-target.ensures.answer d t) in
    let w2 = then w1 (c.in_ok-right.ensures.answer d) in
    exit _ c.from_residual-in_err-value.ensures.1 (refuse_last w2 (c.in_err-value.ensures.answer d))

pub returns-clause-answer : goal.returns-clause-answer
returns-clause-answer c = λ d t.
    let w1 = then (through (begin rules.continuous c.args.at refl)) (c.in_ok-target.ensures.answer d t) in
    let w2 = then w1 (c.in_ok-right.ensures.answer d) in
    instead (ap (continuous_at c.in_ok-target.target c.in_ok-value.value) c.place.ensures) (last w2 (c.in_ok-value.ensures.answer d))
