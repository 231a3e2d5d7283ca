use Rattle.std.proofs.Common.{ℕ, Bool, not, ◌==◌, sym, ap, ◌∙◌, arith}
use Rattle.lv_source.specs.Values.{nowhere}
use Rattle.lv_source.proofs.Tests.{not-false}
use Rattle.lv_flat.specs.Signals.{declared_all}
use Rattle.lv_flat.specs.Judged.{meaning}
use Rattle.lv_lower_exprs.proofs.Parts.{good-width}
use Rattle.lv_paths.proofs.look.decide.Goals as goal

pub constant_value-requires-clause-constant : goal.constant_value-requires-clause-constant
constant_value-requires-clause-constant c = sym c.in_ok-look.ensures.constant ∙ not-false c.in_ok-look.look.constant c.if-not-look.false

pub constant_value-requires-clause-most : goal.constant_value-requires-clause-most
constant_value-requires-clause-most c =
    let w = ap (λ (p : ℕ × Bool). p.0) c.own-of.ensures in
    omega (arith, w, (good-width (declared_all c.args.signals.now) c.args.x.now c.requires.good).1)

pub returns-clause-decided : goal.returns-clause-decided
returns-clause-decided c = (
  sym c.in_ok-look.ensures.constant ∙ not-false c.in_ok-look.look.constant c.if-not-look.false,
  ap (λ (n : ℕ). not (n == 0)) (c.in_ok-code.ensures.is ∙ ap (λ (p : ℕ × Bool). (meaning (declared_all c.args.signals.now) c.args.x.now).value p.0 p.1 nowhere) c.own-of.ensures),
)
