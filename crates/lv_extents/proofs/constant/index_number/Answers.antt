use Rattle.std.proofs.Common.{ℕ, Bool, ap, arith}
use Rattle.lv_flat.specs.Signals.{declared_all}
use Rattle.lv_lower_exprs.proofs.Parts.{good-width}
use Rattle.lv_extents.proofs.constant.index_number.Goals as goal

pub constant_value-requires-clause-most : goal.constant_value-requires-clause-most
constant_value-requires-clause-most c =
    let w = ap (λ (p : ℕ × Bool). p.0) c.own-of.ensures in
    omega (arith, w, (good-width (declared_all c.args.signals.now) c.args.e.now c.requires.good).1)

pub number_of-z-requires-clause-some : goal.number_of-z-requires-clause-some
number_of-z-requires-clause-some c =
    let w = ap (λ (p : ℕ × Bool). p.0) c.own-of.ensures in
    omega (arith, w, (good-width (declared_all c.args.signals.now) c.args.e.now c.requires.good).0)

pub number_of-z-requires-clause-most : goal.number_of-z-requires-clause-most
number_of-z-requires-clause-most c =
    let w = ap (λ (p : ℕ × Bool). p.0) c.own-of.ensures in
    omega (arith, w, (good-width (declared_all c.args.signals.now) c.args.e.now c.requires.good).1)
