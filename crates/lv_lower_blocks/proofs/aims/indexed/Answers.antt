use Rattle.std.proofs.Common.{ℕ, Bool, ap, arith, refl}
use Rattle.lv_flat.specs.Signals.{declared_all}
use Rattle.lv_flat.specs.Judged.{meaning}
use Rattle.lv_lower_exprs.proofs.Parts.{good-width}
use Rattle.lv_lower_blocks.proofs.Aiming.{begins-at}
use Rattle.lv_lower_blocks.proofs.aims.indexed.Goals as goal

pub value-requires-clause-most : goal.value-requires-clause-most
value-requires-clause-most c =
    let e = ap (λ (p : ℕ × Bool). p.0) c.own-of.ensures in
    omega (arith, e, (good-width (declared_all c.args.signals.now) c.args.e.now c.requires.good).1)

pub returns-clause-is : goal.returns-clause-is
returns-clause-is c =
    let S = declared_all c.args.signals.now in
    let g = good-width S c.args.e.now c.requires.good in
    begins-at c.args.count (meaning S c.args.e.now) c.own-of.result c.own-of.ensures g.0 g.1 c.requires.near refl refl c.in_ok-index.ensures.is
