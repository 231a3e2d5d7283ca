use Rattle.std.proofs.Common.{ℕ, Bool, ap, arith}
use Rattle.lv_flat.specs.Signals.{declared_all}
use Rattle.lv_flat.specs.Judged.{meaning}
use Rattle.lv_lower_exprs.proofs.Parts.{good-width}
use Rattle.lv_lower_blocks.proofs.Storing.{means-assigned}
use Rattle.lv_lower_blocks.proofs.assigns.assigned.Goals as goal

pub value-requires-clause-most : goal.value-requires-clause-most
value-requires-clause-most c =
    let S = declared_all c.args.signals.now in
    let e = ap (λ (p : ℕ × Bool). p.0) c.own-of.ensures in
    omega (arith, e, c.max-wide.ensures, (good-width S c.args.e.now c.requires.good).1, c.requires.most)

pub returns : goal.returns
returns c =
    let S = declared_all c.args.signals.now in
    means-assigned (meaning S c.args.e.now) c.args.width c.max-wide.result c.own-of.result c.own-of.ensures c.max-wide.ensures c.in_ok-x.ensures.is c.in_ok-r.ensures.is
