use Rattle.std.proofs.Common.{refl, ap}
use Rattle.lv_resolve.proofs.Settles.{settled-wrong, settled-right, waiting}
use Rattle.lv_resolve.proofs.settle.settled.Goals as goal

pub returns-in-Err : goal.returns-in-Err
returns-in-Err c = λ S here sites w ok all h.
    let p = ap (λ z. z.0) c.into_parts-operand.ensures in
    let q = ap (λ z. z.1) c.into_parts-operand.ensures in
    settled-wrong S here sites w ok c.args.found c.into_parts-operand.result.0 c.into_parts-operand.result.1 c.as_slice.result.now p q c.as_slice.ensures h c.in-Err.error
    (c.in-Err.ensures here all (waiting S here sites w ok c.args.found c.into_parts-operand.result.0 c.into_parts-operand.result.1 c.as_slice.result.now p q c.as_slice.ensures h))

pub returns-in-Ok : goal.returns-in-Ok
returns-in-Ok c = λ S here sites w ok all h.
    let p = ap (λ z. z.0) c.into_parts-operand.ensures in
    let q = ap (λ z. z.1) c.into_parts-operand.ensures in
    settled-right S here sites w ok c.args.found c.into_parts-operand.result.0 c.into_parts-operand.result.1 c.as_slice.result.now p q c.as_slice.ensures h _
    (c.in-Ok.ensures here all (waiting S here sites w ok c.args.found c.into_parts-operand.result.0 c.into_parts-operand.result.1 c.as_slice.result.now p q c.as_slice.ensures h))
    refl c.without_divisors.ensures.clocks c.without_divisors.ensures.divisors
