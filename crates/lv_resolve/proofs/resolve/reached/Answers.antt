use Rattle.std.proofs.Common.{ap}
use Rattle.lv_resolve.proofs.Answered.{reached-wrong, reached-right, reaching}
use Rattle.lv_resolve.proofs.resolve.reached.Goals as goal

pub returns-in-Err : goal.returns-in-Err
returns-in-Err c = λ S here sites w ok all h.
    let p = ap (λ z. z.0) c.into_parts-operand.ensures in
    let q = ap (λ z. z.1) c.into_parts-operand.ensures in
    reached-wrong S here sites w ok c.args.found c.into_parts-operand.result.0 c.into_parts-operand.result.1 c.as_slice.result.now c.args.width c.max-width.result c.args.signed p q
    c.as_slice.ensures c.max-width.ensures h c.in-Err.error
    (c.in-Err.ensures here all (reaching S here sites w ok c.args.found c.into_parts-operand.result.0 c.into_parts-operand.result.1 c.as_slice.result.now c.args.width c.max-width.result
    c.args.signed p q c.as_slice.ensures c.max-width.ensures h))

pub returns-in-Ok : goal.returns-in-Ok
returns-in-Ok c = λ S here sites w ok all h.
    let p = ap (λ z. z.0) c.into_parts-operand.ensures in
    let q = ap (λ z. z.1) c.into_parts-operand.ensures in
    reached-right S here sites w ok c.args.found c.into_parts-operand.result.0 c.into_parts-operand.result.1 c.as_slice.result.now c.args.width c.max-width.result c.args.signed p q
    c.as_slice.ensures c.max-width.ensures h _
    (c.in-Ok.ensures here all (reaching S here sites w ok c.args.found c.into_parts-operand.result.0 c.into_parts-operand.result.1 c.as_slice.result.now c.args.width c.max-width.result
    c.args.signed p q c.as_slice.ensures c.max-width.ensures h))
    c.into_held.ensures (ap (λ z. z.0) c.into_parts-clocks.ensures)
