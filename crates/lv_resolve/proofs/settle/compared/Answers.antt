use Rattle.std.proofs.Common.{sym, ◌∙◌, ap, refl}
use Rattle.lv_resolve.proofs.Settles.{compared-kept, compared-wrong, compared-right, waiting-both, neither-first, neither-second}
use Rattle.lv_resolve.proofs.settle.compared.Goals as goal

pub returns-then-is_kept : goal.returns-then-is_kept
returns-then-is_kept c = λ S here a b oka okb all h. compared-kept S here c.args.op a b oka okb c.args.found h (sym c.is_kept.ensures ∙ c.if-is_kept.true)

pub returns-in-Err : goal.returns-in-Err
returns-in-Err c = λ S here a b oka okb all h.
    let p = ap (λ z. z.0) c.into_parts-left.ensures in
    let q = ap (λ z. z.1) c.into_parts-left.ensures in
    let i = ap (λ z. z.2) c.into_parts-left.ensures in
    let n = sym c.is_kept.ensures ∙ c.if-is_kept.false in
    let k = neither-first c.args.op n in
    let j = neither-second c.args.op n in
    compared-wrong S here c.args.op a b oka okb c.args.found h c.into_parts-left.result.0 c.into_parts-left.result.1 c.into_parts-left.result.2 c.as_slice.result.now c.max-width.result
    c.both_signed-signed.result k j p q i c.as_slice.ensures c.max-width.ensures c.both_signed-signed.ensures c.in-Err.error
    (c.in-Err.ensures here all (waiting-both S here c.args.op a b oka okb c.args.found h c.into_parts-left.result.0 c.into_parts-left.result.1 c.into_parts-left.result.2
    c.as_slice.result.now c.max-width.result c.both_signed-signed.result k j p q i c.as_slice.ensures c.max-width.ensures c.both_signed-signed.ensures))

pub returns-in-Ok : goal.returns-in-Ok
returns-in-Ok c = λ S here a b oka okb all h.
    let p = ap (λ z. z.0) c.into_parts-left.ensures in
    let q = ap (λ z. z.1) c.into_parts-left.ensures in
    let i = ap (λ z. z.2) c.into_parts-left.ensures in
    let n = sym c.is_kept.ensures ∙ c.if-is_kept.false in
    let k = neither-first c.args.op n in
    let j = neither-second c.args.op n in
    compared-right S here c.args.op a b oka okb c.args.found h c.into_parts-left.result.0 c.into_parts-left.result.1 c.into_parts-left.result.2 c.as_slice.result.now c.max-width.result
    c.both_signed-signed.result k j p q i c.as_slice.ensures c.max-width.ensures c.both_signed-signed.ensures _
    (c.in-Ok.ensures here all (waiting-both S here c.args.op a b oka okb c.args.found h c.into_parts-left.result.0 c.into_parts-left.result.1 c.into_parts-left.result.2
    c.as_slice.result.now c.max-width.result c.both_signed-signed.result k j p q i c.as_slice.ensures c.max-width.ensures c.both_signed-signed.ensures))
    refl refl c.without_divisors.ensures.clocks c.without_divisors.ensures.divisors
