use Rattle.std.proofs.Common.{◌≡◌, bit_and, ◌<◌, None, length, get_or, ap, arith, take}
use Rattle.std.proofs.lemmas.List.{get_or_default}
use Rattle.lv_spans.specs.declared.span.Span.{Span}
use Rattle.lv_paths.specs.Bits.{is_of, cells_have}
use Rattle.lv_paths.proofs.Lists.{any-more}
use Rattle.lv_paths.proofs.Masks.{kept-step}
use Rattle.lv_paths.proofs.done.kept.Goals as goal

pub loop-span-preserved : goal.loop-span-preserved
loop-span-preserved c =
    let lt : c.loop-span.span-index < length c.args.spans.now = omega arith in
    let none : Span = record { signal = 0; element = None; mask = 0 } in
    let s : Span = get_or c.args.spans.now c.loop-span.span-index none in
    let e : s ≡ get_or c.args.spans.now c.loop-span.span-index s = get_or_default c.args.spans.now c.loop-span.span-index none s lt in
    λ q i.
    kept-step c.args.done.now.entries s _ (ap (bit_and s.mask) c.mask_of-own.ensures) c.loop-span.rest c.push_some.new.into q i (cells_have (take c.loop-span.span-index c.args.spans.now) q i) _
    c.in_ok-push_some.ensures (any-more (λ (x : Span). is_of x q i) c.args.spans.now c.loop-span.span-index s lt e) (c.loop-span.invariant q i)
