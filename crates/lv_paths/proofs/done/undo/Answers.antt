use Rattle.std.proofs.Common.{◌≡◌, ◌<◌, None, length, get_or, arith, take}
use Rattle.std.proofs.lemmas.List.{get_or_default}
use Rattle.lv_spans.specs.declared.span.Span.{Span}
use Rattle.lv_paths.specs.Bits.{holds, is_of, cells_have}
use Rattle.lv_paths.proofs.Lists.{any-more}
use Rattle.lv_paths.proofs.Masks.{taken-step}
use Rattle.lv_paths.proofs.done.undo.Goals as goal

pub loop-span-preserved : goal.loop-span-preserved
loop-span-preserved c =
    let lt : c.loop-span.span-index < length c.args.log.now = omega arith in
    let none : Span = record { signal = 0; element = None; mask = 0 } in
    let s : Span = get_or c.args.log.now c.loop-span.span-index none in
    let e : s ≡ get_or c.args.log.now c.loop-span.span-index s = get_or_default c.args.log.now c.loop-span.span-index none s lt in
    λ q i.
    taken-step (holds c.args.done.now.entries q i) (cells_have (take c.loop-span.span-index c.args.log.now) q i) (is_of s q i) (holds c.loop-span.done.entries q i) _ _
    (c.in_ok-take_span.ensures q i) (any-more (λ (x : Span). is_of x q i) c.args.log.now c.loop-span.span-index s lt e) (c.loop-span.invariant q i)
