use Rattle.std.proofs.Common.{◌<◌, ◌&&◌, None, length, get_or, arith}
use Rattle.std.proofs.lemmas.List.{get_or_default}
use Rattle.lv_spans.specs.declared.span.Span.{Span}
use Rattle.lv_spans.specs.Sets.{has, is_under, is_set}
use Rattle.lv_paths.proofs.Lists.{any-step}
use Rattle.lv_paths.proofs.writes.with_spans.Goals as goal

pub loop-s-preserved : goal.loop-s-preserved
loop-s-preserved c =
    let l : c.loop-s.s-index < length c.args.spans.now = omega arith in
    let none : Span = record { signal = 0; element = None; mask = 0 } in
    let s : Span = get_or c.args.spans.now c.loop-s.s-index none in
    record {
      added = λ q i. any-step (λ (x : Span). is_under x.signal x.element q && is_set x.mask i) c.args.spans.now c.loop-s.s-index s
          l (get_or_default c.args.spans.now c.loop-s.s-index none s l) (has c.args.set q i) (has c.loop-s.made q i) (has c.in_ok-made.made q i)
          (c.loop-s.invariant.added q i) (c.in_ok-made.ensures.added q i);
      within = λ S h k. c.in_ok-made.ensures.within S (c.loop-s.invariant.within S h k) (k c.loop-s.s-index none l);
    }
