use Rattle.std.proofs.Common.{◌≡◌, ◌<◌, None, length, get_or, arith}
use Rattle.std.proofs.lemmas.List.{get_or_default}
use Rattle.lv_spans.specs.declared.span.Span.{Span}
use Rattle.lv_paths.specs.Bits.{holds, is_of}
use Rattle.lv_paths.proofs.Lists.{any-step}
use Rattle.lv_paths.proofs.Masks.{logged-then}
use Rattle.lv_paths.proofs.done.add_spans.Goals as goal

pub loop-span-preserved : goal.loop-span-preserved
loop-span-preserved c =
    let lt : c.loop-span.span-index < length c.args.spans.now = omega arith in
    let none : Span = record { signal = 0; element = None; mask = 0 } in
    let s : Span = get_or c.args.spans.now c.loop-span.span-index none in
    let e : s ≡ get_or c.args.spans.now c.loop-span.span-index s = get_or_default c.args.spans.now c.loop-span.span-index none s lt in
    record {
      done = λ q i. any-step (λ (x : Span). is_of x q i) c.args.spans.now c.loop-span.span-index s lt e (holds c.args.done.now.entries q i) (holds c.loop-span.done.entries q i)
          (holds c.add_span.new.done.entries q i) (c.loop-span.invariant.done q i) (c.in_ok-add_span.ensures.done q i);
      logged = logged-then c.loop-span.invariant.logged c.in_ok-add_span.ensures.logged;
    }
