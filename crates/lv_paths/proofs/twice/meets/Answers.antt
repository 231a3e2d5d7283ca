use Rattle.std.proofs.Common.{◌<◌, None, length, get_or, refl, arith}
use Rattle.std.proofs.lemmas.List.{get_or_default}
use Rattle.lv_spans.specs.declared.span.Span.{Span}
use Rattle.lv_paths.proofs.Doubles.{meets-some}
use Rattle.lv_paths.proofs.twice.meets.Goals as goal

pub returns-then-meets-clause-meet : goal.returns-then-meets-clause-meet
returns-then-meets-clause-meet c = λ t S w all.
    let l : c.loop-s.s-index < length c.args.spans.now = omega arith in
    let none : Span = record { signal = 0; element = None; mask = 0 } in
    let s : Span = get_or c.args.spans.now c.loop-s.s-index none in
    meets-some S c.args.set.now c.args.spans.now c.loop-s.s-index s l (get_or_default c.args.spans.now c.loop-s.s-index none s l) (c.if-meets.ensures.meet refl S w (all c.loop-s.s-index none l))
