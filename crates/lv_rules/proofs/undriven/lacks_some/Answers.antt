use Rattle.std.proofs.Common.{◌<◌, None, length, get_or, arith}
use Rattle.std.proofs.lemmas.List.{get_or_default}
use Rattle.std.proofs.lemmas.Option.{slice_get_within}
use Rattle.lv_flat.specs.Signals.{declared_all}
use Rattle.lv_spans.specs.declared.span.Span.{Span}
use Rattle.lv_rules.specs.Wires.{IsCovered}
use Rattle.lv_rules.proofs.Answering.{before_more}
use Rattle.lv_rules.proofs.undriven.lacks_some.Goals as goal

pub loop-s-preserved : goal.loop-s-preserved
loop-s-preserved c =
    let l : c.loop-s.s-index < length c.args.spans.now = omega arith in
    let none : Span = record { signal = 0; element = None; mask = 0 } in
    let s : Span = get_or c.args.spans.now c.loop-s.s-index none in
    before_more (IsCovered (declared_all c.args.signals.now) c.args.comb.now c.args.driven.now) c.args.spans.now c.loop-s.s-index s l (get_or_default c.args.spans.now c.loop-s.s-index none s l)
    c.if-lacks_span.ensures c.loop-s.invariant

pub returns : goal.returns
returns c = λ k s e. c.loop-s.invariant.each k s (let l : k < length c.args.spans.now = slice_get_within c.args.spans.now k s e in omega arith) e
