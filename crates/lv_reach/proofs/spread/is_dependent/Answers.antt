use Rattle.std.proofs.Common.{List, sym, subst}
use Rattle.std.specs.Prelude.{All}
use Rattle.lv_flat.specs.Signals.{declared_all}
use Rattle.lv_flat.specs.Judged.{reading}
use Rattle.lv_spans.specs.declared.span.Span.{Span}
use Rattle.lv_spans.specs.Domain.{AreSpansOf}
use Rattle.lv_reach.proofs.Spreading.{depends-yes, depends-no}
use Rattle.lv_reach.proofs.spread.is_dependent.Goals as goal

pub returns-clause-yes : goal.returns-clause-yes
returns-clause-yes c = λ t vs is f.
    let S = declared_all c.args.signals.now in
    let bs = (reading S c.args.e.now).reads in
    let a : AreSpansOf S bs c.as_slice.result.now = subst (λ (xs : List Span). AreSpansOf S bs xs) (sym c.as_slice.ensures) c.in_ok-spans.ensures in
    depends-yes S vs is bs c.as_slice.result.now c.args.set.now a f (c.meets-r.ensures.meet t S f.within a.each)

pub returns-clause-no : goal.returns-clause-no
returns-clause-no c = λ t vs is f d.
    let S = declared_all c.args.signals.now in
    let bs = (reading S c.args.e.now).reads in
    let a : AreSpansOf S bs c.as_slice.result.now = subst (λ (xs : List Span). AreSpansOf S bs xs) (sym c.as_slice.ensures) c.in_ok-spans.ensures in
    depends-no S vs is bs c.as_slice.result.now c.args.set.now a f (c.meets-r.ensures.apart t) d
