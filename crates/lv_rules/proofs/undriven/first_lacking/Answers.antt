use Rattle.std.proofs.Common.{◌<◌, true, false, length, refl, subst, arith}
use Rattle.std.proofs.lemmas.Option.{slice_get_read, slice_get_within}
use Rattle.lv_flat.specs.Signals.{declared_all}
use Rattle.lv_rules.specs.Wires.{LacksSome}
use Rattle.lv_rules.proofs.Answering.{before_more}
use Rattle.lv_rules.proofs.Gaps.{ReadsCovered}
use Rattle.lv_rules.proofs.undriven.first_lacking.Goals as goal

pub returns-then-lacks_some : goal.returns-then-lacks_some
returns-then-lacks_some c =
    let l : c.loop-part.part < length c.args.extents.now = omega arith in
    record {
      x = c.index-extents-part.result;
      there = slice_get_read c.args.extents.now (length c.args.extents.now) c.loop-part.part c.index-extents-part.result refl l c.index-extents-part.is;
      place = refl;
      holds = subst (λ spans. LacksSome (declared_all c.args.signals.now) c.args.comb.now c.args.driven.now spans true) c.as_slice.ensures c.if-lacks_some.ensures;
    }

pub loop-part-preserved : goal.loop-part-preserved
loop-part-preserved c =
    let l : c.loop-part.part < length c.args.extents.now = omega arith in
    before_more (ReadsCovered (declared_all c.args.signals.now) c.args.comb.now c.args.driven.now) c.args.extents.now c.loop-part.part c.index-extents-part.result l c.index-extents-part.is
    (record { each = subst (λ spans. LacksSome (declared_all c.args.signals.now) c.args.comb.now c.args.driven.now spans false) c.as_slice.ensures c.if-lacks_some.ensures }) c.loop-part.invariant

pub returns : goal.returns
returns c = λ k x e. (c.loop-part.invariant.each k x (let l : k < length c.args.extents.now = slice_get_within c.args.extents.now k x e in omega arith) e).each
