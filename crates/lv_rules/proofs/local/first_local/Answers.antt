use Rattle.std.proofs.Common.{◌<◌, ◌≤◌, length, Some, sym, subst, ◌∙◌, arith}
use Rattle.lv_flat.specs.Signals.{declared_all}
use Rattle.lv_rules.specs.Rules.{IsAnswer, local_at, unclocked}
use Rattle.lv_rules.proofs.Answering.{IsClear, before_more, told_none, told_one}
use Rattle.lv_rules.proofs.Parts.{local-views}
use Rattle.lv_rules.proofs.local.first_local.Goals as goal

pub returns-in-Some : goal.returns-in-Some
returns-in-Some c = λ vs h.
    let l : c.loop-part.part < length c.args.extents.now = omega arith in
    subst (λ ats. IsAnswer vs ats (Some (record { part = c.loop-part.part; place = c.in-Some.place }))) (sym (local-views c.args.rule (unclocked (declared_all c.args.signals.now)) vs))
    (told_one (declared_all c.args.signals.now) (λ k v. local_at c.args.rule (unclocked (declared_all c.args.signals.now)) v)
    vs c.args.extents.now c.loop-part.part c.index-extents-part.result c.in-Some.place l c.index-extents-part.is h (λ v e k. c.in-Some.ensures v k))

pub loop-part-preserved : goal.loop-part-preserved
loop-part-preserved c =
    let l : c.loop-part.part < length c.args.extents.now = omega arith in
    before_more (IsClear (declared_all c.args.signals.now) (local_at c.args.rule (unclocked (declared_all c.args.signals.now))))
    c.args.extents.now c.loop-part.part c.index-extents-part.result l c.index-extents-part.is (record { clear = c.in-None.ensures }) c.loop-part.invariant

pub returns : goal.returns
returns c = λ vs h.
    let l : length c.args.extents.now ≤ c.loop-part.part = omega arith in
    local-views c.args.rule (unclocked (declared_all c.args.signals.now)) vs ∙ told_none (declared_all c.args.signals.now)
    (local_at c.args.rule (unclocked (declared_all c.args.signals.now))) vs c.args.extents.now c.loop-part.part h c.loop-part.invariant l
