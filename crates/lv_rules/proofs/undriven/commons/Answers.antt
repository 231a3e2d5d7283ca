use Rattle.std.proofs.Common.{◌≡◌, ◌<◌, ◌≤◌, length, sym, subst, ◌∙◌, arith}
use Rattle.std.proofs.lemmas.List.{length-map}
use Rattle.lv_flat.specs.Signals.{declared, declared_all}
use Rattle.lv_rules.specs.Wires.{IsCommon}
use Rattle.lv_rules.proofs.Gaps.{before-more, signal-array, are-common}
use Rattle.lv_rules.proofs.undriven.commons.Goals as goal

pub loop-k-preserved : goal.loop-k-preserved
loop-k-preserved c =
    let l : c.loop-k.k < length c.args.signals.now = omega arith in
    before-more (declared_all c.args.signals.now) c.args.comb.now c.args.driven.now c.loop-k.masks.items c.push.new.self.items c.loop-k.k c.common_if-mask.result c.in_ok-push.ensures.items
    (λ w. subst (λ a. IsCommon c.args.driven.now c.loop-k.k a c.common_if-mask.result) (sym (signal-array c.args.signals.now c.loop-k.k c.index-signals-k.result l c.index-signals-k.is))
    (c.common_if-mask.ensures (c.is_wired.ensures ∙ w)))
    c.loop-k.invariant

pub returns : goal.returns
returns c =
    let l : length (declared_all c.args.signals.now) ≤ c.loop-k.k = let z : length (declared_all c.args.signals.now) ≡ length c.args.signals.now =
    length-map c.args.signals.now declared in omega arith in
    are-common (declared_all c.args.signals.now) c.args.comb.now c.args.driven.now c.loop-k.masks.items c.loop-k.k l c.loop-k.invariant
