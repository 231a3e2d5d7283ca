use Rattle.std.proofs.Common.{◌≡◌, ◌≤◌, ◌<◌, ◌&&◌, length, ap, sym, ◌∙◌, arith}
use Rattle.std.proofs.lemmas.List.{length-map}
use Rattle.lv_source.specs.Names.{Declared, is_signal_sort}
use Rattle.lv_source.proofs.Tests.{and-left}
use Rattle.lv_flat.specs.Signals.{Signals, declared, declared_all, signal_at}
use Rattle.lv_reach.specs.Spreading.{is_marked, whole_mask}
use Rattle.lv_reach.proofs.Started.{signal-is, below-none, below-more, below-all}
use Rattle.lv_reach.proofs.marked.start.Goals as goal

pub loop-k-init : goal.loop-k-init
loop-k-init c = below-none (declared_all c.args.signals.now) c.args.marks.now _ c.new-set.ensures.none (c.new-set.ensures.within (declared_all c.args.signals.now))

pub loop-k-preserved : goal.loop-k-preserved
loop-k-preserved c =
    let S : Signals = declared_all c.args.signals.now in
    let l : c.loop-k.k < length c.args.signals.now = omega arith in
    let x : Declared = declared c.index-signals-k.result in
    let at : signal_at S c.loop-k.k ≡ x = signal-is c.args.signals.now c.loop-k.k c.index-signals-k.result l c.index-signals-k.is in
    below-more S c.args.marks.now c.loop-k.k c.loop-k.set c.in_ok-set.set c.is_asked-on.result (whole_mask x)
    (c.is_asked-on.ensures ∙ ap (λ (d : Declared). is_signal_sort d.sort && is_marked c.args.marks.now c.loop-k.k) (sym at)) (ap whole_mask (sym at)) c.loop-k.invariant
    (c.in_ok-set.ensures.within S c.requires c.loop-k.invariant.within (λ t. and-left (is_signal_sort x.sort) (is_marked c.args.marks.now c.loop-k.k) (sym c.is_asked-on.ensures ∙ t)) at)
    c.in_ok-set.ensures.added

pub returns : goal.returns
returns c =
    let l : length (declared_all c.args.signals.now) ≤ c.loop-k.k = let z : length (declared_all c.args.signals.now) ≡ length c.args.signals.now =
    length-map c.args.signals.now declared in omega arith in
    below-all (declared_all c.args.signals.now) c.args.marks.now c.loop-k.k c.loop-k.set c.requires l c.loop-k.invariant
