use Rattle.std.proofs.Common.{rules}
use Rattle.lv_flat.specs.Signals.{declared, declared_all}
use Rattle.lv_lower_blocks.proofs.Putting.{element-plain, element-hit, element-miss}
use Rattle.lv_lower_blocks.proofs.puts.element.Goals as goal

pub returns-in_ok-k-in-None : goal.returns-in_ok-k-in-None
returns-in_ok-k-in-None c =
    let S = declared_all c.args.signals.now in
    element-plain S c.args.aim.now (declared c.signal_of-signal.result.now) c.signal_of-signal.ensures c.args.n c.args.old c.in_ok-k-in-None.k c.args.x
    c.in-None.is c.in_ok-r-in-None.ensures c.in_ok-k-in-None.ensures

pub returns-then-is_zero : goal.returns-then-is_zero
returns-then-is_zero c =
    let S = declared_all c.args.signals.now in
    element-miss S c.args.aim.now c.args.n c.args.old c.args.x c.in-Some.spot c.in-Some.is c.requires.old_in c.requires.same c.in_ok-hit-in-Some.ensures (c.is_zero.ensures (search
    (rules, c.if-is_zero.true)))

pub returns-in_ok-k-in-Some : goal.returns-in_ok-k-in-Some
returns-in_ok-k-in-Some c =
    let S = declared_all c.args.signals.now in
    element-hit S c.args.aim.now (declared c.signal_of-signal.result.now) c.signal_of-signal.ensures c.args.n c.args.old c.in_ok-k-in-Some.k c.args.x
    c.signal_width-width.result c.in-Some.spot c.in-Some.is c.in_ok-hit-in-Some.ensures c.in_ok-r-in-Some.ensures
    c.in_ok-y-in-Some.ensures.is c.in_ok-k-in-Some.ensures
