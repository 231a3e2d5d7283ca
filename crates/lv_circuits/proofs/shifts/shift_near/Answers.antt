use Rattle.std.proofs.Common.{◌<◌, length, ap, arith}
use Rattle.lv_circuits.proofs.Moves.{stage_moves}
use Rattle.lv_circuits.proofs.shifts.shift_near.Goals as goal

pub loop-i-preserved : goal.loop-i-preserved
loop-i-preserved c =
    let inside : c.loop-i.i < length c.args.b.now = omega arith in
    record {
      made = stage_moves c.args.and.now c.loop-i.and c.stage.new.and c.args.way c.args.fill c.edge-c.result c.args.a.now c.args.b.now c.loop-i.word c.as_slice.result.now c.in_ok-next.next c.loop-i.i c.far_of-far.result
          inside c.edge-c.ensures c.far_of-far.ensures c.as_slice.ensures c.loop-i.invariant.made c.in_ok-next.ensures.bits;
      count = omega (arith, c.in_ok-next.ensures.count, c.loop-i.invariant.count, ap length c.as_slice.ensures);
    }
