use Rattle.std.proofs.Common.{◌+◌, ◌-◌, refl, arith, ap}
use Rattle.lv_flat.specs.Signals.{declared_all}
use Rattle.lv_values.specs.Worlds.{width_of}
use Rattle.lv_lower_blocks.proofs.Storing.{left-next, left-most, written-more}
use Rattle.lv_lower_blocks.proofs.puts.write.Goals as goal

pub cut-requires-clause-inside : goal.cut-requires-clause-inside
cut-requires-clause-inside c =
    let S = declared_all c.args.signals.now in
    let i = c.loop-aim.aim-index in
    let n = left-next S c.args.aims.now i c.aim-item.result c.loop-aim-test.true c.aim-item.is in
    let m = left-most S c.args.aims.now i c.aim-item.result c.loop-aim-test.true c.aim-item.is in
    let w = ap width_of c.same.ensures in
    omega (arith, n, m, w, c.loop-aim.invariant.left, c.aim_width-width.ensures, c.requires.width)

pub loop-aim-preserved : goal.loop-aim-preserved
loop-aim-preserved c =
    let S = declared_all c.args.signals.now in
    let i = c.loop-aim.aim-index in
    let n = left-next S c.args.aims.now i c.aim-item.result c.loop-aim-test.true c.aim-item.is in
    record {
      left = omega (arith, n, c.loop-aim.invariant.left, c.aim_width-width.ensures);
      is = written-more S c.args.aims.now i c.aim-item.result c.args.x c.same.result (c.loop-aim.left - c.aim_width-width.result) c.aim_width-width.result
          (i + 1) c.same.ensures c.loop-aim-test.true c.aim-item.is refl
          (omega (arith, n, c.loop-aim.invariant.left, c.aim_width-width.ensures)) c.aim_width-width.ensures c.loop-aim.invariant.is c.in_ok-y.ensures.is c.in_ok-put.ensures;
    }
