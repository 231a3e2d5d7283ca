use Rattle.std.proofs.Common.{◌&&◌}
use Rattle.lv_extents.specs.declared.extent.Aim.{Aim}
use Rattle.lv_paths.specs.Bits.{holds, cells_have}
use Rattle.lv_paths.proofs.Lists.{any-step}
use Rattle.lv_paths.proofs.Masks.{logged-then}
use Rattle.lv_paths.proofs.done.add_sure.Goals as goal

pub loop-aim-preserved : goal.loop-aim-preserved
loop-aim-preserved c = record {
  done = λ q i. any-step (λ (a : Aim). a.sure && cells_have a.bits q i) c.args.aims.now c.loop-aim.aim-index c.aim-item.result c.loop-aim-test.true c.aim-item.is
      (holds c.args.done.now.entries q i) (holds c.loop-aim.done.entries q i) (holds c.add_aim.new.done.entries q i) (c.loop-aim.invariant.done q i) (c.in_ok-add_aim.ensures.done q i);
  logged = logged-then c.loop-aim.invariant.logged c.in_ok-add_aim.ensures.logged;
}
