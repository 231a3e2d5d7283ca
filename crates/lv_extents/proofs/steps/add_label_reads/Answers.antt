use Rattle.std.proofs.Common.{◌≡◌, ◌&&◌, Bool, true, List, map, flat_map, sym, subst, ap}
use Rattle.std.specs.List.{list_all}
use Rattle.lv_source.specs.Meaning.{Reading}
use Rattle.lv_flat.specs.declared.expr.FlatExpr.{FlatExpr}
use Rattle.lv_flat.specs.declared.stmt.FlatArm.{FlatArm}
use Rattle.lv_flat.specs.Signals.{declared_all}
use Rattle.lv_flat.specs.Judged.{is_good, reading}
use Rattle.lv_flat.specs.Good.{good_stmt}
use Rattle.lv_extents.proofs.Aims.{good-all-at}
use Rattle.lv_extents.proofs.Lists.{flat-more}
use Rattle.lv_extents.proofs.Events.{labels-good}
use Rattle.lv_extents.proofs.Readings.{adds-as, all_reads}
use Rattle.lv_extents.proofs.Spans.{adds-then}
use Rattle.lv_extents.proofs.steps.add_label_reads.Goals as goal

pub add_all-requires-clause-good : goal.add_all-requires-clause-good
add_all-requires-clause-good c =
    let S = declared_all c.args.signals.now in
    let g = good-all-at (λ (a : FlatArm). list_all (is_good S) a.labels && good_stmt S a.body) c.args.arms.now c.loop-arm.arm-index c.arm-item.result c.loop-arm-test.true c.arm-item.is
    c.requires.labels in
    subst (λ (z : List FlatExpr). list_all (λ (x : Bool). x) (map (is_good S) z) ≡ true) (sym c.as_slice.ensures) (labels-good S c.arm-item.result g)

pub loop-arm-preserved : goal.loop-arm-preserved
loop-arm-preserved c =
    let S = declared_all c.args.signals.now in
    adds-as S _ _ _ _ (flat-more (λ (a : FlatArm). flat_map (λ (r : Reading). r.reads)
    (map (reading S) a.labels)) c.args.arms.now c.loop-arm.arm-index c.arm-item.result c.loop-arm-test.true c.arm-item.is)
    (adds-then S c.loop-arm.invariant (adds-as S _ _ _ _ (ap (all_reads S) (sym c.as_slice.ensures)) c.in_ok-add_all.ensures.reads))
