use Rattle.std.proofs.Common.{◌≡◌, ◌&&◌, Bool, true, List, map, flat_map, sym, subst, ap}
use Rattle.std.specs.List.{list_all}
use Rattle.lv_source.specs.Meaning.{Reading}
use Rattle.lv_flat.specs.declared.expr.FlatExpr.{FlatExpr}
use Rattle.lv_flat.specs.declared.stmt.FlatArm.{FlatArm}
use Rattle.lv_flat.specs.Signals.{declared_all}
use Rattle.lv_flat.specs.Judged.{is_good, reading}
use Rattle.lv_flat.specs.Good.{good_stmt}
use Rattle.lv_extents.proofs.Aims.{good-all-at}
use Rattle.lv_extents.proofs.Lists.{flat-more}
use Rattle.lv_extents.proofs.Events.{labels-good}
use Rattle.lv_extents.proofs.Readings.{adds-as, all_reads, both-constant}
use Rattle.std.proofs.Common.{◌∙◌, take}
use Rattle.lv_source.specs.Effect.{Label}
use Rattle.lv_source.proofs.Summaries.{all-join}
use Rattle.lv_flat.specs.Executing.{label_of}
use Rattle.lv_paths.specs.Fits.{labels_of, all_labels}
use Rattle.lv_paths.proofs.Lists.{all-map}
use Rattle.lv_extents.proofs.Spans.{adds-then}
use Rattle.lv_paths.proofs.look.add_label_reads.Goals as goal

pub add_all-requires-clause-good : goal.add_all-requires-clause-good
add_all-requires-clause-good c =
    let S = declared_all c.args.signals.now in
    let g = good-all-at (λ (a : FlatArm). list_all (is_good S) a.labels && good_stmt S a.body) c.args.arms.now c.loop-arm.arm-index c.arm-item.result c.loop-arm-test.true c.arm-item.is
    c.requires.labels in
    subst (λ (z : List FlatExpr). list_all (λ (x : Bool). x) (map (is_good S) z) ≡ true) (sym c.as_slice.ensures) (labels-good S c.arm-item.result g)

pub loop-arm-preserved : goal.loop-arm-preserved
loop-arm-preserved c =
    let S = declared_all c.args.signals.now in
    let arm = c.arm-item.result in
    let C = λ (l : Label). l.reading.constant in
    let more = flat-more (labels_of S) c.args.arms.now c.loop-arm.arm-index arm c.loop-arm-test.true c.arm-item.is in
    let one : list_all C (labels_of S arm) ≡ list_all (λ (r : Reading). r.constant) (map (reading S) arm.labels) =
    all-map C (label_of S) arm.labels ∙ sym (all-map (λ (r : Reading). r.constant) (reading S) arm.labels) in
    record {
      reads = adds-as S _ _ _ _ (flat-more (λ (a : FlatArm). flat_map (λ (r : Reading). r.reads)
          (map (reading S) a.labels)) c.args.arms.now c.loop-arm.arm-index arm c.loop-arm-test.true c.arm-item.is)
          (adds-then S c.loop-arm.invariant.reads (adds-as S _ _ _ _ (ap (all_reads S) (sym c.as_slice.ensures)) c.in_ok-x.ensures.reads));
      constant = both-constant c.loop-arm.invariant.constant (c.in_ok-x.ensures.constant ∙ (ap (λ (z : List FlatExpr). list_all (λ (r : Reading). r.constant) (map (reading S) z)) c.as_slice.ensures ∙ sym one))
          (ap (list_all C) more ∙ all-join C (all_labels S (take c.loop-arm.arm-index c.args.arms.now)) (labels_of S arm));
    }
