use Rattle.std.proofs.Common.{rules, ◌≡◌, [], ◌++◌, Option, Bool, true, ◌&&◌, List, map, flat_map, sym, subst, ap, ◌∙◌}
use Rattle.std.specs.List.{list_all}
use Rattle.lv_source.specs.Summary.{Summary}
use Rattle.lv_flat.specs.declared.stmt.FlatArm.{FlatArm}
use Rattle.lv_flat.specs.declared.stmt.FlatStmt.{FlatStmt}
use Rattle.lv_flat.specs.declared.stmt.FlatStmt.TheVariants as b
use Rattle.lv_flat.specs.declared.stmt.FlatStmt.TheViews.{the_lemmas}
use Rattle.lv_flat.specs.Signals.{declared_all}
use Rattle.lv_flat.specs.Judged.{is_good}
use Rattle.lv_flat.specs.Flows.{summary}
use Rattle.lv_flat.specs.Good.{good_stmt}
use Rattle.lv_extents.specs.Blocks.{are_good_arms}
use Rattle.lv_extents.proofs.Aims.{good-all-at}
use Rattle.lv_extents.proofs.Lists.{flat-map-more}
use Rattle.lv_extents.proofs.Events.{if-good, else-good, block-good, case-good, now-good, later-good, arm-good}
use Rattle.lv_extents.proofs.Readings.{adds-as}
use Rattle.lv_extents.proofs.Spans.{adds-then, adds-none}
use Rattle.lv_paths.specs.Ways.{arm_summary}
use Rattle.lv_paths.proofs.Written.{written, written-Null, written-Block, written-If, written-If_else, written-Case, written-Now, written-Later}
use Rattle.lv_paths.proofs.writes.+writes.Goals as goal

pub add_all_written-add_written-requires : goal.add_all_written-add_written-requires
add_all_written-add_written-requires t c =
    let S = declared_all c.args.signals.now in
    let g = good-all-at (good_stmt S) c.args.body.now c.loop-s.s-index c.s-item.result c.loop-s-test.true c.s-item.is c.requires.good in
    (search (rules, the_lemmas), (g, c.requires.distinct))

pub add_arms_written-add_written-requires : goal.add_arms_written-add_written-requires
add_arms_written-add_written-requires t c =
    let S = declared_all c.args.signals.now in
    let g = good-all-at (λ (a : FlatArm). list_all (is_good S) a.labels && good_stmt S a.body) c.args.arms.now c.loop-arm.arm-index c.arm-item.result c.loop-arm-test.true c.arm-item.is
    c.requires.good in
    (search (rules, the_lemmas), (arm-good S c.arm-item.result g, c.requires.distinct))

pub add_written-add_all_written-requires : goal.add_written-add_all_written-requires
add_written-add_all_written-requires t c =
    let S = declared_all c.args.signals.now in (
      search (rules, the_lemmas),
      (
        subst (λ (z : List FlatStmt). list_all (λ (x : Bool). x) (map (good_stmt S) z) ≡ true) (sym c.as_slice.ensures)
            (block-good S c.args.s.now c.in-Block.body c.in-Block.is c.requires.good),
        c.requires.distinct,
      ),
    )

pub add_written-add_written-requires : goal.add_written-add_written-requires
add_written-add_written-requires t c =
    let S = declared_all c.args.signals.now in (
      search (rules, the_lemmas),
      (
        subst (λ (z : FlatStmt). good_stmt S z ≡ true) (sym c.get.ensures)
            (if-good S c.args.s.now c.in-If.field-0 c.in-If.a c.in-If.b c.in-If.is c.requires.good).1,
        c.requires.distinct,
      ),
    )

pub add_written-add_written-requires-in-Some : goal.add_written-add_written-requires-in-Some
add_written-add_written-requires-in-Some t c =
    let S = declared_all c.args.signals.now in (
      search (rules, the_lemmas),
      (
        subst (λ (z : FlatStmt). good_stmt S z ≡ true) (sym c.get-in-Some.ensures)
            (else-good S c.args.s.now c.in-If.field-0 c.in-If.a c.in-If.b c.in-Some.b c.in-If.is c.in-Some.is c.requires.good),
        c.requires.distinct,
      ),
    )

pub add_written-add_arms_written-requires : goal.add_written-add_arms_written-requires
add_written-add_arms_written-requires t c =
    let S = declared_all c.args.signals.now in (
      search (rules, the_lemmas),
      (
        subst (λ (z : List FlatArm). are_good_arms S z ≡ true) (sym c.as_slice-in-Case.ensures)
            (case-good S c.args.s.now c.in-Case.field-0 c.in-Case.field-1 c.in-Case.arms c.in-Case.is c.requires.good).1,
        c.requires.distinct,
      ),
    )

pub add_written-add_target-requires-clause-target : goal.add_written-add_target-requires-clause-target
add_written-add_target-requires-clause-target t c =
    (now-good (declared_all c.args.signals.now) c.args.s.now c.in-Now.t c.in-Now.field-1 c.in-Now.field-2 c.in-Now.is c.requires.good).0

pub add_written-add_target-requires-in-Later-clause-target : goal.add_written-add_target-requires-in-Later-clause-target
add_written-add_target-requires-in-Later-clause-target t c =
    (later-good (declared_all c.args.signals.now) c.args.s.now c.in-Later.t c.in-Later.field-1 c.in-Later.field-2 c.in-Later.is c.requires.good).0

pub add_written-returns-in-Null : goal.add_written-returns-in-Null
add_written-returns-in-Null t c =
    let S = declared_all c.args.signals.now in
    adds-as S _ _ _ _ (written-Null S c.args.s.now c.in-Null.is) (adds-none S c.args.into.now)

pub add_written-returns-in_ok-add_all_written-in-Block : goal.add_written-returns-in_ok-add_all_written-in-Block
add_written-returns-in_ok-add_all_written-in-Block t c =
    let S = declared_all c.args.signals.now in
    adds-as S _ _ _ _ (written-Block S c.args.s.now c.in-Block.body c.in-Block.is ∙ ap (λ (z : List FlatStmt). flat_map (λ (p : Summary). p.written) (map (summary S) z)) (sym c.as_slice.ensures))
    c.in_ok-add_all_written-in-Block.ensures

pub add_written-returns-in_ok-add_written-in-If-2 : goal.add_written-returns-in_ok-add_written-in-If-2
add_written-returns-in_ok-add_written-in-If-2 t c =
    let S = declared_all c.args.signals.now in
    adds-as S _ _ _ _
    (written-If_else S c.args.s.now c.in-If.field-0 c.in-If.a c.in-Some.b (c.in-If.is ∙ ap (λ (o : Option FlatStmt). b.If c.in-If.field-0 c.in-If.a o) c.in-Some.is) ∙
    (ap (λ (z : FlatStmt). written S z ++ written S c.in-Some.b) (sym c.get.ensures) ∙ ap (λ (z : FlatStmt). written S c.get.result.now ++ written S z) (sym c.get-in-Some.ensures)))
    (adds-then S c.in_ok-add_written-in-If.ensures c.in_ok-add_written-in-If-2.ensures)

pub add_written-returns-in_default : goal.add_written-returns-in_default
add_written-returns-in_default t c =
    let S = declared_all c.args.signals.now in
    adds-as S _ _ _ _
    (written-If S c.args.s.now c.in-If.field-0 c.in-If.a (c.in-If.is ∙ ap (λ (o : Option FlatStmt). b.If c.in-If.field-0 c.in-If.a o) c.in_default.is) ∙
    ap (λ (z : FlatStmt). written S z ++ []) (sym c.get.ensures))
    (adds-then S c.in_ok-add_written-in-If.ensures (adds-none S _))

pub add_written-returns-in_ok-add_arms_written-in-Case : goal.add_written-returns-in_ok-add_arms_written-in-Case
add_written-returns-in_ok-add_arms_written-in-Case t c =
    let S = declared_all c.args.signals.now in
    adds-as S _ _ _ _
    (written-Case S c.args.s.now c.in-Case.field-0 c.in-Case.field-1 c.in-Case.arms c.in-Case.is ∙
    ap (λ (z : List FlatArm). flat_map (λ (p : Summary). p.written) (map (arm_summary S) z)) (sym c.as_slice-in-Case.ensures))
    c.in_ok-add_arms_written-in-Case.ensures

pub add_written-returns-in_ok-add_target-in-Now : goal.add_written-returns-in_ok-add_target-in-Now
add_written-returns-in_ok-add_target-in-Now t c =
    let S = declared_all c.args.signals.now in
    adds-as S _ _ _ _ (written-Now S c.args.s.now c.in-Now.t c.in-Now.field-1 c.in-Now.field-2 c.in-Now.is) c.in_ok-add_target-in-Now.ensures

pub add_written-returns-in_ok-add_target-in-Later : goal.add_written-returns-in_ok-add_target-in-Later
add_written-returns-in_ok-add_target-in-Later t c =
    let S = declared_all c.args.signals.now in
    adds-as S _ _ _ _ (written-Later S c.args.s.now c.in-Later.t c.in-Later.field-1 c.in-Later.field-2 c.in-Later.is) c.in_ok-add_target-in-Later.ensures

pub add_all_written-loop-s-preserved : goal.add_all_written-loop-s-preserved
add_all_written-loop-s-preserved t c =
    let S = declared_all c.args.signals.now in
    adds-as S _ _ _ _ (flat-map-more (λ (p : Summary). p.written) (summary S) c.args.body.now c.loop-s.s-index c.s-item.result c.loop-s-test.true c.s-item.is)
    (adds-then S c.loop-s.invariant c.in_ok-add_written.ensures)

pub add_arms_written-loop-arm-preserved : goal.add_arms_written-loop-arm-preserved
add_arms_written-loop-arm-preserved t c =
    let S = declared_all c.args.signals.now in
    adds-as S _ _ _ _ (flat-map-more (λ (p : Summary). p.written) (arm_summary S) c.args.arms.now c.loop-arm.arm-index c.arm-item.result c.loop-arm-test.true c.arm-item.is)
    (adds-then S c.loop-arm.invariant c.in_ok-add_written.ensures)
