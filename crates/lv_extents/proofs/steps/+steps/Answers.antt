use Rattle.std.proofs.Common.{rules, ◌≡◌, [], ◌∷◌, ◌++◌, Option, Bool, true, false, ◌&&◌, List, map, sym, subst, ap, ◌∙◌}
use Rattle.std.specs.List.{list_all}
use Rattle.lv_source.specs.Views.{seen_of}
use Rattle.lv_flat.specs.declared.expr.FlatExpr.{FlatExpr}
use Rattle.lv_flat.specs.declared.stmt.FlatArm.{FlatArm}
use Rattle.lv_flat.specs.declared.stmt.FlatStmt.{FlatStmt}
use Rattle.lv_flat.specs.declared.stmt.FlatStmt.TheVariants as b
use Rattle.lv_flat.specs.declared.stmt.FlatStmt.TheViews.{the_lemmas}
use Rattle.lv_flat.specs.Signals.{declared_all}
use Rattle.lv_flat.specs.Judged.{is_good, reading}
use Rattle.lv_source.specs.Flow.{write_flow}
use Rattle.lv_flat.specs.Executing.{pieces}
use Rattle.lv_flat.specs.Flows.{flow}
use Rattle.lv_flat.specs.Good.{good_stmt}
use Rattle.lv_extents.specs.Extents.{IsStep}
use Rattle.lv_extents.specs.Blocks.{all_events, arm_flow, are_good_arms, label_reads, look_at}
use Rattle.lv_extents.proofs.Aims.{good-all-at}
use Rattle.lv_extents.proofs.Lists.{each-as, each-then, each-none, steps-more}
use Rattle.lv_extents.proofs.Events.{seen, seen-Null, seen-Block, seen-If, seen-If_else, seen-Case, seen-Now, seen-Later, if-good, else-good, block-good, case-good, now-good, later-good, arm-good, if-adds, if-adds-one}
use Rattle.lv_extents.proofs.steps.+steps.Goals as goal

pub add_block-add_steps-requires : goal.add_block-add_steps-requires
add_block-add_steps-requires t c =
    let S = declared_all c.args.signals.now in
    let g = good-all-at (good_stmt S) c.args.body.now c.loop-s.s-index c.s-item.result c.loop-s-test.true c.s-item.is c.requires.good in
    (search (rules, the_lemmas), (g, c.requires.distinct))

pub add_arms-add_steps-requires : goal.add_arms-add_steps-requires
add_arms-add_steps-requires t c =
    let S = declared_all c.args.signals.now in
    let g = good-all-at (λ (a : FlatArm). list_all (is_good S) a.labels && good_stmt S a.body) c.args.arms.now c.loop-arm.arm-index c.arm-item.result c.loop-arm-test.true c.arm-item.is
    c.requires.good in
    (search (rules, the_lemmas), (arm-good S c.arm-item.result g, c.requires.distinct))

pub add_steps-add_block-requires : goal.add_steps-add_block-requires
add_steps-add_block-requires t c =
    let S = declared_all c.args.signals.now in (
      search (rules, the_lemmas),
      (
        subst (λ (z : List FlatStmt). list_all (λ (x : Bool). x) (map (good_stmt S) z) ≡ true) (sym c.as_slice.ensures)
            (block-good S c.args.s.now c.in-Block.body c.in-Block.is c.requires.good),
        c.requires.distinct,
      ),
    )

pub add_steps-add_look-requires-clause-good : goal.add_steps-add_look-requires-clause-good
add_steps-add_look-requires-clause-good t c =
    let S = declared_all c.args.signals.now in
    subst (λ (z : FlatExpr). is_good S z ≡ true) (sym c.get.ensures) (if-good S c.args.s.now c.in-If.x c.in-If.a c.in-If.b c.in-If.is c.requires.good).0

pub add_steps-add_steps-requires : goal.add_steps-add_steps-requires
add_steps-add_steps-requires t c =
    let S = declared_all c.args.signals.now in (
      search (rules, the_lemmas),
      (
        subst (λ (z : FlatStmt). good_stmt S z ≡ true) (sym c.get-in-If.ensures)
            (if-good S c.args.s.now c.in-If.x c.in-If.a c.in-If.b c.in-If.is c.requires.good).1,
        c.requires.distinct,
      ),
    )

pub add_steps-add_steps-requires-in-Some : goal.add_steps-add_steps-requires-in-Some
add_steps-add_steps-requires-in-Some t c =
    let S = declared_all c.args.signals.now in (
      search (rules, the_lemmas),
      (
        subst (λ (z : FlatStmt). good_stmt S z ≡ true) (sym c.get-in-Some.ensures)
            (else-good S c.args.s.now c.in-If.x c.in-If.a c.in-If.b c.in-Some.b c.in-If.is c.in-Some.is c.requires.good),
        c.requires.distinct,
      ),
    )

pub add_steps-add_look-requires-in-Case-clause-good : goal.add_steps-add_look-requires-in-Case-clause-good
add_steps-add_look-requires-in-Case-clause-good t c =
    let S = declared_all c.args.signals.now in
    subst (λ (z : FlatExpr). is_good S z ≡ true) (sym c.get-in-Case.ensures) (case-good S c.args.s.now c.in-Case.field-0 c.in-Case.x c.in-Case.arms c.in-Case.is c.requires.good).0

pub add_steps-add_look-requires-in-Case-clause-labels : goal.add_steps-add_look-requires-in-Case-clause-labels
add_steps-add_look-requires-in-Case-clause-labels t c =
    let S = declared_all c.args.signals.now in
    subst (λ (z : List FlatArm). are_good_arms S z ≡ true) (sym c.as_slice-in-Case.ensures) (case-good S c.args.s.now c.in-Case.field-0 c.in-Case.x c.in-Case.arms c.in-Case.is c.requires.good).1

pub add_steps-add_arms-requires : goal.add_steps-add_arms-requires
add_steps-add_arms-requires t c =
    let S = declared_all c.args.signals.now in (
      search (rules, the_lemmas),
      (
        subst (λ (z : List FlatArm). are_good_arms S z ≡ true) (sym c.as_slice-in-Case-2.ensures)
            (case-good S c.args.s.now c.in-Case.field-0 c.in-Case.x c.in-Case.arms c.in-Case.is c.requires.good).1,
        c.requires.distinct,
      ),
    )

pub add_steps-add_write-requires-clause-good : goal.add_steps-add_write-requires-clause-good
add_steps-add_write-requires-clause-good t c =
    let S = declared_all c.args.signals.now in
    subst (λ (z : FlatExpr). is_good S z ≡ true) (sym c.get-in-Now.ensures) (now-good S c.args.s.now c.in-Now.t c.in-Now.x c.in-Now.place c.in-Now.is c.requires.good).1

pub add_steps-add_write-requires-clause-target : goal.add_steps-add_write-requires-clause-target
add_steps-add_write-requires-clause-target t c =
    let S = declared_all c.args.signals.now in
    (now-good S c.args.s.now c.in-Now.t c.in-Now.x c.in-Now.place c.in-Now.is c.requires.good).0

pub add_steps-returns-in_ok-add_write-in-Now : goal.add_steps-returns-in_ok-add_write-in-Now
add_steps-returns-in_ok-add_write-in-Now t c =
    let S = declared_all c.args.signals.now in
    each-as (IsStep S) _ _ _ _ (seen-Now S c.args.s.now c.in-Now.t c.in-Now.x c.in-Now.place c.in-Now.is ∙ ap (λ (z : FlatExpr). map seen_of (write_flow true (pieces S c.in-Now.t)
    (reading S z) c.in-Now.place).events) (sym c.get-in-Now.ensures)) c.in_ok-add_write-in-Now.ensures

pub add_steps-add_write-requires-in-Later-clause-good : goal.add_steps-add_write-requires-in-Later-clause-good
add_steps-add_write-requires-in-Later-clause-good t c =
    let S = declared_all c.args.signals.now in
    subst (λ (z : FlatExpr). is_good S z ≡ true) (sym c.get-in-Later.ensures) (later-good S c.args.s.now c.in-Later.t c.in-Later.x c.in-Later.place c.in-Later.is c.requires.good).1

pub add_steps-add_write-requires-in-Later-clause-target : goal.add_steps-add_write-requires-in-Later-clause-target
add_steps-add_write-requires-in-Later-clause-target t c =
    let S = declared_all c.args.signals.now in
    (later-good S c.args.s.now c.in-Later.t c.in-Later.x c.in-Later.place c.in-Later.is c.requires.good).0

pub add_steps-returns-in_ok-add_write-in-Later : goal.add_steps-returns-in_ok-add_write-in-Later
add_steps-returns-in_ok-add_write-in-Later t c =
    let S = declared_all c.args.signals.now in
    each-as (IsStep S) _ _ _ _ (seen-Later S c.args.s.now c.in-Later.t c.in-Later.x c.in-Later.place c.in-Later.is ∙ ap (λ (z :
    FlatExpr). map seen_of (write_flow false (pieces S c.in-Later.t) (reading S z) c.in-Later.place).events) (sym c.get-in-Later.ensures)) c.in_ok-add_write-in-Later.ensures

pub add_steps-returns-in-Null : goal.add_steps-returns-in-Null
add_steps-returns-in-Null t c =
    let S = declared_all c.args.signals.now in
    each-as (IsStep S) _ _ _ _ (seen-Null S c.args.s.now c.in-Null.is) (each-none (IsStep S) c.args.steps.now)

pub add_steps-returns-in_ok-add_block-in-Block : goal.add_steps-returns-in_ok-add_block-in-Block
add_steps-returns-in_ok-add_block-in-Block t c =
    let S = declared_all c.args.signals.now in
    each-as (IsStep S) _ _ _ _ (seen-Block S c.args.s.now c.in-Block.body c.in-Block.is ∙ ap (λ (z : List FlatStmt). map seen_of (all_events (map (flow S) z)))
    (sym c.as_slice.ensures)) c.in_ok-add_block-in-Block.ensures

pub add_steps-returns-in_ok-add_steps-in-If-2 : goal.add_steps-returns-in_ok-add_steps-in-If-2
add_steps-returns-in_ok-add_steps-in-If-2 t c =
    let S = declared_all c.args.signals.now in
    let R = (reading S c.get.result.now).reads in
    if-adds S c.args.s.now R _ _ _ _ (seen S c.get-in-If.result.now) (seen S c.get-in-Some.result.now)
    (seen-If_else S c.args.s.now c.in-If.x c.in-If.a c.in-Some.b (c.in-If.is ∙ ap (λ (o : Option FlatStmt). b.If c.in-If.x c.in-If.a o) c.in-Some.is) ∙
    (ap (λ (z : FlatExpr). look_at (reading S z).reads ∷ (seen S c.in-If.a ++ seen S c.in-Some.b)) (sym c.get.ensures) ∙
    (ap (λ (z : FlatStmt). look_at R ∷ (seen S z ++ seen S c.in-Some.b)) (sym c.get-in-If.ensures) ∙ ap (λ (z : FlatStmt). look_at R ∷ (seen S c.get-in-If.result.now ++ seen S z))
    (sym c.get-in-Some.ensures))))
    c.in_ok-add_look-in-If.ensures c.in_ok-add_steps-in-If.ensures c.in_ok-add_steps-in-If-2.ensures

pub add_steps-returns-in_default : goal.add_steps-returns-in_default
add_steps-returns-in_default t c =
    let S = declared_all c.args.signals.now in
    let R = (reading S c.get.result.now).reads in
    if-adds-one S c.args.s.now R _ _ _ (seen S c.get-in-If.result.now)
    (seen-If S c.args.s.now c.in-If.x c.in-If.a (c.in-If.is ∙ ap (λ (o : Option FlatStmt). b.If c.in-If.x c.in-If.a o) c.in_default.is) ∙
    (ap (λ (z : FlatExpr). look_at (reading S z).reads ∷ (seen S c.in-If.a ++ [])) (sym c.get.ensures) ∙ ap (λ (z : FlatStmt). look_at R ∷ (seen S z ++ [])) (sym c.get-in-If.ensures)))
    c.in_ok-add_look-in-If.ensures c.in_ok-add_steps-in-If.ensures

pub add_steps-returns-in_ok-add_arms-in-Case : goal.add_steps-returns-in_ok-add_arms-in-Case
add_steps-returns-in_ok-add_arms-in-Case t c =
    let S = declared_all c.args.signals.now in
    each-as (IsStep S) _ _ _ _
    (seen-Case S c.args.s.now c.in-Case.field-0 c.in-Case.x c.in-Case.arms c.in-Case.is ∙
    (ap (λ (z : FlatExpr). look_at ((reading S z).reads ++ label_reads S c.in-Case.arms) ∷ map seen_of (all_events (map (arm_flow S) c.in-Case.arms))) (sym c.get-in-Case.ensures) ∙
    (ap (λ (z : List FlatArm). look_at ((reading S c.get-in-Case.result.now).reads ++ label_reads S z) ∷ map seen_of (all_events (map (arm_flow S) c.in-Case.arms)))
    (sym c.as_slice-in-Case.ensures) ∙
    ap (λ (z : List FlatArm). look_at ((reading S c.get-in-Case.result.now).reads ++ label_reads S c.as_slice-in-Case.result.now) ∷ map seen_of (all_events (map (arm_flow S) z)))
    (sym c.as_slice-in-Case-2.ensures))))
    (each-then (IsStep S) c.in_ok-add_look-in-Case.ensures c.in_ok-add_arms-in-Case.ensures)

pub add_block-loop-s-preserved : goal.add_block-loop-s-preserved
add_block-loop-s-preserved t c =
    let S = declared_all c.args.signals.now in
    each-as (IsStep S) _ _ _ _ (steps-more (flow S) c.args.body.now c.loop-s.s-index c.s-item.result c.loop-s-test.true c.s-item.is)
    (each-then (IsStep S) c.loop-s.invariant c.in_ok-add_steps.ensures)

pub add_arms-loop-arm-preserved : goal.add_arms-loop-arm-preserved
add_arms-loop-arm-preserved t c =
    let S = declared_all c.args.signals.now in
    each-as (IsStep S) _ _ _ _ (steps-more (arm_flow S) c.args.arms.now c.loop-arm.arm-index c.arm-item.result c.loop-arm-test.true c.arm-item.is)
    (each-then (IsStep S) c.loop-arm.invariant c.in_ok-add_steps.ensures)
