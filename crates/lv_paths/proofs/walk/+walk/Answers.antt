use Rattle.std.proofs.Common.{rules, ◌≡◌, [], ◌∷◌, ◌++◌, Option, Some, None, Bool, true, false, ◌&&◌, ◌||◌, List, map, take, refl, sym, subst, ap, ◌∙◌}
use Rattle.std.specs.List.{list_all}
use Rattle.lv_source.specs.Meaning.{Reading}
use Rattle.lv_source.specs.Summary.{Summary, nothing_done, either_summary, all_summaries, any_summary, no_match_summary, write_summary}
use Rattle.lv_flat.specs.declared.expr.FlatExpr.{FlatExpr}
use Rattle.lv_flat.specs.declared.stmt.FlatArm.{FlatArm}
use Rattle.lv_flat.specs.declared.stmt.FlatStmt.{FlatStmt}
use Rattle.lv_flat.specs.declared.stmt.FlatStmt.TheViews.{the_lemmas}
use Rattle.lv_flat.specs.Signals.{Signals, declared_all}
use Rattle.lv_flat.specs.Judged.{is_good, reading}
use Rattle.lv_flat.specs.Executing.{pieces}
use Rattle.lv_flat.specs.Flows.{summary}
use Rattle.lv_flat.specs.Good.{good_stmt}
use Rattle.lv_spans.specs.declared.span.Span.{Span}
use Rattle.lv_spans.specs.Sets.{Masks}
use Rattle.lv_extents.specs.Blocks.{are_good_arms, label_reads}
use Rattle.lv_extents.proofs.Aims.{good-all-at}
use Rattle.lv_extents.proofs.Lists.{map-more}
use Rattle.lv_extents.proofs.Events.{if-good, else-good, block-good, case-good, now-good, later-good, arm-good}
use Rattle.lv_paths.specs.Bits.{holds, cells_have}
use Rattle.lv_paths.specs.Ways.{IsDecided, arm_summary}
use Rattle.lv_paths.proofs.Sequences.{walks-is, walks-none, walks-behind, walks-next}
use Rattle.lv_paths.proofs.Branches.{fork-start, fork-more, fork-as, fork-walks}
use Rattle.lv_paths.proofs.Trees.{summary_of, sum-Null, sum-Block, sum-branches, sum-arms, sum-Now, sum-Later, of_arms, branch-then, branch-else, branch-either, walks-branch, fork-one}
use Rattle.lv_paths.proofs.walk.+walk.Goals as goal

-- ---- what is asked for

pub walk-walk_block-requires : goal.walk-walk_block-requires
walk-walk_block-requires t c =
    let S = declared_all c.args.signals.now in (
      search (rules, the_lemmas),
      (
        subst (λ (z : List FlatStmt). list_all (λ (x : Bool). x) (map (good_stmt S) z) ≡ true) (sym c.as_slice.ensures)
            (block-good S c.args.s.now c.in-Block.body c.in-Block.is c.requires.good),
        c.requires.distinct,
      ),
    )

pub walk-decide-requires-clause-good : goal.walk-decide-requires-clause-good
walk-decide-requires-clause-good t c =
    let S = declared_all c.args.signals.now in
    subst (λ (z : FlatExpr). is_good S z ≡ true) (sym c.get.ensures) (if-good S c.args.s.now c.in-If.x c.in-If.a c.in-If.b c.in-If.is c.requires.good).0

pub walk-walk-requires : goal.walk-walk-requires
walk-walk-requires t c =
    let S = declared_all c.args.signals.now in (
      search (rules, the_lemmas),
      (
        subst (λ (z : FlatStmt). good_stmt S z ≡ true) (sym c.get-in-Some-true.ensures) (if-good S c.args.s.now c.in-If.x c.in-If.a c.in-If.b c.in-If.is c.requires.good).1,
        c.requires.distinct,
      ),
    )

pub walk-walk-requires-in-Some : goal.walk-walk-requires-in-Some
walk-walk-requires-in-Some t c =
    let S = declared_all c.args.signals.now in (
      search (rules, the_lemmas),
      (
        subst (λ (z : FlatStmt). good_stmt S z ≡ true) (sym c.get-in-Some.ensures)
            (else-good S c.args.s.now c.in-If.x c.in-If.a c.in-If.b c.in-Some.b c.in-If.is c.in-Some.is c.requires.good),
        c.requires.distinct,
      ),
    )

pub walk-walk-requires-in-None : goal.walk-walk-requires-in-None
walk-walk-requires-in-None t c =
    let S = declared_all c.args.signals.now in (
      search (rules, the_lemmas),
      (
        subst (λ (z : FlatStmt). good_stmt S z ≡ true) (sym c.get-in-None.ensures) (if-good S c.args.s.now c.in-If.x c.in-If.a c.in-If.b c.in-If.is c.requires.good).1,
        c.requires.distinct,
      ),
    )

pub walk-walk-requires-in-Some-b : goal.walk-walk-requires-in-Some-b
walk-walk-requires-in-Some-b t c =
    let S = declared_all c.args.signals.now in (
      search (rules, the_lemmas),
      (
        subst (λ (z : FlatStmt). good_stmt S z ≡ true) (sym c.get-in-Some-b.ensures)
            (else-good S c.args.s.now c.in-If.x c.in-If.a c.in-If.b c.in-Some-b.b c.in-If.is c.in-Some-b.is c.requires.good),
        c.requires.distinct,
      ),
    )

pub walk-look_at_case-requires-clause-good : goal.walk-look_at_case-requires-clause-good
walk-look_at_case-requires-clause-good t c =
    let S = declared_all c.args.signals.now in
    subst (λ (z : FlatExpr). is_good S z ≡ true) (sym c.get-x.ensures) (case-good S c.args.s.now c.in-Case.wild c.in-Case.x c.in-Case.arms c.in-Case.is c.requires.good).0

pub walk-look_at_case-requires-clause-labels : goal.walk-look_at_case-requires-clause-labels
walk-look_at_case-requires-clause-labels t c =
    let S = declared_all c.args.signals.now in
    subst (λ (z : List FlatArm). are_good_arms S z ≡ true) (sym c.as_slice-arms.ensures) (case-good S c.args.s.now c.in-Case.wild c.in-Case.x c.in-Case.arms c.in-Case.is c.requires.good).1

pub walk-may_miss-requires-clause-good : goal.walk-may_miss-requires-clause-good
walk-may_miss-requires-clause-good t c =
    let S = declared_all c.args.signals.now in
    subst (λ (z : FlatExpr). is_good S z ≡ true) (sym c.get-x.ensures) (case-good S c.args.s.now c.in-Case.wild c.in-Case.x c.in-Case.arms c.in-Case.is c.requires.good).0

pub walk-may_miss-requires-clause-labels : goal.walk-may_miss-requires-clause-labels
walk-may_miss-requires-clause-labels t c =
    let S = declared_all c.args.signals.now in
    subst (λ (z : List FlatArm). are_good_arms S z ≡ true) (sym c.as_slice-arms.ensures) (case-good S c.args.s.now c.in-Case.wild c.in-Case.x c.in-Case.arms c.in-Case.is c.requires.good).1

pub walk-walk_arms-requires : goal.walk-walk_arms-requires
walk-walk_arms-requires t c =
    let S = declared_all c.args.signals.now in (
      search (rules, the_lemmas),
      (
        subst (λ (z : List FlatArm). are_good_arms S z ≡ true) (sym c.as_slice-arms.ensures)
            (case-good S c.args.s.now c.in-Case.wild c.in-Case.x c.in-Case.arms c.in-Case.is c.requires.good).1,
        c.requires.distinct,
      ),
    )

pub walk-walk_write-requires-clause-good : goal.walk-walk_write-requires-clause-good
walk-walk_write-requires-clause-good t c =
    let S = declared_all c.args.signals.now in
    subst (λ (z : FlatExpr). is_good S z ≡ true) (sym c.get-in-Now.ensures) (now-good S c.args.s.now c.in-Now.t c.in-Now.x c.in-Now.field-2 c.in-Now.is c.requires.good).1

pub walk-walk_write-requires-clause-target : goal.walk-walk_write-requires-clause-target
walk-walk_write-requires-clause-target t c = (now-good (declared_all c.args.signals.now) c.args.s.now c.in-Now.t c.in-Now.x c.in-Now.field-2 c.in-Now.is c.requires.good).0

pub walk-walk_write-requires-in-Later-clause-good : goal.walk-walk_write-requires-in-Later-clause-good
walk-walk_write-requires-in-Later-clause-good t c =
    let S = declared_all c.args.signals.now in
    subst (λ (z : FlatExpr). is_good S z ≡ true) (sym c.get-in-Later.ensures) (later-good S c.args.s.now c.in-Later.t c.in-Later.x c.in-Later.field-2 c.in-Later.is c.requires.good).1

pub walk-walk_write-requires-in-Later-clause-target : goal.walk-walk_write-requires-in-Later-clause-target
walk-walk_write-requires-in-Later-clause-target t c =
    (later-good (declared_all c.args.signals.now) c.args.s.now c.in-Later.t c.in-Later.x c.in-Later.field-2 c.in-Later.is c.requires.good).0

pub walk_arms-walk-requires : goal.walk_arms-walk-requires
walk_arms-walk-requires t c =
    let S = declared_all c.args.signals.now in
    let g = good-all-at (λ (a : FlatArm). list_all (is_good S) a.labels && good_stmt S a.body) c.args.arms.now c.loop-arm.arm-index c.arm-item.result c.loop-arm-test.true c.arm-item.is
    c.requires.good in
    (search (rules, the_lemmas), (arm-good S c.arm-item.result g, c.requires.distinct))

pub walk_block-walk-requires : goal.walk_block-walk-requires
walk_block-walk-requires t c =
    let S = declared_all c.args.signals.now in
    let g = good-all-at (good_stmt S) c.args.body.now c.loop-s.s-index c.s-item.result c.loop-s-test.true c.s-item.is c.requires.good in
    (search (rules, the_lemmas), (g, c.requires.distinct))

-- ---- what is walked

pub walk-returns-in-Null : goal.walk-returns-in-Null
walk-returns-in-Null t c =
    let S = declared_all c.args.signals.now in
    walks-is S c.args.written.now _ _ (sum-Null S c.args.s.now c.in-Null.is) (walks-none S c.args.written.now c.args.done.now.entries c.args.log.now c.args.exposed)

pub walk-returns-in_ok-r-in-Block : goal.walk-returns-in_ok-r-in-Block
walk-returns-in_ok-r-in-Block t c =
    let S = declared_all c.args.signals.now in
    walks-is S c.args.written.now _ _ (sum-Block S c.args.s.now c.in-Block.body c.in-Block.is ∙ ap (λ (z : List FlatStmt). all_summaries (map (summary S) z)) (sym c.as_slice.ensures))
    c.in_ok-r-in-Block.ensures

pub walk-returns-in_ok-r-in-Some-true : goal.walk-returns-in_ok-r-in-Some-true
walk-returns-in_ok-r-in-Some-true t c =
    let S = declared_all c.args.signals.now in
    let R : Reading = reading S c.get.result.now in
    let p : Summary = summary S c.get-in-Some-true.result.now in
    let r : Summary = summary_of S c.in-If.b in
    let e : c.in_ok-c-in-If.c.met ≡ Some true = cc in
    let d : IsDecided R (Some true) = subst (λ (o : Option Bool). IsDecided R o) e c.in_ok-c-in-If.ensures.decided in
    walks-branch S c.args.written.now c.args.s.now R p r p
    (sum-branches S c.args.s.now c.in-If.x c.get.result.now c.in-If.a c.get-in-Some-true.result.now c.in-If.b c.in-If.b c.in-If.is c.get.ensures c.get-in-Some-true.ensures refl)
    (branch-then R p r d.0 d.1) c.in_ok-c-in-If.ensures.exposed c.in_ok-r-in-Some-true.ensures

pub walk-returns-in_ok-r-in-Some : goal.walk-returns-in_ok-r-in-Some
walk-returns-in_ok-r-in-Some t c =
    let S = declared_all c.args.signals.now in
    let R : Reading = reading S c.get.result.now in
    let p : Summary = summary S c.in-If.a in
    let r : Summary = summary S c.get-in-Some.result.now in
    let e : c.in_ok-c-in-If.c.met ≡ Some false = cc in
    let d : IsDecided R (Some false) = subst (λ (o : Option Bool). IsDecided R o) e c.in_ok-c-in-If.ensures.decided in
    walks-branch S c.args.written.now c.args.s.now R p r r
    (sum-branches S c.args.s.now c.in-If.x c.get.result.now c.in-If.a c.in-If.a c.in-If.b (Some c.get-in-Some.result.now) c.in-If.is c.get.ensures refl
    (c.in-Some.is ∙ ap (λ (z : FlatStmt). Some z) (sym c.get-in-Some.ensures)))
    (branch-else R p r d.0 d.1) c.in_ok-c-in-If.ensures.exposed c.in_ok-r-in-Some.ensures

pub walk-returns-in-None-b : goal.walk-returns-in-None-b
walk-returns-in-None-b t c =
    let S = declared_all c.args.signals.now in
    let R : Reading = reading S c.get.result.now in
    let p : Summary = summary S c.in-If.a in
    let e : c.in_ok-c-in-If.c.met ≡ Some false = cc in
    let d : IsDecided R (Some false) = subst (λ (o : Option Bool). IsDecided R o) e c.in_ok-c-in-If.ensures.decided in
    walks-branch S c.args.written.now c.args.s.now R p nothing_done nothing_done
    (sum-branches S c.args.s.now c.in-If.x c.get.result.now c.in-If.a c.in-If.a c.in-If.b None c.in-If.is c.get.ensures refl c.in-None-b.is)
    (branch-else R p nothing_done d.0 d.1) c.in_ok-c-in-If.ensures.exposed (walks-none S c.args.written.now c.args.done.now.entries c.args.log.now c.in_ok-c-in-If.c.exposed)

pub walk-returns-in_ok-add_spans-in-Some-b : goal.walk-returns-in_ok-add_spans-in-Some-b
walk-returns-in_ok-add_spans-in-Some-b t c =
    let S : Signals = declared_all c.args.signals.now in
    let W : Masks = c.args.written.now in
    let B : Masks = c.args.done.now.entries in
    let R : Reading = reading S c.get.result.now in
    let p : Summary = summary S c.get-in-None.result.now in
    let r : Summary = summary S c.get-in-Some-b.result.now in
    let d : R.constant ≡ false = subst (λ (o : Option Bool). IsDecided R o) c.in-None.is c.in_ok-c-in-If.ensures.decided in
    let begin = fork-start S W B c.in_ok-c-in-If.c.exposed false B c.in_ok-c-in-If.c.exposed refl refl in
    let one = fork-more S W B c.in_ok-c-in-If.c.exposed false B _ c.leave.new.done.entries _ c.in_ok-shared-in-None.shared c.in_ok-c-in-If.c.exposed c.in_ok-r-in-None.r None [] p begin
    c.new-first.result c.new-first.ensures c.in_ok-r-in-None.ensures c.in_ok-shared-in-None.ensures.undone c.in_ok-shared-in-None.ensures.shared in
    let two = fork-more S W B c.in_ok-c-in-If.c.exposed false c.leave.new.done.entries _ c.leave-in-Some-b.new.done.entries _ c.in_ok-shared-in-Some-b.shared c.in_ok-r-in-None.r c.in_ok-r-in-Some-b.r
    (Some c.in_ok-shared-in-None.shared) (p ∷ []) r one
    c.new-second.result c.new-second.ensures c.in_ok-r-in-Some-b.ensures c.in_ok-shared-in-Some-b.ensures.undone c.in_ok-shared-in-Some-b.ensures.shared in
    walks-branch S W c.args.s.now R p r (either_summary p r)
    (sum-branches S c.args.s.now c.in-If.x c.get.result.now c.in-If.a c.get-in-None.result.now c.in-If.b (Some c.get-in-Some-b.result.now) c.in-If.is c.get.ensures c.get-in-None.ensures
    (c.in-Some-b.is ∙ ap (λ (z : FlatStmt). Some z) (sym c.get-in-Some-b.ensures)))
    (branch-either R p r d) c.in_ok-c-in-If.ensures.exposed
    (fork-walks S W B c.in_ok-c-in-If.c.exposed false c.leave-in-Some-b.new.done.entries c.add_spans.new.done.entries c.args.log.now _ c.in_ok-r-in-Some-b.r (Some c.in_ok-shared-in-Some-b.shared)
    (p ∷ r ∷ []) (either_summary p r) two refl refl
    (λ q i. c.in_ok-add_spans-in-Some-b.ensures.done q i ∙ ap (λ (xs : List Span). holds c.leave-in-Some-b.new.done.entries q i || cells_have xs q i) c.as_slice-in-Some-b.ensures)
    c.in_ok-add_spans-in-Some-b.ensures.logged)

pub walk-returns-in-None-b-2 : goal.walk-returns-in-None-b-2
walk-returns-in-None-b-2 t c =
    let S : Signals = declared_all c.args.signals.now in
    let W : Masks = c.args.written.now in
    let B : Masks = c.args.done.now.entries in
    let R : Reading = reading S c.get.result.now in
    let p : Summary = summary S c.get-in-None.result.now in
    let d : R.constant ≡ false = subst (λ (o : Option Bool). IsDecided R o) c.in-None.is c.in_ok-c-in-If.ensures.decided in
    let begin = fork-start S W B c.in_ok-c-in-If.c.exposed false B c.in_ok-c-in-If.c.exposed refl refl in
    let one = fork-more S W B c.in_ok-c-in-If.c.exposed false B _ c.leave.new.done.entries _ c.in_ok-shared-in-None.shared c.in_ok-c-in-If.c.exposed c.in_ok-r-in-None.r None [] p begin
    c.new-first.result c.new-first.ensures c.in_ok-r-in-None.ensures c.in_ok-shared-in-None.ensures.undone c.in_ok-shared-in-None.ensures.shared in
    walks-branch S W c.args.s.now R p nothing_done (either_summary p nothing_done)
    (sum-branches S c.args.s.now c.in-If.x c.get.result.now c.in-If.a c.get-in-None.result.now c.in-If.b None c.in-If.is c.get.ensures c.get-in-None.ensures c.in-None-b-2.is)
    (branch-either R p nothing_done d) c.in_ok-c-in-If.ensures.exposed (fork-one S W c.args.log.now p one)

pub walk-returns-in_ok-settle-in-Case : goal.walk-returns-in_ok-settle-in-Case
walk-returns-in_ok-settle-in-Case t c =
    let S : Signals = declared_all c.args.signals.now in
    let W : Masks = c.args.written.now in
    let B : Masks = c.args.done.now.entries in
    let x : FlatExpr = c.get-x.result.now in
    let arms : List FlatArm = c.as_slice-arms.result.now in
    let ps : List Summary = map (arm_summary S) arms in
    walks-is S W _ _ (sum-arms S c.args.s.now c.in-Case.wild c.in-Case.x x c.in-Case.arms arms c.in-Case.is c.get-x.ensures c.as_slice-arms.ensures)
    (walks-behind S W ((reading S x).reads ++ label_reads S arms) (of_arms S c.in-Case.wild x arms) c.in_ok-look-in-Case.ensures.exposed
    (fork-walks S W B c.in_ok-look-in-Case.look.exposed c.in_ok-can-in-Case.can c.walk_arms.new.done.entries c.settle.new.done.entries c.args.log.now _ c.in_ok-fork-in-Case.fork.exposed
    c.in_ok-fork-in-Case.fork.shared ps (of_arms S c.in-Case.wild x arms) c.in_ok-fork-in-Case.ensures
    (ap (λ (u : Bool). (any_summary (ps ++ no_match_summary u)).sure) (sym c.in_ok-can-in-Case.ensures)) (ap (λ (u : Bool). (any_summary (ps ++ no_match_summary u)).exposed) (sym c.in_ok-can-in-Case.ensures))
    c.in_ok-settle-in-Case.ensures.done c.in_ok-settle-in-Case.ensures.logged))

pub walk-returns-in_ok-r-in-Now : goal.walk-returns-in_ok-r-in-Now
walk-returns-in_ok-r-in-Now t c =
    let S = declared_all c.args.signals.now in
    walks-is S c.args.written.now _ _
    (sum-Now S c.args.s.now c.in-Now.t c.in-Now.x c.in-Now.field-2 c.in-Now.is ∙ ap (λ (z : FlatExpr). write_summary (pieces S c.in-Now.t) (reading S z)) (sym c.get-in-Now.ensures))
    c.in_ok-r-in-Now.ensures

pub walk-returns-in_ok-r-in-Later : goal.walk-returns-in_ok-r-in-Later
walk-returns-in_ok-r-in-Later t c =
    let S = declared_all c.args.signals.now in
    walks-is S c.args.written.now _ _
    (sum-Later S c.args.s.now c.in-Later.t c.in-Later.x c.in-Later.field-2 c.in-Later.is ∙ ap (λ (z : FlatExpr). write_summary (pieces S c.in-Later.t) (reading S z)) (sym c.get-in-Later.ensures))
    c.in_ok-r-in-Later.ensures

pub walk_block-loop-s-preserved : goal.walk_block-loop-s-preserved
walk_block-loop-s-preserved t c =
    let S = declared_all c.args.signals.now in
    walks-next S c.args.written.now (map (summary S) (take c.loop-s.s-index c.args.body.now)) _ (summary S c.s-item.result)
    (map-more (summary S) c.args.body.now c.loop-s.s-index c.s-item.result c.loop-s-test.true c.s-item.is) c.loop-s.invariant c.in_ok-r.ensures

pub walk_arms-loop-arm-preserved : goal.walk_arms-loop-arm-preserved
walk_arms-loop-arm-preserved t c =
    let S = declared_all c.args.signals.now in
    fork-as S c.args.written.now c.args.done.now.entries c.args.exposed c.args.can _ _
    (map-more (arm_summary S) c.args.arms.now c.loop-arm.arm-index c.arm-item.result c.loop-arm-test.true c.arm-item.is)
    (fork-more S c.args.written.now c.args.done.now.entries c.args.exposed c.args.can c.loop-arm.done.entries _ c.leave.new.done.entries _ c.in_ok-rest.rest c.loop-arm.fork.exposed c.in_ok-r.r
    c.loop-arm.fork.shared (map (arm_summary S) (take c.loop-arm.arm-index c.args.arms.now)) (arm_summary S c.arm-item.result) c.loop-arm.invariant
    c.new-log.result c.new-log.ensures c.in_ok-r.ensures c.in_ok-rest.ensures.undone c.in_ok-rest.ensures.shared)
