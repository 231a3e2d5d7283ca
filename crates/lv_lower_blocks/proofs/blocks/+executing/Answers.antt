use Rattle.std.proofs.Common.{rules, ◌≡◌, ◌+◌, ◌-◌, ◌<◌, ℕ, Bool, true, List, length, map, drop, sym, ◌∙◌, ap, subst, arith, refl}
use Rattle.std.specs.Prelude.{flat_map, if◌then◌else◌}
use Rattle.std.specs.List.{list_all, list_any}
use Rattle.lv_source.specs.Effect.{State, Width, fits_label}
use Rattle.lv_source.specs.Names.{Valuation}
use Rattle.lv_source.specs.Values.{own_value}
use Rattle.lv_flat.specs.declared.expr.FlatExpr.{FlatExpr}
use Rattle.lv_flat.specs.declared.stmt.FlatArm.{FlatArm}
use Rattle.lv_flat.specs.declared.stmt.FlatStmt.{FlatStmt}
use Rattle.lv_flat.specs.Executing.{label_of}
use Rattle.lv_flat.specs.declared.stmt.FlatStmt.TheViews.{the_lemmas}
use Rattle.lv_flat.specs.Cells.{all_cells}
use Rattle.lv_flat.specs.Signals.{Signals, declared_all}
use Rattle.lv_flat.specs.Judged.{is_good, meaning, reading}
use Rattle.lv_flat.specs.Good.{good_stmt}
use Rattle.lv_lower_exprs.specs.Tables.{IsTable}
use Rattle.lv_lower_exprs.proofs.Parts.{good-width}
use Rattle.lv_lower_exprs.proofs.Owns.{own_pair}
use Rattle.lv_lower_exprs.proofs.Meant.{table-later, means-same}
use Rattle.lv_lower_blocks.specs.Rewritten.{AreAlike, Merges, MayBeTable}
use Rattle.lv_lower_blocks.specs.Running.{Runs, keeps_writes, keeps_or, keeps_all, keeps_now, keeps_later}
use Rattle.lv_values.proofs.Growth.{in-later}
use Rattle.lv_lower_blocks.specs.Rewritten.{Picks}
use Rattle.lv_lower_blocks.specs.Cased.{common_width, labels_of, good_labels, good_arm_of, arms_read, arms_do, last_default}
use Rattle.lv_lower_blocks.proofs.Arming.{case-all, case-good, arm-good, arms-next, arms-same, arms-more, arms-skip, runs-case}
use Rattle.lv_lower_blocks.proofs.Casing.{common-is, rest-within, labels-of-good, arms-within, no-default, default-is}
use Rattle.lv_lower_blocks.proofs.Picking.{chosen-of}
use Rattle.lv_lower_blocks.proofs.Merging.{tables-alike, may-be-later, may-be-alike}
use Rattle.lv_lower_blocks.proofs.Keeping.{null-keeps, block-keeps, block-good, if-keeps, if-good, now-keeps, later-keeps, now-good, later-good, good-at, block-more}
use Rattle.lv_lower_blocks.proofs.Runnings.{on_ok, taken, runs-none, runs-same, runs-then, runs-if, runs-known, runs-known-other, runs-written}
use Rattle.lv_lower_blocks.proofs.blocks.+executing.Goals as goal

pub execute-returns-in-Null : goal.execute-returns-in-Null
execute-returns-in-Null t c = runs-same (runs-none c.requires.now c.requires.done) (null-keeps (declared_all c.args.signals.now) c.args.s.now c.in-Null.is)

pub execute-block-requires : goal.execute-block-requires
execute-block-requires t c =
    let S = declared_all c.args.signals.now in (
      search (rules, the_lemmas),
      (
        subst (λ (z : List FlatStmt). list_all (λ (x : Bool). x) (map (good_stmt S) z) ≡ true) (sym c.as_slice.ensures) (block-good S c.args.s.now c.in-Block.body c.in-Block.is c.requires.good),
        (c.requires.first, (c.requires.now, c.requires.done)),
      ),
    )

pub execute-returns-in-Block : goal.execute-returns-in-Block
execute-returns-in-Block t c =
    let S = declared_all c.args.signals.now in
    on_ok c.block.result (λ r. runs-same r (λ st. ap (λ (z : List FlatStmt). keeps_all S z st) c.as_slice.ensures ∙ block-keeps S c.args.s.now c.in-Block.body c.in-Block.is st)) c.block.ensures

pub execute-own-of-requires : goal.execute-own-of-requires
execute-own-of-requires t c =
    let S = declared_all c.args.signals.now in
    subst (λ (z : FlatExpr). is_good S z ≡ true) (sym c.get-e.ensures) (if-good S c.args.s.now c.in-If.c c.in-If.then_ c.in-If.else_ c.in-If.is c.requires.good).0

pub execute-value-requires-clause-good : goal.execute-value-requires-clause-good
execute-value-requires-clause-good t c =
    let S = declared_all c.args.signals.now in
    subst (λ (z : FlatExpr). is_good S z ≡ true) (sym c.get-e.ensures) (if-good S c.args.s.now c.in-If.c c.in-If.then_ c.in-If.else_ c.in-If.is c.requires.good).0

pub execute-value-requires-clause-most : goal.execute-value-requires-clause-most
execute-value-requires-clause-most t c =
    let S = declared_all c.args.signals.now in
    let g = subst (λ (z : FlatExpr). is_good S z ≡ true) (sym c.get-e.ensures) (if-good S c.args.s.now c.in-If.c c.in-If.then_ c.in-If.else_ c.in-If.is c.requires.good).0 in
    let e = ap (λ (p : ℕ × Bool). p.0) c.own-of.ensures in
    omega (arith, e, (good-width S c.get-e.result.now g).1)

pub execute-execute_or-requires : goal.execute-execute_or-requires
execute-execute_or-requires t c =
    let S = declared_all c.args.signals.now in
    let g = (if-good S c.args.s.now c.in-If.c c.in-If.then_ c.in-If.else_ c.in-If.is c.requires.good).2 in
    let grow = c.in_ok-t-in-If.ensures.is.grows in
    (search (rules, the_lemmas), (g, (c.requires.first, (table-later grow c.requires.now, may-be-later grow c.requires.done))))

pub execute-execute-requires : goal.execute-execute-requires
execute-execute-requires t c =
    let S = declared_all c.args.signals.now in
    let g = (if-good S c.args.s.now c.in-If.c c.in-If.then_ c.in-If.else_ c.in-If.is c.requires.good).1 in
    let grow = c.in_ok-t-in-If.ensures.is.grows in
    (search (rules, the_lemmas), (subst (λ (z : FlatStmt). good_stmt S z ≡ true) (sym c.get-yes.ensures) g, (c.requires.first, (table-later grow c.requires.now, may-be-later grow c.requires.done))))

pub execute-execute-requires-in-Node : goal.execute-execute-requires-in-Node
execute-execute-requires-in-Node t c =
    let S = declared_all c.args.signals.now in
    let g = (if-good S c.args.s.now c.in-If.c c.in-If.then_ c.in-If.else_ c.in-If.is c.requires.good).1 in
    let grow = c.in_ok-t-in-If.ensures.is.grows in
    (search (rules, the_lemmas), (subst (λ (z : FlatStmt). good_stmt S z ≡ true) (sym c.get-yes.ensures) g, (c.requires.first, (table-later grow c.requires.now, may-be-later grow c.requires.done))))

pub execute-assign_now-requires-clause-target : goal.execute-assign_now-requires-clause-target
execute-assign_now-requires-clause-target t c = (now-good (declared_all c.args.signals.now) c.args.s.now c.in-Now.target c.in-Now.e c.in-Now.field-2 c.in-Now.is c.requires.good).0

pub execute-assign_now-requires-clause-good : goal.execute-assign_now-requires-clause-good
execute-assign_now-requires-clause-good t c =
    let S = declared_all c.args.signals.now in
    subst (λ (z : FlatExpr). is_good S z ≡ true) (sym c.get.ensures) (now-good S c.args.s.now c.in-Now.target c.in-Now.e c.in-Now.field-2 c.in-Now.is c.requires.good).1

pub execute-returns-in-Now : goal.execute-returns-in-Now
execute-returns-in-Now t c =
    let S = declared_all c.args.signals.now in
    on_ok c.assign_now.result (λ r. runs-same r (λ st. ap (λ (z : FlatExpr). keeps_now S c.in-Now.target z st) c.get.ensures ∙
    now-keeps S c.args.s.now c.in-Now.target c.in-Now.e c.in-Now.field-2 c.in-Now.is st)) c.assign_now.ensures

pub execute-assign_later-requires-clause-target : goal.execute-assign_later-requires-clause-target
execute-assign_later-requires-clause-target t c = (later-good (declared_all c.args.signals.now) c.args.s.now c.in-Later.target c.in-Later.e c.in-Later.field-2 c.in-Later.is c.requires.good).0

pub execute-assign_later-requires-clause-good : goal.execute-assign_later-requires-clause-good
execute-assign_later-requires-clause-good t c =
    let S = declared_all c.args.signals.now in
    subst (λ (z : FlatExpr). is_good S z ≡ true) (sym c.get-in-Later.ensures) (later-good S c.args.s.now c.in-Later.target c.in-Later.e c.in-Later.field-2 c.in-Later.is c.requires.good).1

pub execute-returns-in-Later : goal.execute-returns-in-Later
execute-returns-in-Later t c =
    let S = declared_all c.args.signals.now in
    on_ok c.assign_later.result (λ r. runs-same r (λ st. ap (λ (z : FlatExpr). keeps_later S c.in-Later.target z st) c.get-in-Later.ensures ∙
    later-keeps S c.args.s.now c.in-Later.target c.in-Later.e c.in-Later.field-2 c.in-Later.is st)) c.assign_later.ensures

pub execute-execute_or-requires-in-Node : goal.execute-execute_or-requires-in-Node
execute-execute_or-requires-in-Node t c =
    let S = declared_all c.args.signals.now in
    let g = (if-good S c.args.s.now c.in-If.c c.in-If.then_ c.in-If.else_ c.in-If.is c.requires.good).2 in
    let grow = c.in_ok-t-in-If.ensures.is.grows in
    let more = c.in_ok-execute-in-Node.ensures.grows in (
      search (rules, the_lemmas),
      (
        g,
        (
          c.requires.first,
          (
            subst (λ (z : List ℕ). IsTable c.execute-in-Node.new.b (all_cells S) z) (sym (c.as_mut_slice.ensures.value ∙
                c.in_ok-other_now-in-Node.ensures)) (table-later more (table-later grow c.requires.now)),
            subst (λ (z : List ℕ). MayBeTable c.execute-in-Node.new.b (all_cells S) z) (sym (c.as_mut_slice-in-Node.ensures.value ∙
                c.in_ok-other_done-in-Node.ensures)) (may-be-later more (may-be-later grow c.requires.done)),
          ),
        ),
      ),
    )

pub block-execute-requires : goal.block-execute-requires
block-execute-requires t c =
    let S = declared_all c.args.signals.now in
    let g = good-at S c.args.body.now c.loop-s.s-index c.s-item.result c.loop-s-test.true c.requires.good in
    (search (rules, the_lemmas), (subst (λ (z : FlatStmt). good_stmt S z ≡ true) (sym c.s-item.is) g, (c.requires.first, (c.loop-s.invariant.table, c.loop-s.invariant.rest))))

pub block-loop-s-preserved : goal.block-loop-s-preserved
block-loop-s-preserved t c =
    let S = declared_all c.args.signals.now in
    let e = block-more S c.args.body.now c.loop-s.s-index c.s-item.result c.loop-s-test.true c.s-item.is in
    runs-same (runs-then c.loop-s.invariant c.in_ok-execute.ensures) e

-- the condition's value
cond : (S : Signals) (e c : FlatExpr) (of : ℕ × Bool) → of ≡ own_pair (meaning S e) → e ≡ c → (v : Valuation) → (meaning S e).value of.0 of.1 v ≡ own_value (reading S c).meaning v
cond S e c of h i v = ap (λ (p : ℕ × Bool). (meaning S e).value p.0 p.1 v) h ∙ ap (λ (z : FlatExpr). own_value (meaning S z) v) i

pub execute-returns-then-value-eq0 : goal.execute-returns-then-value-eq0
execute-returns-then-value-eq0 t c =
    let S = declared_all c.args.signals.now in
    let m = means-same c.in_ok-t-in-If.ensures.is refl (cond S c.get-e.result.now c.in-If.c c.own-of.result c.own-of.ensures c.get-e.ensures) in
    on_ok c.execute_or.result (λ q. runs-same (runs-known (keeps_writes S c.in-If.then_) m c.in-Known.is (sym c.value-in-Known.ensures.is ∙ c.if-value-eq0.true) q)
    (if-keeps S c.args.s.now c.in-If.c c.in-If.then_ c.in-If.else_ c.in-If.is)) c.execute_or.ensures

pub execute-returns-else-value-eq0 : goal.execute-returns-else-value-eq0
execute-returns-else-value-eq0 t c =
    let S = declared_all c.args.signals.now in
    let m = means-same c.in_ok-t-in-If.ensures.is refl (cond S c.get-e.result.now c.in-If.c c.own-of.result c.own-of.ensures c.get-e.ensures) in
    on_ok c.execute.result (λ q. runs-same (runs-known-other (keeps_or S c.in-If.else_) m c.in-Known.is (λ h. omega (arith, c.if-value-eq0.false, c.value-in-Known.ensures.is, h))
    (runs-same q (λ st. ap (λ (z : FlatStmt). keeps_writes S z st) c.get-yes.ensures)))
    (if-keeps S c.args.s.now c.in-If.c c.in-If.then_ c.in-If.else_ c.in-If.is)) c.execute.ensures

pub execute-merge-requires-clause-alike : goal.execute-merge-requires-clause-alike
execute-merge-requires-clause-alike t c =
    let e : c.as_slice-in-Node.result.now ≡ c.execute_or-in-Node.new.now = c.as_slice-in-Node.ensures.value ∙ taken _ _ _ (omega (arith, c.execute_or-in-Node.auto.now, c.as_mut_slice.ensures.len)) in
    subst (λ (z : List ℕ). AreAlike c.execute_or-in-Node.new.b c.execute-in-Node.new.now z) (sym e)
    (tables-alike (table-later c.in_ok-execute_or-in-Node.ensures.grows c.in_ok-execute-in-Node.ensures.table) c.in_ok-execute_or-in-Node.ensures.table)

pub execute-merge-requires-in-Node-clause-alike : goal.execute-merge-requires-in-Node-clause-alike
execute-merge-requires-in-Node-clause-alike t c =
    let e : c.as_slice-in-Node-2.result.now ≡ c.execute_or-in-Node.new.done = c.as_slice-in-Node-2.ensures.value ∙
    taken _ _ _ (omega (arith, c.execute_or-in-Node.auto.done, c.as_mut_slice-in-Node.ensures.len)) in
    let copied : c.as_mut_slice-in-Node.result.now ≡ c.args.done.now = c.as_mut_slice-in-Node.ensures.value ∙ c.in_ok-other_done-in-Node.ensures in
    let same : length c.execute-in-Node.new.done ≡ length c.execute_or-in-Node.new.done = c.in_ok-execute-in-Node.ensures.count ∙ sym (c.in_ok-execute_or-in-Node.ensures.count ∙ ap length copied) in
    let grow = c.in_ok-merge-in-Node.ensures.grows in
    subst (λ (z : List ℕ). AreAlike c.merge.new.b c.execute-in-Node.new.done z) (sym e)
    (may-be-alike (may-be-later grow (may-be-later c.in_ok-execute_or-in-Node.ensures.grows c.in_ok-execute-in-Node.ensures.rest)) (may-be-later grow c.in_ok-execute_or-in-Node.ensures.rest) same)

pub execute-returns-in_ok-merge-in-Node : goal.execute-returns-in_ok-merge-in-Node
execute-returns-in_ok-merge-in-Node t c =
    let S = declared_all c.args.signals.now in
    let cells = all_cells S in
    let m = means-same c.in_ok-t-in-If.ensures.is refl (cond S c.get-e.result.now c.in-If.c c.own-of.result c.own-of.ensures c.get-e.ensures) in
    let p = runs-same c.in_ok-execute-in-Node.ensures (λ st. ap (λ (z : FlatStmt). keeps_writes S z st) c.get-yes.ensures) in
    let now_is : c.as_mut_slice.result.now ≡ c.args.now.now = c.as_mut_slice.ensures.value ∙ c.in_ok-other_now-in-Node.ensures in
    let done_is : c.as_mut_slice-in-Node.result.now ≡ c.args.done.now = c.as_mut_slice-in-Node.ensures.value ∙ c.in_ok-other_done-in-Node.ensures in
    let q0 = subst (λ (z : List ℕ). Runs c.execute-in-Node.new.b c.execute_or-in-Node.new.b cells z c.as_mut_slice-in-Node.result.now c.execute_or-in-Node.new.now c.execute_or-in-Node.new.done
    (keeps_or S c.in-If.else_)) now_is
    c.in_ok-execute_or-in-Node.ensures in
    let q = subst (λ (z : List ℕ). Runs c.execute-in-Node.new.b c.execute_or-in-Node.new.b cells c.args.now.now z c.execute_or-in-Node.new.now c.execute_or-in-Node.new.done
    (keeps_or S c.in-If.else_)) done_is q0 in
    let e1 : c.as_slice-in-Node.result.now ≡ c.execute_or-in-Node.new.now = c.as_slice-in-Node.ensures.value ∙ taken _ _ _ (omega (arith, c.execute_or-in-Node.auto.now, c.as_mut_slice.ensures.len)) in
    let e2 : c.as_slice-in-Node-2.result.now ≡ c.execute_or-in-Node.new.done = c.as_slice-in-Node-2.ensures.value ∙
    taken _ _ _ (omega (arith, c.execute_or-in-Node.auto.done, c.as_mut_slice-in-Node.ensures.len)) in
    let j1 = subst (λ (z : List ℕ). Merges c.execute_or-in-Node.new.b c.merge.new.b c.in-Node.k c.execute-in-Node.new.now z c.merge.new.table) e1 c.in_ok-merge-in-Node.ensures in
    on_ok c.merge-in-Node.result (λ j. runs-same
    (runs-if m c.in-Node.is p q j1 (subst (λ (z : List ℕ). Merges c.merge.new.b c.merge-in-Node.new.b c.in-Node.k c.execute-in-Node.new.done z c.merge-in-Node.new.table) e2 j))
    (if-keeps S c.args.s.now c.in-If.c c.in-If.then_ c.in-If.else_ c.in-If.is)) c.merge-in-Node.ensures

-- ---- case

pub base-returns-then-at-arms : goal.base-returns-then-at-arms
base-returns-then-at-arms t c =
    let S = declared_all c.args.signals.now in
    let cells = all_cells S in
    let n = no-default S c.args.arms.now (λ (z : State). z) (c.default_at-at.ensures.none c.if-at-arms.true) in
    let r = runs-same (runs-none c.requires.now c.requires.done) (λ st. ap (λ (f : State → State). f st) (sym n)) in
    subst (λ (z : List ℕ). Runs c.args.b.now c.args.b.now cells c.args.now.now c.args.done.now z c.in_ok-a_done.a_done.items (λ st. last_default (arms_read S c.args.arms.now) (λ s. s) st))
    (sym c.in_ok-a_now.ensures)
    (subst (λ (z : List ℕ). Runs c.args.b.now c.args.b.now cells c.args.now.now c.args.done.now c.args.now.now z (λ st. last_default (arms_read S c.args.arms.now) (λ s. s) st))
    (sym c.in_ok-a_done.ensures) r)

pub base-returns : goal.base-returns
base-returns t c =
    let S = declared_all c.args.signals.now in
    let cells = all_cells S in
    let a = c.index-arms-at.result in
    let lt : c.default_at-at.result < length c.args.arms.now = omega (arith, c.default_at-at.ensures.most, c.if-at-arms.false) in
    let e1 : c.as_mut_slice.result.now ≡ c.args.now.now = c.as_mut_slice.ensures.value ∙ c.in_ok-a_now.ensures in
    let e2 : c.as_mut_slice-2.result.now ≡ c.args.done.now = c.as_mut_slice-2.ensures.value ∙ c.in_ok-a_done.ensures in
    let r1 = subst (λ (z : List ℕ). Runs c.args.b.now c.execute.new.b cells z c.as_mut_slice-2.result.now c.execute.new.now c.execute.new.done (keeps_writes S a.body)) e1 c.in_ok-execute.ensures in
    let r2 = subst (λ (z : List ℕ). Runs c.args.b.now c.execute.new.b cells c.args.now.now z c.execute.new.now c.execute.new.done (keeps_writes S a.body)) e2 r1 in
    let D = λ (st : State). last_default (arms_read S c.args.arms.now) (λ (s : State). s) st in
    let r3 : Runs c.args.b.now c.execute.new.b cells c.args.now.now c.args.done.now c.execute.new.now c.execute.new.done D =
    runs-same r2 (λ st. ap (λ (f : State → State). f st) (sym (default-is S c.args.arms.now c.default_at-at.result a (λ (z : State). z) c.default_at-at.ensures lt c.index-arms-at.is))) in
    runs-written r3 (taken _ _ _ (omega (arith, c.execute.auto.now, c.as_mut_slice.ensures.len))) (taken _ _ _ (omega (arith, c.execute.auto.done, c.as_mut_slice-2.ensures.len)))

pub choose_arm-execute-requires : goal.choose_arm-execute-requires
choose_arm-execute-requires t c =
    let S = declared_all c.args.signals.now in
    let i = c.loop-i.i - 1 in
    let lt : i < length c.args.arms.now = omega (arith, c.loop-i.invariant.inside, c.loop-i-test.true) in
    let g = (arm-good S c.args.arms.now i c.index-arms-i.result lt c.index-arms-i.is c.requires.good).1 in
    let grow = c.loop-i.invariant.is.grows in
    let more = c.in_ok-t.ensures.grows in (
      search (rules, the_lemmas),
      (
        g,
        (
          c.requires.first,
          (
            subst (λ (z : List ℕ). IsTable c.fits_one.new.b (all_cells S) z) (sym (c.as_mut_slice.ensures.value ∙ c.in_ok-a_now.ensures)) (table-later more (table-later grow c.requires.now)),
            subst (λ (z : List ℕ). MayBeTable c.fits_one.new.b (all_cells S) z) (sym (c.as_mut_slice-then-not-is_zero.ensures.value ∙
                c.in_ok-a_done.ensures)) (may-be-later more (may-be-later grow c.requires.done)),
          ),
        ),
      ),
    )

pub choose_arm-choose_tables-requires-clause-now : goal.choose_arm-choose_tables-requires-clause-now
choose_arm-choose_tables-requires-clause-now t c =
    let grow = c.in_ok-execute.ensures.grows in
    subst (λ (z : List ℕ). AreAlike c.execute.new.b z c.loop-i.tables.now.items) (sym (taken _ _ _ (omega (arith, c.execute.auto.now, c.as_mut_slice.ensures.len))))
    (tables-alike c.in_ok-execute.ensures.table (table-later grow (table-later c.in_ok-t.ensures.grows c.loop-i.invariant.is.table)))

pub choose_arm-choose_tables-requires-clause-done : goal.choose_arm-choose_tables-requires-clause-done
choose_arm-choose_tables-requires-clause-done t c =
    let grow = c.in_ok-execute.ensures.grows in
    let e2 : c.as_mut_slice-then-not-is_zero.result.now ≡ c.args.done.now = c.as_mut_slice-then-not-is_zero.ensures.value ∙ c.in_ok-a_done.ensures in
    let same : length c.execute.new.done ≡ length c.loop-i.tables.done.items = c.in_ok-execute.ensures.count ∙ (ap length e2 ∙ sym c.loop-i.invariant.is.count) in
    subst (λ (z : List ℕ). AreAlike c.execute.new.b z c.loop-i.tables.done.items) (sym (taken _ _ _ (omega (arith, c.execute.auto.done, c.as_mut_slice-then-not-is_zero.ensures.len))))
    (may-be-alike c.in_ok-execute.ensures.rest (may-be-later grow (may-be-later c.in_ok-t.ensures.grows c.loop-i.invariant.is.rest)) same)

pub choose_arm-loop-i-preserved-then-not-is_zero : goal.choose_arm-loop-i-preserved-then-not-is_zero
choose_arm-loop-i-preserved-then-not-is_zero t c =
    let S = declared_all c.args.signals.now in
    let cells = all_cells S in
    let arms = c.args.arms.now in
    let w = common_width c.args.c.now in
    let a = c.index-arms-i.result in
    let i = c.loop-i.i - 1 in
    let lt : i < length arms = omega (arith, c.loop-i.invariant.inside, c.loop-i-test.true) in
    let k : c.loop-i.i ≡ i + 1 = omega (arith, c.loop-i-test.true) in
    let e1 : c.as_mut_slice.result.now ≡ c.args.now.now = c.as_mut_slice.ensures.value ∙ c.in_ok-a_now.ensures in
    let e2 : c.as_mut_slice-then-not-is_zero.result.now ≡ c.args.done.now = c.as_mut_slice-then-not-is_zero.ensures.value ∙ c.in_ok-a_done.ensures in
    let r1 = subst (λ (z : List ℕ). Runs c.fits_one.new.b c.execute.new.b cells z c.as_mut_slice-then-not-is_zero.result.now c.execute.new.now c.execute.new.done
    (keeps_writes S a.body)) e1 c.in_ok-execute.ensures in
    let r2 = subst (λ (z : List ℕ). Runs c.fits_one.new.b c.execute.new.b cells c.args.now.now z c.execute.new.now c.execute.new.done (keeps_writes S a.body)) e2 r1 in
    let pn = subst (λ (z : List ℕ). Picks c.execute.new.b c.choose_tables.new.b c.in_ok-t.t z c.loop-i.tables.now.items c.in_ok-tables.tables.now.items)
    (taken _ _ _ (omega (arith, c.execute.auto.now, c.as_mut_slice.ensures.len)))
    c.in_ok-tables.ensures.now in
    let pd = subst (λ (z : List ℕ). Picks c.execute.new.b c.choose_tables.new.b c.in_ok-t.t z c.loop-i.tables.done.items c.in_ok-tables.tables.done.items)
    (taken _ _ _ (omega (arith, c.execute.auto.done, c.as_mut_slice-then-not-is_zero.ensures.len)))
    c.in_ok-tables.ensures.done in
    record {
      inside = omega (arith, c.loop-i.invariant.inside);
      is = arms-same (arms-more c.loop-i.invariant.is c.in_ok-t.ensures r2 (chosen-of r2.table r2.rest pn pd)) (λ x s q.
          ap (λ (ls : List FlatExpr). if list_any (fits_label s.valuation c.args.wild w x)
          (map (label_of S) ls) then keeps_writes S a.body s else arms_do S c.args.wild w (drop c.loop-i.i arms) x s q) c.as_slice.ensures ∙
          (ap (λ (n : ℕ). if list_any (fits_label s.valuation c.args.wild w x) (labels_of S a) then keeps_writes S a.body s else arms_do S c.args.wild w (drop n arms) x s q) k ∙
          arms-next S c.args.wild w arms i a lt c.index-arms-i.is x s q));
    }

pub choose_arm-loop-i-preserved : goal.choose_arm-loop-i-preserved
choose_arm-loop-i-preserved t c =
    let S = declared_all c.args.signals.now in
    let arms = c.args.arms.now in
    let w = common_width c.args.c.now in
    let a = c.index-arms-i.result in
    let i = c.loop-i.i - 1 in
    let lt : i < length arms = omega (arith, c.loop-i.invariant.inside, c.loop-i-test.true) in
    let k : c.loop-i.i ≡ i + 1 = omega (arith, c.loop-i-test.true) in
    record {
      inside = omega (arith, c.loop-i.invariant.inside);
      is = arms-same (arms-skip (keeps_writes S a.body) c.loop-i.invariant.is c.in_ok-t.ensures (c.is_zero.ensures (search (rules, c.if-not-is_zero.false)))) (λ x s q.
          ap (λ (ls : List FlatExpr). if list_any (fits_label s.valuation c.args.wild w x)
          (map (label_of S) ls) then keeps_writes S a.body s else arms_do S c.args.wild w (drop c.loop-i.i arms) x s q) c.as_slice.ensures ∙
          (ap (λ (n : ℕ). if list_any (fits_label s.valuation c.args.wild w x) (labels_of S a) then keeps_writes S a.body s else arms_do S c.args.wild w (drop n arms) x s q) k ∙
          arms-next S c.args.wild w arms i a lt c.index-arms-i.is x s q));
    }

pub execute-common_case-c-requires-clause-good : goal.execute-common_case-c-requires-clause-good
execute-common_case-c-requires-clause-good t c =
    let S = declared_all c.args.signals.now in
    subst (λ (z : FlatExpr). is_good S z ≡ true) (sym c.get-e-in-Case.ensures) (case-good S c.args.s.now c.in-Case.wild c.in-Case.x c.in-Case.arms c.in-Case.is c.requires.good).0

pub execute-common_case-c-requires-clause-labels : goal.execute-common_case-c-requires-clause-labels
execute-common_case-c-requires-clause-labels t c =
    let S = declared_all c.args.signals.now in
    subst (λ (z : List FlatArm). list_all (good_labels S) z ≡ true) (sym c.as_slice-arms.ensures)
    (labels-of-good S c.in-Case.arms (case-good S c.args.s.now c.in-Case.wild c.in-Case.x c.in-Case.arms c.in-Case.is c.requires.good).1)

pub execute-value-requires-in-Case-clause-good : goal.execute-value-requires-in-Case-clause-good
execute-value-requires-in-Case-clause-good t c =
    let S = declared_all c.args.signals.now in
    subst (λ (z : FlatExpr). is_good S z ≡ true) (sym c.get-e-in-Case.ensures) (case-good S c.args.s.now c.in-Case.wild c.in-Case.x c.in-Case.arms c.in-Case.is c.requires.good).0

pub execute-value-requires-in-Case-clause-wide : goal.execute-value-requires-in-Case-clause-wide
execute-value-requires-in-Case-clause-wide t c =
    let S = declared_all c.args.signals.now in
    let X = reading S c.get-e-in-Case.result.now in
    let ls = flat_map (labels_of S) c.as_slice-arms.result.now in
    let w = ap (λ (z : Width). z.width) (c.common_case-c.ensures.is ∙ common-is X ls) in
    omega (arith, w, rest-within ls (record { width = X.meaning.width; signed = X.meaning.signed }))

pub execute-base-requires : goal.execute-base-requires
execute-base-requires t c =
    let S = declared_all c.args.signals.now in
    let g = subst (λ (z : List FlatArm). list_all (good_arm_of S) z ≡ true) (sym c.as_slice-arms.ensures)
    (case-good S c.args.s.now c.in-Case.wild c.in-Case.x c.in-Case.arms c.in-Case.is c.requires.good).1 in
    let grow = c.in_ok-selector-in-Case.ensures.is.grows in
    (search (rules, the_lemmas), (g, (c.requires.first, (table-later grow c.requires.now, may-be-later grow c.requires.done))))

pub execute-choose_arm-requires : goal.execute-choose_arm-requires
execute-choose_arm-requires t c =
    let S = declared_all c.args.signals.now in
    let arms = c.as_slice-arms.result.now in
    let X = reading S c.get-e-in-Case.result.now in
    let W : Width = record { width = X.meaning.width; signed = X.meaning.signed } in
    let g = subst (λ (z : List FlatArm). list_all (good_arm_of S) z ≡ true) (sym c.as_slice-arms.ensures)
    (case-good S c.args.s.now c.in-Case.wild c.in-Case.x c.in-Case.arms c.in-Case.is c.requires.good).1 in
    let w = ap (λ (z : Width). z.width) (c.common_case-c.ensures.is ∙ common-is X (flat_map (labels_of S) arms)) in
    let m = c.in_ok-selector-in-Case.ensures.is in
    let r = c.in_ok-start-in-Case.ensures in (
      search (rules, the_lemmas),
      (
        g,
        (
          arms-within S arms W c.common_case-c.result.width (omega (arith, w)),
          (
            c.common_case-c.ensures.most,
            (
              in-later _ _ c.in_ok-selector-in-Case.selector r.grows m.in_new,
              (
                m.width,
                (
                  c.requires.first,
                  (table-later r.grows (table-later m.grows c.requires.now), (may-be-later r.grows (may-be-later m.grows c.requires.done), (r.table, (r.rest, r.count)))),
                ),
              ),
            ),
          ),
        ),
      ),
    )

pub execute-returns-in_ok-tables-in-Case : goal.execute-returns-in_ok-tables-in-Case
execute-returns-in_ok-tables-in-Case t c =
    let S = declared_all c.args.signals.now in
    let cells = all_cells S in
    let F = λ (st : State). keeps_writes S c.args.s.now st in
    let en : c.fill.new.table ≡ c.in_ok-tables-in-Case.tables.now.items = c.fill.ensures ∙ c.as_slice-in-Case.ensures.value in
    let ed : c.fill-in-Case.new.table ≡ c.in_ok-tables-in-Case.tables.done.items = c.fill-in-Case.ensures ∙ c.as_slice-in-Case-2.ensures.value in
    let r = runs-same (runs-case c.in_ok-selector-in-Case.ensures.is c.in_ok-start-in-Case.ensures c.in_ok-tables-in-Case.ensures)
    (case-all S c.args.s.now c.in-Case.wild c.in-Case.x c.get-e-in-Case.result.now c.in-Case.arms c.as_slice-arms.result.now
    (common_width c.common_case-c.result) c.in-Case.is c.get-e-in-Case.ensures c.as_slice-arms.ensures c.common_case-c.ensures.is) in
    subst (λ (z : List ℕ). Runs c.args.b.now c.choose_arm.new.b cells c.args.now.now c.args.done.now z c.fill-in-Case.new.table F) (sym en)
    (subst (λ (z : List ℕ). Runs c.args.b.now c.choose_arm.new.b cells c.args.now.now c.args.done.now c.in_ok-tables-in-Case.tables.now.items z F) (sym ed) r)
