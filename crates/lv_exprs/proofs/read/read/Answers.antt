use Rattle.std.proofs.Common.{◌≡◌, ◌∙◌, sym, arith, ◌≤◌, ap, cond, inl}
use Rattle.std.proofs.lemmas.List.{get_or-map}
use Rattle.lv_exprs.specs.declared.symbol.Symbol.TheVariants as t
use Rattle.lv_exprs.specs.Steps as step
use Rattle.lv_exprs.specs.Symbols.{symbol, symbols}
use Rattle.lv_exprs.proofs.Standing.{begin, goes_on, is_done, is_whole, is_bad, is_deep, ends_read, ends_fail}
use Rattle.lv_exprs.proofs.Within.{next_raised, ending_within, raised_nodes, reached_nodes}
use Rattle.lv_exprs.proofs.Finished.{finished, fewer, all_read, limit_le, limit_ge}
use Rattle.lv_exprs.proofs.read.read.Goals as goal

pub loop-at-init : goal.loop-at-init
loop-at-init c = record {
  within = omega arith;
  stands = rw c.new-stack.ensures (begin c.args.text.now c.args.paths (symbols c.args.text.now c.args.tokens.now));
  low = rw c.new-stack.ensures (limit_ge c.args.paths);
  depth = (let a : c.new-stack.result.depth ≡ 0 = c.new-stack.result.counted ∙ ap (λ v. step.nodes v) c.new-stack.ensures in omega (arith, limit_ge c.args.paths));
}

pub returns-in-Whole : goal.returns-in-Whole
returns-in-Whole c =
    let k = get_or-map (symbol c.args.text.now) c.args.tokens.now c.loop-at.at _ t.Other c.loop-at-test.true ∙ sym c.symbol.ensures in
    let e = ap (λ u. step.next c.args.text.now c.args.paths u c.loop-at.stack.frames.items c.loop-at.standing) k ∙ sym c.in_ok-other.ensures
    ∙ ap (λ r. step.seen_step r c.take.new.stack.frames.items) c.in-Whole.is in
    (1, is_whole _ _ _ _ _ _ _ c.loop-at.invariant.stands (fewer c.args.text.now c.args.tokens.now c.loop-at.at c.loop-at-test.true) e, omega arith)

pub returns-in-Done : goal.returns-in-Done
returns-in-Done c =
    let k = get_or-map (symbol c.args.text.now) c.args.tokens.now c.loop-at.at _ t.Other c.loop-at-test.true ∙ sym c.symbol.ensures in
    let d = sym c.in_ok-other.ensures ∙ ap (λ r. step.seen_step r c.take.new.stack.frames.items) c.in-Done.is in
    let e = ap (λ u. step.next c.args.text.now c.args.paths u c.loop-at.stack.frames.items c.loop-at.standing) k ∙ d in
    let n : step.nodes c.loop-at.stack.frames.items ≤ cond c.args.paths 201 200 = omega (arith, c.loop-at.stack.counted, c.loop-at.invariant.depth) in
    finished _ _ _ _ _ _ c.done.result (is_done _ _ _ _ _ _ _ c.loop-at.invariant.stands (fewer c.args.text.now c.args.tokens.now c.loop-at.at c.loop-at-test.true) e)
    (next_raised (cond c.args.paths 201 200) (cond c.args.paths 201 200) c.args.text.now c.args.paths c.symbol.result c.loop-at.stack.frames.items c.loop-at.standing (step.ended c.in-Done.x) c.loop-at.invariant.low n d) c.done.ensures

pub returns-in-Bad : goal.returns-in-Bad
returns-in-Bad c =
    let k = get_or-map (symbol c.args.text.now) c.args.tokens.now c.loop-at.at _ t.Other c.loop-at-test.true ∙ sym c.symbol.ensures in
    let e = ap (λ u. step.next c.args.text.now c.args.paths u c.loop-at.stack.frames.items c.loop-at.standing) k ∙ sym c.in_ok-other.ensures
    ∙ ap (λ r. step.seen_step r c.take.new.stack.frames.items) c.in-Bad.is in
    is_bad _ _ _ _ _ _ c.loop-at.invariant.stands (fewer c.args.text.now c.args.tokens.now c.loop-at.at c.loop-at-test.true) e

pub is_high-requires-clause-raised : goal.is_high-requires-clause-raised
is_high-requires-clause-raised c =
    let d = sym c.in_ok-other.ensures ∙ ap (λ r. step.seen_step r c.take.new.stack.frames.items) c.in-Next.is in
    let n : step.nodes c.loop-at.stack.frames.items ≤ cond c.args.paths 201 200 = omega (arith, c.loop-at.stack.counted, c.loop-at.invariant.depth) in
    rw c.limit_of-limit.ensures (next_raised (cond c.args.paths 201 200) (cond c.args.paths 201 200) c.args.text.now c.args.paths c.symbol.result c.loop-at.stack.frames.items c.loop-at.standing (step.on c.take.new.stack.frames.items c.in-Next.other) c.loop-at.invariant.low n d)

pub is_high-requires-clause-depth : goal.is_high-requires-clause-depth
is_high-requires-clause-depth c =
    let d = sym c.in_ok-other.ensures ∙ ap (λ r. step.seen_step r c.take.new.stack.frames.items) c.in-Next.is in
    let n : step.nodes c.loop-at.stack.frames.items ≤ cond c.args.paths 201 200 = omega (arith, c.loop-at.stack.counted, c.loop-at.invariant.depth) in
    let m = raised_nodes (cond c.args.paths 201 200) (cond c.args.paths 201 200) c.take.new.stack.frames.items c.in-Next.other
    (next_raised (cond c.args.paths 201 200) (cond c.args.paths 201 200) c.args.text.now c.args.paths c.symbol.result c.loop-at.stack.frames.items c.loop-at.standing (step.on c.take.new.stack.frames.items c.in-Next.other) c.loop-at.invariant.low n d) in
    omega (arith, m, c.take.new.stack.counted, limit_le c.args.paths)

pub returns-then-is_high : goal.returns-then-is_high
returns-then-is_high c =
    let k = get_or-map (symbol c.args.text.now) c.args.tokens.now c.loop-at.at _ t.Other c.loop-at-test.true ∙ sym c.symbol.ensures in
    let e = ap (λ u. step.next c.args.text.now c.args.paths u c.loop-at.stack.frames.items c.loop-at.standing) k ∙ sym c.in_ok-other.ensures
    ∙ ap (λ r. step.seen_step r c.take.new.stack.frames.items) c.in-Next.is in
    inl (is_deep _ _ _ _ _ _ _ _ c.loop-at.invariant.stands (fewer c.args.text.now c.args.tokens.now c.loop-at.at c.loop-at-test.true) e c.loop-at.invariant.low (rw (sym c.limit_of-limit.ensures) (c.is_high.ensures.high c.if-is_high.true)))

pub loop-at-preserved : goal.loop-at-preserved
loop-at-preserved c =
    let k = get_or-map (symbol c.args.text.now) c.args.tokens.now c.loop-at.at _ t.Other c.loop-at-test.true ∙ sym c.symbol.ensures in
    let d = sym c.in_ok-other.ensures ∙ ap (λ r. step.seen_step r c.take.new.stack.frames.items) c.in-Next.is in
    let e = ap (λ u. step.next c.args.text.now c.args.paths u c.loop-at.stack.frames.items c.loop-at.standing) k ∙ d in
    let n : step.nodes c.loop-at.stack.frames.items ≤ cond c.args.paths 201 200 = omega (arith, c.loop-at.stack.counted, c.loop-at.invariant.depth) in
    let low : step.reached c.take.new.stack.frames.items c.in-Next.other ≤ cond c.args.paths 201 200 = rw (sym c.limit_of-limit.ensures) (c.is_high.ensures.fits c.if-is_high.false) in
    let m = reached_nodes (cond c.args.paths 201 200) c.take.new.stack.frames.items c.in-Next.other
    (next_raised (cond c.args.paths 201 200) (cond c.args.paths 201 200) c.args.text.now c.args.paths c.symbol.result c.loop-at.stack.frames.items c.loop-at.standing (step.on c.take.new.stack.frames.items c.in-Next.other) c.loop-at.invariant.low n d) low in
    record {
      within = omega (arith, c.loop-at-test.true);
      stands = goes_on _ _ _ _ _ _ _ _ c.loop-at.invariant.stands (fewer c.args.text.now c.args.tokens.now c.loop-at.at c.loop-at-test.true) e;
      low = low;
      depth = omega (arith, m, c.take.new.stack.counted);
    }

pub returns-in-None : goal.returns-in-None
returns-in-None c =
    ends_fail c.args.text.now c.args.paths (symbols c.args.text.now c.args.tokens.now) c.loop-at.at c.loop-at.stack.frames.items c.loop-at.standing c.loop-at.invariant.stands
    (all_read c.args.text.now c.args.tokens.now c.loop-at.at c.loop-at.invariant.within c.loop-at-test.false) (sym c.in_ok-finish.ensures ∙ c.in-None.is)

pub returns-in-Some : goal.returns-in-Some
returns-in-Some c =
    let e = sym c.in_ok-finish.ensures ∙ c.in-Some.is in
    finished c.args.text.now c.args.paths (symbols c.args.text.now c.args.tokens.now) c.loop-at.at (step.tree_of c.in-Some.x.content) c.in-Some.x.reach c.done-in-Some.result
    (ends_read c.args.text.now c.args.paths (symbols c.args.text.now c.args.tokens.now) c.loop-at.at c.loop-at.stack.frames.items c.loop-at.standing c.in-Some.x c.loop-at.invariant.stands
    (all_read c.args.text.now c.args.tokens.now c.loop-at.at c.loop-at.invariant.within c.loop-at-test.false) e)
    (ending_within (cond c.args.paths 201 200) c.loop-at.stack.frames.items c.loop-at.standing c.in-Some.x c.loop-at.invariant.low e) c.done-in-Some.ensures
