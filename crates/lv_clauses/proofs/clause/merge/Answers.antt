use Rattle.std.proofs.Common.{◌≢◌, ℕ, ◌<◌, List, sym, ◌∙◌, ap, subst, arith}
use Rattle.lv_clauses.specs.Literals.{Lit}
use Rattle.lv_clauses.proofs.Merging.{Merged-more, Merged-same, Merged-pair, Merged-whole, alike, apart}
use Rattle.lv_clauses.proofs.clause.merge.Goals as goal
use Rattle.lv_clauses.proofs.clause.merge.Goals.{then-var-last+in_ok-reserve, else-var-last+else-neg}

pub returns-then-neg : goal.returns-then-neg
returns-then-neg c =
    Merged-pair c.args.sorted.now c.loop-x.x-index c.loop-x.out.items c.loop-x.last c.loop-x.neg c.x-item.result c.loop-x.invariant c.loop-x-test.true c.x-item.is
    (omega (arith, c.var.ensures.is, c.var.ensures.numbered)) (omega (arith, c.var.ensures.is, c.if-var-last.false))
    (subst (λ z. z ≢ c.loop-x.neg) c.neg.ensures (apart c.neg.result c.loop-x.neg c.if-neg.true))

pub loop-x-preserved : goal.loop-x-preserved
loop-x-preserved c =
    let s : List Lit = c.args.sorted.now in
    let i : ℕ = c.loop-x.x-index in
    let x : Lit = c.x-item.result in
    let inv = c.loop-x.invariant in
    elim c.if-var-last.branch [
      | then-var-last+in_ok-reserve w ↦
          let above : c.loop-x.last < x.var = omega (arith, c.var.ensures.is, w.if-var-last.true, inv.below i x (omega arith) c.loop-x-test.true, ap (λ z. z.var) c.x-item.is) in
          rw (w.out-is, w.last-is, w.neg-is, w.push_reserved.ensures.items, w.reserve.ensures.items, w.var-last.ensures.is, w.neg-neg.ensures)
          (Merged-more s i c.loop-x.out.items c.loop-x.last c.loop-x.neg x c.requires inv c.loop-x-test.true c.x-item.is above)
      | else-var-last+else-neg w ↦
          rw (w.out-is, w.last-is, w.neg-is)
          (Merged-same s i c.loop-x.out.items c.loop-x.last c.loop-x.neg x inv c.loop-x-test.true c.x-item.is (omega (arith, c.var.ensures.is, c.var.ensures.numbered))
          (omega (arith, c.var.ensures.is, w.if-var-last.false)) (sym w.neg.ensures ∙ alike w.neg.result c.loop-x.neg w.if-neg.false))
    ]

pub returns : goal.returns
returns c = Merged-whole c.args.sorted.now c.loop-x.x-index c.loop-x.out.items c.loop-x.last c.loop-x.neg c.loop-x.invariant c.loop-x-test.false
