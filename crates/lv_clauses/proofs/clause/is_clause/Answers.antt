use Rattle.std.proofs.Common.{◌≤◌, List, take, subst, arith, inl, inr}
use Rattle.lv_clauses.specs.Literals.{Lit}
use Rattle.lv_clauses.proofs.Literals.{take-item, Rises-push, push-cases}
use Rattle.lv_clauses.proofs.clause.is_clause.Goals as goal

pub loop-x-preserved : goal.loop-x-preserved
loop-x-preserved c =
    let lits : List Lit = c.args.lits.now in
    let x : Lit = c.x-item.result in
    let inv = c.loop-x.invariant in
    rw (take-item lits c.loop-x.x-index x c.loop-x-test.true c.x-item.is) (record {
      rises = Rises-push 0 c.loop-x.last (take c.loop-x.x-index lits) x inv.rises inv.up_to (omega arith) (omega (arith, c.var.ensures.is, c.if-var-last.false));
      up_to = λ m i. elim (push-cases (take c.loop-x.x-index lits) x m i) [
        | inl a ↦ omega (arith, inv.up_to m a, c.var.ensures.is, c.if-var-last.false, c.var-last.ensures.is)
        | inr e ↦ subst (λ z. z.var ≤ c.var-last.result) e (omega (arith, c.var-last.ensures.is))
      ];
    })
