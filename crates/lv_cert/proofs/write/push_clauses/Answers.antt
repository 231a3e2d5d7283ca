use Rattle.lv_cert.proofs.Writing.{clauses_on}
use Rattle.lv_cert.proofs.write.push_clauses.Goals as goal

pub loop-k-preserved : goal.loop-k-preserved
loop-k-preserved c =
    clauses_on _ c.loop-k.out.items c.push_clause.new.out.items c.args.set.now.clauses c.loop-k.k c.clause.result.now c.lits.result.now c.loop-k.invariant c.clause.ensures.value c.lits.ensures.value c.in_ok-push_clause.ensures
