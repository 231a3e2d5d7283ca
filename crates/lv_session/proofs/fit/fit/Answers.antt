use Rattle.lv_session.proofs.Fitting.{fit-more}
use Rattle.lv_session.proofs.fit.fit.Goals as goal

pub loop-k-preserved : goal.loop-k-preserved
loop-k-preserved c =
    fit-more c.args.set.now c.loop-k.made c.push.new.self c.loop-k.k c.clause.result.now c.in_ok-copy.copy c.loop-k.invariant
    c.in_ok-push.ensures.ok c.in_ok-copy.ensures c.clause.ensures.value
