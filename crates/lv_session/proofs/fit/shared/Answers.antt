use Rattle.std.proofs.Common.{◌≡◌, true, arith, sym, ◌∙◌}
use Rattle.std.proofs.lemmas.Grind.{common_steps}
use Rattle.lv_session.proofs.Fitting.{shared-more}
use Rattle.lv_session.proofs.fit.shared.Goals as goal

pub loop-k-preserved : goal.loop-k-preserved
loop-k-preserved c =
    let same : c.are_same.result ≡ true = grind (arith, common_steps) in
    shared-more c.args.made.now.clauses c.args.set.now.clauses c.loop-k.k c.clause.result.now c.clause-in-loop-k.result.now c.loop-k.invariant c.clause.ensures.value c.clause-in-loop-k.ensures.value
    (sym c.lits.ensures.value ∙ (c.are_same.ensures.0 same ∙ c.lits-in-loop-k.ensures.value))
