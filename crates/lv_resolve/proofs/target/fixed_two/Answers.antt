use Rattle.lv_resolve.proofs.TargetArms.{both-fixed, first-unfixed, second-unfixed}
use Rattle.lv_resolve.proofs.target.fixed_two.Goals as goal

pub returns-in-Err : goal.returns-in-Err
returns-in-Err g c = record {
  at = λ here ok. first-unfixed here c.args.a.now c.args.b.now _ c.in-Err.error c.get.ensures (c.in-Err.ensures.at here ok).wrong;
}

pub returns-in-Err-fixed : goal.returns-in-Err-fixed
returns-in-Err-fixed g c = record {
  at = λ here ok. second-unfixed here c.args.a.now c.args.b.now _ c.in-Err-fixed.error c.get-in-Ok.ensures (c.in-Err-fixed.ensures.at here ok).wrong;
}

pub returns-in-Ok-fixed : goal.returns-in-Ok-fixed
returns-in-Ok-fixed g c = record {
  at = λ here ok. both-fixed here c.args.a.now c.args.b.now _ _ _ _ c.get.ensures c.get-in-Ok.ensures (c.in-Ok.ensures.at here ok).right (c.in-Ok-fixed.ensures.at here ok).right;
}
