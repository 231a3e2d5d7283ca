use Rattle.lv_resolve.proofs.TargetArms.{bit-fixed, bit-unfixed, part-fixed, up-fixed, down-fixed}
use Rattle.lv_resolve.proofs.target.fixed_select.Goals as goal

pub returns-in-Err : goal.returns-in-Err
returns-in-Err g c = record {
  at = λ here ok. bit-unfixed here c.args.select.now c.in-Bit.a _ c.in-Err.error c.in-Bit.is c.get.ensures (c.in-Err.ensures.at here ok).wrong;
}

pub returns-in-Ok : goal.returns-in-Ok
returns-in-Ok g c = record {
  at = λ here ok. bit-fixed here c.args.select.now c.in-Bit.a _ _ c.in-Bit.is c.get.ensures (c.in-Ok.ensures.at here ok).right;
}

pub returns-in-Part : goal.returns-in-Part
returns-in-Part g c = record {
  at = λ here ok. part-fixed here c.args.select.now c.in-Part.a c.in-Part.b c.fixed_two.result c.in-Part.is (c.fixed_two.ensures.at here ok);
}

pub returns-in-Up : goal.returns-in-Up
returns-in-Up g c = record {
  at = λ here ok. up-fixed here c.args.select.now c.in-Up.a c.in-Up.b c.fixed_two-in-Up.result c.in-Up.is (c.fixed_two-in-Up.ensures.at here ok);
}

pub returns-in-Down : goal.returns-in-Down
returns-in-Down g c = record {
  at = λ here ok. down-fixed here c.args.select.now c.in-Down.a c.in-Down.b c.fixed_two-in-Down.result c.in-Down.is (c.fixed_two-in-Down.ensures.at here ok);
}
