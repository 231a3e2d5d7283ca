use Rattle.std.proofs.Common.{sym}
use Rattle.lv_resolve.proofs.Zeros.{zeros-wrong}
use Rattle.lv_resolve.proofs.close.close.Goals as goal

pub returns-in-Err : goal.returns-in-Err
returns-in-Err c = λ here ok ds. record {
  right = tt;
  wrong = zeros-wrong here.names c.args.width c.args.signed c.args.divisors.now c.divisor-item.result c.in-Err.error
      (c.loop-divisor.divisor-index, c.loop-divisor-test.true, sym c.divisor-item.is)
      (c.in-Err.ensures here ok (ds.each c.divisor-item.result (c.loop-divisor.divisor-index, c.loop-divisor-test.true, sym c.divisor-item.is))).wrong;
}
