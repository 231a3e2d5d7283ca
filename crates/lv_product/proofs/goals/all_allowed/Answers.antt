use Rattle.std.proofs.Common.{arith}
use Rattle.lv_product.proofs.Telling.{allowed_step}
use Rattle.lv_product.proofs.goals.all_allowed.Goals as goal

pub loop-k-preserved : goal.loop-k-preserved
loop-k-preserved c =
    allowed_step c.args.b.now c.loop-k.b c.all_met.new.b c.both.new.b c.args.graph.now c.loop-k.k c.loop-k.all c.in_ok-one.one c.in_ok-all-2.all
    c.args.assume.now c.as_slice.result.now c.args.tables.now c.index-tables-k.result
    c.as_slice.ensures.value c.index-tables-k.is (omega arith) c.requires.tables c.loop-k.invariant c.in_ok-one.ensures c.in_ok-all-2.ensures
