use Rattle.lv_survey.proofs.Counting.{counting_more}
use Rattle.lv_survey.proofs.counts.entry_counts.Goals as goal

pub loop-declaration-preserved : goal.loop-declaration-preserved
loop-declaration-preserved c =
    counting_more c.args.base c.args.declarations.now c.loop-declaration.declaration-index c.loop-declaration.count c.in-Ok.more c.loop-declaration.counts.items
    c.push-in-loop-declaration.new.self.items c.declaration-item.result c.loop-declaration.invariant c.loop-declaration-test.true c.declaration-item.is
    c.in-Ok.ensures c.in_ok-push-2.ensures.items
