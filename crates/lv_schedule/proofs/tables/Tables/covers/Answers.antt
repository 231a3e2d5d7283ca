use Rattle.lv_source.proofs.Tests.{not-true}
use Rattle.lv_schedule.proofs.Shares.{covering}
use Rattle.lv_schedule.proofs.tables.Tables.covers.Goals as goal

pub returns : goal.returns
returns c = λ t D a. covering D c.args.r c.args.self.now.driven c.rest_of.result a.driven c.rest_of.ensures (c.meets.ensures.apart (not-true c.meets.result t))
