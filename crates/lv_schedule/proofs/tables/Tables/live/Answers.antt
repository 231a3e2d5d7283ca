use Rattle.std.proofs.Common.{◌&&◌, None, ◌∙◌}
use Rattle.lv_schedule.specs.Tables.{is_live}
use Rattle.lv_schedule.proofs.Keys.{live_signal}
use Rattle.lv_schedule.proofs.tables.Tables.live.Goals as goal

pub returns : goal.returns
returns c = λ D a P. c.in_ok-row.ensures P ∙ (a.signals (c.args.signal, None) (λ d. is_live d && P d.part) ∙ live_signal D c.args.signal P)
