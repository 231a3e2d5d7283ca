use Rattle.std.specs.List.{list_any}
use Rattle.std.proofs.Common.{◌&&◌, ◌||◌, None, ap, ◌∙◌}
use Rattle.lv_schedule.specs.Drivers.{is_met}
use Rattle.lv_schedule.specs.Tables.{listed}
use Rattle.lv_schedule.proofs.Keys.{met_both, met_signal}
use Rattle.lv_schedule.proofs.tables.Tables.with_met.Goals as goal

pub returns-in_ok-all-in-Some : goal.returns-in_ok-all-in-Some
returns-in_ok-all-in-Some c = λ D a P.
    met_both D (listed c.args.self.now.cells.lists.entries) c.args.reader.part c.args.reader.alone c.args.r c.in-Some.k P
    (list_any P c.args.row.items) (list_any P c.in_ok-some-in-Some.some.items) (list_any P c.in_ok-all-in-Some.all.items)
    (c.in_ok-some-in-Some.ensures P) (c.in_ok-all-in-Some.ensures P) a.cells c.in-Some.is

pub returns-in_ok-all-in-None : goal.returns-in_ok-all-in-None
returns-in_ok-all-in-None c = λ D a P.
    c.in_ok-all-in-None.ensures P ∙ ap (λ b. list_any P c.args.row.items || b)
    (a.signals (c.args.r.signal, None) (λ d. is_met c.args.reader.part c.args.reader.alone c.args.r d && P d.part) ∙
    met_signal D c.args.reader.part c.args.reader.alone c.args.r P)
