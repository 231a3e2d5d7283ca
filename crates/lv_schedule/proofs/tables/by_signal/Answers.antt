use Rattle.std.proofs.Common.{◌<◌, ◌&&◌, None, false, length, get_or, arith}
use Rattle.std.specs.List.{list_any}
use Rattle.std.specs.BTreeMap.{is_at}
use Rattle.std.proofs.lemmas.List.{get_or_default}
use Rattle.lv_spans.specs.Sets.{order}
use Rattle.lv_schedule.specs.declared.drivers.Driver.{Driver}
use Rattle.lv_schedule.specs.Tables.{listed}
use Rattle.lv_schedule.proofs.Lists.{any_step}
use Rattle.lv_schedule.proofs.tables.by_signal.Goals as goal

pub loop-d-preserved : goal.loop-d-preserved
loop-d-preserved c = λ q P.
    let l : c.loop-d.d-index < length c.args.drivers.now = omega arith in
    let none : Driver = record { part = 0; span = record { signal = 0; element = None; mask = 0 } } in
    let d : Driver = get_or c.args.drivers.now c.loop-d.d-index none in
    any_step (λ d. is_at (order q) (d.span.signal, None) && P d) c.args.drivers.now c.loop-d.d-index d false (list_any P (listed c.loop-d.table.lists.entries q))
    (list_any P (listed c.in_ok-table.table.lists.entries q)) l (get_or_default c.args.drivers.now c.loop-d.d-index none d l)
    (c.loop-d.invariant q P) (c.in_ok-table.ensures q P)
