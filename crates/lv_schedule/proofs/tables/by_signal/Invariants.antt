use Rattle.std.proofs.Common.{◌≡◌, Bool, ◌&&◌, None, take}
use Rattle.std.specs.List.{list_any}
use Rattle.std.specs.BTreeMap.{is_at}
use Rattle.lv_spans.specs.Sets.{Cell, order}
use Rattle.lv_schedule.specs.declared.drivers.Driver.{Driver}
use Rattle.lv_schedule.specs.Tables.{listed}
use Rattle.lv_schedule.proofs.tables.by_signal.Given as goal

abbrev pub invariant-loop-d : goal.invariant-loop-d
invariant-loop-d l = (q : Cell) (P : Driver → Bool) → list_any P (listed l.table.lists.entries q) ≡ list_any (λ d. is_at (order q) (d.span.signal, None) && P d) (take l.d-index l.drivers)
