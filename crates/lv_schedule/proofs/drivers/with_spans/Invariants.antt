use Rattle.std.proofs.Common.{◌≡◌, ◌++◌, map, take}
use Rattle.lv_schedule.specs.Drivers.{driver}
use Rattle.lv_schedule.proofs.drivers.with_spans.Given as goal

abbrev pub invariant-loop-s : goal.invariant-loop-s
invariant-loop-s l = l.made.items ≡ l.fn.list.items ++ map (driver l.part) (take l.s-index l.spans)
