use Rattle.std.proofs.Common.{◌≡◌, take}
use Rattle.lv_schedule.specs.Drivers.{drivers_of}
use Rattle.lv_schedule.proofs.drivers.drivers.Given as goal

abbrev pub invariant-loop-part : goal.invariant-loop-part
invariant-loop-part l = l.list.items ≡ drivers_of 0 (take l.part l.extents)
