use Rattle.std.proofs.Common.{◌≡◌, take}
use Rattle.std.specs.Prelude.{filter}
use Rattle.lv_schedule.specs.Drivers.{is_unclocked}
use Rattle.lv_schedule.proofs.parts.unclocked.Given as goal

abbrev pub invariant-loop-v : goal.invariant-loop-v
invariant-loop-v l = l.kept.items ≡ filter (is_unclocked l.extents) (take l.v-index l.list)
