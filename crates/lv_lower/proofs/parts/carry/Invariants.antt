use Rattle.std.proofs.Common.{take}
use Rattle.lv_lower.specs.Slots.{names_of, views_of}
use Rattle.lv_lower.specs.Carrying.{Carries}
use Rattle.lv_lower.proofs.parts.carry.Given as goal

abbrev pub invariant-loop-k : goal.invariant-loop-k
invariant-loop-k l = Carries l.initial.b l.b (names_of l.flat) (views_of l.flat) l.initial.table l.table (take l.k-index l.order)
