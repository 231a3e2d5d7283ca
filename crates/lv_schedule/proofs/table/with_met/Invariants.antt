use Rattle.std.proofs.Common.{◌≡◌, ℕ, Bool, ◌&&◌, ◌||◌, take}
use Rattle.std.specs.List.{list_any}
use Rattle.lv_schedule.specs.Drivers.{is_met}
use Rattle.lv_schedule.proofs.table.with_met.Given as goal

abbrev pub invariant-loop-d : goal.invariant-loop-d
invariant-loop-d l = (P : ℕ → Bool) → list_any P l.made.items ≡ (list_any P l.fn.row.items || list_any (λ d. is_met l.reader.part l.reader.alone l.r d && P d.part) (take l.d-index l.drivers))
