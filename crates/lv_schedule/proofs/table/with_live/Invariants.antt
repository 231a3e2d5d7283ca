use Rattle.std.proofs.Common.{◌≡◌, ℕ, Bool, ◌&&◌, ◌||◌, take}
use Rattle.std.specs.List.{list_any}
use Rattle.lv_schedule.specs.Tables.{is_live}
use Rattle.lv_schedule.proofs.table.with_live.Given as goal

abbrev pub invariant-loop-d : goal.invariant-loop-d
invariant-loop-d l = (P : ℕ → Bool) → list_any P l.made.items ≡ (list_any P l.fn.row.items || list_any (λ d. is_live d && P d.part) (take l.d-index l.drivers))
