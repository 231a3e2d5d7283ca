use Rattle.std.proofs.Common.{◌≡◌, ℕ, false, take}
use Rattle.std.specs.List.{list_any}
use Rattle.lv_spans.specs.Sets.{Cell, has}
use Rattle.lv_schedule.specs.Tables.{drives_bit, is_wide}
use Rattle.lv_schedule.proofs.tables.bits_of.Given as goal

abbrev pub invariant-loop-d : goal.invariant-loop-d
invariant-loop-d l = record {
  bits : (q : Cell) (i : ℕ) → has l.set q i ≡ list_any (drives_bit q i) (take l.d-index l.drivers);
  narrow : list_any is_wide (take l.d-index l.drivers) ≡ false;
}
