use Rattle.std.proofs.Common.{map, take}
use Rattle.lv_unroll.specs.Slots.{GivesNumbers}
use Rattle.lv_unroll.specs.Entries.{numbers_by}
use Rattle.lv_unroll.proofs.rows.wide_values.Given as goal

abbrev pub invariant-loop-k : goal.invariant-loop-k
invariant-loop-k l = GivesNumbers l.fn.b l.b l.k l.values.items (λ ws. map (numbers_by l.fn.b ws l.table) (take l.k l.nodes))
