use Rattle.std.proofs.Common.{List, length, ap, sym, subst, ◌∙◌}
use Rattle.std.specs.List.{range_with_len}
use Rattle.lv_netlist.specs.Net.{no_nodes}
use Rattle.lv_lower.specs.declared.slot.Slot.{Slot}
use Rattle.lv_lower.specs.Slots.{names_of, views_of}
use Rattle.lv_lower.specs.Started.{net_from, AreSlots}
use Rattle.lv_lower.proofs.Putting.{are-slots, start-table}
use Rattle.lv_lower.proofs.design.settled_table.Goals as goal

pub start-requires-clause-slots : goal.start-requires-clause-slots
start-requires-clause-slots c = subst AreSlots (sym c.requires.slots) (are-slots c.args.flat.now.signals (views_of c.args.flat.now) c.requires.first.distinct)

pub carry-requires-clause-table : goal.carry-requires-clause-table
carry-requires-clause-table c =
    start-table (names_of c.args.flat.now) (views_of c.args.flat.now) c.start.new.b c.as_mut_slice.result.now c.requires.first.distinct
    (c.in_ok-table.ensures.is ∙ ap (net_from no_nodes) c.requires.slots)
    (c.as_mut_slice.ensures.value ∙ (c.in_ok-table.ensures.table ∙ ap (λ (ss : List Slot). range_with_len 0 (length ss)) c.requires.slots))
