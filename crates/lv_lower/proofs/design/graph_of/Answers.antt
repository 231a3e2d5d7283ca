use Rattle.std.proofs.Common.{◌≡◌, List, ℕ, map, ap, sym, subst, ◌∙◌}
use Rattle.lv_netlist.specs.Net.{Net, HasNexts}
use Rattle.lv_flat.specs.Cells.{Cell, all_cells}
use Rattle.lv_flat.specs.declared.flat.Flat.{Flat}
use Rattle.lv_lower_exprs.specs.Tables.{IsTable}
use Rattle.lv_overlays.specs.Writes.{all_writes_on}
use Rattle.lv_lower.specs.declared.slot.Slot.{Slot}
use Rattle.lv_lower.specs.Slots.{names_of, views_of, all_slots}
use Rattle.lv_lower.specs.Started.{cell_in}
use Rattle.lv_lower.specs.Clocking.{Follows}
use Rattle.lv_lower.specs.Lowered.{IsLowered}
use Rattle.lv_lower.specs.Nexts.{with_nexts}
use Rattle.lv_lower.proofs.Beginning.{cells-are}
use Rattle.lv_lower.proofs.Putting.{has-nexts, is-lowered, are-firsts}
use Rattle.lv_lower.proofs.design.graph_of.Goals as goal

pub set_nexts-requires-clause-table : goal.set_nexts-requires-clause-table
set_nexts-requires-clause-table c =
    let f : Flat = c.args.flat.now in
    let cells : map cell_in c.as_slice-5.result.now ≡ all_cells (names_of f) = ap (map cell_in) (c.as_slice-5.ensures.value ∙ c.in_ok-slots.ensures.slots) ∙ cells-are (views_of f) (names_of f) in
    subst (λ (cs : List Cell). IsTable c.clocked_table.new.b cs c.as_slice-6.result.now) (sym cells)
    (subst (λ (t : List ℕ). IsTable c.clocked_table.new.b (all_cells (names_of f)) t) (sym c.as_slice-6.ensures.value) c.in_ok-done.ensures.table_is)

pub finish-graph-requires : goal.finish-graph-requires
finish-graph-requires c =
    let f : Flat = c.args.flat.now in
    let is : c.set_nexts.new.b ≡ with_nexts c.clocked_table.new.b (all_slots (views_of f) (names_of f)) c.in_ok-done.done.items =
    c.set_nexts.ensures ∙ (ap (λ (ss : List Slot). with_nexts c.clocked_table.new.b ss c.as_slice-6.result.now) (c.as_slice-5.ensures.value ∙ c.in_ok-slots.ensures.slots) ∙
    ap (λ (t : List ℕ). with_nexts c.clocked_table.new.b (all_slots (views_of f) (names_of f)) t) c.as_slice-6.ensures.value) in
    let next : Follows c.settled_table.new.b c.clocked_table.new.b (names_of f) c.in_ok-table.table.items c.in_ok-done.done.items (λ v. all_writes_on (names_of f) f.parts v v) =
    subst (λ (t : List ℕ). Follows c.settled_table.new.b c.clocked_table.new.b (names_of f) t c.in_ok-done.done.items (λ v. all_writes_on (names_of f) f.parts v v)) c.as_slice-4.ensures.value c.in_ok-done.ensures in
    subst HasNexts (sym is) (has-nexts (names_of f) f.parts c.args.order.now c.settled_table.new.b c.clocked_table.new.b c.in_ok-table.table.items c.in_ok-done.done.items f.distinct
    c.requires.right c.in_ok-table.ensures next)

pub returns : goal.returns
returns c =
    let f : Flat = c.args.flat.now in
    let is : c.finish-graph.result ≡ with_nexts c.clocked_table.new.b (all_slots (views_of f) (names_of f)) c.in_ok-done.done.items =
    c.finish-graph.ensures ∙ (c.set_nexts.ensures ∙ (ap (λ (ss : List Slot). with_nexts c.clocked_table.new.b ss c.as_slice-6.result.now) (c.as_slice-5.ensures.value ∙ c.in_ok-slots.ensures.slots) ∙
    ap (λ (t : List ℕ). with_nexts c.clocked_table.new.b (all_slots (views_of f) (names_of f)) t) c.as_slice-6.ensures.value)) in
    let next : Follows c.settled_table.new.b c.clocked_table.new.b (names_of f) c.in_ok-table.table.items c.in_ok-done.done.items (λ v. all_writes_on (names_of f) f.parts v v) =
    subst (λ (t : List ℕ). Follows c.settled_table.new.b c.clocked_table.new.b (names_of f) t c.in_ok-done.done.items (λ v. all_writes_on (names_of f) f.parts v v)) c.as_slice-4.ensures.value c.in_ok-done.ensures in
    subst (λ (n : Net). IsLowered (names_of f) (views_of f) n c.in_ok-table.table.items c.in_ok-slots.first.items) (sym is)
    (is-lowered (names_of f) f.parts c.args.order.now c.settled_table.new.b c.clocked_table.new.b c.in_ok-table.table.items c.in_ok-done.done.items f.distinct c.requires.right c.in_ok-table.ensures next
    c.requires.order c.in_ok-slots.first.items (are-firsts (names_of f) c.in_ok-slots.first.items c.in_ok-slots.ensures.first f.distinct))
