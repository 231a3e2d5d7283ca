use Rattle.std.proofs.Common.{◌≡◌, ℕ, ◌+◌, ◌<◌, ◌-◌, true, List, length, take, refl, sym, ◌∙◌, ap, subst, arith}
use Rattle.std.specs.Prelude.{slice_index}
use Rattle.lv_netlist.specs.Net.{width_at}
use Rattle.lv_source.specs.Names.{Declared, is_clock_sort, is_signal_sort}
use Rattle.lv_flat.specs.Signals.{declared, declared_all, signal_at}
use Rattle.lv_flat.specs.Cells.{all_cells}
use Rattle.lv_lower_exprs.specs.Tables.{value_at}
use Rattle.lv_lower_exprs.proofs.Wholes.{signal_in}
use Rattle.lv_lower_exprs.proofs.Words.{signal-sort}
use Rattle.lv_lower_blocks.specs.Aimed.{put_at, put_value, cell_count, first_number}
use Rattle.lv_lower_blocks.specs.Rewritten.{Rewrites}
use Rattle.lv_values.specs.Worlds.{number}
use Rattle.lv_lower_blocks.proofs.Rewriting.{rewritten-table}
use Rattle.lv_lower_blocks.proofs.Putting.{puts-nowhere, cells-inside, cells-end, count-some, puts-more, put-at-is, puts-shown}
use Rattle.lv_lower_blocks.proofs.puts.put.Goals as goal

pub returns-then-is_clock : goal.returns-then-is_clock
returns-then-is_clock c =
    let S = declared_all c.args.signals.now in
    puts-nowhere S c.args.aim.now c.args.x (ap (λ (z : Declared). is_clock_sort z.sort) c.signal_of-signal.ensures ∙ (sym c.is_clock.ensures ∙ c.if-is_clock.true)) c.requires.table

pub end_of-end-requires : goal.end_of-end-requires
end_of-end-requires c =
    let S = declared_all c.args.signals.now in
    let k = c.args.aim.now.signal in
    let d = declared c.signal_of-signal.result.now in
    let sort : is_signal_sort (signal_at S k).sort ≡ true = ap (λ (z : Declared). is_signal_sort z.sort) c.signal_of-signal.ensures ∙
    signal-sort c.signal_of-signal.result.now.sort (sym c.is_clock.ensures ∙ c.if-is_clock.false) in
    let h = cells-end S k c.number_at-at.result c.elements-of.result.1 d c.args.first.now c.signal_of-signal.ensures sort c.requires.first c.number_at-at.ensures c.elements-of.ensures.count
    (omega (arith, c.elements-of.ensures.count, count-some d.array)) in
    omega (arith, h, c.requires.table.count)

pub number_at-old-requires : goal.number_at-old-requires
number_at-old-requires c =
    let S = declared_all c.args.signals.now in
    let k = c.args.aim.now.signal in
    let d = declared c.signal_of-signal.result.now in
    let sort : is_signal_sort (signal_at S k).sort ≡ true = ap (λ (z : Declared). is_signal_sort z.sort) c.signal_of-signal.ensures ∙
    signal-sort c.signal_of-signal.result.now.sort (sym c.is_clock.ensures ∙ c.if-is_clock.false) in
    let h = (cells-inside S k c.number_at-at.result c.elements-of.result.1 c.loop-i.i d c.args.first.now c.signal_of-signal.ensures sort c.requires.first c.number_at-at.ensures
    c.elements-of.ensures.count c.loop-i.auto.i (omega (arith, c.loop-i-test.true, c.end_of-end.ensures))).0 in
    omega (arith, h, c.requires.table.count, c.loop-i.invariant.count)

pub set-requires : goal.set-requires
set-requires c =
    let S = declared_all c.args.signals.now in
    let k = c.args.aim.now.signal in
    let d = declared c.signal_of-signal.result.now in
    let sort : is_signal_sort (signal_at S k).sort ≡ true = ap (λ (z : Declared). is_signal_sort z.sort) c.signal_of-signal.ensures ∙
    signal-sort c.signal_of-signal.result.now.sort (sym c.is_clock.ensures ∙ c.if-is_clock.false) in
    let h = (cells-inside S k c.number_at-at.result c.elements-of.result.1 c.loop-i.i d c.args.first.now c.signal_of-signal.ensures sort c.requires.first c.number_at-at.ensures
    c.elements-of.ensures.count c.loop-i.auto.i (omega (arith, c.loop-i-test.true, c.end_of-end.ensures))).0 in
    omega (arith, h, c.requires.table.count, c.loop-i.invariant.count)

pub overflow_add-n : goal.overflow_add-n
overflow_add-n c = omega (arith, c.elements-of.ensures.near, c.elements-of.ensures.most, c.loop-i-test.true, c.end_of-end.ensures, c.loop-i.auto.i)

pub element-requires-clause-old_in : goal.element-requires-clause-old_in
element-requires-clause-old_in c =
    let S = declared_all c.args.signals.now in
    let k = c.args.aim.now.signal in
    let d = declared c.signal_of-signal.result.now in
    let sort : is_signal_sort (signal_at S k).sort ≡ true = ap (λ (z : Declared). is_signal_sort z.sort) c.signal_of-signal.ensures ∙
    signal-sort c.signal_of-signal.result.now.sort (sym c.is_clock.ensures ∙ c.if-is_clock.false) in
    let h = (cells-inside S k c.number_at-at.result c.elements-of.result.1 c.loop-i.i d c.args.first.now c.signal_of-signal.ensures sort c.requires.first c.number_at-at.ensures
    c.elements-of.ensures.count c.loop-i.auto.i (omega (arith, c.loop-i-test.true, c.end_of-end.ensures))).0 in
    let t = rewritten-table c.loop-i.invariant c.requires.table in
    subst (λ (n : ℕ). n < length c.loop-i.b.nodes) (sym c.number_at-old.ensures) (t.within c.loop-i.i h)

pub element-requires-clause-same : goal.element-requires-clause-same
element-requires-clause-same c =
    let S = declared_all c.args.signals.now in
    let k = c.args.aim.now.signal in
    let d = declared c.signal_of-signal.result.now in
    let sort : is_signal_sort (signal_at S k).sort ≡ true = ap (λ (z : Declared). is_signal_sort z.sort) c.signal_of-signal.ensures ∙
    signal-sort c.signal_of-signal.result.now.sort (sym c.is_clock.ensures ∙ c.if-is_clock.false) in
    let h = cells-inside S k c.number_at-at.result c.elements-of.result.1 c.loop-i.i d c.args.first.now c.signal_of-signal.ensures sort c.requires.first c.number_at-at.ensures
    c.elements-of.ensures.count c.loop-i.auto.i (omega (arith, c.loop-i-test.true, c.end_of-end.ensures)) in
    let t = rewritten-table c.loop-i.invariant c.requires.table in
    ap (width_at c.loop-i.b.nodes) c.number_at-old.ensures ∙ (t.widths c.loop-i.i h.0 ∙ h.1)

pub loop-i-preserved : goal.loop-i-preserved
loop-i-preserved c =
    let S = declared_all c.args.signals.now in
    let k = c.args.aim.now.signal in
    let d = declared c.signal_of-signal.result.now in
    let sort : is_signal_sort (signal_at S k).sort ≡ true = ap (λ (z : Declared). is_signal_sort z.sort) c.signal_of-signal.ensures ∙
    signal-sort c.signal_of-signal.result.now.sort (sym c.is_clock.ensures ∙ c.if-is_clock.false) in
    let h = cells-inside S k c.number_at-at.result c.elements-of.result.1 c.loop-i.i d c.args.first.now c.signal_of-signal.ensures sort c.requires.first c.number_at-at.ensures
    c.elements-of.ensures.count c.loop-i.auto.i (omega (arith, c.loop-i-test.true, c.end_of-end.ensures)) in
    subst (λ (z : List ℕ). Rewrites c.args.b.now c.element.new.b c.args.table.now z c.number_at-at.result (c.loop-i.i + 1)
    (put_at S c.args.aim.now c.args.x c.args.table.now c.number_at-at.result c.elements-of.result.0)) (sym c.set.ensures)
    (puts-more S c.args.aim.now c.args.x c.args.table.now c.loop-i.table c.same.result c.number_at-at.result c.loop-i.i c.elements-of.result.0
    (c.loop-i.i + 1) c.in_ok-k.k c.number_at-old.result (c.elements-of.result.0 + (c.loop-i.i - c.number_at-at.result))
    c.same.ensures c.loop-i.invariant c.requires.table c.loop-i.auto.i h.0 h.1 c.number_at-old.ensures refl refl c.in_ok-k.ensures)

pub returns : goal.returns
returns c =
    let S = declared_all c.args.signals.now in
    let a = c.args.aim.now in
    let k = a.signal in
    let sort : is_signal_sort (signal_at S k).sort ≡ true = ap (λ (z : Declared). is_signal_sort z.sort) c.signal_of-signal.ensures ∙
    signal-sort c.signal_of-signal.result.now.sort (sym c.is_clock.ensures ∙ c.if-is_clock.false) in
    let at_is : c.number_at-at.result ≡ length (all_cells (take k S)) = c.number_at-at.ensures ∙ c.requires.first.is k (signal_in S k sort) in
    let count : c.elements-of.result.1 ≡ cell_count (signal_at S k).array = c.elements-of.ensures.count ∙ sym (ap (λ (z : Declared). cell_count z.array) c.signal_of-signal.ensures) in
    let from : c.elements-of.result.0 ≡ first_number (signal_at S k).array = c.elements-of.ensures.low ∙ sym (ap (λ (z : Declared). first_number z.array) c.signal_of-signal.ensures) in
    let last : c.loop-i.i ≡ c.number_at-at.result + cell_count (signal_at S k).array = omega (arith, c.loop-i-test.false, c.loop-i.auto, c.end_of-end.ensures, count) in
    puts-shown S a c.args.table.now c.loop-i.table c.args.x c.number_at-at.result c.loop-i.i _ sort c.requires.aim.array c.requires.first.distinct c.requires.table at_is last c.loop-i.invariant
    (λ w j. put-at-is S a c.args.x c.args.table.now c.number_at-at.result c.elements-of.result.0 w j ∙
    ap (λ (n : ℕ). put_value w S a (n + j) (value_at w (slice_index c.args.table.now (c.number_at-at.result + j))) (number w c.args.x)) from)
