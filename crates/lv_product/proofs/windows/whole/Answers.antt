use Rattle.std.proofs.Common.{ℕ, ◌+◌, ◌*◌, List, length, sym, ◌∙◌, ap, subst, arith}
use Rattle.lv_netlist.specs.Net.{Net, register_width}
use Rattle.lv_netlist.specs.Queries.{IsGoalOf}
use Rattle.lv_unroll.specs.declared.copies.Nodes.{Nodes}
use Rattle.lv_unroll.specs.Unrolls.{Unrolls, IsCopy}
use Rattle.lv_unroll.proofs.Copying.{alike_kept}
use Rattle.lv_unroll.proofs.Growing.{extends_trans}
use Rattle.lv_product.specs.Queries.{asked, observers_of}
use Rattle.std.specs.List.{range_with_len, AllByRecursion}
use Rattle.lv_product.specs.Opening.{Opens, lists_of, ranges}
use Rattle.lv_product.specs.Sharing.{held_first, Shares}
use Rattle.lv_product.proofs.Opened.{run_count}
use Rattle.lv_product.proofs.Parts.{length_product}
use Rattle.lv_product.proofs.Shared.{shared_states}
use Rattle.lv_product.proofs.Telling.{copies_kept}
use Rattle.lv_product.proofs.Concluding.{AreOpened, goal_is, left_states, right_states, inputs_cycles, cycles_are_kept}
use Rattle.lv_product.proofs.windows.whole.Goals as goal

pub overflow_add-start : goal.overflow_add-start
overflow_add-start c = omega (arith, ap length (c.as_slice-w.ensures.value ∙ c.in_ok-widths.ensures.is), length_product c.args.task.now.graph c.args.cycles)

pub last_of-aligned-requires : goal.last_of-aligned-requires
last_of-aligned-requires c = omega (
  arith,
  ap length (c.as_slice-w.ensures.value ∙
      c.in_ok-widths.ensures.is),
  length_product c.args.task.now.graph c.args.cycles,
)

pub range-requires-2 : goal.range-requires-2
range-requires-2 c = omega (arith, ap length (c.as_slice-w.ensures.value ∙ c.in_ok-widths.ensures.is), length_product c.args.task.now.graph c.args.cycles)

pub cycle_nodes-requires : goal.cycle_nodes-requires
cycle_nodes-requires c = omega (
  arith,
  c.registers-registers.ensures,
  ap (λ (p : ℕ). c.args.cycles * p) c.inputs-ports.ensures,
  ap length
      (c.as_slice-w.ensures.value ∙ c.in_ok-widths.ensures.is),
  length_product c.args.task.now.graph c.args.cycles,
)

pub first_nodes-requires-clause-left : goal.first_nodes-requires-clause-left
first_nodes-requires-clause-left c = left_states c.args.task.now.graph c.in_ok-b.b c.args.cycles c.last_of-aligned.result c.as_slice-l.result.now
    c.as_slice-r.result.now c.as_slice-i.result.now (record {
      opens = subst (λ (l : List ℕ). Opens l c.in_ok-b.b) (c.as_slice-w.ensures.value ∙ c.in_ok-widths.ensures.is) c.in_ok-b.ensures;
      left_is = c.as_slice-l.ensures.value ∙ (c.in_ok-left.ensures ∙ ap (range_with_len 0) c.registers-registers.ensures);
      right_is = c.as_slice-r.ensures.value ∙ (c.in_ok-right.ensures ∙ ap (λ (m : ℕ). range_with_len m m) c.registers-registers.ensures);
      inputs_are = ap lists_of c.as_slice-i.ensures.value ∙ (c.in_ok-inputs.ensures ∙
          (ap (λ (m : ℕ). ranges (m + m) c.inputs-ports.result c.args.cycles) c.registers-registers.ensures ∙
          ap (λ (p : ℕ). ranges (length c.args.task.now.graph.registers + length c.args.task.now.graph.registers) p c.args.cycles) c.inputs-ports.ensures));
      aligned_is = c.last_of-aligned.ensures ∙ ap length (c.as_slice-w.ensures.value ∙ c.in_ok-widths.ensures.is);
    })

pub first_nodes-requires-clause-right : goal.first_nodes-requires-clause-right
first_nodes-requires-clause-right c = right_states c.args.task.now.graph c.in_ok-b.b c.args.cycles c.last_of-aligned.result c.as_slice-l.result.now
    c.as_slice-r.result.now c.as_slice-i.result.now (record {
      opens = subst (λ (l : List ℕ). Opens l c.in_ok-b.b) (c.as_slice-w.ensures.value ∙ c.in_ok-widths.ensures.is) c.in_ok-b.ensures;
      left_is = c.as_slice-l.ensures.value ∙ (c.in_ok-left.ensures ∙ ap (range_with_len 0) c.registers-registers.ensures);
      right_is = c.as_slice-r.ensures.value ∙ (c.in_ok-right.ensures ∙ ap (λ (m : ℕ). range_with_len m m) c.registers-registers.ensures);
      inputs_are = ap lists_of c.as_slice-i.ensures.value ∙ (c.in_ok-inputs.ensures ∙
          (ap (λ (m : ℕ). ranges (m + m) c.inputs-ports.result c.args.cycles) c.registers-registers.ensures ∙
          ap (λ (p : ℕ). ranges (length c.args.task.now.graph.registers + length c.args.task.now.graph.registers) p c.args.cycles) c.inputs-ports.ensures));
      aligned_is = c.last_of-aligned.ensures ∙ ap length (c.as_slice-w.ensures.value ∙ c.in_ok-widths.ensures.is);
    })

pub unroll-requires-clause-state : goal.unroll-requires-clause-state
unroll-requires-clause-state c =
    alike_kept c.in_ok-b.b c.first_nodes.new.b (length c.args.task.now.graph.registers) (register_width c.args.task.now.graph) c.as_slice-l.result.now
    c.in_ok-shared.ensures.extends (left_states c.args.task.now.graph c.in_ok-b.b c.args.cycles c.last_of-aligned.result c.as_slice-l.result.now
    c.as_slice-r.result.now c.as_slice-i.result.now (record {
      opens = subst (λ (l : List ℕ). Opens l c.in_ok-b.b) (c.as_slice-w.ensures.value ∙ c.in_ok-widths.ensures.is) c.in_ok-b.ensures;
      left_is = c.as_slice-l.ensures.value ∙ (c.in_ok-left.ensures ∙ ap (range_with_len 0) c.registers-registers.ensures);
      right_is = c.as_slice-r.ensures.value ∙ (c.in_ok-right.ensures ∙ ap (λ (m : ℕ). range_with_len m m) c.registers-registers.ensures);
      inputs_are = ap lists_of c.as_slice-i.ensures.value ∙ (c.in_ok-inputs.ensures ∙
          (ap (λ (m : ℕ). ranges (m + m) c.inputs-ports.result c.args.cycles) c.registers-registers.ensures ∙
          ap (λ (p : ℕ). ranges (length c.args.task.now.graph.registers + length c.args.task.now.graph.registers) p c.args.cycles) c.inputs-ports.ensures));
      aligned_is = c.last_of-aligned.ensures ∙ ap length (c.as_slice-w.ensures.value ∙ c.in_ok-widths.ensures.is);
    }))

pub unroll-requires-clause-inputs : goal.unroll-requires-clause-inputs
unroll-requires-clause-inputs c =
    cycles_are_kept c.in_ok-b.b c.first_nodes.new.b c.args.task.now.graph c.as_slice-i.result.now c.in_ok-shared.ensures.extends
    (inputs_cycles c.args.task.now.graph c.in_ok-b.b c.args.cycles c.last_of-aligned.result c.as_slice-l.result.now c.as_slice-r.result.now
    c.as_slice-i.result.now (record {
      opens = subst (λ (l : List ℕ). Opens l c.in_ok-b.b) (c.as_slice-w.ensures.value ∙ c.in_ok-widths.ensures.is) c.in_ok-b.ensures;
      left_is = c.as_slice-l.ensures.value ∙ (c.in_ok-left.ensures ∙ ap (range_with_len 0) c.registers-registers.ensures);
      right_is = c.as_slice-r.ensures.value ∙ (c.in_ok-right.ensures ∙ ap (λ (m : ℕ). range_with_len m m) c.registers-registers.ensures);
      inputs_are = ap lists_of c.as_slice-i.ensures.value ∙ (c.in_ok-inputs.ensures ∙
          (ap (λ (m : ℕ). ranges (m + m) c.inputs-ports.result c.args.cycles) c.registers-registers.ensures ∙
          ap (λ (p : ℕ). ranges (length c.args.task.now.graph.registers + length c.args.task.now.graph.registers) p c.args.cycles) c.inputs-ports.ensures));
      aligned_is = c.last_of-aligned.ensures ∙ ap length (c.as_slice-w.ensures.value ∙ c.in_ok-widths.ensures.is);
    }))

pub unroll-requires-2-clause-state : goal.unroll-requires-2-clause-state
unroll-requires-2-clause-state c =
    let o : AreOpened c.args.task.now.graph c.in_ok-b.b c.args.cycles c.last_of-aligned.result c.as_slice-l.result.now c.as_slice-r.result.now
    c.as_slice-i.result.now = (record {
      opens = subst (λ (l : List ℕ). Opens l c.in_ok-b.b) (c.as_slice-w.ensures.value ∙ c.in_ok-widths.ensures.is) c.in_ok-b.ensures;
      left_is = c.as_slice-l.ensures.value ∙ (c.in_ok-left.ensures ∙ ap (range_with_len 0) c.registers-registers.ensures);
      right_is = c.as_slice-r.ensures.value ∙ (c.in_ok-right.ensures ∙ ap (λ (m : ℕ). range_with_len m m) c.registers-registers.ensures);
      inputs_are = ap lists_of c.as_slice-i.ensures.value ∙ (c.in_ok-inputs.ensures ∙
          (ap (λ (m : ℕ). ranges (m + m) c.inputs-ports.result c.args.cycles) c.registers-registers.ensures ∙
          ap (λ (p : ℕ). ranges (length c.args.task.now.graph.registers + length c.args.task.now.graph.registers) p c.args.cycles) c.inputs-ports.ensures));
      aligned_is = c.last_of-aligned.ensures ∙ ap length (c.as_slice-w.ensures.value ∙ c.in_ok-widths.ensures.is);
    }) in
    alike_kept c.first_nodes.new.b c.unroll.new.b (length c.args.task.now.graph.registers) (register_width c.args.task.now.graph) c.as_slice-f.result.now
    c.in_ok-ls.ensures.extends
    (shared_states c.args.task.now.graph c.in_ok-b.b c.first_nodes.new.b c.args.task.now.candidates.items
    (held_first c.args.query c.args.kept.now.numbers.items) c.as_slice-l.result.now c.as_slice-r.result.now c.as_slice-f.result.now
    (length (held_first c.args.query c.args.kept.now.numbers.items)) c.in_ok-shared.shared.1
    (left_states c.args.task.now.graph c.in_ok-b.b c.args.cycles c.last_of-aligned.result c.as_slice-l.result.now c.as_slice-r.result.now
    c.as_slice-i.result.now o) (right_states c.args.task.now.graph c.in_ok-b.b c.args.cycles c.last_of-aligned.result c.as_slice-l.result.now
    c.as_slice-r.result.now c.as_slice-i.result.now o) (subst
    (λ (l : List ℕ). Shares c.args.task.now.graph c.in_ok-b.b c.first_nodes.new.b c.args.task.now.candidates.items
    (held_first c.args.query c.args.kept.now.numbers.items) c.as_slice-l.result.now c.as_slice-r.result.now
    (length (held_first c.args.query c.args.kept.now.numbers.items)) l c.in_ok-shared.shared.1) (sym
    c.as_slice-f.ensures.value) c.in_ok-shared.ensures))

pub unroll-requires-2-clause-inputs : goal.unroll-requires-2-clause-inputs
unroll-requires-2-clause-inputs c =
    let o : AreOpened c.args.task.now.graph c.in_ok-b.b c.args.cycles c.last_of-aligned.result c.as_slice-l.result.now c.as_slice-r.result.now
    c.as_slice-i.result.now = (record {
      opens = subst (λ (l : List ℕ). Opens l c.in_ok-b.b) (c.as_slice-w.ensures.value ∙ c.in_ok-widths.ensures.is) c.in_ok-b.ensures;
      left_is = c.as_slice-l.ensures.value ∙ (c.in_ok-left.ensures ∙ ap (range_with_len 0) c.registers-registers.ensures);
      right_is = c.as_slice-r.ensures.value ∙ (c.in_ok-right.ensures ∙ ap (λ (m : ℕ). range_with_len m m) c.registers-registers.ensures);
      inputs_are = ap lists_of c.as_slice-i.ensures.value ∙ (c.in_ok-inputs.ensures ∙
          (ap (λ (m : ℕ). ranges (m + m) c.inputs-ports.result c.args.cycles) c.registers-registers.ensures ∙
          ap (λ (p : ℕ). ranges (length c.args.task.now.graph.registers + length c.args.task.now.graph.registers) p c.args.cycles) c.inputs-ports.ensures));
      aligned_is = c.last_of-aligned.ensures ∙ ap length (c.as_slice-w.ensures.value ∙ c.in_ok-widths.ensures.is);
    }) in
    cycles_are_kept c.in_ok-b.b c.unroll.new.b c.args.task.now.graph c.as_slice-i.result.now
    (extends_trans c.in_ok-b.b c.first_nodes.new.b c.unroll.new.b c.in_ok-shared.ensures.extends c.in_ok-ls.ensures.extends)
    (inputs_cycles c.args.task.now.graph c.in_ok-b.b c.args.cycles c.last_of-aligned.result c.as_slice-l.result.now c.as_slice-r.result.now
    c.as_slice-i.result.now o)

pub goal-requires-clause-left : goal.goal-requires-clause-left
goal-requires-clause-left c =
    copies_kept c.unroll.new.b c.unroll-2.new.b c.args.task.now.graph c.as_slice-x.result.now c.in_ok-rs.ensures.extends
    (subst (AllByRecursion (IsCopy c.unroll.new.b c.args.task.now.graph)) (sym c.as_slice-x.ensures.value) c.in_ok-ls.ensures.copies)

pub goal-requires-clause-many : goal.goal-requires-clause-many
goal-requires-clause-many c =
    ap length c.as_slice-x.ensures.value ∙ (c.in_ok-ls.ensures.many ∙
    (run_count _ _ c.args.cycles c.as_slice-i.result.now (ap lists_of c.as_slice-i.ensures.value ∙ c.in_ok-inputs.ensures) ∙ c.requires.cycles))

pub returns : goal.returns
returns c =
    subst (λ (net : Net). IsGoalOf c.args.task.now.graph (observers_of c.args.task.now) c.args.task.now.lookahead c.args.kept.now.numbers.items
    (asked c.args.query) net c.in_ok-both.both) (sym c.finish-whole.ensures)
    (goal_is c.args.task.now c.args.kept.now.numbers.items c.args.query c.args.cycles c.requires.cycles c.runs.ensures.run c.in_ok-b.b c.first_nodes.new.b
    c.unroll.new.b c.unroll-2.new.b c.goal.new.b c.both.new.b c.last_of-aligned.result c.in_ok-shared.shared.1 c.in_ok-at.at c.in_ok-both.both
    c.as_slice-l.result.now c.as_slice-r.result.now c.as_slice-f.result.now c.as_slice-i.result.now c.as_slice-x.result.now c.as_slice-y.result.now
    (record {
      opens = subst (λ (l : List ℕ). Opens l c.in_ok-b.b) (c.as_slice-w.ensures.value ∙ c.in_ok-widths.ensures.is) c.in_ok-b.ensures;
      left_is = c.as_slice-l.ensures.value ∙ (c.in_ok-left.ensures ∙ ap (range_with_len 0) c.registers-registers.ensures);
      right_is = c.as_slice-r.ensures.value ∙ (c.in_ok-right.ensures ∙ ap (λ (m : ℕ). range_with_len m m) c.registers-registers.ensures);
      inputs_are = ap lists_of c.as_slice-i.ensures.value ∙ (c.in_ok-inputs.ensures ∙
          (ap (λ (m : ℕ). ranges (m + m) c.inputs-ports.result c.args.cycles) c.registers-registers.ensures ∙
          ap (λ (p : ℕ). ranges (length c.args.task.now.graph.registers + length c.args.task.now.graph.registers) p c.args.cycles) c.inputs-ports.ensures));
      aligned_is = c.last_of-aligned.ensures ∙ ap length (c.as_slice-w.ensures.value ∙ c.in_ok-widths.ensures.is);
    })
    (subst (λ (l : List ℕ). Shares c.args.task.now.graph c.in_ok-b.b c.first_nodes.new.b c.args.task.now.candidates.items
    (held_first c.args.query c.args.kept.now.numbers.items) c.as_slice-l.result.now c.as_slice-r.result.now
    (length (held_first c.args.query c.args.kept.now.numbers.items)) l c.in_ok-shared.shared.1) (sym c.as_slice-f.ensures.value) c.in_ok-shared.ensures)
    (subst (λ (ts : List Nodes). Unrolls c.args.task.now.graph c.first_nodes.new.b c.unroll.new.b c.as_slice-l.result.now c.as_slice-i.result.now ts)
    (sym c.as_slice-x.ensures.value) c.in_ok-ls.ensures)
    (subst (λ (ts : List Nodes). Unrolls c.args.task.now.graph c.unroll.new.b c.unroll-2.new.b c.as_slice-f.result.now c.as_slice-i.result.now ts)
    (sym c.as_slice-y.ensures.value) c.in_ok-rs.ensures)
    c.in_ok-at.ensures c.in_ok-both.ensures)
