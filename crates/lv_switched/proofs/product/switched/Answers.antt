use Rattle.std.proofs.Common.{ℕ, ◌*◌, length, ap, arith}
use Rattle.lv_product.specs.Queries.{asked, observers_of}
use Rattle.lv_switched.proofs.Concluded.{still_goal, inputs_count}
use Rattle.lv_switched.proofs.product.switched.Goals as goal

pub returns-clause-is : goal.returns-clause-is
returns-clause-is c =
    let task = c.args.task.now in
    still_goal task.graph (observers_of task) task.lookahead (length task.candidates.items) (asked c.args.query) c.in_ok-whole.whole c.in_ok-graph.graph
    c.in_ok-whole.at c.in_ok-graph.goal c.in_ok-whole.ensures c.in_ok-graph.ensures

pub invariant_of-result : goal.invariant_of-result
invariant_of-result c =
    let task = c.args.task.now in
    let n : ℕ = c.cycles_of-cycles.result in
    omega (
      arith,
      inputs_count task.graph (observers_of task) task.lookahead n (length task.candidates.items) (asked c.args.query) c.in_ok-graph.graph c.in_ok-graph.goal
          c.cycles_of-cycles.ensures
          (still_goal task.graph (observers_of task) task.lookahead (length task.candidates.items) (asked c.args.query) c.in_ok-whole.whole c.in_ok-graph.graph
          c.in_ok-whole.at c.in_ok-graph.goal c.in_ok-whole.ensures c.in_ok-graph.ensures),
      c.registers-registers.ensures,
      ap (λ (p : ℕ). n * p) c.inputs-inputs.ensures,
      ap length c.as_slice-cs.ensures.value,
    )
