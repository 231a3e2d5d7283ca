use Rattle.std.proofs.Common.{ℕ, ◌*◌, sym, ap, subst, arith}
use Rattle.lv_netlist.specs.Queries.{IsGoalOf}
use Rattle.lv_product.specs.Pairs.{ProductValue}
use Rattle.lv_product.specs.Queries.{asked, observers_of}
use Rattle.lv_product.proofs.Trimmed.{still_goal}
use Rattle.lv_product.proofs.Concluding.{inputs_count}
use Rattle.lv_product.proofs.windows.window.Goals as goal

pub new-requires : goal.new-requires
new-requires c =
    omega (
      arith,
      inputs_count c.args.task.now.graph (observers_of c.args.task.now) c.args.task.now.lookahead c.cycles_of-cycles.result
          c.args.kept.now.numbers.items (asked c.args.query) c.in_ok-graph.graph c.in_ok-graph.goal c.cycles_of-cycles.ensures
          (still_goal c.args.task.now.graph (observers_of c.args.task.now) c.args.task.now.lookahead c.args.kept.now.numbers.items (asked c.args.query)
          c.in_ok-whole.whole c.in_ok-graph.graph c.in_ok-whole.at c.in_ok-graph.goal c.in_ok-whole.ensures
          c.in_ok-graph.ensures),
      c.registers-registers.ensures,
      ap (λ (p : ℕ). c.cycles_of-cycles.result * p) c.inputs-inputs.ensures,
    )

pub returns-clause-is : goal.returns-clause-is
returns-clause-is c =
    subst (λ (p : ProductValue). IsGoalOf c.args.task.now.graph (observers_of c.args.task.now) c.args.task.now.lookahead c.args.kept.now.numbers.items
    (asked c.args.query) p.net p.goal) (sym c.new.ensures)
    (still_goal c.args.task.now.graph (observers_of c.args.task.now) c.args.task.now.lookahead c.args.kept.now.numbers.items (asked c.args.query)
    c.in_ok-whole.whole c.in_ok-graph.graph c.in_ok-whole.at c.in_ok-graph.goal c.in_ok-whole.ensures c.in_ok-graph.ensures)
