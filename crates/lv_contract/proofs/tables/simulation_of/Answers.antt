use Rattle.std.proofs.Common.{arith, refl}
use Rattle.toml.specs.View.{table_view}
use Rattle.lv_contract.specs.declared.key.Key.TheVariants as k
use Rattle.lv_contract.proofs.Counts.{simulation_range, simulation_counts}
use Rattle.lv_contract.proofs.tables.simulation_of.Goals as goal

pub returns-in-Err : goal.returns-in-Err
returns-in-Err c = (k.Show, (1, omega arith, refl), c.in-Err.ensures)

pub returns-in-Err-states : goal.returns-in-Err-states
returns-in-Err-states c = (k.State, (2, omega arith, refl), c.in-Err-states.ensures)

pub returns-in-Err-inputs : goal.returns-in-Err-inputs
returns-in-Err-inputs c = (k.Input, (3, omega arith, refl), c.in-Err-inputs.ensures)

pub invariant_of-result : goal.invariant_of-result
invariant_of-result c = record {
  cycles_range = simulation_range (table_view c.args.table.now) c.number-cycles.result c.number-cycles.ensures c.requires;
  counted = simulation_counts (table_view c.args.table.now) c.in-Ok.show c.in-Ok-states.state c.in-Ok-inputs.input c.in-Ok.ensures c.in-Ok-states.ensures c.in-Ok-inputs.ensures c.requires;
}
