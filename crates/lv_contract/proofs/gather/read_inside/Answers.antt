use Rattle.toml.specs.View.{table_view}
use Rattle.lv_contract.proofs.Faults.{initial_fault, candidates_fault, simulation_fault}
use Rattle.lv_contract.proofs.gather.read_inside.Goals as goal

pub returns-in-Err : goal.returns-in-Err
returns-in-Err c = λ need. initial_fault need c.args.format (table_view c.args.table.now) c.in-Err.error c.requires.format c.in-Err.ensures

pub returns-in-Err-candidates : goal.returns-in-Err-candidates
returns-in-Err-candidates c = λ need. candidates_fault need c.args.format (table_view c.args.table.now) c.in-Err-candidates.error c.requires.format c.in-Err-candidates.ensures

pub returns-in-Err-simulation : goal.returns-in-Err-simulation
returns-in-Err-simulation c = λ need. simulation_fault need c.args.format (table_view c.args.table.now) c.in-Err-simulation.error c.requires.format c.in-Err-simulation.ensures
