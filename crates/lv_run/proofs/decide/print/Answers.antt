use Rattle.std.proofs.Common.{inr}
use Rattle.lv_run.specs.Answers.{ended, no_memory}
use Rattle.lv_run.proofs.Answering.{printed_by}
use Rattle.lv_run.proofs.decide.print.Goals as goal

pub returns-in-Err-clause-answer : goal.returns-in-Err-clause-answer
returns-in-Err-clause-answer g c = λ words asks. ended c.args.file.now c.in-Err.ended (inr asks) c.in-Err.ensures.refused

pub returns-in-Ok-print_source-clause-answer : goal.returns-in-Ok-print_source-clause-answer
returns-in-Ok-print_source-clause-answer g c = λ words asks.
    printed_by words _ _ c.args.file.now c.in-Ok.input.contract c.in-Ok.input.source c.in-Ok-print_source.text c.in-Ok-print_source.ensures.text asks c.in-Ok.ensures.input

pub returns-clause-answer : goal.returns-clause-answer
returns-clause-answer g c = λ words asks. no_memory
