use Rattle.std.proofs.Common.{inl}
use Rattle.lv_run.specs.Answers.{judged, ended, no_memory}
use Rattle.lv_run.proofs.decide.verify.Goals as goal

pub returns-in-Err-clause-answer : goal.returns-in-Err-clause-answer
returns-in-Err-clause-answer g c = λ words asks. ended c.args.file.now c.in-Err.ended (inl asks) c.in-Err.ensures.refused

pub returns-in-Ok-judge-clause-answer : goal.returns-in-Ok-judge-clause-answer
returns-in-Ok-judge-clause-answer g c = λ words asks.
    judged c.args.file.now c.in-Ok.input.contract c.in-Ok.input.source c.in-Ok-judge.verdict asks c.in-Ok.ensures.input c.in-Ok-judge.ensures

pub returns-clause-answer : goal.returns-clause-answer
returns-clause-answer g c = λ words asks. no_memory
