use Rattle.std.proofs.Common.{ap, ◌∙◌}
use Rattle.std.specs.Prelude.{Ok}
use Rattle.lv_run.specs.Answers.{usage, no_memory}
use Rattle.lv_run.proofs.Unbuilt.{nothing_asked}
use Rattle.lv_run.proofs.decide.decide.Goals as goal

pub returns-in-Err-clause-answer : goal.returns-in-Err-clause-answer
returns-in-Err-clause-answer g c = no_memory

pub returns-in-Ok-None-clause-answer : goal.returns-in-Ok-None-clause-answer
returns-in-Ok-None-clause-answer g c =
    usage (λ line. nothing_asked c.args.words.now.list c.asked.result (c.in-Ok-None.is ∙ ap Ok c.in-Ok-None.field-0-is) c.asked.ensures line)
