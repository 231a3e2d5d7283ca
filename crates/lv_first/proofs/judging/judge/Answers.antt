use Rattle.lv_first.specs.Verdicts.{one_module}
use Rattle.lv_first.proofs.Lookaheads.{no_lookahead}
use Rattle.lv_first.proofs.judging.judge.Goals as goal

pub judge_module-requires : goal.judge_module-requires
judge_module-requires c = no_lookahead c.args.contract.now c.in-Some.port.now c.in-Some.ensures

pub returns : goal.returns
returns c = one_module c.in-Some.port.now c.in-Some-only_module.design.now c.in-Some.ensures c.in-Some-only_module.ensures c.in_ok-answer.ensures
