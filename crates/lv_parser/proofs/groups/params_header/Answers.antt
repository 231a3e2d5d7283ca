use Rattle.std.proofs.Common.{refl}
use Rattle.lv_grammar.specs.Rules as rules
use Rattle.lv_parser.proofs.Paths.{begin, through, then, refuse}
use Rattle.lv_parser.proofs.Fronts.{exit}
use Rattle.lv_parser.proofs.Carried.{carried}
use Rattle.lv_parser.proofs.groups.params_header.Goals as goal

pub returns-in_err-sign-clause-answer : goal.returns-in_err-sign-clause-answer
returns-in_err-sign-clause-answer c = λ d. exit _ c.from_residual.ensures.1 (refuse (through (begin rules.params_header c.args.at refl)) (c.in_err-sign.ensures.answer d) refl)

pub returns-clause-answer : goal.returns-clause-answer
returns-clause-answer c = λ d. carried (then (through (begin rules.params_header c.args.at refl)) (c.in_ok-sign.ensures.answer d)) c.header.result (c.header.ensures.answer d)
