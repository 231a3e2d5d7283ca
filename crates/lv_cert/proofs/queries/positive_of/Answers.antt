use Rattle.lv_cert.proofs.LiteralWords.{positive_none}
use Rattle.lv_cert.proofs.queries.positive_of.Goals as goal

pub returns-in-None : goal.returns-in-None
returns-in-None c = λ a f e. positive_none c.args.letters.now c.args.low c.args.vars c.requires.plain c.in-None.ensures a f e
