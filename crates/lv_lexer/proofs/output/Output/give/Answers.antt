use Rattle.std.proofs.Common.{refl, arith}
use Rattle.lv_lexer.proofs.Followed.{gave, full_give}
use Rattle.lv_lexer.proofs.output.Output.give.Goals as goal

pub returns-then-len-self-ge-MOST : goal.returns-then-len-self-ge-MOST
returns-then-len-self-ge-MOST c = (refl, full_give c.args.self.now.list c.args.self.now.uses c.args.token (omega arith))

pub returns-in-Ok : goal.returns-in-Ok
returns-in-Ok c = gave c.args.self.now.list _ c.args.self.now.uses c.args.token c.in-Ok.ensures.ok
