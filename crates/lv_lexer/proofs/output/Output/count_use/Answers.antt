use Rattle.std.proofs.Common.{refl, arith}
use Rattle.lv_lexer.proofs.Followed.{counted_use, full_use}
use Rattle.lv_lexer.proofs.output.Output.count_use.Goals as goal

pub returns-then-len-self-ge-MOST : goal.returns-then-len-self-ge-MOST
returns-then-len-self-ge-MOST c = (refl, full_use c.args.self.now.list c.args.self.now.uses (omega arith))

pub returns : goal.returns
returns c = counted_use c.args.self.now.list c.args.self.now.uses _ refl
