use Rattle.std.proofs.Common.{ap, ◌∙◌, ◌-◌, arith}
use Rattle.lv_lexer.proofs.Branches.{innermost, kept_of}
use Rattle.lv_lexer.proofs.folds.Fold.is_read.Goals as goal

pub returns-in-Some : goal.returns-in-Some
returns-in-Some c =
    ap kept_of c.in-Some.ensures.value ∙ innermost c.args.self.now.branches (c.len-count.result - 1) (let n = c.if-count-eq0.false in omega (arith, n))

pub returns-in-None : goal.returns-in-None
returns-in-None c =
    ap kept_of c.in-None.ensures.value ∙ innermost c.args.self.now.branches (c.len-count.result - 1) (let n = c.if-count-eq0.false in omega (arith, n))
