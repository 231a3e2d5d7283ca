use Rattle.std.proofs.Common.{subst, sym}
use Rattle.lv_contract.specs.Expressions.{IsUnreadAt}
use Rattle.lv_contract.proofs.Expressions.{unlexed}
use Rattle.lv_contract.proofs.expression.read_expression.Goals as goal

pub returns-in-Err : goal.returns-in-Err
returns-in-Err c = subst (IsUnreadAt c.args.text.now) (sym c.unlexed.ensures) (unlexed c.args.text.now c.in-Err.error c.in-Err.ensures.refused)
