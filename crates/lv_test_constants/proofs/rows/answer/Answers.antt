use Rattle.std.proofs.Common.{arith, ℕ, ◌≤◌, subst}
use Rattle.lv_const.specs.Constants.{entries_here}
use Rattle.lv_const.specs.Public.{IsOwnOf}
use Rattle.lv_const.proofs.Declared.{entries-declared}
use Rattle.lv_test_constants.proofs.rows.answer.Goals as goal

-- src/rows.rt:34:31
pub value_of-requires-clause-some : goal.value_of-requires-clause-some
value_of-requires-clause-some c =
    let own : IsOwnOf (entries_here c.args.consts.now) c.args.expr.now c.in-Ok.own c.in-Ok.own_signed =
    (c.in-Ok.ensures.at (entries_here c.args.consts.now) (entries-declared c.args.consts.now)).right in
    omega (arith, own.some, c.if-own-width.false)

-- src/rows.rt:34:31
pub value_of-requires-clause-wide : goal.value_of-requires-clause-wide
value_of-requires-clause-wide c =
    let own : IsOwnOf (entries_here c.args.consts.now) c.args.expr.now c.in-Ok.own c.in-Ok.own_signed =
    (c.in-Ok.ensures.at (entries_here c.args.consts.now) (entries-declared c.args.consts.now)).right in
    subst (λ (w : ℕ). w ≤ c.args.width) own.width c.if-own-width.false
