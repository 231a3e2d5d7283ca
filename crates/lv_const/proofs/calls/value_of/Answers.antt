use Rattle.std.specs.Prelude.{true}
use Rattle.lv_const.specs.Constants.{names_of, entries_here}
use Rattle.lv_const.proofs.Declared.{entries-declared}
use Rattle.lv_const.proofs.Publics.{value_width, value_right, value_wrong}
use Rattle.lv_const.proofs.calls.value_of.Goals as goal

pub returns-in-Err : goal.returns-in-Err
returns-in-Err c = record { at = λ here ok. value_wrong here c.args.expr.now c.args.width c.args.signed c.in-Err.error (c.in-Err.ensures.at here ok).wrong }

pub returns-in-Ok : goal.returns-in-Ok
returns-in-Ok c = record {
  at = λ here ok. value_right here c.args.expr.now c.args.width c.args.signed c.in-Ok.full
      (value_width (λ p. true) (names_of c.args.consts.now) c.args.expr.now c.args.width c.args.signed c.in-Ok.full c.requires.wide
      (c.in-Ok.ensures.at (entries_here c.args.consts.now) (entries-declared c.args.consts.now)).right)
      (c.in-Ok.ensures.at here ok).right;
}
