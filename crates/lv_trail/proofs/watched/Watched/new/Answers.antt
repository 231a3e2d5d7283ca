use Rattle.std.proofs.Common.{◌+◌, ◌*◌, refl, arith}
use Rattle.lv_trail.proofs.Turning.{none-watched}
use Rattle.lv_trail.proofs.watched.Watched.new.Goals as goal

pub returns-clause-watched : goal.returns-clause-watched
returns-clause-watched c =
    let s = c.in_ok-store.store in
    none-watched _ c.in_ok-store.ensures.sound (omega (arith, c.if-vars.false)) (2 * s.vars + 2) c.in-Some.slots c.in_ok-lists.ensures.heads c.in_ok-lists.ensures.slots refl (omega (arith, c.in-Some.ensures, c.len.ensures)) (omega arith) refl
