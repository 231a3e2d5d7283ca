use Rattle.std.proofs.Common.{length, arith, refl, length-append}
use Rattle.lv_trail.proofs.Spans.{parts-push, spans-push}
use Rattle.lv_trail.proofs.arena.Arena.push.Goals as goal

pub invariant_of-self-2 : goal.invariant_of-self-2
invariant_of-self-2 c =
    rw (c.push_reserved.ensures.items, c.reserve.ensures.items, c.in_ok-extend_from_slice.ensures.items) (spans-push (length c.self.inside.lits.items) _ c.self.inside.spans.items _ c.self.invariant (omega (arith, length-append c.self.inside.lits.items c.args.lits.now)) (omega (arith, c.len.ensures, length-append c.self.inside.lits.items c.args.lits.now)))

pub returns-clause-ok : goal.returns-clause-ok
returns-clause-ok c =
    rw (c.push_reserved.ensures.items, c.reserve.ensures.items, c.in_ok-extend_from_slice.ensures.items, ← c.self.view_is) (parts-push c.self.inside.lits.items c.args.lits.now c.self.inside.spans.items _ c.self.invariant (omega (arith, c.len.ensures)) refl)
