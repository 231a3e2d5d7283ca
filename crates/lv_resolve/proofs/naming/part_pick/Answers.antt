use Rattle.std.proofs.Common.{sym, ◌∙◌, arith, refl}
use Rattle.lv_resolve.proofs.Bounds.{part-right}
use Rattle.lv_resolve.proofs.naming.part_pick.Goals as goal

pub returns-else-not-is_ordered-clause-ok : goal.returns-else-not-is_ordered-clause-ok
returns-else-not-is_ordered-clause-ok c = part-right c.args.head.now c.args.left c.args.right c.in-Some-Some.left c.in-Some-Some.right _ _
    (sym c.in-Some-Some.ensures) (sym c.in-Some-Some.ensures') (omega (arith, c.max.ensures, c.min.ensures)) (omega arith)
    (sym c.is_ordered.ensures ∙ grind (arith, c.if-not-is_ordered.false, c.if-not-is_ordered.ensures))
    (record { tree = c.new.ensures; wide = refl; fixed = refl; noted = c.new-in-Some-Some.ensures })
