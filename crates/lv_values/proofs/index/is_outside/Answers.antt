use Rattle.std.proofs.Common.{subst, sym}
use Rattle.lv_values.specs.declared.index.Choices.{Choices}
use Rattle.lv_values.specs.Picked.{AreOutside}
use Rattle.lv_values.proofs.Picking.{read_outside, write_outside}
use Rattle.lv_values.proofs.index.is_outside.Goals as goal

pub returns-in-Read : goal.returns-in-Read
returns-in-Read c = λ t.
    subst (λ (z : Choices). AreOutside c.args.nodes.now z c.args.signed c.args.width c.args.down c.args.first c.args.last) (sym c.in-Read.is)
    (read_outside c.args.nodes.now c.in-Read.field-0 c.in-Read.left c.in-Read.right c.in-Read.count c.args.width c.args.down c.args.first c.args.last c.args.signed
    c.min-low.result c.max-high.result c.min-low.ensures c.max-high.ensures (c.is_apart-in-Read.ensures t))

pub returns-in-Write : goal.returns-in-Write
returns-in-Write c = λ t.
    subst (λ (z : Choices). AreOutside c.args.nodes.now z c.args.signed c.args.width c.args.down c.args.first c.args.last) (sym c.in-Write.is)
    (write_outside c.args.nodes.now c.in-Write.field-0 c.in-Write.x c.in-Write.left c.in-Write.right c.width.result c.args.width c.args.down c.args.first c.args.last c.args.signed
    c.min-low-in-Write.result c.max-high-in-Write.result c.width.ensures c.min-low-in-Write.ensures c.max-high-in-Write.ensures (c.is_apart-in-Write.ensures t))
