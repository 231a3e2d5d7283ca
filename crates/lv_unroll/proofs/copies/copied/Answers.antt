use Rattle.lv_unroll.proofs.Copying.{moved_gives, is_inner}
use Rattle.lv_unroll.proofs.copies.copied.Goals as goal

pub returns-in_ok-at-in_default : goal.returns-in_ok-at-in_default
returns-in_ok-at-in_default c =
    moved_gives c.args.graph.now c.args.b.now c.add.new.b c.args.k c.in_ok-at-in_default.at c.args.state.now c.args.inputs.now c.args.table.now c.node.result
    c.moved-copy.result
    c.moved-copy.ensures c.node.ensures.is (is_inner c.node.result c.in_default.not-Input c.in_default.not-Reg) (c.node.ensures.typed) c.requires.table
    c.in_ok-at-in_default.ensures
