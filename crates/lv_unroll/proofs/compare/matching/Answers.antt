use Rattle.lv_unroll.specs.Entries.{entry_length}
use Rattle.lv_unroll.proofs.Agreeing.{packed_kept, matching_gives}
use Rattle.lv_unroll.proofs.compare.matching.Goals as goal

pub same_count-requires-clause-left : goal.same_count-requires-clause-left
same_count-requires-clause-left c =
    packed_kept c.append_row.new.b c.append_row-2.new.b (entry_length c.args.ports.now) c.in_ok-ls.ls.items c.as_slice.result.now
    c.as_slice.ensures.value c.in_ok-rs.ensures.extends c.in_ok-ls.ensures.slots_are c.in_ok-ls.ensures.packed

pub returns : goal.returns
returns c =
    matching_gives c.args.b.now c.append_row.new.b c.append_row-2.new.b c.same_count.new.b (entry_length c.args.ports.now) _ _ c.in_ok-at.at
    c.args.ports.now c.args.left.now c.args.right.now c.new.result.items c.new-2.result.items c.in_ok-ls.ls.items c.as_slice.result.now
    c.in_ok-rs.rs.items c.as_slice-2.result.now c.new.ensures.items c.new-2.ensures.items c.as_slice.ensures.value c.as_slice-2.ensures.value
    c.requires.same c.requires.ports c.requires.right c.in_ok-ls.ensures c.in_ok-rs.ensures c.in_ok-at.ensures
