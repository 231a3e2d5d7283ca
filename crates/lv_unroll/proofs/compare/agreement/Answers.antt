use Rattle.std.proofs.Common.{arith}
use Rattle.lv_unroll.specs.Entries.{entry_length}
use Rattle.lv_unroll.proofs.Agreeing.{one_kept, both_step, both_beside, both_agree}
use Rattle.lv_unroll.proofs.compare.agreement.Goals as goal

pub append_row-requires-in-loop-k-clause-packed : goal.append_row-requires-in-loop-k-clause-packed
append_row-requires-in-loop-k-clause-packed c =
    (one_kept c.args.b.now c.loop-k.b c.append_row.new.b (entry_length c.args.ports.now) c.args.ports.now c.args.right.now c.loop-k.rs.items c.loop-k.k
    c.in_ok-ls.ensures.extends c.loop-k.invariant.rights).packed

pub loop-k-preserved : goal.loop-k-preserved
loop-k-preserved c =
    both_step c.args.b.now c.loop-k.b c.append_row.new.b c.append_row-in-loop-k.new.b (entry_length c.args.ports.now) c.loop-k.k c.args.ports.now
    c.args.left.now c.args.right.now c.loop-k.ls.items c.in_ok-ls.ls.items c.loop-k.rs.items c.in_ok-rs.rs.items c.args.graph.now c.as_slice.result.now
    c.as_slice-in-loop-k.result.now c.index-left-k.result c.index-right-k.result
    c.index-left-k.is c.index-right-k.is (omega arith) c.requires.same c.as_slice.ensures.value c.as_slice-in-loop-k.ensures.value c.requires.ports
    c.requires.left c.requires.right c.loop-k.invariant c.in_ok-ls.ensures c.in_ok-rs.ensures

pub returns : goal.returns
returns c =
    both_agree c.args.b.now c.loop-k.b c.agree.new.b (entry_length c.args.ports.now) c.loop-k.k c.in_ok-at.at c.args.ports.now c.args.left.now
    c.args.right.now c.loop-k.ls.items c.as_slice-2.result.now c.loop-k.rs.items c.as_slice-3.result.now
    (omega arith) (omega arith) c.as_slice-2.ensures.value c.as_slice-3.ensures.value c.loop-k.invariant c.in_ok-at.ensures

pub agree-requires-clause-beside : goal.agree-requires-clause-beside
agree-requires-clause-beside c =
    both_beside c.args.b.now c.loop-k.b (entry_length c.args.ports.now) c.loop-k.k c.args.ports.now c.args.left.now c.args.right.now
    c.loop-k.ls.items c.as_slice-2.result.now c.loop-k.rs.items c.as_slice-3.result.now c.as_slice-2.ensures.value c.as_slice-3.ensures.value
    c.loop-k.invariant
