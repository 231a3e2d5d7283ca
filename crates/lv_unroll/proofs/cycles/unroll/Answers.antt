use Rattle.std.proofs.Common.{◌∙◌, ◌++◌, ◌∷◌, [], List, ap, arith}
use Rattle.lv_unroll.specs.declared.copies.Nodes.{Nodes}
use Rattle.lv_unroll.specs.Unrolls.{next_nodes}
use Rattle.lv_unroll.proofs.Unrolling.{cycles_step, cycles_done}
use Rattle.lv_unroll.proofs.cycles.unroll.Goals as goal

pub loop-cycle-preserved : goal.loop-cycle-preserved
loop-cycle-preserved c =
    cycles_step c.args.graph.now c.args.b.now c.loop-cycle.b c.copy.new.b c.args.state.now c.loop-cycle.now.items c.as_slice.result.now
    c.in_ok-now-2.now.items c.as_slice-in-loop-cycle.result.now c.args.inputs.now c.loop-cycle.tables.items c.push_reserved.new.self.items
    c.loop-cycle.cycle-index c.cycle-item.result (record { list = c.in_ok-table.table })
    c.len.ensures.net c.len.ensures.nexts c.cycle-item.is (omega arith) c.requires.inputs c.as_slice.ensures.value c.as_slice-in-loop-cycle.ensures.value
    (c.in_ok-now-2.ensures ∙ ap (next_nodes c.args.graph.now) c.as_slice-in-loop-cycle-2.ensures.value) (c.push_reserved.ensures.items ∙
    ap (λ (xs : List Nodes). xs ++ record { list = c.in_ok-table.table } ∷ []) c.reserve.ensures.items) c.loop-cycle.invariant c.in_ok-table.ensures

pub returns : goal.returns
returns c = cycles_done c.args.graph.now c.args.b.now c.loop-cycle.b c.args.state.now c.loop-cycle.now.items c.args.inputs.now c.loop-cycle.tables.items
    c.loop-cycle.cycle-index (omega arith) c.loop-cycle.invariant
