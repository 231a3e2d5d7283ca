use Rattle.std.proofs.Common.{ℕ, ◌+◌, arith, ap, ◌∙◌, sym, map, sum}
use Rattle.lv_source.specs.Limits.{nodes_alone, item_size, range_nodes, maybe_nodes, params_nodes, conn_nodes}
use Rattle.lv_sizes.specs.Counts.{continuous_nodes}
use Rattle.lv_sizes.proofs.ItemArms.{nodes-item, loop-item}
use Rattle.lv_sizes.proofs.items.item_size.Goals as goal

pub returns-in-Port-clause-right : goal.returns-in-Port-clause-right
returns-in-Port-clause-right g c = record {
  at = λ here ok. nodes-item here c.args.item.now c.args.turns_left c.args.nodes_left (range_nodes c.in-Port.ports.range) c.alone.result
      (λ s. ap (item_size s) c.in-Port.is) (c.alone.ensures (range_nodes c.in-Port.ports.range) c.spend_range.ensures);
}

pub returns-in-Wire-clause-right : goal.returns-in-Wire-clause-right
returns-in-Wire-clause-right g c = record {
  at = λ here ok. nodes-item here c.args.item.now c.args.turns_left c.args.nodes_left (range_nodes c.in-Wire.range + sum (map (λ n. maybe_nodes n.value) c.as_slice.result.now)) c.alone-in-Wire.result
      (λ s. ap (item_size s) c.in-Wire.is ∙ ap (λ zs. nodes_alone (range_nodes c.in-Wire.range + sum (map (λ n. maybe_nodes n.value) zs))) (sym c.as_slice.ensures)) (c.alone-in-Wire.ensures (range_nodes c.in-Wire.range + sum (map (λ n. maybe_nodes n.value) c.as_slice.result.now)) c.spend_ranged.ensures);
}

pub returns-in-Reg-clause-right : goal.returns-in-Reg-clause-right
returns-in-Reg-clause-right g c = record {
  at = λ here ok. nodes-item here c.args.item.now c.args.turns_left c.args.nodes_left (range_nodes c.in-Reg.range + sum (map (λ n. range_nodes n.bounds) c.as_slice-in-Reg.result.now)) c.alone-in-Reg.result
      (λ s. ap (item_size s) c.in-Reg.is ∙ ap (λ zs. nodes_alone (range_nodes c.in-Reg.range + sum (map (λ n. range_nodes n.bounds) zs))) (sym c.as_slice-in-Reg.ensures)) (c.alone-in-Reg.ensures (range_nodes c.in-Reg.range + sum (map (λ n. range_nodes n.bounds) c.as_slice-in-Reg.result.now)) c.spend_ranged-in-Reg.ensures);
}

pub returns-in-Params-clause-right : goal.returns-in-Params-clause-right
returns-in-Params-clause-right g c = record {
  at = λ here ok. nodes-item here c.args.item.now c.args.turns_left c.args.nodes_left (params_nodes c.in-Params.params) c.alone-in-Params.result
      (λ s. ap (item_size s) c.in-Params.is) (c.alone-in-Params.ensures (params_nodes c.in-Params.params) c.spend.ensures);
}

pub returns-in-Assign-clause-right : goal.returns-in-Assign-clause-right
returns-in-Assign-clause-right g c = record {
  at = λ here ok. nodes-item here c.args.item.now c.args.turns_left c.args.nodes_left (sum (map continuous_nodes c.as_slice-in-Assign.result.now)) c.alone-in-Assign.result
      (λ s. ap (item_size s) c.in-Assign.is ∙ ap (λ zs. nodes_alone (sum (map continuous_nodes zs))) (sym c.as_slice-in-Assign.ensures)) (c.alone-in-Assign.ensures (sum (map continuous_nodes c.as_slice-in-Assign.result.now)) c.spend_all.ensures);
}

pub returns-in-Instance-clause-right : goal.returns-in-Instance-clause-right
returns-in-Instance-clause-right g c = record {
  at = λ here ok. nodes-item here c.args.item.now c.args.turns_left c.args.nodes_left (conn_nodes c.as_slice-in-Instance.result.now + sum (map (λ n. conn_nodes n.conns) c.as_slice-in-Instance-2.result.now)) c.alone-in-Instance.result
      (λ s. ap (item_size s) c.in-Instance.is ∙ (ap (λ zs. nodes_alone (conn_nodes zs + sum (map (λ n. conn_nodes n.conns) c.in-Instance.insts))) (sym c.as_slice-in-Instance.ensures) ∙
      ap (λ zs. nodes_alone (conn_nodes c.as_slice-in-Instance.result.now + sum (map (λ n. conn_nodes n.conns) zs))) (sym c.as_slice-in-Instance-2.ensures))) (c.alone-in-Instance.ensures (conn_nodes c.as_slice-in-Instance.result.now + sum (map (λ n. conn_nodes n.conns) c.as_slice-in-Instance-2.result.now)) c.spend_instances.ensures);
}

pub returns-in-Index-clause-right : goal.returns-in-Index-clause-right
returns-in-Index-clause-right g c = record {
  at = λ here ok. nodes-item here c.args.item.now c.args.turns_left c.args.nodes_left (0) c.alone-in-Index.result
      (λ s. ap (item_size s) c.in-Index.is) (c.alone-in-Index.ensures (0) (omega arith));
}

pub returns-in-Generate-clause-right : goal.returns-in-Generate-clause-right
returns-in-Generate-clause-right g c = record {
  at = λ here ok. nodes-item here c.args.item.now c.args.turns_left c.args.nodes_left (0) c.alone-in-Generate.result
      (λ s. ap (item_size s) c.in-Generate.is) (c.alone-in-Generate.ensures (0) (omega arith));
}

pub returns-in-Loop-clause-right : goal.returns-in-Loop-clause-right
returns-in-Loop-clause-right g c = record {
  at = λ here ok. loop-item here c.args.item.now c.args.turns_left c.args.nodes_left c.in-Loop.index c.in-Loop.again c.in-Loop.field-5 c.in-Loop.start c.in-Loop.test
      c.in-Loop.next c.get.result.now c.get-in-Loop.result.now c.get-in-Loop-2.result.now c.in-Loop.field-6 c.in-Loop.is c.get.ensures c.get-in-Loop.ensures
      c.get-in-Loop-2.ensures c.loop_size.result (c.loop_size.ensures.right.at here ok);
}
