use Rattle.std.proofs.Common.{◌<◌, ◌+◌, Bool, length, drop, arith, sym, ◌∙◌, ap}
use Rattle.lv_aig.specs.Edges.{edge_bit}
use Rattle.lv_circuits.specs.Words.{edge_bits, carry_out}
use Rattle.lv_aig.proofs.Graphs.{valuation_back, grows_trans}
use Rattle.lv_circuits.proofs.Steps.{carry_step}
use Rattle.lv_circuits.proofs.words.carry.Goals as goal

pub loop-i-preserved : goal.loop-i-preserved
loop-i-preserved c =
    let ha : c.loop-i.i < length c.args.a.now = omega arith in
    let hb : c.loop-i.i < length c.args.b.now = omega arith in
    record {
      grows = grows_trans c.args.and.now c.loop-i.and c.carry_gate.new.and c.loop-i.invariant.grows c.in_ok-carry.ensures.grows;
      edge = c.in_ok-carry.ensures.edge;
      carry = λ v h.
          ap (λ (k : Bool). carry_out k (drop (c.loop-i.i + 1) (edge_bits v c.args.a.now)) (drop (c.loop-i.i + 1) (edge_bits v c.args.b.now))) (c.in_ok-carry.ensures.is v h)
          ∙ (sym (carry_step (edge_bit v c.loop-i.carry) v c.args.a.now c.args.b.now c.loop-i.i c.edge-x.result c.edge-y.result ha hb c.edge-x.ensures c.edge-y.ensures)
          ∙ c.loop-i.invariant.carry v (valuation_back c.loop-i.and c.carry_gate.new.and v c.in_ok-carry.ensures.grows h));
    }
