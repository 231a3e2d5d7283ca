use Rattle.std.proofs.Common.{◌<◌, ◌+◌, Bool, length, drop, arith, sym, ◌∙◌, ap}
use Rattle.lv_aig.specs.Edges.{edge_bit}
use Rattle.lv_circuits.specs.Words.{edge_bits, fold_bits, kind_bit}
use Rattle.lv_aig.proofs.Graphs.{grows_trans, valuation_back}
use Rattle.lv_circuits.proofs.Steps.{fold_step}
use Rattle.lv_circuits.proofs.words.fold.Goals as goal

pub loop-i-preserved : goal.loop-i-preserved
loop-i-preserved c =
    let f : Bool → Bool → Bool = kind_bit c.args.kind in
    let ha : c.loop-i.i < length c.args.a.now = omega arith in
    record {
      grows = grows_trans c.args.and.now c.loop-i.and c.gate.new.and c.loop-i.invariant.grows c.in_ok-joined.ensures.grows;
      edge = c.in_ok-joined.ensures.edge;
      is = λ v h.
          ap (λ (b : Bool). fold_bits f b (drop (c.loop-i.i + 1) (edge_bits v c.args.a.now))) (c.in_ok-joined.ensures.is v h) ∙
          (sym (fold_step f (edge_bit v c.loop-i.joined) v c.args.a.now c.loop-i.i c.edge-x.result ha c.edge-x.ensures) ∙ c.loop-i.invariant.is v (valuation_back c.loop-i.and c.gate.new.and v c.in_ok-joined.ensures.grows h));
    }
