use Rattle.std.proofs.Common.{◌<◌, ◌+◌, ◌∷◌, [], Bool, ℕ, List, length, drop, if◌then◌else◌, arith, sym, subst, ◌∙◌, ap, length-append}
use Rattle.lv_aig.specs.declared.edge.Edge.{Edge}
use Rattle.lv_aig.specs.Edges.{edge_bit}
use Rattle.lv_circuits.specs.Words.{edge_bits, xor, sum_bits, carry_out}
use Rattle.lv_aig.proofs.Graphs.{valuation_back}
use Rattle.lv_circuits.proofs.Steps.{Partly, partly_step, sum_step, carry_step}
use Rattle.lv_circuits.proofs.words.add.Goals as goal

pub loop-i-preserved : goal.loop-i-preserved
loop-i-preserved c =
    let rest : Edge → ℕ → (ℕ → Bool) → List Bool = λ k i v. sum_bits (edge_bit v k) (drop i (edge_bits v c.args.a.now)) (drop i (edge_bits v c.args.b.now)) in
    let whole : (ℕ → Bool) → List Bool = λ v. sum_bits (edge_bit v c.args.carry_in) (edge_bits v c.args.a.now) (edge_bits v c.args.b.now) in
    let ha : c.loop-i.i < length c.args.a.now = omega arith in
    let hb : c.loop-i.i < length c.args.b.now = omega arith in
    let next : ℕ → (ℕ → Bool) → Bool = λ i v. if xor (edge_bit v c.edge-x.result) (edge_bit v c.edge-y.result) then edge_bit v c.loop-i.carry else edge_bit v c.edge-x.result in
    let sum : (ℕ → Bool) → Bool = λ v. xor (xor (edge_bit v c.edge-x.result) (edge_bit v c.edge-y.result)) (edge_bit v c.loop-i.carry) in
    let d = c.in_ok-digit.digit in
    record {
      count = omega (arith, ap length c.in_ok-push.ensures.ok, length-append c.loop-i.bits (d.sum ∷ []), c.loop-i.invariant.count);
      bits = subst (λ (out : List Edge). Partly c.args.and.now c.full_adder.new.and out (rest d.carry (c.loop-i.i + 1)) whole) (sym c.in_ok-push.ensures.ok)
          (partly_step c.args.and.now c.loop-i.and c.full_adder.new.and c.loop-i.bits d.sum (rest c.loop-i.carry c.loop-i.i) whole (rest d.carry (c.loop-i.i + 1)) sum c.loop-i.invariant.bits c.in_ok-digit.ensures.sum
          (λ v h. sum_step (edge_bit v c.loop-i.carry) v c.args.a.now c.args.b.now c.loop-i.i c.edge-x.result c.edge-y.result ha hb c.edge-x.ensures c.edge-y.ensures
          ∙ ap (λ (k : Bool). sum v ∷ sum_bits k (drop (c.loop-i.i + 1) (edge_bits v c.args.a.now)) (drop (c.loop-i.i + 1) (edge_bits v c.args.b.now))) (sym (c.in_ok-digit.ensures.carry.is v h))));
      edge = c.in_ok-digit.ensures.carry.edge;
      carry = λ v h.
          ap (λ (k : Bool). carry_out k (drop (c.loop-i.i + 1) (edge_bits v c.args.a.now)) (drop (c.loop-i.i + 1) (edge_bits v c.args.b.now))) (c.in_ok-digit.ensures.carry.is v h)
          ∙ (sym (carry_step (edge_bit v c.loop-i.carry) v c.args.a.now c.args.b.now c.loop-i.i c.edge-x.result c.edge-y.result ha hb c.edge-x.ensures c.edge-y.ensures)
          ∙ c.loop-i.invariant.carry v (valuation_back c.loop-i.and c.full_adder.new.and v c.in_ok-digit.ensures.carry.grows h));
    }
