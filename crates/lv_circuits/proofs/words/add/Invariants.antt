use Rattle.std.proofs.Common.{◌≡◌, ◌<◌, ℕ, Bool, length, drop}
use Rattle.lv_aig.specs.Edges.{IsValuation, edge_bit}
use Rattle.lv_circuits.specs.Words.{edge_bits, sum_bits, carry_out}
use Rattle.lv_circuits.proofs.Steps.{Partly}
use Rattle.lv_circuits.proofs.words.add.Given as goal

abbrev pub invariant-loop-i : goal.invariant-loop-i
invariant-loop-i l = record {
  count : length l.bits ≡ l.i;
  bits : Partly l.fn.and l.and l.bits (λ v. sum_bits (edge_bit v l.carry) (drop l.i (edge_bits v l.a)) (drop l.i (edge_bits v l.b))) (λ v. sum_bits (edge_bit v l.fn.carry_in) (edge_bits v l.a) (edge_bits v l.b));
  edge : l.carry.node < length l.and;
  carry : (v : ℕ → Bool) → IsValuation l.and v → carry_out (edge_bit v l.carry) (drop l.i (edge_bits v l.a)) (drop l.i (edge_bits v l.b)) ≡ carry_out (edge_bit v l.fn.carry_in) (edge_bits v l.a) (edge_bits v l.b);
}
