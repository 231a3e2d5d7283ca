use Rattle.std.proofs.Common.{◌≡◌, length, drop, if◌then◌else◌}
use Rattle.lv_aig.specs.Edges.{edge_bit}
use Rattle.lv_circuits.specs.Words.{edge_bits, zip_bits}
use Rattle.lv_circuits.proofs.Steps.{Partly}
use Rattle.lv_circuits.proofs.words.choose.Given as goal

abbrev pub invariant-loop-i : goal.invariant-loop-i
invariant-loop-i l = record {
  made : Partly l.fn.and l.and l.out (λ v. zip_bits (λ x y. if edge_bit v l.c then x else y) (drop l.i (edge_bits v l.a)) (drop l.i (edge_bits v l.b))) (λ v. zip_bits (λ x y. if edge_bit v l.c then x else y) (edge_bits v l.a) (edge_bits v l.b));
  count : length l.out ≡ l.i;
}
