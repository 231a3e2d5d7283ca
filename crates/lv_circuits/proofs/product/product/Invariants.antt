use Rattle.std.proofs.Common.{◌≡◌, ◌+◌, ◌-◌, ◌*◌, ◌^◌, ℕ, Bool, length, take}
use Rattle.lv_aig.specs.Edges.{IsValuation, Grows}
use Rattle.lv_bits.specs.Digits.{number}
use Rattle.lv_circuits.specs.Words.{AllBelow, edge_bits}
use Rattle.lv_circuits.specs.Products.{IsMultipleAbove}
use Rattle.lv_circuits.proofs.product.product.Given as goal

abbrev pub invariant-loop-i : goal.invariant-loop-i
invariant-loop-i l = record {
  grows : Grows l.fn.and l.and;
  low : AllBelow (length l.and) l.low;
  high : AllBelow (length l.and) l.high;
  low_count : length l.low ≡ l.i;
  high_count : length l.high ≡ length l.a - l.i;
  is : (v : ℕ → Bool) → IsValuation l.and v → IsMultipleAbove (number (edge_bits v l.a) * number (take l.i (edge_bits v l.b))) (number (edge_bits v l.low) + 2 ^ l.i * number (edge_bits v l.high)) (2 ^ length l.a);
}
