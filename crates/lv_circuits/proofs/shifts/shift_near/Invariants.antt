use Rattle.std.proofs.Common.{◌≡◌, length, take}
use Rattle.lv_aig.specs.Edges.{edge_bit}
use Rattle.lv_bits.specs.Digits.{number}
use Rattle.lv_circuits.specs.Words.{GivesBits, edge_bits}
use Rattle.lv_circuits.specs.Moves.{moved}
use Rattle.lv_circuits.proofs.shifts.shift_near.Given as goal

abbrev pub invariant-loop-i : goal.invariant-loop-i
invariant-loop-i l = record {
  made : GivesBits l.fn.and l.and l.word (λ v. moved l.way (edge_bit v l.fill) (number (take l.i (edge_bits v l.b))) (edge_bits v l.a));
  count : length l.word ≡ length l.a;
}
