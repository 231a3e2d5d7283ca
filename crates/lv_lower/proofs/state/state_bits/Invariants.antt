use Rattle.std.proofs.Common.{◌≡◌, ◌≤◌, ◌*◌, take}
use Rattle.lv_flat.specs.Signals.{declared_all}
use Rattle.lv_lower.specs.Bits.{bits_of}
use Rattle.lv_lower.proofs.state.state_bits.Given as goal

abbrev pub invariant-loop-k : goal.invariant-loop-k
invariant-loop-k l = record {
  is : l.sum ≡ bits_of (take l.k l.registers) (take l.k (declared_all l.signals));
  most : l.sum ≤ 549755813888 * l.k;
}
