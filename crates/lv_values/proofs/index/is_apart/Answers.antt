use Rattle.std.proofs.Common.{arith, ◌-◌, ◌^◌, ◌≤◌}
use Rattle.lv_bits.proofs.Shifts.{pow_le}
use Rattle.lv_values.proofs.index.is_apart.Goals as goal

pub overflow_add-result-then-half-first : goal.overflow_add-result-then-half-first
overflow_add-result-then-half-first c =
    let p : 2 ^ (c.args.width - 1) ≤ 2 ^ 127 = pow_le (c.args.width - 1) 127 (omega (arith, c.requires.most)) in
    omega (arith, p, c.from.ensures, c.from-2.ensures, c.ranges.low.fits, c.requires.near)
