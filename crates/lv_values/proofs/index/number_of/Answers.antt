use Rattle.std.proofs.Common.{arith, ◌-◌, ◌^◌, ◌≤◌}
use Rattle.lv_bits.proofs.Shifts.{pow_le}
use Rattle.lv_values.proofs.index.number_of.Goals as goal

pub returns-then-code-half-clause-near : goal.returns-then-code-half-clause-near
returns-then-code-half-clause-near c = let p : 2 ^ (c.args.width - 1) ≤ 2 ^ 127 = pow_le (c.args.width - 1) 127 (omega (arith, c.requires.most)) in omega (arith, p)
