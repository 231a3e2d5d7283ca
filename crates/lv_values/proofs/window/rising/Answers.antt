use Rattle.std.proofs.Common.{arith, ◌-◌}
use Rattle.lv_values.proofs.Windows.{numbers_up}
use Rattle.lv_values.proofs.window.rising.Goals as goal

pub returns : goal.returns
returns c = record {
  numbers = numbers_up c.args.low c.args.high c.args.from c.min-before.result c.max-first.result c.min-count.result (c.args.n - c.min-before.result - c.min-count.result) c.args.n
      (omega (arith, c.min-before.ensures, c.min-count.ensures)) (λ t. omega (arith, c.max-first.ensures, c.min-before.ensures)) (λ t. omega (arith, c.max-first.ensures, c.min-before.ensures, c.min-count.ensures))
      (λ t. omega (arith, c.max-first.ensures, c.min-before.ensures, c.min-count.ensures)) (λ t. omega (arith, c.max-first.ensures, c.min-before.ensures, c.min-count.ensures, c.requires.from, c.requires.order))
      (λ t. omega (arith, c.max-first.ensures, c.min-before.ensures, c.min-count.ensures, c.requires.from, c.requires.order));
  sum = omega (arith, c.min-before.ensures, c.min-count.ensures);
  least = omega (arith, c.max-first.ensures);
  top = omega (arith, c.max-first.ensures, c.requires.from, c.requires.order);
  most = omega (arith, c.max-first.ensures, c.min-count.ensures, c.requires.from, c.requires.order);
}
