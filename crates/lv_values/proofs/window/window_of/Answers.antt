use Rattle.std.proofs.Common.{arith, refl}
use Rattle.lv_values.specs.Windows.{integer}
use Rattle.lv_values.proofs.Windows.{window_rises, window_falls}
use Rattle.lv_values.proofs.window.window_of.Goals as goal

pub returns-then-left-right : goal.returns-then-left-right
returns-then-left-right c = record {
  bits = window_rises c.args.left c.args.right c.args.n c.numbers_inside-r.result.before c.numbers_inside-r.result.first c.numbers_inside-r.result.count c.numbers_inside-r.result.after c.args.right (integer c.args.from)
      c.if-left-right.true refl c.numbers_inside-r.ensures.numbers c.numbers_inside-r.ensures.most;
  sum = omega (arith, c.numbers_inside-r.ensures.sum);
  most = omega (arith, c.numbers_inside-r.ensures.least, c.numbers_inside-r.ensures.top, c.numbers_inside-r.ensures.most, c.if-left-right.true);
}

pub returns-else-left-right : goal.returns-else-left-right
returns-else-left-right c = record {
  bits = window_falls c.args.left c.args.right c.args.n c.numbers_inside-r-else-left-right.result.before c.numbers_inside-r-else-left-right.result.first c.numbers_inside-r-else-left-right.result.count c.numbers_inside-r-else-left-right.result.after c.args.right (integer c.args.from)
      c.if-left-right.false refl c.numbers_inside-r-else-left-right.ensures.numbers c.numbers_inside-r-else-left-right.ensures.least;
  sum = c.numbers_inside-r-else-left-right.ensures.sum;
  most = omega (arith, c.numbers_inside-r-else-left-right.ensures.least, c.numbers_inside-r-else-left-right.ensures.top, c.numbers_inside-r-else-left-right.ensures.most, c.if-left-right.false);
}
