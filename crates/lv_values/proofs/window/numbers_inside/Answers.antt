use Rattle.std.proofs.Common.{arith, sym, ◌∙◌, ◌+◌, ◌-◌, subst, ℕ}
use Rattle.lv_values.specs.declared.window.Number.{Number}
use Rattle.lv_values.specs.Windows.{IsInside, integer}
use Rattle.lv_values.proofs.Windows.{above, negative, through_more, all_before}
use Rattle.lv_values.proofs.window.numbers_inside.Goals as goal

pub returns-then-i-from-2 : goal.returns-then-i-from-2
returns-then-i-from-2 c =
    let k : ℕ = c.in-Below.i + 1 in
    subst (λ (z : Number). IsInside c.args.low c.args.high (integer z) c.args.n (record { before = k + c.rising-r.result.before; first = c.rising-r.result.first; count = c.rising-r.result.count; after = c.rising-r.result.after })) (sym c.in-Below.is) (record {
      numbers = through_more c.args.low c.args.high c.in-Below.i c.args.n (c.args.n - k) c.rising-r.result.before c.rising-r.result.first c.rising-r.result.count c.rising-r.result.after
          (omega (arith, c.if-i-from-2.true, c.from-in-Below.ensures)) c.rising-r.ensures.numbers;
      sum = omega (arith, c.rising-r.ensures.sum, c.if-i-from-2.true, c.from-in-Below.ensures);
      least = c.rising-r.ensures.least;
      top = c.rising-r.ensures.top;
      most = c.rising-r.ensures.most;
    })

pub returns-else-i-from : goal.returns-else-i-from
returns-else-i-from c =
    subst (λ (z : Number). IsInside c.args.low c.args.high (integer z) c.args.n (record { before = 0; first = c.args.low; count = 0; after = c.args.n })) (sym c.in-Above.is) (record {
      numbers = above c.args.low c.args.high c.in-Above.i c.args.n (omega (arith, c.if-i-from.false, c.from.ensures));
      sum = omega arith;
      least = omega arith;
      top = c.requires.order;
      most = omega (arith, c.requires.order);
    })

pub returns-else-i-from-2 : goal.returns-else-i-from-2
returns-else-i-from-2 c =
    subst (λ (z : Number). IsInside c.args.low c.args.high (integer z) c.args.n (record { before = c.args.n; first = c.args.low; count = 0; after = 0 })) (sym c.in-Below.is) (record {
      numbers = negative c.args.low c.args.high c.in-Below.i c.args.n (omega (arith, c.if-i-from-2.false, c.from-in-Below.ensures)) ∙ all_before c.args.n c.args.low;
      sum = omega arith;
      least = omega arith;
      top = c.requires.order;
      most = omega (arith, c.requires.order);
    })
