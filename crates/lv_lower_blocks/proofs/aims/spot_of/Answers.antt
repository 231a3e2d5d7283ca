use Rattle.std.proofs.Common.{◌≡◌, ℕ, ◌-◌, ◌<◌, ◌^◌, true, sym, ◌∙◌, ap, subst, arith, pos}
use Rattle.std.specs.Prelude.{◌-ℤ◌}
use Rattle.lv_source.specs.Values.{number_of}
use Rattle.lv_flat.specs.declared.expr.FlatExpr.{FlatExpr}
use Rattle.lv_flat.specs.Signals.{declared_all}
use Rattle.lv_flat.specs.Judged.{is_good, meaning}
use Rattle.lv_lower_exprs.proofs.Naming.{count-Bit, count-Up, count-Down, lowest-Bit, lowest-Part, lowest-Up, lowest-Down, good-Bit, good-Up, good-Down, minus-none}
use Rattle.lv_lower_blocks.proofs.Aiming.{begins-same, begins-given}
use Rattle.lv_lower_blocks.proofs.aims.spot_of.Goals as goal

pub indexed-requires-clause-good : goal.indexed-requires-clause-good
indexed-requires-clause-good c =
    let S = declared_all c.args.signals.now in
    subst (λ (z : FlatExpr). is_good S z ≡ true) (sym c.get.ensures) (good-Bit S c.args.s.now c.in-Bit.e c.in-Bit.is c.requires.good)

pub indexed-requires-in-Up-clause-good : goal.indexed-requires-in-Up-clause-good
indexed-requires-in-Up-clause-good c =
    let S = declared_all c.args.signals.now in
    subst (λ (z : FlatExpr). is_good S z ≡ true) (sym c.get-in-Up.ensures) (good-Up S c.args.s.now c.in-Up.e c.in-Up.n c.in-Up.is c.requires.good)

pub overflow_sub-n : goal.overflow_sub-n
overflow_sub-n c =
    let S = declared_all c.args.signals.now in
    omega (arith, count-Down S c.args.s.now c.in-Down.e c.in-Down.n c.in-Down.is, c.requires.some)

pub indexed-requires-in-Down-clause-good : goal.indexed-requires-in-Down-clause-good
indexed-requires-in-Down-clause-good c =
    let S = declared_all c.args.signals.now in
    subst (λ (z : FlatExpr). is_good S z ≡ true) (sym c.get-in-Down.ensures) (good-Down S c.args.s.now c.in-Down.e c.in-Down.n c.in-Down.is c.requires.good)

pub indexed-requires-in-Down-clause-near : goal.indexed-requires-in-Down-clause-near
indexed-requires-in-Down-clause-near c =
    let S = declared_all c.args.signals.now in
    omega (arith, count-Down S c.args.s.now c.in-Down.e c.in-Down.n c.in-Down.is, c.requires.most)

pub returns-in_ok-r-in-Bit-clause-is : goal.returns-in_ok-r-in-Bit-clause-is
returns-in_ok-r-in-Bit-clause-is c =
    let S = declared_all c.args.signals.now in
    let e = c.in-Bit.e in
    begins-same c.in_ok-r-in-Bit.ensures.is (λ v. ap (λ (z : FlatExpr). number_of (meaning S z) v -ℤ pos 0) c.get.ensures ∙ (minus-none (number_of (meaning S e) v) ∙
    lowest-Bit S c.args.s.now e v c.in-Bit.is))
    (sym (count-Bit S c.args.s.now e c.in-Bit.is))

pub returns-in-Part-clause-is : goal.returns-in-Part-clause-is
returns-in-Part-clause-is c =
    let S = declared_all c.args.signals.now in
    let word = c.new-word.ensures in
    let fits : c.new-word.result.value < 2 ^ c.new-word.result.width = subst (λ (n : ℕ). n < 2 ^ c.new-word.result.width) c.value.ensures.is c.value.ensures.fits in
    begins-given (record {
      index_in = fits;
      some = omega (arith, ap (λ w. w.width) word);
      most = omega (arith, ap (λ w. w.width) word);
      near = omega arith;
    }) c.count.ensures (λ w v. minus-none (pos c.new-word.result.value) ∙ (ap (λ w. pos w.value) word ∙ (ap pos (c.from.ensures ∙ c.min-low.ensures) ∙
    lowest-Part S c.args.s.now c.in-Part.left c.in-Part.right v c.in-Part.is)))

pub returns-in_ok-r-in-Up-clause-is : goal.returns-in_ok-r-in-Up-clause-is
returns-in_ok-r-in-Up-clause-is c =
    let S = declared_all c.args.signals.now in
    let e = c.in-Up.e in
    begins-same c.in_ok-r-in-Up.ensures.is (λ v. ap (λ (z : FlatExpr). number_of (meaning S z) v -ℤ pos 0) c.get-in-Up.ensures ∙ (minus-none (number_of (meaning S e) v) ∙
    lowest-Up S c.args.s.now e c.in-Up.n v c.in-Up.is))
    (sym (count-Up S c.args.s.now e c.in-Up.n c.in-Up.is))

pub returns-in_ok-r-in-Down-clause-is : goal.returns-in_ok-r-in-Down-clause-is
returns-in_ok-r-in-Down-clause-is c =
    let S = declared_all c.args.signals.now in
    let e = c.in-Down.e in
    begins-same c.in_ok-r-in-Down.ensures.is (λ v. ap (λ (z : FlatExpr). number_of (meaning S z) v -ℤ pos (c.in-Down.n - 1)) c.get-in-Down.ensures ∙
    lowest-Down S c.args.s.now e c.in-Down.n v c.in-Down.is)
    (sym (count-Down S c.args.s.now e c.in-Down.n c.in-Down.is))

pub returns-in_ok-r-in-Down-clause-down : goal.returns-in_ok-r-in-Down-clause-down
returns-in_ok-r-in-Down-clause-down c = λ h.
    let S = declared_all c.args.signals.now in
    omega (arith, c.in_ok-r-in-Down.ensures.down, h, count-Down S c.args.s.now c.in-Down.e c.in-Down.n c.in-Down.is)
