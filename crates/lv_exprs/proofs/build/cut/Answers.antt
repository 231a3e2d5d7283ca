use Rattle.std.proofs.Common.{◌≡◌, ℕ, ◌-◌, ◌*◌, ◌<◌, ◌≤◌, ◌%◌, ◌^◌, bit_and, ap, sym, ◌∙◌, arith}
use Rattle.std.proofs.lemmas.Nat.{and_mask}
use Rattle.std.proofs.Math.Nat.{mod-eq_of_lt}
use Rattle.std.proofs.Math.Pow.{pow-lt, pow_mono}
use Rattle.lv_exprs.proofs.build.cut.Goals as goal

powered : (w : ℕ) → w < 128 → 1 * 2 ^ w % 2 ^ 128 ≡ 2 ^ w
powered w h =
    let l : 2 ^ w < 2 ^ 128 = pow-lt h in
    let e : 1 * 2 ^ w ≡ 2 ^ w = omega arith in
    ap (λ n. n % 2 ^ 128) e ∙ mod-eq_of_lt l

masked : (n w : ℕ) → w < 128 → bit_and n (1 * 2 ^ w % 2 ^ 128 - 1) ≡ n % 2 ^ w
masked n w h = ap (λ k. bit_and n (k - 1)) (powered w h) ∙ and_mask n w

kept : (n w : ℕ) → n < 2 ^ 128 → 128 ≤ w → n ≡ n % 2 ^ w
kept n w f h =
    let m : 2 ^ 128 ≤ 2 ^ w = pow_mono h in
    sym (mod-eq_of_lt (omega arith))

pub returns-then-size-lt128 : goal.returns-then-size-lt128
returns-then-size-lt128 c = masked c.args.bits c.args.size c.if-size-lt128.true

pub returns-else-size-lt128 : goal.returns-else-size-lt128
returns-else-size-lt128 c = kept c.args.bits c.args.size c.ranges.bits.fits c.if-size-lt128.false
