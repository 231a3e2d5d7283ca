use Rattle.std.proofs.Common.{◌≡◌, ◌<◌, ◌+◌, ◌-◌, ◌^◌, subst, sym, arith, ℕ}
use Rattle.lv_clauses.specs.Values.{values_of}
use Rattle.lv_bits.proofs.Digits.{bit_lt, bits_lt}
use Rattle.lv_blast.proofs.Assigned.{more_fits}
use Rattle.lv_blast.proofs.encoded.word_of.Goals as goal

pub overflow_mul-value : goal.overflow_mul-value
overflow_mul-value c =
    let small : c.loop-k.value < 2 ^ c.loop-k.k = subst (λ (n : ℕ). n < 2 ^ c.loop-k.k) (sym c.loop-k.invariant) (bits_lt (values_of c.args.found.now) (c.args.from + (c.args.width - c.loop-k.k)) c.loop-k.k) in
    omega (arith, more_fits c.loop-k.value c.loop-k.k c.args.width 0 small c.loop-k-test.true c.requires.width.1 (omega arith))

pub overflow_add-value : goal.overflow_add-value
overflow_add-value c =
    let small : c.loop-k.value < 2 ^ c.loop-k.k = subst (λ (n : ℕ). n < 2 ^ c.loop-k.k) (sym c.loop-k.invariant) (bits_lt (values_of c.args.found.now) (c.args.from + (c.args.width - c.loop-k.k)) c.loop-k.k) in
    omega (arith, more_fits c.loop-k.value c.loop-k.k c.args.width c.bit_of-bit.result small c.loop-k-test.true c.requires.width.1 (omega (arith, c.bit_of-bit.ensures, bit_lt c.value.result)))

pub new-requires-clause-fits : goal.new-requires-clause-fits
new-requires-clause-fits c =
    let done : c.loop-k.k ≡ c.args.width = omega arith in
    subst (λ (n : ℕ). c.loop-k.value < 2 ^ n) done (subst (λ (n : ℕ). n < 2 ^ c.loop-k.k) (sym c.loop-k.invariant) (bits_lt (values_of c.args.found.now) (c.args.from + (c.args.width - c.loop-k.k)) c.loop-k.k))
