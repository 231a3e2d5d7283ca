use Rattle.std.proofs.Common.{ℕ, ◌+◌, ◌≤◌, ◌<◌, drop, length, get_or, arith}
use Rattle.lv_cert.proofs.Numbers.{continues_start, continues_on, number_read, none_on}
use Rattle.lv_cert.proofs.Writing.{drop_nat, drop_all}
use Rattle.lv_cert.proofs.number.digits_of.Goals as goal

pub loop-letter-init : goal.loop-letter-init
loop-letter-init c = (continues_start c.args.letters.now, omega arith)

pub loop-letter-preserved : goal.loop-letter-preserved
loop-letter-preserved c =
    let i : ℕ = c.loop-letter.letter-index in
    let h : c.loop-letter.letter-index < length c.args.letters.now = omega arith in (
      continues_on c.args.letters.now c.loop-letter.number (get_or c.args.letters.now c.loop-letter.letter-index 0) c.in_ok-number.number (drop c.loop-letter.letter-index c.args.letters.now) (drop (c.loop-letter.letter-index + 1) c.args.letters.now)
          (drop_nat c.args.letters.now c.loop-letter.letter-index h) c.in_ok-number.ensures.0 c.in_ok-number.ensures.1 c.loop-letter.invariant.0,
      c.in_ok-number.ensures.2,
    )

pub returns-in_err-number : goal.returns-in_err-number
returns-in_err-number c =
    let h : c.loop-letter.letter-index < length c.args.letters.now = omega arith in
    rw c.from_residual.ensures (λ n s e. none_on c.args.letters.now c.loop-letter.number (get_or c.args.letters.now c.loop-letter.letter-index 0) (drop c.loop-letter.letter-index c.args.letters.now) (drop (c.loop-letter.letter-index + 1) c.args.letters.now)
    (drop_nat c.args.letters.now c.loop-letter.letter-index h) c.in_err-number.ensures c.loop-letter.invariant.0 n s e)

pub returns : goal.returns
returns c =
    let h : length c.args.letters.now ≤ c.loop-letter.letter-index = omega arith in (
      c.loop-letter.invariant.1,
      number_read c.args.letters.now (drop c.loop-letter.letter-index c.args.letters.now) c.loop-letter.number c.loop-letter.invariant.0 (drop_all c.args.letters.now c.loop-letter.letter-index h) c.requires.some (λ z. absurd (c.requires.lead z)) c.loop-letter.invariant.1,
    )
