use Rattle.std.proofs.Common.{◌≡◌, sym, ◌∙◌, arith}
use Rattle.lv_cert.proofs.Facts.{same_decimal}
use Rattle.lv_cert.proofs.number.small_number_of.Goals as goal

pub returns-then-number-low : goal.returns-then-number-low
returns-then-number-low c = λ a f e.
    let s : a ≡ c.in_ok-number.number = same_decimal a c.in_ok-number.number (omega (arith, f.1)) c.in_ok-number.ensures.0 (e ∙ sym c.in_ok-number.ensures.1) in
    omega (arith, s, f.0, f.1)

pub returns-then-number-high : goal.returns-then-number-high
returns-then-number-high c = λ a f e.
    let s : a ≡ c.in_ok-number.number = same_decimal a c.in_ok-number.number (omega (arith, f.1)) c.in_ok-number.ensures.0 (e ∙ sym c.in_ok-number.ensures.1) in
    omega (arith, s, f.0, f.1)
