use Rattle.std.proofs.Common.{◌≡◌, ◌≤◌, sym, ◌∙◌, ap, decimal, arith}
use Rattle.std.specs.Prelude.{Ok}
use Rattle.lv_words.proofs.Written.{number_parsed, ok_same, differ_from_eq}
use Rattle.lv_words.proofs.modes.number_in.Goals as goal
use Rattle.lv_words.proofs.modes.number_in.Goals.{else-number-ge1-via-then-number-ge1+then-number-le500+else-eq, else-number-ge1-via-then-number-ge1+else-number-le500, else-number-ge1-via-else-number-ge1}

pub returns-else-number-ge1 : goal.returns-else-number-ge1
returns-else-number-ge1 c = λ n h.
    let same : c.in-Ok.number ≡ n = ok_same c.in-Ok.number n c.parse.result c.in-Ok.is (number_parsed c.args.word.now n c.parse.result c.parse.ensures.value.0 h) in
    let least : 1 ≤ n = h.least in
    let most : n ≤ 500 = h.most in
    elim c.else-number-ge1.branch [
      | else-number-ge1-via-then-number-ge1+then-number-le500+else-eq w ↦
          differ_from_eq _ _ (sym w.eq.ensures ∙ w.if-eq.false)
          (w.as_bytes.ensures.value ∙ c.in_ok-text-in-Ok.ensures.ok ∙ ap decimal same ∙ h.written ∙ sym w.as_bytes-then-number-le500.ensures.value)
      | else-number-ge1-via-then-number-ge1+else-number-le500 w ↦ let no = w.if-number-le500.false in omega (arith, no, same, most)
      | else-number-ge1-via-else-number-ge1 w ↦ let no = w.if-number-ge1.false in omega (arith, no, same, least)
    ]

pub returns-in-Err : goal.returns-in-Err
returns-in-Err c = λ n h.
    let e : c.parse.result ≡ Ok n = number_parsed c.args.word.now n c.parse.result c.parse.ensures.value.0 h in
    let f = c.in-Err.is in absurd (cc)
