use Rattle.std.proofs.Common.{◌≡◌, ◌+◌, ◌-◌, ℕ, ap, sym, subst, ◌∙◌, arith, take, drop, List, false}
use Rattle.lv_exprs.specs.Definite.{ReadsDefinite, FailsDefinite}
use Rattle.lv_exprs.specs.Answers.{ReadsLow, Refuses, tokens_from}
use Rattle.lv_exprs.specs.declared.symbol.Symbol.{Symbol}
use Rattle.lv_exprs.specs.Symbols.{symbols}
use Rattle.lv_exprs.proofs.FreeBits.{refused_definite, unsized_fails, size_read, size_refused, first_symbol}
use Rattle.lv_exprs.proofs.definite.read_definite.Goals as goal

pub returns-in-Err : goal.returns-in-Err
returns-in-Err c = refused_definite _ _ _ _ c.in-Err.ensures

pub returns-then-end-from-eq1 : goal.returns-then-end-from-eq1
returns-then-end-from-eq1 c =
    let z : 0 ≡ c.args.from - c.args.from = omega arith in (
      omega arith,
      subst (λ (v : ℕ). FailsDefinite (tokens_from c.args.tokens.now.text c.args.tokens.now.list c.args.from) v) z
          (unsized_fails _ _ _ _ c.in-Ok.ensures.1 (sym c.has_free_bits.ensures ∙ c.if-not-has_free_bits.false) c.if-end-from-eq1.true),
    )

pub returns-in-Ok-read : goal.returns-in-Ok-read
returns-in-Ok-read c =
    let z : c.in-Ok-read.count ≡ c.args.from + c.in-Ok-read.count - c.args.from = omega arith in
    let b = subst (λ (v : List ℕ). ReadsLow v false (symbols v c.token_at-size.result.now) c.in-Ok-read.count c.in-Ok-read.tree) c.bytes.ensures c.in-Ok-read.ensures in
    let s = subst (λ (v : List Symbol). ReadsLow c.args.tokens.now.text false v c.in-Ok-read.count c.in-Ok-read.tree)
    (ap (symbols c.args.tokens.now.text) c.token_at-size.ensures ∙ ap (λ v. symbols c.args.tokens.now.text (take 1 (drop c.args.from v))) c.as_slice.ensures ∙ first_symbol c.args.tokens.now.text (drop c.args.from c.args.tokens.now.list)) b in
    let q = size_read _ _ _ _ c.in-Ok.ensures.1 (sym c.has_free_bits.ensures ∙ c.if-not-has_free_bits.false) c.if-end-from-eq1.false _ _ s in
    (omega arith, q.0, subst (λ (v : ℕ). ReadsDefinite (tokens_from c.args.tokens.now.text c.args.tokens.now.list c.args.from) v q.0) z q.1, q.2, q.3)

pub returns-in-Err-read : goal.returns-in-Err-read
returns-in-Err-read c =
    let b = subst (λ (v : List ℕ). Refuses v false (symbols v c.token_at-size.result.now) c.in-Err-read.error) c.bytes.ensures c.in-Err-read.ensures in
    let s = subst (λ (v : List Symbol). Refuses c.args.tokens.now.text false v c.in-Err-read.error)
    (ap (symbols c.args.tokens.now.text) c.token_at-size.ensures ∙ ap (λ v. symbols c.args.tokens.now.text (take 1 (drop c.args.from v))) c.as_slice.ensures ∙ first_symbol c.args.tokens.now.text (drop c.args.from c.args.tokens.now.list)) b in
    size_refused _ _ _ _ _ c.in-Ok.ensures.1 (sym c.has_free_bits.ensures ∙ c.if-not-has_free_bits.false) c.if-end-from-eq1.false _ s
