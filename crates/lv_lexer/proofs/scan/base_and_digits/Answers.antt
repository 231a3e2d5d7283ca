use Rattle.std.proofs.Common.{◌≡◌, ◌≢◌, ℕ, ◌&&◌, not, ◌==◌, List, [], ◌∷◌, false, refl, sym, ◌∙◌, ap, subst}
use Rattle.std.proofs.lemmas.Bool.{ne_eqb}
use Rattle.lv_ast.specs.Tokens.{is_digits, base_of, without_blanks, is_base_and_digits}
use Rattle.lv_lexer.proofs.Longest.{cons_longest, cons_none, cons_fails, nil_front, none_front, spaced}
use Rattle.lv_lexer.proofs.scan.base_and_digits.Goals as goal

starts : (b c : ℕ) (xs : List ℕ) → b ≡ base_of c → b ≢ 0 → is_base_and_digits (c ∷ xs) ≡ is_digits b (without_blanks xs)
unfolding is_base_and_digits
starts b c xs e h = subst (λ k. (not (k == 0) && is_digits k (without_blanks xs)) ≡ is_digits b (without_blanks xs)) e (ap (λ t. not t && is_digits b (without_blanks xs)) (ne_eqb b 0 h))

fails : (b c : ℕ) (xs : List ℕ) → b ≡ base_of c → b ≡ 0 → is_base_and_digits (c ∷ xs) ≡ false
unfolding is_base_and_digits
fails b c xs e h = ap (λ k. not (k == 0) && is_digits k (without_blanks xs)) (sym e ∙ h)

empty : is_base_and_digits [] ≡ false
unfolding is_base_and_digits
empty = refl

pub returns : goal.returns
returns c =
    let b = c.base_of-base.result in
    cons_longest is_base_and_digits (spaced (is_digits b)) _ _ (λ xs. starts b _ xs c.base_of-base.ensures c.if-base-eq0.false) c.args.rest.now c.in_ok-letter.ensures _ c.in_ok-length.ensures

pub returns-in_err-letter : goal.returns-in_err-letter
returns-in_err-letter c = nil_front is_base_and_digits _ _ empty c.in_err-letter.ensures c.from_residual.ensures

pub returns-then-base-eq0 : goal.returns-then-base-eq0
returns-then-base-eq0 c = cons_fails is_base_and_digits _ _ _ c.in_ok-letter.ensures empty (λ xs. fails c.base_of-base.result _ xs c.base_of-base.ensures c.if-base-eq0.true)

pub returns-in_err-length : goal.returns-in_err-length
returns-in_err-length c =
    let b = c.base_of-base.result in
    none_front is_base_and_digits _ _ c.from_residual-in_err-length.ensures
    (cons_none is_base_and_digits (spaced (is_digits b)) _ _ (λ xs. starts b _ xs c.base_of-base.ensures c.if-base-eq0.false) c.args.rest.now c.in_ok-letter.ensures empty c.in_err-length.ensures)
