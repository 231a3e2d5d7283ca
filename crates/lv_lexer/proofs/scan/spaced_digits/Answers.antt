use Rattle.std.proofs.Common.{◌≡◌, ℕ, ◌+◌, List, [], false, refl, sym, subst, drop, take}
use Rattle.lv_ast.specs.Tokens.{is_digits, is_blank}
use Rattle.lv_lexer.specs.Fronts.{front_length, IsLongest}
use Rattle.lv_lexer.proofs.Longest.{spaced_longest, spaced_none, none_front, spaced}
use Rattle.lv_lexer.proofs.scan.spaced_digits.Goals as goal

empty : (base : ℕ) → is_digits base [] ≡ false
unfolding is_digits
empty base = refl

behind : (s t : List ℕ) (n k : ℕ) → n ≡ k → t ≡ drop n s → t ≡ drop k s
behind s t n k e h = subst (λ m. t ≡ drop m s) e h

pub returns : goal.returns
returns c =
    let s = c.args.rest.now in
    let d : c.skip.result.now ≡ drop (front_length is_blank s) s = behind s _ _ _ c.front-blanks.ensures.value c.skip.ensures in
    subst (λ k. IsLongest (spaced (is_digits c.args.base)) s (k + c.in_ok-length.length)) (sym c.front-blanks.ensures.value)
    (spaced_longest (is_digits c.args.base) (empty c.args.base) s c.in_ok-length.length (subst (λ t. IsLongest (is_digits c.args.base) t c.in_ok-length.length) d c.in_ok-length.ensures))

pub returns-in_err-length : goal.returns-in_err-length
returns-in_err-length c =
    let s = c.args.rest.now in
    let d : c.skip.result.now ≡ drop (front_length is_blank s) s = behind s _ _ _ c.front-blanks.ensures.value c.skip.ensures in
    none_front (spaced (is_digits c.args.base)) s _ c.from_residual.ensures
    (spaced_none (is_digits c.args.base) (empty c.args.base) s (subst (λ t. (m : ℕ) → is_digits c.args.base (take m t) ≡ false) d c.in_err-length.ensures))
