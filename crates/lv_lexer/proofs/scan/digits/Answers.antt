use Rattle.std.proofs.Common.{◌≡◌, ℕ, ◌&&◌, List, [], ◌∷◌, Bool, true, false, refl, sym, ◌∙◌, ap}
use Rattle.std.specs.List.{list_all}
use Rattle.lv_ast.specs.Tokens.{is_digits, is_base_digit, is_base_byte}
use Rattle.lv_lexer.proofs.Longest.{cons_class, cons_fails, nil_front}
use Rattle.lv_lexer.proofs.scan.digits.Goals as goal

starts : (base c : ℕ) (xs : List ℕ) (b : Bool) → is_base_digit base c ≡ b → is_digits base (c ∷ xs) ≡ (b && list_all (is_base_byte base) xs)
unfolding is_digits
starts base c xs b h = ap (λ a. a && list_all (is_base_byte base) xs) h

empty : (base : ℕ) → is_digits base [] ≡ false
unfolding is_digits
empty base = refl

pub returns-then-is_base_digit : goal.returns-then-is_base_digit
returns-then-is_base_digit c =
    cons_class (is_digits c.args.base) (is_base_byte c.args.base) _ _ _ c.in_ok-first.ensures (λ xs. starts _ _ xs true (sym c.is_base_digit.ensures ∙ c.if-is_base_digit.true)) _ c.front.ensures.value

pub returns-else-is_base_digit : goal.returns-else-is_base_digit
returns-else-is_base_digit c =
    cons_fails (is_digits c.args.base) _ _ _ c.in_ok-first.ensures (empty c.args.base) (λ xs. starts _ _ xs false (sym c.is_base_digit.ensures ∙ c.if-is_base_digit.false))

pub returns-in_err-first : goal.returns-in_err-first
returns-in_err-first c = nil_front (is_digits c.args.base) _ _ (empty c.args.base) c.in_err-first.ensures c.from_residual.ensures
