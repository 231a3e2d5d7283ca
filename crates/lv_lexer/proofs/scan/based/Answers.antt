use Rattle.std.proofs.Common.{◌≡◌, ℕ, if◌then◌else◌, List, [], ◌∷◌, true, false, zero, suc, refl, sym, ◌∙◌, ap, subst, take}
use Rattle.lv_ast.specs.Tokens.{is_base_and_digits, without_sign, is_sign}
use Rattle.lv_lexer.proofs.Longest.{cons_longest, cons_none, nil_front, none_front, same_front}
use Rattle.lv_lexer.proofs.scan.based.Goals as goal

empty : is_base_and_digits (without_sign []) ≡ false
unfolding is_base_and_digits without_sign
empty = refl

starts : (c : ℕ) (xs : List ℕ) → is_sign c ≡ true → is_base_and_digits (without_sign (c ∷ xs)) ≡ is_base_and_digits xs
unfolding without_sign
starts c xs h = ap (λ b. is_base_and_digits (if b then xs else c ∷ xs)) h

stays-at : (c : ℕ) (cs : List ℕ) → is_sign c ≡ false → (m : ℕ) → is_base_and_digits (without_sign (take m (c ∷ cs))) ≡ is_base_and_digits (take m (c ∷ cs))
unfolding without_sign
stays-at c cs h zero = refl
stays-at c cs h (suc m) = ap (λ b. is_base_and_digits (if b then take m cs else c ∷ take m cs)) h

stays : (c : ℕ) (cs s : List ℕ) → s ≡ (c ∷ cs) → is_sign c ≡ false → (m : ℕ) → is_base_and_digits (without_sign (take m s)) ≡ is_base_and_digits (take m s)
stays c cs s e h = subst (λ l. (m : ℕ) → is_base_and_digits (without_sign (take m l)) ≡ is_base_and_digits (take m l)) (sym e) (stays-at c cs h)

pub returns-in_ok-length : goal.returns-in_ok-length
returns-in_ok-length c =
    cons_longest (λ s. is_base_and_digits (without_sign s)) is_base_and_digits _ _ (λ xs. starts _ xs (sym c.is_sign.ensures ∙ c.if-is_sign.true)) c.args.rest.now c.in_ok-first.ensures _ c.in_ok-length.ensures

pub returns-in_err-length : goal.returns-in_err-length
returns-in_err-length c =
    none_front (λ s. is_base_and_digits (without_sign s)) _ _ c.from_residual-in_err-length.ensures
    (cons_none (λ s. is_base_and_digits (without_sign s)) is_base_and_digits _ _ (λ xs. starts _ xs (sym c.is_sign.ensures ∙ c.if-is_sign.true)) c.args.rest.now c.in_ok-first.ensures empty c.in_err-length.ensures)

pub returns-in_err-first : goal.returns-in_err-first
returns-in_err-first c = nil_front (λ s. is_base_and_digits (without_sign s)) _ _ empty c.in_err-first.ensures c.from_residual.ensures

pub returns-else-is_sign : goal.returns-else-is_sign
returns-else-is_sign c =
    same_front is_base_and_digits (λ s. is_base_and_digits (without_sign s)) c.args.rest.now (stays _ _ c.args.rest.now c.in_ok-first.ensures (sym c.is_sign.ensures ∙ c.if-is_sign.false)) _ c.base_and_digits-else-is_sign.ensures
