use Rattle.std.proofs.Common.{◌≡◌, ℕ, ◌&&◌, List, [], ◌∷◌, Bool, true, false, refl, sym, ◌∙◌, ap}
use Rattle.std.specs.List.{list_all}
use Rattle.lv_ast.specs.Names.{is_letter, is_inner}
use Rattle.lv_ast.specs.Tokens.{is_word}
use Rattle.lv_lexer.proofs.Longest.{cons_class, cons_fails, nil_front}
use Rattle.lv_lexer.proofs.scan.word.Goals as goal

starts : (c : ℕ) (xs : List ℕ) (b : Bool) → is_letter c ≡ b → is_word (c ∷ xs) ≡ (b && list_all is_inner xs)
unfolding is_word
starts c xs b h = ap (λ a. a && list_all is_inner xs) h

empty : is_word [] ≡ false
unfolding is_word
empty = refl

pub returns-then-is_letter : goal.returns-then-is_letter
returns-then-is_letter c = cons_class is_word is_inner _ _ _ (c.in_ok-first.ensures) (λ xs. starts _ xs true (sym c.is_letter.ensures ∙ c.if-is_letter.true)) _ c.front.ensures.value

pub returns-else-is_letter : goal.returns-else-is_letter
returns-else-is_letter c = cons_fails is_word _ _ _ c.in_ok-first.ensures empty (λ xs. starts _ xs false (sym c.is_letter.ensures ∙ c.if-is_letter.false))

pub returns-in_err-first : goal.returns-in_err-first
returns-in_err-first c = nil_front is_word _ _ empty c.in_err-first.ensures c.from_residual.ensures
