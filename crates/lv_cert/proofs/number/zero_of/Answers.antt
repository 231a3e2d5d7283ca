use Rattle.std.proofs.Common.{◌≡◌, ℕ, List, [], ◌∷◌, length, get_or, sym, ap, ◌∙◌, arith}
use Rattle.std.proofs.lemmas.Fmt.{decimal_digit}
use Rattle.lv_cert.proofs.Numbers.{none_zero}
use Rattle.lv_cert.proofs.number.zero_of.Goals as goal

single : (xs : List ℕ) → length xs ≡ 1 → get_or xs 0 0 ≡ 48 → 48 ∷ [] ≡ xs
single [] h e = absurd (omega arith)
single (x ∷ []) h e = ap (λ z. z ∷ []) (sym e)
single (x ∷ y ∷ xs) h e = absurd (omega arith)

pub returns-then-letters-eq1 : goal.returns-then-letters-eq1
returns-then-letters-eq1 c = (omega arith, decimal_digit 0 (omega arith) ∙ single c.args.letters.now (omega arith) c.requires.zero)

pub returns-else-letters-eq1 : goal.returns-else-letters-eq1
returns-else-letters-eq1 c = λ n h e. none_zero c.args.letters.now c.requires.zero (omega arith) n h e
