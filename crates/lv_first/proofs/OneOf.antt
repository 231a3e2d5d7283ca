-- A list of one element.
use Rattle.std.proofs.Common.{◌≡◌, ◌<◌, ◌≤◌, List, [], ◌∷◌, length, get_or, arith}

pub one_of : {A : Type 0} (xs : List A) (x : A) → 1 ≤ length xs → length xs < 2 → x ≡ get_or xs 0 x → xs ≡ x ∷ []
one_of [] x some few first = absurd (omega arith)
one_of (a ∷ []) x some few first = cc
one_of (a ∷ b ∷ xs) x some few first = absurd (omega arith)
