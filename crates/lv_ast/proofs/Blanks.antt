-- White space at the front, as a loop passes over it.
use Rattle.std.proofs.Common.{◌≡◌, ℕ, suc, ◌+◌, ◌<◌, ◌≤◌, Bool, true, false, if◌then◌else◌, List, [], ◌∷◌, length, get_or, drop, refl, sym, ap, ◌∙◌, add-one, drop-cons}
use Rattle.std.proofs.Math.ListN.{drop_of_length-le}
use Rattle.lv_ast.specs.Tokens.{is_blank, without_blanks}

none : without_blanks [] ≡ []
unfolding without_blanks
none = refl

at : (c : ℕ) (cs : List ℕ) (b : Bool) → is_blank c ≡ b → without_blanks (c ∷ cs) ≡ (if b then without_blanks cs else c ∷ cs)
unfolding without_blanks
at c cs b h = ap (λ x. if x then without_blanks cs else c ∷ cs) h

-- past one more
pub blank_on : (s : List ℕ) (i : ℕ) → i < length s → without_blanks s ≡ without_blanks (drop i s) → is_blank (get_or s i 0) ≡ true → without_blanks s ≡ without_blanks (drop (i + 1) s)
blank_on s i h e b = rw add-one (e ∙ ap without_blanks (drop-cons s i 0 h) ∙ at (get_or s i 0) (drop (suc i) s) true b)

pub blank_stop : (s : List ℕ) (i : ℕ) → i < length s → without_blanks s ≡ without_blanks (drop i s) → is_blank (get_or s i 0) ≡ false → drop i s ≡ without_blanks s
blank_stop s i h e b = drop-cons s i 0 h ∙ sym (e ∙ ap without_blanks (drop-cons s i 0 h) ∙ at (get_or s i 0) (drop (suc i) s) false b)

pub blank_end : (s : List ℕ) (i : ℕ) → length s ≤ i → without_blanks s ≡ without_blanks (drop i s) → [] ≡ without_blanks s
blank_end s i h e = sym (e ∙ ap without_blanks (drop_of_length-le s h) ∙ none)
