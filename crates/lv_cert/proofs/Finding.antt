-- A word found among bytes.
use Rattle.std.proofs.Common.{◌≡◌, ℕ, ◌+◌, ◌≤◌, ◌<◌, Bool, true, false, ◌==◌, if◌then◌else◌, List, [], ◌∷◌, ◌++◌, take, drop, length, get_or, refl, sym, ap, ◌∙◌, arith}
use Rattle.std.proofs.lemmas.List.{take_more}
use Rattle.lv_cert.specs.Words.{word, spell}
use Rattle.lv_cert.specs.Parts.{Moves}
use Rattle.lv_cert.specs.Inputs.{is_end, cut, rest_of, state_of, IsAt, IsAtEnd}
use Rattle.lv_cert.proofs.Texts.{cut_end, cut_on, rest_end, rest_on, spell_cut}
use Rattle.lv_cert.proofs.Writing.{drop_nat, drop_all}

pub at_start : (rest : List ℕ) → IsAt rest 0
at_start rest = record { words = refl; tail = refl }

pub at_next : (rest : List ℕ) (i : ℕ) → i < length rest → is_end (get_or rest i 0) ≡ false → IsAt rest i → IsAt rest (i + 1)
at_next rest i h e a =
    let d : drop i rest ≡ get_or rest i 0 ∷ drop (i + 1) rest = drop_nat rest i h in
    let t : take i rest ++ get_or rest i 0 ∷ [] ≡ take (i + 1) rest = sym (take_more rest i 0 h) in
    record {
      words = a.words ∙ ap (λ z. cut (take i rest) z) d ∙ cut_on (take i rest) (get_or rest i 0) (drop (i + 1) rest) e ∙ ap (λ z. cut z (drop (i + 1) rest)) t;
      tail = a.tail ∙ ap (λ z. rest_of (take i rest) z) d ∙ rest_on (take i rest) (get_or rest i 0) (drop (i + 1) rest) e ∙ ap (λ z. rest_of z (drop (i + 1) rest)) t;
    }

pub at_end : (rest : List ℕ) (i : ℕ) → length rest ≤ i → IsAt rest i → cut [] rest ≡ []
at_end rest i h a = a.words ∙ ap (λ z. cut (take i rest) z) (drop_all rest i h)

-- the word before a space or a newline
pub at_word : (rest : List ℕ) (i line next : ℕ) (last : Bool) → i < length rest → is_end (get_or rest i 0) ≡ true → IsAt rest i → (get_or rest i 0 == 10) ≡ last →
    next ≡ line + (if last then 1 else 0) → Moves (state_of rest line) (state_of (drop (i + 1) rest) next) (word (take i rest) last ∷ [])
at_word rest i line next last h e a l n =
    let d : drop i rest ≡ get_or rest i 0 ∷ drop (i + 1) rest = drop_nat rest i h in
    record {
      words = a.words ∙ ap (λ z. cut (take i rest) z) d ∙ cut_end (take i rest) (get_or rest i 0) (drop (i + 1) rest) e ∙ ap (λ b. word (take i rest) b ∷ cut [] (drop (i + 1) rest)) l;
      rest = sym (a.tail ∙ ap (λ z. rest_of (take i rest) z) d ∙ rest_end (take i rest) (get_or rest i 0) (drop (i + 1) rest) e);
      line = omega (arith, n);
    }

pub nothing_left : (bytes : List ℕ) (line : ℕ) → IsAtEnd (state_of bytes line) → bytes ≡ []
nothing_left bytes line h = sym (spell_cut [] bytes) ∙ (λ i. spell (h.0 i) ++ h.1 i)
