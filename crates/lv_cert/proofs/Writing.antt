-- Text that is written line by line.
use Rattle.std.proofs.Common.{◌≡◌, ℕ, zero, suc, ◌+◌, ◌≤◌, ◌<◌, List, [], ◌∷◌, ◌++◌, map, drop, length, get_or, slice_get, Some, true, false, codes, refl, sym, ap, ◌∙◌, subst, append_assoc, arith, drop-cons}
use Rattle.std.proofs.lemmas.List.{append-nil}
use Rattle.std.proofs.lemmas.Option.{none-some}
use Rattle.lv_clauses.specs.Literals.{Lit}
use Rattle.lv_clauses.specs.Sets.{numbered}
use Rattle.lv_clauses.specs.Derivations.{Step}
use Rattle.lv_clauses.proofs.Lists.{some-same}
use Rattle.lv_cert.specs.Lines.{Line, clause_line, step_line, step_lines}
use Rattle.lv_cert.specs.Words.{Word, word, spelled, spell, text_of}
use Rattle.lv_cert.proofs.Texts.{spell-append, text_of-append}

pub drop_next : {A : Type 0} (xs : List A) (i : ℕ) (x : A) → i < length xs → x ≡ get_or xs i x → drop i xs ≡ x ∷ drop (i + 1) xs
drop_next xs i x h e = let n : suc i ≡ i + 1 = omega arith in drop-cons xs i x h ∙ (λ j. sym e j ∷ drop (n j) xs)

pub drop_nat : (xs : List ℕ) (i : ℕ) → i < length xs → drop i xs ≡ get_or xs i 0 ∷ drop (i + 1) xs
drop_nat xs i h = let n : suc i ≡ i + 1 = omega arith in drop-cons xs i 0 h ∙ (λ j. get_or xs i 0 ∷ drop (n j) xs)

pub drop_all : {A : Type 0} (xs : List A) (i : ℕ) → length xs ≤ i → drop i xs ≡ []
drop_all [] zero h = refl
drop_all [] (suc i) h = refl
drop_all (x ∷ xs) zero h = absurd (omega arith)
drop_all (x ∷ xs) (suc i) h = drop_all xs i (omega arith)

-- these lines are written, and others are left
pub lines_on : (total out new : List ℕ) (a b : List (List (List ℕ))) → out ++ text_of (a ++ b) ≡ total → new ≡ out ++ text_of a → new ++ text_of b ≡ total
lines_on total out new a b h e = ap (λ z. z ++ text_of b) e ∙ append_assoc out (text_of a) (text_of b) ∙ ap (λ z. out ++ z) (sym (text_of-append a b)) ∙ h

-- these words are written, and others are left
pub words_on : (total out new : List ℕ) (a b : List Word) → out ++ spell (a ++ b) ≡ total → new ≡ out ++ spell a → new ++ spell b ≡ total
words_on total out new a b h e = ap (λ z. z ++ spell b) e ∙ append_assoc out (spell a) (spell b) ∙ ap (λ z. out ++ z) (sym (spell-append a b)) ∙ h

pub drop_got : {A : Type 0} (xs : List A) (k : ℕ) (x : A) → slice_get xs k ≡ Some x → drop k xs ≡ x ∷ drop (suc k) xs
drop_got [] k x h = absurd (none-some x h)
drop_got (y ∷ xs) zero x h = ap (λ z. z ∷ xs) (some-same y x h)
drop_got (y ∷ xs) (suc k) x h = drop_got xs k x h

-- one clause more is written
pub clauses_on : (total out new : List ℕ) (cs : List (List Lit)) (k : ℕ) (c lits : List Lit) → out ++ text_of (map clause_line (drop k cs)) ≡ total → numbered cs (k + 1) ≡ Some c → lits ≡ c →
    new ≡ out ++ text_of (clause_line lits ∷ []) → new ++ text_of (map clause_line (drop (k + 1) cs)) ≡ total
clauses_on total out new cs k c lits inv n e w =
    let s : suc k ≡ k + 1 = omega arith in
    let g : numbered cs (suc k) ≡ Some c = subst (λ j. numbered cs j ≡ Some c) (sym s) n in
    let d : drop k cs ≡ c ∷ drop (k + 1) cs = drop_got cs k c g ∙ ap (λ j. c ∷ drop j cs) s in
    lines_on total out new (clause_line c ∷ []) (map clause_line (drop (k + 1) cs)) (ap (λ l. out ++ text_of (map clause_line l)) (sym d) ∙ inv) (w ∙ ap (λ l. out ++ text_of (clause_line l ∷ [])) e)

-- one line of a derivation more is written
pub steps_on : (total out new : List ℕ) (lines : List Step) (id k : ℕ) (s : Step) → out ++ text_of (step_lines (id + k) (drop k lines)) ≡ total → slice_get lines k ≡ Some s →
    new ≡ out ++ text_of (step_line (id + k) s ∷ []) → new ++ text_of (step_lines (id + (k + 1)) (drop (k + 1) lines)) ≡ total
steps_on total out new lines id k s inv g w =
    let n : suc k ≡ k + 1 = omega arith in
    let m : id + k + 1 ≡ id + (k + 1) = omega arith in
    let d : drop k lines ≡ s ∷ drop (k + 1) lines = drop_got lines k s g ∙ ap (λ j. s ∷ drop j lines) n in
    lines_on total out new (step_line (id + k) s ∷ []) (step_lines (id + (k + 1)) (drop (k + 1) lines))
    (ap (λ j. out ++ text_of (step_line (id + k) s ∷ step_lines j (drop (k + 1) lines))) (sym m) ∙ ap (λ l. out ++ text_of (step_lines (id + k) l)) (sym d) ∙ inv) w

-- the text of all lines
pub whole_text : (k g n b s m : List Line) → ([] ++ spelled (word (codes "leave-certificate") false)) ++ spelled (word (codes "1") true) ++ text_of (k ++ (g ++ n)) ++ text_of b ++ text_of s ++ text_of m ++ spelled (word (codes "end") true) ≡
    text_of ((codes "leave-certificate" ∷ codes "1" ∷ []) ∷ (k ++ (g ++ (n ++ (b ++ (s ++ (m ++ (codes "end" ∷ []) ∷ [])))))))
whole_text k g n b s m = simp (text_of-append, append_assoc, append-nil)
