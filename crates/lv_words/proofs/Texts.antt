-- Words that are texts.
use Rattle.std.proofs.Common.{◌≡◌, ℕ, zero, suc, ◌+◌, ◌<◌, ◌≤◌, List, [], ◌∷◌, ◌++◌, length, map, take, get_or, refl, sym, ◌∙◌, ap, subst, arith}
use Rattle.std.specs.Prelude.{Option, Some, None, Result, Ok, Err, IfOk, MatchOption, IsUtf8, All}
use Rattle.std.specs.Borrow.{Bor}
use Rattle.std.proofs.lemmas.List.{take_all}
use Rattle.std.proofs.lemmas.List.Elements.{All-get_or, All-more}
use Rattle.lv_words.specs.declared.modes.Asked.{Asked}
use Rattle.lv_words.specs.Lines.{IsTaken, IsAskedBy, IsAskedIn, IsAsked}

pub not_all : (words : List (List ℕ)) (k : ℕ) (word bytes : List ℕ) → k < length words → word ≡ get_or words k word → bytes ≡ word → (IsUtf8 bytes → ⊥) → All IsUtf8 words → ⊥
not_all words k word bytes within is same bad all = bad (subst IsUtf8 (sym (same ∙ is)) (All-get_or IsUtf8 words k word within all))

take_more : {A : Type 0} (xs : List A) (k : ℕ) (x : A) → k < length xs → x ≡ get_or xs k x → take (k + 1) xs ≡ take k xs ++ x ∷ []
take_more [] k x within at = absurd (omega arith)
take_more (y ∷ xs) zero x within at = ap (λ z. z ∷ []) (sym at)
take_more (y ∷ xs) (suc k) x within at =
    let e : suc (k + 1) ≡ suc k + 1 = omega arith in
    subst (λ n. take n (y ∷ xs) ≡ y ∷ (take k xs ++ x ∷ [])) e (ap (λ zs. y ∷ zs) (take_more xs k x (omega arith) at))

map_more : {A B : Type 0} (f : A → B) (xs : List A) (x : A) → map f (xs ++ x ∷ []) ≡ map f xs ++ f x ∷ []
map_more f [] x = refl
map_more f (y ∷ xs) x = ap (λ zs. f y ∷ zs) (map_more f xs x)

-- the first words as texts
abbrev pub AreTexts : List (Bor (List ℕ)) → List (List ℕ) → Type 0
AreTexts xs words = (map (λ s. s.now) xs ≡ words) × All IsUtf8 words

pub more_texts : (words : List (List ℕ)) (k : ℕ) (word bytes : List ℕ) (xs ys : List (Bor (List ℕ))) (x : Bor (List ℕ)) → k < length words → word ≡ get_or words k word →
    AreTexts xs (take k words) → ys ≡ xs ++ x ∷ [] → bytes ≡ word → x.now ≡ bytes → IsUtf8 bytes → AreTexts ys (take (k + 1) words)
more_texts words k word bytes xs ys x within is h pushed same now utf8 = (
  ap (map (λ s. s.now)) pushed ∙ map_more (λ s. s.now) xs x ∙ ap (λ zs. zs ++ x.now ∷ []) h.0 ∙ ap (λ z. take k words ++ z ∷ []) (now ∙ same) ∙ sym (take_more words k word within is),
  All-more IsUtf8 words k word within h.1 (subst IsUtf8 (same ∙ is) utf8),
)

pub all_texts : (words : List (List ℕ)) (k : ℕ) (xs : List (Bor (List ℕ))) → length words ≤ k → AreTexts xs (take k words) → AreTexts xs words
all_texts words k xs past h = subst (AreTexts xs) (take_all k words past) h

-- the line that was read is the line
pub asked_as : (words : List (List ℕ)) (mode file : List ℕ) (out : Option (List ℕ)) (asked : Asked) → IsTaken words mode file out → IsAskedBy mode file out asked → IsAskedIn words asked
asked_as words mode file out asked line asks = record { mode = mode; file = file; out = out; line = line; asks = asks }

pub some_same : {A : Type 0} (x y : A) (o : Option A) → o ≡ Some x → o ≡ Some y → x ≡ y
some_same x y o e f = cc

pub asked_line : (words : List (List ℕ)) (mode file : List ℕ) (out : Option (List ℕ)) → IsTaken words mode file out → (asked : Asked) → IsAskedIn words asked → IsAskedBy mode file out asked
asked_line words mode file out line asked h =
    let m : h.mode ≡ mode = some_same h.mode mode _ h.line.mode_is line.mode_is in
    let f : h.file ≡ file = some_same h.file file _ h.line.file_is line.file_is in
    let o : h.out ≡ out = sym h.line.out_is ∙ line.out_is in
    subst (λ z. IsAskedBy z file out asked) m (subst (λ z. IsAskedBy h.mode z out asked) f (subst (λ z. IsAskedBy h.mode h.file z asked) o h.asks))

pub lined : {E : Type 0} (words : List (List ℕ)) (mode file : List ℕ) (out : Option (List ℕ)) (r : Result (Option Asked) E) → IsTaken words mode file out →
    IfOk r (λ o. MatchOption o ((asked : Asked) → IsAskedBy mode file out asked → ⊥) (IsAskedBy mode file out)) →
    IfOk r (λ o. MatchOption o ((asked : Asked) → IsAskedIn words asked → ⊥) (IsAskedIn words))
lined words mode file out (Ok None) line h = λ asked asks. h asked (asked_line words mode file out line asked asks)
lined words mode file out (Ok (Some asked)) line h = asked_as words mode file out asked line h
lined words mode file out (Err e) line h = tt

pub texted : {E : Type 0} (words texts : List (List ℕ)) (r : Result (Option Asked) E) → texts ≡ words → All IsUtf8 words →
    IfOk r (λ o. MatchOption o ((asked : Asked) → IsAskedIn texts asked → ⊥) (IsAskedIn texts)) →
    IfOk r (λ o. MatchOption o ((asked : Asked) → IsAsked words asked → ⊥) (IsAsked words))
texted words texts (Ok None) e all h = λ asked asks. h asked (subst (λ z. IsAskedIn z asked) (sym e) asks.asks)
texted words texts (Ok (Some asked)) e all h = record { texts = all; asks = subst (λ z. IsAskedIn z asked) e h }
texted words texts (Err x) e all h = tt

pub as_words : (xs words : List (List ℕ)) → xs ≡ words → All IsUtf8 xs → All IsUtf8 words
as_words xs words e h = subst (All IsUtf8) e h

pub as_words_back : (xs words : List (List ℕ)) → xs ≡ words → All IsUtf8 words → All IsUtf8 xs
as_words_back xs words e h = subst (All IsUtf8) (sym e) h
