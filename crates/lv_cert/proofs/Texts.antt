-- Words and their text.
use Rattle.std.proofs.Common.{◌≡◌, ℕ, zero, suc, ◌+◌, ◌-◌, ◌/◌, ◌%◌, ◌≤◌, ◌<◌, Bool, true, false, if◌then◌else◌, ◌==◌, List, [], ◌∷◌, ◌++◌, map, take, length, decimal, refl, sym, ap, ◌∙◌, ◌⊎◌, inl, inr, append_assoc, arith}
use Rattle.std.proofs.lemmas.List.{append-nil}
use Rattle.std.proofs.lemmas.Grind.{flat_map-append}
use Rattle.std.proofs.lemmas.Bool.Decides.{nat_tests}
use Rattle.std.specs.Fmt.{digits, digits_onto, digit_glyph}
use Rattle.lv_cert.specs.Words.{Word, word, end_of, spelled, marked, words_of, spell, text_of}
use Rattle.lv_cert.specs.Parts.{Part, both, turns, turns_words, until, until_words, line_count}
use Rattle.lv_cert.specs.Inputs.{is_end, cut, rest_of, IsDigit}
use Rattle.lv_cert.proofs.Leading.{split, line_count-append, cancel}

pub spell-append : (xs ys : List Word) → spell (xs ++ ys) ≡ spell xs ++ spell ys
spell-append xs ys = flat_map-append spelled xs ys

pub words_of-append : (xs ys : List (List (List ℕ))) → words_of (xs ++ ys) ≡ words_of xs ++ words_of ys
words_of-append xs ys = flat_map-append marked xs ys

pub text_of-append : (xs ys : List (List (List ℕ))) → text_of (xs ++ ys) ≡ text_of xs ++ text_of ys
text_of-append xs ys = ap spell (words_of-append xs ys) ∙ spell-append (words_of xs) (words_of ys)

abbrev pub open_word : List ℕ → Word
open_word w = word w false

pub marked-append : (us : List (List ℕ)) (v : List ℕ) (vs : List (List ℕ)) → marked (us ++ v ∷ vs) ≡ map open_word us ++ marked (v ∷ vs)
marked-append [] v vs = refl
marked-append (u ∷ []) v vs = refl
marked-append (u ∷ x ∷ xs) v vs = ap (λ l. open_word u ∷ l) (marked-append (x ∷ xs) v vs)

-- ---- bytes as words

-- neither a space nor a newline is among these
abbrev pub IsClean : List ℕ → Type 0
IsClean [] = Unit {0}
IsClean (c ∷ cs) = (is_end c ≡ false) × IsClean cs

abbrev pub AreClean : List Word → Type 0
AreClean [] = Unit {0}
AreClean (w ∷ ws) = IsClean w.letters × AreClean ws

pub are_clean-append : (xs ys : List Word) → AreClean xs → AreClean ys → AreClean (xs ++ ys)
are_clean-append [] ys a b = b
are_clean-append (x ∷ xs) ys a b = (a.0, are_clean-append xs ys a.1 b)

pub are_clean_take : (xs ys : List Word) → AreClean (xs ++ ys) → AreClean xs
are_clean_take [] ys h = tt
are_clean_take (x ∷ xs) ys h = (h.0, are_clean_take xs ys h.1)

pub cut_end : (w : List ℕ) (c : ℕ) (cs : List ℕ) → is_end c ≡ true → cut w (c ∷ cs) ≡ word w (c == 10) ∷ cut [] cs
cut_end w c cs e = ap (λ b. if b then word w (c == 10) ∷ cut [] cs else cut (w ++ c ∷ []) cs) e

pub cut_on : (w : List ℕ) (c : ℕ) (cs : List ℕ) → is_end c ≡ false → cut w (c ∷ cs) ≡ cut (w ++ c ∷ []) cs
cut_on w c cs e = ap (λ b. if b then word w (c == 10) ∷ cut [] cs else cut (w ++ c ∷ []) cs) e

pub rest_end : (w : List ℕ) (c : ℕ) (cs : List ℕ) → is_end c ≡ true → rest_of w (c ∷ cs) ≡ rest_of [] cs
rest_end w c cs e = ap (λ b. if b then rest_of [] cs else rest_of (w ++ c ∷ []) cs) e

pub rest_on : (w : List ℕ) (c : ℕ) (cs : List ℕ) → is_end c ≡ false → rest_of w (c ∷ cs) ≡ rest_of (w ++ c ∷ []) cs
rest_on w c cs e = ap (λ b. if b then rest_of [] cs else rest_of (w ++ c ∷ []) cs) e

end-is : (last : Bool) → (is_end (end_of last) ≡ true) × ((end_of last == 10) ≡ last)
end-is true = (refl, refl)
end-is false = (refl, refl)

cut_word : (w ls : List ℕ) (c : ℕ) (cs : List ℕ) → IsClean ls → is_end c ≡ true → cut w (ls ++ c ∷ cs) ≡ word (w ++ ls) (c == 10) ∷ cut [] cs
cut_word w [] c cs h e = cut_end w c cs e ∙ ap (λ l. word l (c == 10) ∷ cut [] cs) (sym (append-nil w))
cut_word w (l ∷ ls) c cs h e =
    cut_on w l (ls ++ c ∷ cs) h.0 ∙ cut_word (w ++ l ∷ []) ls c cs h.1 e ∙ ap (λ x. word x (c == 10) ∷ cut [] cs) (append_assoc w (l ∷ []) ls)

rest_word : (w ls : List ℕ) (c : ℕ) (cs : List ℕ) → IsClean ls → is_end c ≡ true → rest_of w (ls ++ c ∷ cs) ≡ rest_of [] cs
rest_word w [] c cs h e = rest_end w c cs e
rest_word w (l ∷ ls) c cs h e = rest_on w l (ls ++ c ∷ cs) h.0 ∙ rest_word (w ++ l ∷ []) ls c cs h.1 e

spell-cons : (w : Word) (ws : List Word) (r : List ℕ) → spell (w ∷ ws) ++ r ≡ w.letters ++ end_of w.last ∷ (spell ws ++ r)
spell-cons w ws r = append_assoc (spelled w) (spell ws) r ∙ append_assoc w.letters (end_of w.last ∷ []) (spell ws ++ r)

pub cut_spell : (ws : List Word) (r : List ℕ) → AreClean ws → cut [] (spell ws ++ r) ≡ ws ++ cut [] r
cut_spell [] r h = refl
cut_spell (w ∷ ws) r h =
    ap (λ l. cut [] l) (spell-cons w ws r) ∙ cut_word [] w.letters (end_of w.last) (spell ws ++ r) h.0 (end-is w.last).0 ∙
    (λ i. word w.letters ((end-is w.last).1 i) ∷ cut_spell ws r h.1 i)

pub rest_spell : (ws : List Word) (r : List ℕ) → AreClean ws → rest_of [] (spell ws ++ r) ≡ rest_of [] r
rest_spell [] r h = refl
rest_spell (w ∷ ws) r h =
    ap (λ l. rest_of [] l) (spell-cons w ws r) ∙ rest_word [] w.letters (end_of w.last) (spell ws ++ r) h.0 (end-is w.last).0 ∙ rest_spell ws r h.1

which-end : (c : ℕ) → is_end c ≡ true → end_of (c == 10) ≡ c
which-end c = grind arith

pub spell_cut : (w bytes : List ℕ) → spell (cut w bytes) ++ rest_of w bytes ≡ w ++ bytes
spell_cut w [] = sym (append-nil w)
spell_cut w (c ∷ cs) = by (is_end c) refl (spell_cut [] cs) (spell_cut (w ++ c ∷ []) cs)
  where
    by : (b : Bool) → is_end c ≡ b → spell (cut [] cs) ++ rest_of [] cs ≡ cs → spell (cut (w ++ c ∷ []) cs) ++ rest_of (w ++ c ∷ []) cs ≡ (w ++ c ∷ []) ++ cs →
        spell (cut w (c ∷ cs)) ++ rest_of w (c ∷ cs) ≡ w ++ c ∷ cs
    by true e h k =
        (λ i. spell (cut_end w c cs e i) ++ rest_end w c cs e i) ∙ spell-cons (word w (c == 10)) (cut [] cs) (rest_of [] cs) ∙
        (λ i. w ++ which-end c e i ∷ h i)
    by false e h k =
        (λ i. spell (cut_on w c cs e i) ++ rest_on w c cs e i) ∙ k ∙ append_assoc w (c ∷ []) cs

-- ---- clean words

abbrev pub AreDigits : List ℕ → Type 0
AreDigits [] = Unit {0}
AreDigits (c ∷ cs) = IsDigit c × AreDigits cs

digit-clean : (c : ℕ) → IsDigit c → is_end c ≡ false
digit-clean c h = let a : 48 ≤ c = h.0 in grind (arith, nat_tests)

digits-clean : (ds : List ℕ) → AreDigits ds → IsClean ds
digits-clean [] h = tt
digits-clean (d ∷ ds) h = (digit-clean d h.0, digits-clean ds h.1)

glyph-digit : (d : ℕ) → d < 10 → IsDigit (digit_glyph false d)
glyph-digit d h = grind (arith, nat_tests)

onto-digits : (k n : ℕ) (ds : List ℕ) → AreDigits ds → AreDigits (digits_onto k 10 false n ds)
onto-digits zero n ds h = h
onto-digits (suc k) n ds h =
    let g : IsDigit (digit_glyph false (n % 10)) = glyph-digit (n % 10) (omega arith) in
    elim (n / 10 == 0) as (λ b. AreDigits (if b then digit_glyph false (n % 10) ∷ ds else digits_onto k 10 false (n / 10) (digit_glyph false (n % 10) ∷ ds))) [
      | true ↦ (g, h)
      | false ↦ onto-digits k (n / 10) (digit_glyph false (n % 10) ∷ ds) (g, h)
    ]

pub decimal_digits : (n : ℕ) → AreDigits (decimal n)
unfolding digits
decimal_digits n = onto-digits 64 n [] tt

pub decimal_clean : (n : ℕ) → IsClean (decimal n)
decimal_clean n = digits-clean (decimal n) (decimal_digits n)

-- the words of each value of the part are clean
abbrev pub IsCleanPart : {A : Type 0} → Part A → Type 0
IsCleanPart {A} p = (a : A) → p.fits a → AreClean (p.words a)

pub clean_both : {A B : Type 0} (p : Part A) (q : A → Part B) → IsCleanPart p → ((a : A) → p.fits a → IsCleanPart (q a)) → IsCleanPart (both p q)
clean_both p q c d v f = are_clean-append (p.words v.0) ((q v.0).words v.1) (c v.0 f.0) (d v.0 f.0 v.1 f.1)

pub clean_turns : {A : Type 0} (p : ℕ → ℕ → Part A) (next : ℕ → A → ℕ) → ((c s : ℕ) → IsCleanPart (p c s)) → (count s : ℕ) → IsCleanPart (turns p next count s)
clean_turns p next c count s [] f = tt
clean_turns p next c count s (a ∷ xs) f =
    are_clean-append ((p (count - 1) s).words a) (turns_words p next (count - 1) (next s a) xs) (c (count - 1) s a f.1) (clean_turns p next c (count - 1) (next s a) xs f.2)

pub clean_until : {A : Type 0} (p : ℕ → Part A) (next : ℕ → A → ℕ) (last : Bool) → ((s : ℕ) → IsCleanPart (p s)) → (s : ℕ) → IsCleanPart (until p next last s)
clean_until p next last c s [] f = ((refl, tt), tt)
clean_until p next last c s (a ∷ xs) f =
    are_clean-append ((p s).words a) (until_words p next last (next s a) xs) (c s a f.0) (clean_until p next last c (next s a) xs f.1)

-- ---- lines

abbrev pub AreFilled : List (List (List ℕ)) → Type 0
AreFilled [] = Unit {0}
AreFilled ([] ∷ ls) = ⊥
AreFilled ((w ∷ ws) ∷ ls) = AreFilled ls

pub are_filled-append : (xs ys : List (List (List ℕ))) → AreFilled xs → AreFilled ys → AreFilled (xs ++ ys)
are_filled-append [] ys a b = b
are_filled-append ([] ∷ xs) ys a b = absurd a
are_filled-append ((w ∷ ws) ∷ xs) ys a b = are_filled-append xs ys a b

one-line : (w : List ℕ) (ws : List (List ℕ)) → line_count (marked (w ∷ ws)) ≡ 1
one-line w [] = refl
one-line w (v ∷ ws) = let h : line_count (marked (v ∷ ws)) ≡ 1 = one-line v ws in omega (arith, h)

no-line : (line : List (List ℕ)) (f : List Word) (x : Word) (t : List Word) → marked line ≡ f ++ x ∷ t → line_count f ≡ 0
no-line line [] x t e = refl
no-line [] (g ∷ f) x t e = cc
no-line (w ∷ []) (g ∷ []) x t e = cc
no-line (w ∷ []) (g ∷ h ∷ f) x t e = cc
no-line (w ∷ v ∷ ws) (g ∷ f) x t e =
    let a : word w false ≡ g = cc in
    let b : marked (v ∷ ws) ≡ f ++ x ∷ t = cc in
    ap (λ y. (if y.last then 1 else 0) + line_count f) (sym a) ∙ (let h : line_count f ≡ 0 = no-line (v ∷ ws) f x t b in omega (arith, h))

pub lines-counted : (ls : List (List (List ℕ))) → AreFilled ls → line_count (words_of ls) ≡ length ls
lines-counted [] f = refl
lines-counted ([] ∷ ls) f = absurd f
lines-counted ((w ∷ ws) ∷ ls) f =
    let h : line_count (words_of ls) ≡ length ls = lines-counted ls f in
    let k : line_count (marked (w ∷ ws)) ≡ 1 = one-line w ws in
    let j : line_count (marked (w ∷ ws) ++ words_of ls) ≡ line_count (marked (w ∷ ws)) + line_count (words_of ls) = line_count-append (marked (w ∷ ws)) (words_of ls) in
    omega (arith, h, k, j)

pub take-filled : (n : ℕ) (ls : List (List (List ℕ))) → AreFilled ls → AreFilled (take n ls)
take-filled zero ls f = tt
take-filled (suc n) [] f = tt
take-filled (suc n) ([] ∷ ls) f = absurd f
take-filled (suc n) ((w ∷ ws) ∷ ls) f = take-filled n ls f

-- words in front end so many lines, and begin another at most
pub front_lines : (ls : List (List (List ℕ))) (front more : List Word) → AreFilled ls → words_of ls ≡ front ++ more →
    (tail : List Word) × (front ≡ words_of (take (line_count front) ls) ++ tail) × (line_count front ≤ length ls)
front_lines [] [] more f e = ([], refl, omega arith)
front_lines [] (g ∷ front) more f e = cc
front_lines ([] ∷ ls) front more f e = absurd f
front_lines ((w ∷ ws) ∷ ls) front more f e = by (λ t b. front_lines ls t more f b) (split front more (marked (w ∷ ws)) (words_of ls) (sym e))
  where
    Rest : Type 0
    Rest = (t : List Word) → words_of ls ≡ t ++ more → (tail : List Word) × (t ≡ words_of (take (line_count t) ls) ++ tail) × (line_count t ≤ length ls)

    Goal : Type 0
    Goal = (tail : List Word) × (front ≡ words_of (take (line_count front) ((w ∷ ws) ∷ ls)) ++ tail) × (line_count front ≤ suc (length ls))

    over : Rest → (t : List Word) → front ≡ marked (w ∷ ws) ++ t → words_of ls ≡ t ++ more → Goal
    over r t a b =
        let k = r t b in
        let n : line_count front ≡ suc (line_count t) = ap line_count a ∙ line_count-append (marked (w ∷ ws)) t ∙ (let o : line_count (marked (w ∷ ws)) ≡ 1 = one-line w ws in omega (arith, o)) in (
          k.0,
          a ∙ ap (λ z. marked (w ∷ ws) ++ z) k.1 ∙ sym (append_assoc (marked (w ∷ ws)) (words_of (take (line_count t) ls)) k.0) ∙ ap (λ m. words_of (take m ((w ∷ ws) ∷ ls)) ++ k.0) (sym n),
          omega (arith, n, k.2),
        )

    within : Rest → (t : List Word) → marked (w ∷ ws) ≡ front ++ t → Goal
    within r [] a =
        let b : front ≡ marked (w ∷ ws) ++ [] = sym (append-nil front) ∙ sym a ∙ sym (append-nil (marked (w ∷ ws))) in
        over r [] b (cancel (marked (w ∷ ws)) (words_of ls) more (e ∙ ap (λ z. z ++ more) (b ∙ append-nil (marked (w ∷ ws)))))
    within r (x ∷ t) a =
        let n : line_count front ≡ 0 = no-line (w ∷ ws) front x t a in
        (front, ap (λ m. words_of (take m ((w ∷ ws) ∷ ls)) ++ front) (sym n), omega (arith, n))

    by : Rest → ((t : List Word) × (marked (w ∷ ws) ≡ front ++ t)) ⊎ ((t : List Word) × (front ≡ marked (w ∷ ws) ++ t) × (words_of ls ≡ t ++ more)) → Goal
    by r (inl l) = within r l.0 l.1
    by r (inr l) = over r l.0 l.1 l.2
