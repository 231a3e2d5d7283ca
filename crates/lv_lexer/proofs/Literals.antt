-- The number that the digits of a literal stand for.
use Rattle.std.proofs.Common.{◌≡◌, ℕ, zero, suc, ◌+◌, ◌*◌, ◌^◌, ◌<◌, ◌≤◌, Bool, true, false, ◌&&◌, if◌then◌else◌, ◌==◌, List, [], ◌∷◌, length, get_or, drop, refl, sym, ap, ◌∙◌, subst, arith, add-one, drop-cons}
use Rattle.std.specs.Prelude.{nat_lt}
use Rattle.std.proofs.lemmas.Bool.{false_from_ne_true, ltb-true, lt-ltb}
use Rattle.lv_ast.specs.Tokens.{digits_number, value_digit, free_digit, fits, based_base, based_digits}
use Rattle.lv_ast.specs.declared.tokens.Kind.TheVariants.{Based}

none : (f : ℕ → ℕ) (base a : ℕ) → digits_number f base a [] ≡ a
unfolding digits_number
none f base a = refl

abbrev pub next : (ℕ → ℕ) → ℕ → ℕ → ℕ → ℕ
next f base a c = if c == 95 then a else a * base + f c

cons : (f : ℕ → ℕ) (base a c : ℕ) (cs : List ℕ) → digits_number f base a (c ∷ cs) ≡ digits_number f base (next f base a c) cs
unfolding digits_number
cons f base a c cs = refl

pub digits_start : (f : ℕ → ℕ) (base : ℕ) (s : List ℕ) → digits_number f base 0 s ≡ digits_number f base 0 (drop 0 s)
digits_start f base s = refl

pub digits_more : (f : ℕ → ℕ) (base : ℕ) (s : List ℕ) (i a n : ℕ) → i < length s → digits_number f base 0 s ≡ digits_number f base a (drop i s) → n ≡ next f base a (get_or s i 0) → digits_number f base 0 s ≡ digits_number f base n (drop (i + 1) s)
digits_more f base s i a n h e k =
    rw add-one (e ∙ (ap (digits_number f base a) (drop-cons s i 0 h) ∙ (cons f base a (get_or s i 0) (drop (suc i) s) ∙ ap (λ b. digits_number f base b (drop (suc i) s)) (sym k))))

drop-all : (s : List ℕ) (i : ℕ) → length s ≤ i → drop i s ≡ []
drop-all [] zero h = refl
drop-all [] (suc i) h = refl
drop-all (c ∷ cs) zero h = absurd (omega (arith, h))
drop-all (c ∷ cs) (suc i) h = drop-all cs i (omega (arith, h))

pub digits_end : (f : ℕ → ℕ) (base : ℕ) (s : List ℕ) (i a : ℕ) → length s ≤ i → digits_number f base 0 s ≡ digits_number f base a (drop i s) → a < 2 ^ 128 → true ≡ nat_lt (digits_number f base 0 s) (2 ^ 128)
digits_end f base s i a h e k =
    let all : digits_number f base 0 s ≡ a = e ∙ (ap (digits_number f base a) (drop-all s i h) ∙ none f base a) in
    sym (lt-ltb _ _ (subst (λ n. n < 2 ^ 128) (sym all) k))

-- ---- a number that is too great stays so

times-grows : (a b : ℕ) → a ≤ a * suc b
times-grows a b = grind arith

grows-by : (f : ℕ → ℕ) (b a c : ℕ) → a ≤ next f (suc b) a c
grows-by f b a c = elim (c == 95) as (λ t. a ≤ (if t then a else a * suc b + f c)) [ true ↦ omega arith | false ↦ let h : a ≤ a * suc b = times-grows a b in omega (arith, h) ]

grows : (f : ℕ → ℕ) (b a : ℕ) (s : List ℕ) → a ≤ digits_number f (suc b) a s
grows f b a [] = rw none (omega arith)
grows f b a (c ∷ cs) =
    let h : a ≤ next f (suc b) a c = grows-by f b a c in
    let k : next f (suc b) a c ≤ digits_number f (suc b) (next f (suc b) a c) cs = grows f b (next f (suc b) a c) cs in
    rw cons (omega (arith, h, k))

next-zero : (f : ℕ → ℕ) (a c : ℕ) → a < 2 ^ 128 → f c < 2 ^ 128 → next f 0 a c < 2 ^ 128
next-zero f a c h k = elim (c == 95) as (λ t. (if t then a else a * 0 + f c) < 2 ^ 128) [ true ↦ h | false ↦ omega (arith, k) ]

pub digits_pass : (f : ℕ → ℕ) (base : ℕ) (s : List ℕ) (i a : ℕ) → i < length s → digits_number f base 0 s ≡ digits_number f base a (drop i s) → a < 2 ^ 128 → f (get_or s i 0) < 2 ^ 128 → (next f base a (get_or s i 0) < 2 ^ 128 → ⊥) → false ≡ nat_lt (digits_number f base 0 s) (2 ^ 128)
digits_pass f zero s i a h e k l small = absurd (small (next-zero f a (get_or s i 0) k l))
digits_pass f (suc b) s i a h e k l small =
    let n : ℕ = next f (suc b) a (get_or s i 0) in
    let all : digits_number f (suc b) 0 s ≡ digits_number f (suc b) n (drop (i + 1) s) = digits_more f (suc b) s i a n h e refl in
    let up : n ≤ digits_number f (suc b) n (drop (i + 1) s) = grows f b n (drop (i + 1) s) in
    sym (false_from_ne_true _ (λ t.
    let low : digits_number f (suc b) 0 s < 2 ^ 128 = ltb-true _ _ t in
    small (omega (arith, all, up, low))))

-- ---- the parts of a based token

pub based_parts : (s d : List ℕ) (b : ℕ) (v f : Bool) → b ≡ based_base s → d ≡ based_digits s →
    v ≡ nat_lt (digits_number value_digit b 0 d) (2 ^ 128) → f ≡ nat_lt (digits_number (free_digit b) b 0 d) (2 ^ 128) → (v && f) ≡ fits Based s
unfolding fits
based_parts s d b v f hb hd hv hf =
    subst (λ k. (v && f) ≡ (nat_lt (digits_number value_digit k 0 (based_digits s)) (2 ^ 128) && nat_lt (digits_number (free_digit k) k 0 (based_digits s)) (2 ^ 128))) hb
    (subst (λ l. (v && f) ≡ (nat_lt (digits_number value_digit b 0 l) (2 ^ 128) && nat_lt (digits_number (free_digit b) b 0 l) (2 ^ 128))) hd
    (ap (λ x. x && f) hv ∙ ap (λ y. nat_lt (digits_number value_digit b 0 d) (2 ^ 128) && y) hf))
