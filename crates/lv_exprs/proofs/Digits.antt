-- Digits in 128 bits.
use Rattle.std.proofs.Common.{◌≡◌, ℕ, suc, arith, ◌+◌, ◌*◌, ◌%◌, ◌^◌, ◌<◌, ◌≤◌, Bool, true, false, if◌then◌else◌, ◌==◌, List, [], ◌∷◌, drop, length, get_or, refl, ap, sym, ◌∙◌, drop-cons}
use Rattle.std.proofs.lemmas.Nat.{mul-mod_first}
use Rattle.std.proofs.Math.Nat.{mod-add-mod, mod-mod, mod-eq_of_lt}
use Rattle.std.proofs.Math.ListN.{drop_of_length-le}
use Rattle.std.proofs.lemmas.Bool.{eqb-true}
use Rattle.lv_ast.specs.Tokens.{is_free, digits_number}
use Rattle.lv_exprs.specs.Literals.{leads_free}

abbrev next : (ℕ → ℕ) → ℕ → ℕ → ℕ → ℕ
next f base a c = if c == 95 then a else a * base + f c

pub digits_none : (f : ℕ → ℕ) (base a : ℕ) → digits_number f base a [] ≡ a
unfolding digits_number
digits_none f base a = refl

pub digits_cons : (f : ℕ → ℕ) (base a c : ℕ) (cs : List ℕ) → digits_number f base a (c ∷ cs) ≡ digits_number f base (if c == 95 then a else a * base + f c) cs
unfolding digits_number
digits_cons f base a c cs = refl

-- a turn of the sum, from the number in 128 bits
turn_mod : (a b d : ℕ) → (a * b + d) % 2 ^ 128 ≡ (a % 2 ^ 128 * b % 2 ^ 128 + d) % 2 ^ 128
turn_mod a b d = sym (mod-add-mod (a * b) (2 ^ 128) d) ∙ ap (λ n. (n + d) % 2 ^ 128) (sym (mul-mod_first a b (2 ^ 128)))

turn_same : (p : Bool) (a b base d : ℕ) → a % 2 ^ 128 ≡ b % 2 ^ 128 → (if p then a else a * base + d) % 2 ^ 128 ≡ (if p then b else b * base + d) % 2 ^ 128
turn_same true a b base d h = h
turn_same false a b base d h = turn_mod a base d ∙ ap (λ n. (n * base % 2 ^ 128 + d) % 2 ^ 128) h ∙ sym (turn_mod b base d)

same_mod : (f : ℕ → ℕ) (base a b : ℕ) (cs : List ℕ) → a % 2 ^ 128 ≡ b % 2 ^ 128 → digits_number f base a cs % 2 ^ 128 ≡ digits_number f base b cs % 2 ^ 128
same_mod f base a b [] h = ap (λ n. n % 2 ^ 128) (digits_none f base a) ∙ h ∙ ap (λ n. n % 2 ^ 128) (sym (digits_none f base b))
same_mod f base a b (c ∷ cs) h =
    ap (λ n. n % 2 ^ 128) (digits_cons f base a c cs) ∙ same_mod f base (next f base a c) (next f base b c) cs (turn_same (c == 95) a b base (f c) h) ∙
    ap (λ n. n % 2 ^ 128) (sym (digits_cons f base b c cs))

at : (s : List ℕ) (i : ℕ) → i < length s → drop i s ≡ get_or s i 0 ∷ drop (i + 1) s
at s i h = let e : suc i ≡ i + 1 = omega arith in drop-cons s i 0 h ∙ ap (λ j. get_or s i 0 ∷ drop j s) e

same-byte : (c : ℕ) → c ≡ 95 → (c == 95) ≡ true
same-byte c e = ap (λ z. z == 95) e

other-byte : (c : ℕ) → (c ≡ 95 → ⊥) → (c == 95) ≡ false
other-byte c h = elim (c == 95) as (λ b. (c == 95) ≡ b → b ≡ false) [ true ↦ λ e. absurd (h (eqb-true c 95 e)) | false ↦ λ _. refl ] refl

-- one digit on
pub digit_on : (f : ℕ → ℕ) (base a n : ℕ) (s : List ℕ) (i : ℕ) → i < length s → (get_or s i 0 ≡ 95 → ⊥) → n ≡ (a * base % 2 ^ 128 + f (get_or s i 0)) % 2 ^ 128 →
    digits_number f base n (drop (i + 1) s) % 2 ^ 128 ≡ digits_number f base a (drop i s) % 2 ^ 128
digit_on f base a n s i h p e =
    let c : ℕ = get_or s i 0 in
    let m : n % 2 ^ 128 ≡ (a * base + f c) % 2 ^ 128 = ap (λ m. m % 2 ^ 128) e ∙ mod-mod (a * base % 2 ^ 128 + f c) (2 ^ 128) ∙ mod-add-mod (a * base) (2 ^ 128) (f c) in
    same_mod f base n (a * base + f c) (drop (i + 1) s) m ∙ ap (λ b. digits_number f base (if b then a else a * base + f c) (drop (i + 1) s) % 2 ^ 128) (sym (other-byte c p)) ∙
    ap (λ z. z % 2 ^ 128) (sym (digits_cons f base a c (drop (i + 1) s))) ∙ ap (λ z. digits_number f base a z % 2 ^ 128) (sym (at s i h))

pub passed_on : (f : ℕ → ℕ) (base a : ℕ) (s : List ℕ) (i : ℕ) → i < length s → get_or s i 0 ≡ 95 →
    digits_number f base a (drop (i + 1) s) % 2 ^ 128 ≡ digits_number f base a (drop i s) % 2 ^ 128
passed_on f base a s i h p =
    let c : ℕ = get_or s i 0 in
    ap (λ b. digits_number f base (if b then a else a * base + f c) (drop (i + 1) s) % 2 ^ 128) (sym (same-byte c p)) ∙
    ap (λ z. z % 2 ^ 128) (sym (digits_cons f base a c (drop (i + 1) s))) ∙ ap (λ z. digits_number f base a z % 2 ^ 128) (sym (at s i h))

pub digits_end : (f : ℕ → ℕ) (base a n : ℕ) (s : List ℕ) (i : ℕ) → length s ≤ i → digits_number f base n (drop i s) % 2 ^ 128 ≡ digits_number f base a s % 2 ^ 128 → n < 2 ^ 128 →
    n ≡ digits_number f base a s % 2 ^ 128
digits_end f base a n s i h e l =
    sym (mod-eq_of_lt {n = n} {m = 2 ^ 128} l) ∙ ap (λ z. z % 2 ^ 128) (sym (digits_none f base n)) ∙ ap (λ z. digits_number f base n z % 2 ^ 128) (sym (drop_of_length-le s h)) ∙ e

pub leads_on : (s : List ℕ) (i : ℕ) → i < length s → get_or s i 0 ≡ 95 → leads_free (drop (i + 1) s) ≡ leads_free (drop i s)
leads_on s i h p = ap (λ b. if b then leads_free (drop (i + 1) s) else is_free (get_or s i 0)) (sym (same-byte _ p)) ∙ ap leads_free (sym (at s i h))

pub leads_there : (s : List ℕ) (i : ℕ) → i < length s → (get_or s i 0 ≡ 95 → ⊥) → is_free (get_or s i 0) ≡ leads_free (drop i s)
leads_there s i h p = ap (λ b. if b then leads_free (drop (i + 1) s) else is_free (get_or s i 0)) (sym (other-byte _ p)) ∙ ap leads_free (sym (at s i h))
