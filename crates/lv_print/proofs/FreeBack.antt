-- Binary digits with free ones among them, as they are written and read.
use Rattle.std.proofs.Common.{◌≡◌, ℕ, zero, suc, ◌+◌, ◌-◌, ◌*◌, ◌/◌, ◌%◌, ◌^◌, ◌<◌, ◌≤◌, nat_lt, Bool, true, false, not, ◌&&◌, if◌then◌else◌, ◌==◌, [], ◌∷◌, ◌++◌, refl, sym, ap, ◌∙◌, subst, arith, true≢false}
use Rattle.std.specs.List.{list_all}
use Rattle.std.proofs.lemmas.Bool.{eqb-true, eqb-false, ltb-true, ltb-false}
use Rattle.std.proofs.lemmas.List.Folds.{list_all-append}
use Rattle.std.proofs.lemmas.Nat.{div-add-mod', mod-pow-add}
use Rattle.std.proofs.lemmas.Nat.Bits.{bit_at_lowest, bit_at-suc, bit_at_above, bit_at_cat_low}
use Rattle.std.proofs.Math.Pow.{pow_pos}
use Rattle.std.proofs.Math.Nat.{mod-lt, pow-suc, div-eq_of_lt, div-div-eq-div-mul, mod-one, div-one}
use Rattle.lv_ast.specs.Tokens.{is_free, digit_value, digits_number, value_digit, free_digit}
use Rattle.lv_exprs.specs.Literals.{leads_free}
use Rattle.lv_print.specs.Literals.{free_glyph, free_digits, gives_back, first_from, fewest}
use Rattle.lv_print.proofs.DigitRules.{free_digits-none, free_digits-more, first-none, first-more}
use Rattle.lv_print.proofs.DigitBack.{both, check_below, checked, number_snoc}

-- no bit is set in both
pub record Apart (value wild : ℕ) : Type 0 where
  pub bits : (i : ℕ) → (wild / 2 ^ i) % 2 ≡ 1 → (value / 2 ^ i) % 2 ≡ 0

pub apart_half : (v w : ℕ) → Apart v w → Apart (v / 2) (w / 2)
apart_half v w h = record { bits = λ i e. sym (bit_at-suc v i) ∙ h.bits (suc i) (bit_at-suc w i ∙ e) }

pub apart_low : (v w : ℕ) → Apart v w → w % 2 ≡ 1 → v % 2 ≡ 0
apart_low v w h e = sym (bit_at_lowest v) ∙ h.bits 0 (bit_at_lowest w ∙ e)

zero-one : (a : ℕ) → a ≡ 0 → a ≡ 1 → ⊥
zero-one a e f = omega (arith, e, f)

power-some : (n : ℕ) → 0 < 2 ^ n
power-some n = pow_pos n

mod-low : (a n i : ℕ) → i < n → ((a % 2 ^ n) / 2 ^ i) % 2 ≡ (a / 2 ^ i) % 2
mod-low a n i h = sym (bit_at_cat_low (a / 2 ^ n) n (a % 2 ^ n) i h) ∙ ap (λ z. (z / 2 ^ i) % 2) (div-add-mod' a (2 ^ n))

cut-bits : (n a b : ℕ) → Apart a b → (i : ℕ) → ((b % 2 ^ n) / 2 ^ i) % 2 ≡ 1 → ((a % 2 ^ n) / 2 ^ i) % 2 ≡ 0
cut-bits n a b h i =
    elim (nat_lt i n) as (λ t. nat_lt i n ≡ t → ((b % 2 ^ n) / 2 ^ i) % 2 ≡ 1 → ((a % 2 ^ n) / 2 ^ i) % 2 ≡ 0) [
      | true ↦ λ t e. mod-low a n i (ltb-true i n t) ∙ h.bits i (sym (mod-low b n i (ltb-true i n t)) ∙ e)
      | false ↦ λ t e. absurd (zero-one _ (bit_at_above (b % 2 ^ n) n i (mod-lt b {m = 2 ^ n} (power-some n)) (ltb-false i n t)) e)
    ] refl

pub apart_cut : (n a b : ℕ) → Apart a b → Apart (a % 2 ^ n) (b % 2 ^ n)
apart_cut n a b h = record { bits = cut-bits n a b h }

-- ---- one digit

check-bit : (f : ℕ → Bool) → check_below (λ b. f (48 + b)) 2 ≡ true → (v : ℕ) → f (48 + v % 2) ≡ true
check-bit f h v = checked (λ b. f (48 + b)) 2 (v % 2) h (mod-lt v {m = 2} (omega arith))

not-true : (b : Bool) → not b ≡ true → b ≡ false
not-true true h = absurd (true≢false (sym h))
not-true false h = refl

free-passed : (v w : ℕ) → (free_glyph v w == 95) ≡ false
free-passed v w = elim (w % 2 == 1) as (λ b. ((if b then 63 else 48 + v % 2) == 95) ≡ false) [ true ↦ refl | false ↦ not-true _ (check-bit (λ c. not (c == 95)) refl v) ]

bit-free : (v : ℕ) → is_free (48 + v % 2) ≡ false
unfolding is_free
bit-free v = not-true _ (check-bit (λ c. not (is_free c)) refl v)

free-is : (v w : ℕ) → is_free (free_glyph v w) ≡ (w % 2 == 1)
unfolding is_free
free-is v w = elim (w % 2 == 1) as (λ b. is_free (if b then 63 else 48 + v % 2) ≡ b) [ true ↦ refl | false ↦ bit-free v ]

same-digit : (v : ℕ) → digit_value (48 + v % 2) ≡ v % 2
unfolding digit_value
same-digit v = eqb-true _ _ (checked (λ b. digit_value (48 + b) == b) 2 (v % 2) refl (mod-lt v {m = 2} (omega arith)))

value-bit : (v w : ℕ) → Apart v w → value_digit (free_glyph v w) ≡ v % 2
unfolding is_free
value-bit v w h =
    elim (w % 2 == 1) as (λ b. (w % 2 == 1) ≡ b → (if is_free (if b then 63 else 48 + v % 2) then 0 else digit_value (if b then 63 else 48 + v % 2)) ≡ v % 2) [
      | true ↦ λ e. sym (apart_low v w h (eqb-true _ _ e))
      | false ↦ λ e. ap (λ b. if b then 0 else digit_value (48 + v % 2)) (bit-free v) ∙ same-digit v
    ] refl

wild-bit : (v w : ℕ) → free_digit 2 (free_glyph v w) ≡ w % 2
wild-bit v w =
    ap (λ b. if b then 2 - 1 else 0) (free-is v w) ∙
    elim (w % 2 == 1) as (λ b. (w % 2 == 1) ≡ b → (if b then 2 - 1 else 0) ≡ w % 2) [
      | true ↦ λ e. sym (eqb-true _ _ e)
      | false ↦ λ e. (let n : w % 2 ≡ 1 → ⊥ = eqb-false _ _ e in let l : w % 2 < 2 = mod-lt w {m = 2} (omega arith) in omega (arith, n, l))
    ] refl

-- ---- all digits

step : (k v w : ℕ) → free_digits (suc k) v w ≡ free_digits k (v / 2) (w / 2) ++ (free_glyph v w ∷ [])
step k v w = (let e : suc k - 1 ≡ k = omega arith in free_digits-more (suc k) v w (omega arith) ∙ ap (λ j. free_digits j (v / 2) (w / 2) ++ (free_glyph v w ∷ [])) e)

mod-step : (k v : ℕ) → ((v / 2) % 2 ^ k) * 2 + v % 2 ≡ v % 2 ^ suc k
mod-step k v = sym (mod-pow-add v k 1) ∙ (let e : k + 1 ≡ suc k = omega arith in ap (λ j. v % 2 ^ j) e)

pub free_value : (k v w : ℕ) → Apart v w → digits_number value_digit 2 0 (free_digits k v w) ≡ v % 2 ^ k
unfolding digits_number
free_value zero v w h = ap (digits_number value_digit 2 0) (free_digits-none 0 v w refl) ∙ sym (mod-one v)
free_value (suc k) v w h =
    ap (digits_number value_digit 2 0) (step k v w) ∙ number_snoc value_digit 2 0 (free_glyph v w) (free_digits k (v / 2) (w / 2)) (free-passed v w) ∙
    ap (λ z. z * 2 + value_digit (free_glyph v w)) (free_value k (v / 2) (w / 2) (apart_half v w h)) ∙ ap (λ z. ((v / 2) % 2 ^ k) * 2 + z) (value-bit v w h) ∙ mod-step k v

onward : (a p q x b : ℕ) → q ≡ p * 2 → (a * p + x) * 2 + b ≡ a * q + (x * 2 + b)
onward a p q x b e = ap (λ z. (a * p + x) * 2 + b) e ∙ (let f : a * q ≡ a * (p * 2) = ap (λ z. a * z) e in omega (arith, f))

pub free_wild : (k a v w : ℕ) → digits_number (free_digit 2) 2 a (free_digits k v w) ≡ a * 2 ^ k + w % 2 ^ k
unfolding digits_number
free_wild zero a v w = ap (digits_number (free_digit 2) 2 a) (free_digits-none 0 v w refl) ∙ (let e : w % 1 ≡ 0 = mod-one w in omega (arith, e))
free_wild (suc k) a v w =
    ap (digits_number (free_digit 2) 2 a) (step k v w) ∙ number_snoc (free_digit 2) 2 a (free_glyph v w) (free_digits k (v / 2) (w / 2)) (free-passed v w) ∙
    ap (λ z. z * 2 + free_digit 2 (free_glyph v w)) (free_wild k a (v / 2) (w / 2)) ∙ ap (λ z. (a * 2 ^ k + (w / 2) % 2 ^ k) * 2 + z) (wild-bit v w) ∙
    onward a (2 ^ k) (2 ^ suc k) ((w / 2) % 2 ^ k) (w % 2) (pow-suc 2 k) ∙ ap (λ z. a * 2 ^ suc k + z) (mod-step k w)

half-more : (k v : ℕ) → v / 2 / 2 ^ k ≡ v / 2 ^ suc k
half-more k v = div-div-eq-div-mul v 2 (2 ^ k) ∙ (let p : 2 ^ suc k ≡ 2 ^ k * 2 = pow-suc 2 k in let e : 2 * 2 ^ k ≡ 2 ^ suc k = omega (arith, p) in ap (λ z. v / z) e)

pub free_first : (k v w : ℕ) → free_digits (suc k) v w ≡ free_glyph (v / 2 ^ k) (w / 2 ^ k) ∷ free_digits k v w
free_first zero v w =
    step 0 v w ∙ ap (λ z. z ++ (free_glyph v w ∷ [])) (free_digits-none 0 (v / 2) (w / 2) refl) ∙ ap (λ z. free_glyph z w ∷ []) (sym (div-one v)) ∙
    ap (λ z. free_glyph (v / 1) z ∷ []) (sym (div-one w)) ∙
    ap (λ z. free_glyph (v / 1) (w / 1) ∷ z) (sym (free_digits-none 0 v w refl))
free_first (suc k) v w =
    step (suc k) v w ∙ ap (λ z. z ++ (free_glyph v w ∷ [])) (free_first k (v / 2) (w / 2)) ∙ ap (λ z. free_glyph (v / 2 / 2 ^ k) (w / 2 / 2 ^ k) ∷ z) (sym (step k v w)) ∙
    ap (λ z. free_glyph z (w / 2 / 2 ^ k) ∷ free_digits (suc k) v w) (half-more k v) ∙ ap (λ z. free_glyph (v / 2 ^ suc k) z ∷ free_digits (suc k) v w) (half-more k w)

pub free_leads : (k v w : ℕ) → leads_free (free_digits (suc k) v w) ≡ ((w / 2 ^ k) % 2 == 1)
free_leads k v w =
    ap leads_free (free_first k v w) ∙ ap (λ b. if b then leads_free (free_digits k v w) else is_free (free_glyph (v / 2 ^ k) (w / 2 ^ k))) (free-passed (v / 2 ^ k) (w / 2 ^ k)) ∙
    free-is (v / 2 ^ k) (w / 2 ^ k)

free-char : (p : ℕ → Bool) → p 63 ≡ true → check_below (λ b. p (48 + b)) 2 ≡ true → (v w : ℕ) → p (free_glyph v w) ≡ true
free-char p f h v w = elim (w % 2 == 1) as (λ b. p (if b then 63 else 48 + v % 2) ≡ true) [ true ↦ f | false ↦ check-bit p h v ]

pub free_all : (p : ℕ → Bool) → p 63 ≡ true → check_below (λ b. p (48 + b)) 2 ≡ true → (k v w : ℕ) → list_all p (free_digits k v w) ≡ true
free_all p f h zero v w = ap (list_all p) (free_digits-none 0 v w refl)
free_all p f h (suc k) v w =
    ap (list_all p) (step k v w) ∙ list_all-append p (free_digits k (v / 2) (w / 2)) (free_glyph v w ∷ []) ∙ ap (λ z. z && (p (free_glyph v w) && true)) (free_all p f h k (v / 2) (w / 2)) ∙
    ap (λ z. z && true) (free-char p f h v w)

-- ---- the least number that passes

pub record IsFirst (f : ℕ → Bool) (k m x : ℕ) : Type 0 where
  pub passes : f x ≡ true
  pub least : k ≤ x
  pub most : x ≤ m

first-is : (f : ℕ → Bool) (n k m : ℕ) → k ≤ m → m ≤ k + n → f m ≡ true → IsFirst f k m (first_from f n k)
first-is f zero k m a b h =
    let e : m ≡ k = omega (arith, a, b) in
    subst (IsFirst f k m) (sym (first-none f 0 k refl)) (record { passes = subst (λ z. f z ≡ true) e h; least = omega arith; most = a })
first-is f (suc n) k m a b h =
    elim (f k) as (λ t. f k ≡ t → IsFirst f k m (first_from f (suc n) k)) [
      | true ↦ λ e. subst (IsFirst f k m) (sym (first-more f (suc n) k (omega arith) ∙ ap (λ t. if t then k else first_from f (suc n - 1) (k + 1)) e)) (record {
        passes = e;
        least = omega arith;
        most = a;
      })
      | false ↦ λ e.
          let other : k ≡ m → ⊥ = λ q. true≢false (sym h ∙ (ap f (sym q) ∙ e)) in
          let j : suc n - 1 ≡ n = omega arith in
          let i : IsFirst f (k + 1) m (first_from f n (k + 1)) = first-is f n (k + 1) m (omega (arith, a, other)) (omega (arith, b)) h in
          let l : k + 1 ≤ first_from f n (k + 1) = i.least in
          subst (IsFirst f k m) (sym (first-more f (suc n) k (omega arith) ∙ ap (λ t. if t then k else first_from f (suc n - 1) (k + 1)) e ∙ ap (λ z. first_from f z (k + 1)) j))
          (record { passes = i.passes; least = omega (arith, l); most = i.most })
    ] refl

last-gives : (width v w : ℕ) → v < 2 ^ width → w < 2 ^ width → gives_back width v w width ≡ true
unfolding gives_back
last-gives width v w a b =
    ap (λ z. (z == 0) && (w / 2 ^ width == (if (w / 2 ^ (width - 1)) % 2 == 1 then (2 ^ width - 1) / 2 ^ width else 0))) (div-eq_of_lt {n = v} {m = 2 ^ width} a) ∙
    ap (λ z. z == (if (w / 2 ^ (width - 1)) % 2 == 1 then (2 ^ width - 1) / 2 ^ width else 0)) (div-eq_of_lt {n = w} {m = 2 ^ width} b) ∙
    (let p : 0 < 2 ^ width = power-some width in
    let e : (2 ^ width - 1) / 2 ^ width ≡ 0 = div-eq_of_lt {n = 2 ^ width - 1} {m = 2 ^ width} (omega (arith, p)) in
    ap (λ z. 0 == (if (w / 2 ^ (width - 1)) % 2 == 1 then z else 0)) e ∙
    elim ((w / 2 ^ (width - 1)) % 2 == 1) as (λ b. (0 == (if b then 0 else 0)) ≡ true) [ true ↦ refl | false ↦ refl ])

pub fewest_is : (width v w : ℕ) → 1 ≤ width → width ≤ 128 → v < 2 ^ width → w < 2 ^ width → IsFirst (gives_back width v w) 1 width (fewest width v w)
fewest_is width v w a b c d = first-is (gives_back width v w) 127 1 width a (omega (arith, b)) (last-gives width v w c d)

pub record GivesDigits (width v w k : ℕ) : Type 0 where
  pub value : v / 2 ^ k ≡ 0
  pub wild : w / 2 ^ k ≡ (if (w / 2 ^ (k - 1)) % 2 == 1 then (2 ^ width - 1) / 2 ^ k else 0)

pub gives_digits : (width v w k : ℕ) → gives_back width v w k ≡ true → GivesDigits width v w k
unfolding gives_back
gives_digits width v w k h = let q = both _ _ h in record { value = eqb-true _ _ q.0; wild = eqb-true _ _ q.1 }
