-- Digits as they are written, one by one: what they are, and what number they are read as.
use Rattle.std.proofs.Common.{◌≡◌, ℕ, zero, suc, ◌+◌, ◌-◌, ◌*◌, ◌/◌, ◌%◌, ◌^◌, ◌<◌, ◌≤◌, nat_lt, Bool, true, false, not, ◌&&◌, if◌then◌else◌, ◌==◌, List, [], ◌∷◌, ◌++◌, refl, sym, ap, ◌∙◌, subst, arith, true≢false}
use Rattle.std.specs.List.{list_all}
use Rattle.std.proofs.lemmas.Bool.{eqb-true, eqb-false, ltb-true, ltb-false}
use Rattle.std.proofs.lemmas.List.Folds.{list_all-append}
use Rattle.std.proofs.lemmas.Nat.{div-add-mod'}
use Rattle.std.proofs.Math.Nat.{mod-lt, pow-suc, pow-zero, div-eq_of_lt, lt_of_mul-lt-mul_right}
use Rattle.lv_ast.specs.Tokens.{is_free, digit_value, digits_number, value_digit, free_digit}
use Rattle.lv_exprs.specs.Literals.{leads_free}
use Rattle.lv_print.specs.Literals.{glyph, digits}
use Rattle.lv_print.proofs.DigitRules.{digits-none, digits-more}

-- ---- what is computed of each number below a limit

abbrev pub check_below : (ℕ → Bool) → ℕ → Bool
check_below f zero = true
check_below f (suc n) = f n && check_below f n

pub both : (a b : Bool) → (a && b) ≡ true → (a ≡ true) × (b ≡ true)
both true b h = (refl, h)
both false b h = absurd (true≢false (sym h))

pub checked : (f : ℕ → Bool) (n d : ℕ) → check_below f n ≡ true → d < n → f d ≡ true
checked f zero d h l = absurd (omega (arith, l))
checked f (suc n) d h l =
    let q = both (f n) (check_below f n) h in
    elim (d == n) as (λ b. (d == n) ≡ b → f d ≡ true) [
      | true ↦ λ e. ap f (eqb-true d n e) ∙ q.0
      | false ↦ λ e. (let k : d ≡ n → ⊥ = eqb-false d n e in checked f n d q.1 (omega (arith, l, k)))
    ] refl

-- of a digit that is written: it is read as itself, and it is no letter of a name where it is decimal
abbrev test : ℕ → Bool
test d = (digit_value (glyph d) == d) && (not (glyph d == 95) && not (is_free (glyph d)))

glyph-test : (d : ℕ) → d < 16 → test d ≡ true
unfolding digit_value is_free
glyph-test d h = checked test 16 d refl h

not-true : (b : Bool) → not b ≡ true → b ≡ false
not-true true h = absurd (true≢false (sym h))
not-true false h = refl

pub glyph-passed : (d : ℕ) → d < 16 → (glyph d == 95) ≡ false
glyph-passed d h = not-true _ (both _ _ (both _ _ (glyph-test d h)).1).0

pub glyph-free : (d : ℕ) → d < 16 → is_free (glyph d) ≡ false
glyph-free d h = not-true _ (both _ _ (both _ _ (glyph-test d h)).1).1

glyph-digit : (d : ℕ) → d < 16 → digit_value (glyph d) ≡ d
glyph-digit d h = eqb-true _ _ (both _ _ (glyph-test d h)).0

-- ---- numbers

pub number_snoc : (f : ℕ → ℕ) (base a c : ℕ) (cs : List ℕ) → (c == 95) ≡ false → digits_number f base a (cs ++ (c ∷ [])) ≡ digits_number f base a cs * base + f c
unfolding digits_number
number_snoc f base a c [] h = ap (λ b. if b then a else a * base + f c) h
number_snoc f base a c (x ∷ cs) h = number_snoc f base (if x == 95 then a else a * base + f x) c cs h

value-digit : (d : ℕ) → d < 16 → value_digit (glyph d) ≡ d
value-digit d h = ap (λ b. if b then 0 else digit_value (glyph d)) (glyph-free d h) ∙ glyph-digit d h

wild-digit : (base d : ℕ) → d < 16 → free_digit base (glyph d) ≡ 0
wild-digit base d h = ap (λ b. if b then base - 1 else 0) (glyph-free d h)

abbrev before : ℕ → ℕ → ℕ → List ℕ
before base k n = if nat_lt n base then [] else digits base k (n / base)

last : (base k n : ℕ) → digits base (suc k) n ≡ before base k n ++ (glyph (n % base) ∷ [])
last base k n = (let e : suc k - 1 ≡ k = omega arith in digits-more base (suc k) n (omega arith) ∙ ap (λ j. before base j n ++ (glyph (n % base) ∷ [])) e)

more-than-one : (base k n : ℕ) → base ≤ n → n < base ^ suc k → 1 ≤ k
more-than-one base zero n l h = (let p : base ^ suc zero ≡ base ^ zero * base = pow-suc base zero in let q : base ^ zero ≡ 1 = pow-zero base in
    let r : base ^ zero * base ≡ 1 * base = ap (λ z. z * base) q in absurd (omega (arith, l, h, p, r)))
more-than-one base (suc k) n l h = omega arith

all-below : (f : ℕ → Bool) (n : ℕ) → ((d : ℕ) → d < n → f d ≡ true) → check_below f n ≡ true
all-below f zero h = refl
all-below f (suc n) h = ap (λ b. b && check_below f n) (h n (omega arith)) ∙ all-below f n (λ d l. h d (omega (arith, l)))

check-plain : (base : ℕ) → base ≤ 16 → check_below (λ d. not ((glyph d == 95)) && not (is_free (glyph d))) base ≡ true
check-plain base h = all-below _ base (λ d l.
    ap (λ b. not b && not (is_free (glyph d))) (glyph-passed d (omega (arith, h, l))) ∙ ap not (glyph-free d (omega (arith, h, l))))

div-less : (base k n : ℕ) → 2 ≤ base → n < base ^ suc k → n / base < base ^ k
div-less base k n low h =
    let e : n / base * base + n % base ≡ n = div-add-mod' n base in
    let p : base ^ suc k ≡ base ^ k * base = pow-suc base k in
    lt_of_mul-lt-mul_right base {m = n / base} {n = base ^ k} (omega (arith, e, p, h))

pub digits_value : (base k n : ℕ) → 2 ≤ base → base ≤ 16 → 1 ≤ k → n < base ^ k → digits_number value_digit base 0 (digits base k n) ≡ n
unfolding digits_number
digits_value base zero n low high one h = absurd (omega (arith, one))
digits_value base (suc k) n low high one h =
    let r : n % base < base = mod-lt n {m = base} (omega (arith, low)) in
    let small : n % base < 16 = omega (arith, r, high) in
    let e : n / base * base + n % base ≡ n = div-add-mod' n base in
    let step : digits_number value_digit base 0 (digits base (suc k) n) ≡ digits_number value_digit base 0 (before base k n) * base + n % base =
    ap (digits_number value_digit base 0) (last base k n) ∙ number_snoc value_digit base 0 (glyph (n % base)) (before base k n) (glyph-passed (n % base) small) ∙
    ap (λ z. digits_number value_digit base 0 (before base k n) * base + z) (value-digit (n % base) small) in
    let inner : digits_number value_digit base 0 (before base k n) ≡ n / base =
    elim (nat_lt n base) as (λ b. nat_lt n base ≡ b → digits_number value_digit base 0 (if b then [] else digits base k (n / base)) ≡ n / base) [
      | true ↦ λ t. sym (div-eq_of_lt {n = n} {m = base} (ltb-true n base t))
      | false ↦ λ t. digits_value base k (n / base) low high (more-than-one base k n (ltb-false n base t) h) (div-less base k n low h)
    ] refl in
    step ∙ ap (λ z. z * base + n % base) inner ∙ e

pub digits_wild : (base k n : ℕ) → 2 ≤ base → base ≤ 16 → digits_number (free_digit base) base 0 (digits base k n) ≡ 0
unfolding digits_number
digits_wild base zero n low high = ap (digits_number (free_digit base) base 0) (digits-none base 0 n refl)
digits_wild base (suc k) n low high =
    let r : n % base < base = mod-lt n {m = base} (omega (arith, low)) in
    let small : n % base < 16 = omega (arith, r, high) in
    let inner : digits_number (free_digit base) base 0 (before base k n) ≡ 0 =
    elim (nat_lt n base) as (λ b. digits_number (free_digit base) base 0 (if b then [] else digits base k (n / base)) ≡ 0) [ true ↦ refl | false ↦ digits_wild base k (n / base) low high ] in
    ap (digits_number (free_digit base) base 0) (last base k n) ∙ number_snoc (free_digit base) base 0 (glyph (n % base)) (before base k n) (glyph-passed (n % base) small) ∙
    ap (λ z. z * base + free_digit base (glyph (n % base))) inner ∙ ap (λ z. 0 * base + z) (wild-digit base (n % base) small) ∙ (omega arith)

-- ---- a test that each digit passes

pub digits_all : (p : ℕ → Bool) (base k n : ℕ) → 2 ≤ base → check_below (λ d. p (glyph d)) base ≡ true → list_all p (digits base k n) ≡ true
digits_all p base zero n low h = ap (list_all p) (digits-none base 0 n refl)
digits_all p base (suc k) n low h =
    let r : n % base < base = mod-lt n {m = base} (omega (arith, low)) in
    let inner : list_all p (before base k n) ≡ true = elim (nat_lt n base) as (λ b. list_all p (if b then [] else digits base k (n / base)) ≡ true) [
      | true ↦ refl
      | false ↦ digits_all p base
          k (n / base) low h
    ] in
    ap (list_all p) (last base k n) ∙ list_all-append p (before base k n) (glyph (n % base) ∷ []) ∙ ap (λ z. z && (p (glyph (n % base)) && true)) inner ∙
    ap (λ z. z && true) (checked (λ d. p (glyph d)) base (n % base) h r)

pub record HasFirst (s : List ℕ) : Type 0 where
  pub first : ℕ
  pub others : List ℕ
  pub is : s ≡ first ∷ others

pub snoc_some : (s : List ℕ) (c : ℕ) → HasFirst (s ++ (c ∷ []))
snoc_some [] c = record { first = c; others = []; is = refl }
snoc_some (x ∷ s) c = record { first = x; others = s ++ (c ∷ []); is = refl }

pub digits_some : (base k n : ℕ) → 1 ≤ k → HasFirst (digits base k n)
digits_some base zero n h = absurd (omega (arith, h))
digits_some base (suc k) n h = subst HasFirst (sym (last base k n)) (snoc_some (before base k n) (glyph (n % base)))

pub digits_leads : (base k n : ℕ) → 2 ≤ base → base ≤ 16 → 1 ≤ k → leads_free (digits base k n) ≡ false
digits_leads base k n low high h =
    let all : list_all (λ c. not (c == 95) && not (is_free c)) (digits base k n) ≡ true = digits_all _ base k n low (check-plain base high) in
    let f = digits_some base k n h in
    let here = both _ _ (both _ _ (ap (list_all (λ c. not (c == 95) && not (is_free c))) (sym f.is) ∙ all)).0 in
    ap leads_free f.is ∙ ap (λ b. if b then leads_free f.others else is_free f.first) (not-true _ here.0) ∙ not-true _ here.1
