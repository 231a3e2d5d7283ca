-- Digits one by one, as code writes them.
use Rattle.std.proofs.Common.{◌≡◌, ℕ, zero, suc, ◌+◌, ◌-◌, ◌/◌, ◌%◌, ◌<◌, ◌≤◌, nat_lt, if◌then◌else◌, Bool, true, false, List, [], ◌∷◌, ◌++◌, refl, sym, ap, ◌∙◌, arith, append_assoc, append-nil}
use Rattle.std.proofs.lemmas.Bool.{lt-ltb, le-ltb}
use Rattle.lv_print.specs.Literals.{glyph, digits, free_glyph, free_digits, first_from}

pub digits-none : (base k n : ℕ) → k ≡ 0 → digits base k n ≡ []
unfolding digits
digits-none base zero n h = refl
digits-none base (suc k) n h = absurd (omega (arith, h))

pub digits-more : (base k n : ℕ) → 0 < k → digits base k n ≡ (if nat_lt n base then [] else digits base (k - 1) (n / base)) ++ (glyph (n % base) ∷ [])
unfolding digits
digits-more base zero n h = absurd (omega (arith, h))
digits-more base (suc k) n h = let e : suc k - 1 ≡ k = omega arith in rw e refl

pub free_digits-none : (k v w : ℕ) → k ≡ 0 → free_digits k v w ≡ []
unfolding free_digits
free_digits-none zero v w h = refl
free_digits-none (suc k) v w h = absurd (omega (arith, h))

pub free_digits-more : (k v w : ℕ) → 0 < k → free_digits k v w ≡ free_digits (k - 1) (v / 2) (w / 2) ++ (free_glyph v w ∷ [])
unfolding free_digits
free_digits-more zero v w h = absurd (omega (arith, h))
free_digits-more (suc k) v w h = let e : suc k - 1 ≡ k = omega arith in rw e refl

pub first-none : (f : ℕ → Bool) (n k : ℕ) → n ≡ 0 → first_from f n k ≡ k
unfolding first_from
first-none f zero k h = refl
first-none f (suc n) k h = absurd (omega (arith, h))

pub first-more : (f : ℕ → Bool) (n k : ℕ) → 0 < n → first_from f n k ≡ (if f k then k else first_from f (n - 1) (k + 1))
unfolding first_from
first-more f zero k h = absurd (omega (arith, h))
first-more f (suc n) k h = let e : suc n - 1 ≡ n = omega arith in rw e refl

-- ---- as code pushes them

pub digits-end : (base k n : ℕ) (b : List ℕ) → k ≡ 0 → b ≡ b ++ digits base k n
digits-end base k n b h = sym (ap (λ z. b ++ z) (digits-none base k n h) ∙ append-nil b)

pub digits-last : (base k n : ℕ) (b c p q : List ℕ) (g : ℕ) → 0 < k → n < base → c ≡ b → g ≡ glyph (n % base) → p ≡ c ++ (g ∷ []) → q ≡ p → q ≡ b ++ digits base k n
digits-last base k n b c p q g h l e f i j =
    let t : nat_lt n base ≡ true = lt-ltb n base l in
    let m : digits base k n ≡ glyph (n % base) ∷ [] = digits-more base k n h ∙ ap (λ z. (if z then [] else digits base (k - 1) (n / base)) ++ (glyph (n % base) ∷ [])) t in
    j ∙ i ∙ ap (λ z. z ++ (g ∷ [])) e ∙ ap (λ z. b ++ (z ∷ [])) f ∙ ap (λ z. b ++ z) (sym m)

pub digits-before : (base k n : ℕ) (b c p q : List ℕ) (g : ℕ) → 0 < k → base ≤ n → c ≡ b ++ digits base (k - 1) (n / base) → g ≡ glyph (n % base) → p ≡ c ++ (g ∷ []) → q ≡ p → q ≡ b ++ digits base k n
digits-before base k n b c p q g h l e f i j =
    let t : nat_lt n base ≡ false = le-ltb n base l in
    let m : digits base k n ≡ digits base (k - 1) (n / base) ++ (glyph (n % base) ∷ []) = digits-more base k n h ∙
    ap (λ z. (if z then [] else digits base (k - 1) (n / base)) ++ (glyph (n % base) ∷ [])) t in
    j ∙ i ∙ ap (λ z. z ++ (g ∷ [])) e ∙ append_assoc b (digits base (k - 1) (n / base)) (g ∷ []) ∙ ap (λ z. b ++ (digits base (k - 1) (n / base) ++ (z ∷ []))) f ∙ ap (λ z. b ++ z) (sym m)

pub free-end : (k v w : ℕ) (b : List ℕ) → k ≡ 0 → b ≡ b ++ free_digits k v w
free-end k v w b h = sym (ap (λ z. b ++ z) (free_digits-none k v w h) ∙ append-nil b)

pub free-before : (k v w : ℕ) (b c p : List ℕ) (g : ℕ) → 0 < k → c ≡ b ++ free_digits (k - 1) (v / 2) (w / 2) → g ≡ free_glyph v w → p ≡ c ++ (g ∷ []) → p ≡ b ++ free_digits k v w
free-before k v w b c p g h e f i =
    i ∙ ap (λ z. z ++ (g ∷ [])) e ∙ append_assoc b (free_digits (k - 1) (v / 2) (w / 2)) (g ∷ []) ∙ ap (λ z. b ++ (free_digits (k - 1) (v / 2) (w / 2) ++ (z ∷ []))) f ∙
    ap (λ z. b ++ z) (sym (free_digits-more k v w h))

pub first-pass : (f : ℕ → Bool) (n k x : ℕ) → 0 < n → f k ≡ true → x ≡ first_from f n k → k ≡ x
first-pass f n k x h e i = sym (i ∙ first-more f n k h ∙ ap (λ b. if b then k else first_from f (n - 1) (k + 1)) e)

pub first-fail : (f : ℕ → Bool) (n m k x : ℕ) → 0 < n → m ≡ n - 1 → f k ≡ false → x ≡ first_from f n k → x ≡ first_from f m (k + 1)
first-fail f n m k x h j e i = i ∙ first-more f n k h ∙ ap (λ b. if b then k else first_from f (n - 1) (k + 1)) e ∙ ap (λ l. first_from f l (k + 1)) (sym j)

pub ruleset digit_rules = (digits-none, digits-more, free_digits-none, free_digits-more)
