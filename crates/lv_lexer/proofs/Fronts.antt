-- The longest front of bytes of a class, as a loop counts it.
use Rattle.std.proofs.Common.{◌≡◌, ℕ, suc, ◌+◌, ◌-◌, ◌<◌, ◌≤◌, Bool, true, false, List, [], ◌∷◌, length, get_or, drop, refl, ap, ◌∙◌, arith, add-one, drop-cons, length-drop}
use Rattle.lv_lexer.specs.Fronts.{front_length}

pub front-none : (p : ℕ → Bool) → front_length p [] ≡ 0
unfolding front_length
front-none p = refl

pub front-step : (p : ℕ → Bool) (c : ℕ) (cs : List ℕ) → p c ≡ true → front_length p (c ∷ cs) ≡ suc (front_length p cs)
unfolding front_length
front-step p c cs h = rw h

pub front-stop : (p : ℕ → Bool) (c : ℕ) (cs : List ℕ) → p c ≡ false → front_length p (c ∷ cs) ≡ 0
unfolding front_length
front-stop p c cs h = rw h

pub front_within : (p : ℕ → Bool) (s : List ℕ) → front_length p s ≤ length s
front_within p [] = rw (front-none p) (omega arith)
front_within p (c ∷ cs) =
    let h : front_length p cs ≤ length cs = front_within p cs in
    elim (p c) as (λ b. p c ≡ b → front_length p (c ∷ cs) ≤ length (c ∷ cs)) [
      | true ↦ λ e. rw (front-step p c cs e) (omega (arith, h))
      | false ↦ λ e. rw (front-stop p c cs e) (omega arith)
    ] refl

pub front_all : (p : ℕ → Bool) (s : List ℕ) (i : ℕ) → length s ≤ i → i ≤ length s → front_length p s ≡ i + front_length p (drop i s) → length s ≡ front_length p s
front_all p s i a b e =
    let h : front_length p (drop i s) ≤ length (drop i s) = front_within p (drop i s) in
    let k : length (drop i s) ≡ length s - i = length-drop i s in
    omega (arith, e, h, k)

pub front_more : (p : ℕ → Bool) (s : List ℕ) (i : ℕ) → i < length s → front_length p s ≡ i + front_length p (drop i s) → p (get_or s i 0) ≡ true → front_length p s ≡ (i + 1) + front_length p (drop (i + 1) s)
front_more p s i lt e h =
    let d : drop i s ≡ (get_or s i 0 ∷ drop (suc i) s) = drop-cons s i 0 lt in
    let f : front_length p (drop i s) ≡ suc (front_length p (drop (suc i) s)) = ap (front_length p) d ∙ front-step p (get_or s i 0) (drop (suc i) s) h in
    rw add-one (omega (arith, e, f))

pub front_stop : (p : ℕ → Bool) (s : List ℕ) (i : ℕ) → i < length s → front_length p s ≡ i + front_length p (drop i s) → p (get_or s i 0) ≡ false → i ≡ front_length p s
front_stop p s i lt e h =
    let d : drop i s ≡ (get_or s i 0 ∷ drop (suc i) s) = drop-cons s i 0 lt in
    let f : front_length p (drop i s) ≡ 0 = ap (front_length p) d ∙ front-stop p (get_or s i 0) (drop (suc i) s) h in
    omega (arith, e, f)
