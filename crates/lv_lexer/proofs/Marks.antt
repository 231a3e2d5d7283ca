-- The longest mark at the front of a text.
use Rattle.std.proofs.Common.{subst, ◌≡◌, ℕ, zero, suc, ◌<◌, ◌≤◌, Bool, true, false, ◌&&◌, ◌||◌, List, [], ◌∷◌, length, take, refl, sym, ap, ◌∙◌, arith, true≢false}
use Rattle.std.specs.Prelude.{nat_le}
use Rattle.std.specs.List.{list_any, list_all}
use Rattle.std.specs.Str.{bytes_eq}
use lib.Dec.{eqb}
use lib.Pointwise.{pointwise_long}
use Rattle.std.proofs.lemmas.Bool.{leb-true, le-leb, eqb-true, false_from_ne_true}
use Rattle.std.proofs.lemmas.List.{length-take-le}
use Rattle.lv_ast.specs.Tokens.{is_mark, marks}
use Rattle.lv_lexer.specs.Fronts.{IsLongest, mark_front, is_head}
use Rattle.lv_lexer.proofs.Longest.{take-nothing}

both : (a b : Bool) → (a && b) ≡ true → (a ≡ true) × (b ≡ true)
both true b h = (refl, h)
both false b h = absurd (true≢false (sym h))

-- a text is none of the words that are shorter
long_any : (ws : List (List ℕ)) (s : List ℕ) → list_all (λ w. nat_le (length w) 3) ws ≡ true → 3 < length s → list_any (bytes_eq s) ws ≡ false
long_any [] s h k = refl
long_any (w ∷ ws) s h k =
    let parts : (nat_le (length w) 3 ≡ true) × (list_all (λ w. nat_le (length w) 3) ws ≡ true) = both _ _ h in
    let short : length w ≤ 3 = leb-true _ _ parts.0 in
    let no : bytes_eq s w ≡ false = false_from_ne_true _ (λ e. let same : length s ≡ length w = pointwise_long eqb s w e in omega (arith, same, short, k)) in
    ap (λ b. b || list_any (bytes_eq s) ws) no ∙ long_any ws s parts.1 k

long_mark : (s : List ℕ) → 3 < length s → is_mark s ≡ false
unfolding is_mark
long_mark s k = long_any marks s refl k

no_bytes : is_mark [] ≡ false
unfolding is_mark
no_bytes = refl

module _ (s : List ℕ) where
  at : (n : ℕ) → n ≤ length s → is_mark (take n s) ≡ mark_front s n
  at n h = sym (ap (λ b. b && is_mark (take n s)) (le-leb n (length s) h))

  past : (m : ℕ) → 3 < m → m ≤ length s → is_mark (take m s) ≡ false
  past m h k = long_mark (take m s) (let e : length (take m s) ≡ m = length-take-le m s k in omega (arith, e, h))

  found : (n : ℕ) → mark_front s n ≡ true → (n ≤ length s) × (is_mark (take n s) ≡ true)
  found n h = let parts : (nat_le n (length s) ≡ true) × (is_mark (take n s) ≡ true) = both _ _ h in (leb-true _ _ parts.0, parts.1)

  pub mark_three : mark_front s 3 ≡ true → IsLongest is_mark s 3
  mark_three h = record { within = (found 3 h).0; passes = (found 3 h).1; longest = past }

  beyond_two : mark_front s 3 ≡ false → (m : ℕ) → 2 < m → m ≤ length s → is_mark (take m s) ≡ false
  beyond_two h zero a b = absurd (omega (arith, a))
  beyond_two h (suc zero) a b = absurd (omega (arith, a))
  beyond_two h (suc (suc zero)) a b = absurd (omega (arith, a))
  beyond_two h (suc (suc (suc zero))) a b = at 3 b ∙ h
  beyond_two h (suc (suc (suc (suc m)))) a b = past (suc (suc (suc (suc m)))) (omega arith) b

  pub mark_two : mark_front s 3 ≡ false → mark_front s 2 ≡ true → IsLongest is_mark s 2
  mark_two h k = record { within = (found 2 k).0; passes = (found 2 k).1; longest = beyond_two h }

  beyond_one : mark_front s 3 ≡ false → mark_front s 2 ≡ false → (m : ℕ) → 1 < m → m ≤ length s → is_mark (take m s) ≡ false
  beyond_one h k zero a b = absurd (omega (arith, a))
  beyond_one h k (suc zero) a b = absurd (omega (arith, a))
  beyond_one h k (suc (suc zero)) a b = at 2 b ∙ k
  beyond_one h k (suc (suc (suc m))) a b = beyond_two h (suc (suc (suc m))) (omega arith) b

  pub mark_one : mark_front s 3 ≡ false → mark_front s 2 ≡ false → mark_front s 1 ≡ true → IsLongest is_mark s 1
  mark_one h k l = record { within = (found 1 l).0; passes = (found 1 l).1; longest = beyond_one h k }

  no_front : mark_front s 3 ≡ false → mark_front s 2 ≡ false → mark_front s 1 ≡ false → (m : ℕ) → m ≤ length s → is_mark (take m s) ≡ false
  no_front h k l zero b = no_bytes
  no_front h k l (suc zero) b = at 1 b ∙ l
  no_front h k l (suc (suc m)) b = beyond_one h k (suc (suc m)) (omega arith) b

-- a front that is longer than the text is the text
capped : (f : List ℕ → Bool) (s : List ℕ) → ((m : ℕ) → m ≤ length s → f (take m s) ≡ false) → (m : ℕ) → f (take m s) ≡ false
capped f [] h m = ap f (take-nothing m) ∙ h 0 (omega arith)
capped f (c ∷ cs) h zero = h 0 (omega arith)
capped f (c ∷ cs) h (suc m) = capped (λ l. f (c ∷ l)) cs (λ k le. h (suc k) (omega (arith, le))) m

pub mark_none : (s : List ℕ) → mark_front s 3 ≡ false → mark_front s 2 ≡ false → mark_front s 1 ≡ false → (m : ℕ) → is_mark (take m s) ≡ false
mark_none s h k l = capped is_mark s (no_front s h k l)

-- ---- marks of more than one byte by their first

long_head : List ℕ → Bool
long_head [] = true
long_head (x ∷ []) = true
long_head (x ∷ y ∷ zs) = is_head x

and-false : (b : Bool) → (b && false) ≡ false
and-false true = refl
and-false false = refl

other-head : (a x : ℕ) → is_head x ≡ true → is_head a ≡ false → eqb a x ≡ false
other-head a x h k = false_from_ne_true _ (λ e. true≢false (sym h ∙ (ap is_head (sym (eqb-true a x e)) ∙ k)))

not-word : (a b : ℕ) (cs w : List ℕ) → long_head w ≡ true → is_head a ≡ false → bytes_eq (a ∷ b ∷ cs) w ≡ false
unfolding long_head
not-word a b cs [] h k = refl
not-word a b cs (x ∷ []) h k = and-false (eqb a x)
not-word a b cs (x ∷ y ∷ zs) h k = ap (λ t. t && bytes_eq (b ∷ cs) (y ∷ zs)) (other-head a x h k)

head_any : (ws : List (List ℕ)) (a b : ℕ) (cs : List ℕ) → list_all long_head ws ≡ true → is_head a ≡ false → list_any (bytes_eq (a ∷ b ∷ cs)) ws ≡ false
head_any [] a b cs h k = refl
head_any (w ∷ ws) a b cs h k =
    let parts : (long_head w ≡ true) × (list_all long_head ws ≡ true) = both _ _ h in
    ap (λ t. t || list_any (bytes_eq (a ∷ b ∷ cs)) ws) (not-word a b cs w parts.0 k) ∙ head_any ws a b cs parts.1 k

all-heads : list_all long_head marks ≡ true
unfolding long_head
all-heads = refl

no_long : (a : ℕ) (cs : List ℕ) (n : ℕ) → 1 < n → is_head a ≡ false → n ≤ length (a ∷ cs) → is_mark (take n (a ∷ cs)) ≡ false
unfolding is_mark
no_long a cs zero h k l = absurd (omega (arith, h))
no_long a cs (suc zero) h k l = absurd (omega (arith, h))
no_long a [] (suc (suc n)) h k l = absurd (omega (arith, l))
no_long a (c ∷ cs) (suc (suc n)) h k l = head_any marks a c (take n cs) all-heads k

pub no_long_mark : (a : ℕ) (cs s : List ℕ) (n : ℕ) → s ≡ (a ∷ cs) → 1 < n → is_head a ≡ false → false ≡ mark_front s n
no_long_mark a cs s n e h k =
    subst (λ l. false ≡ mark_front l n) (sym e)
    (elim (nat_le n (length (a ∷ cs))) as (λ b. nat_le n (length (a ∷ cs)) ≡ b → false ≡ (b && is_mark (take n (a ∷ cs)))) [
      | true ↦ λ w. sym (no_long a cs n h k (leb-true _ _ w))
      | false ↦ λ w. refl
    ] refl)

none-long : (n : ℕ) → false ≡ nat_le (suc n) 0
none-long n = sym (false_from_ne_true _ (λ t. let h : suc n ≤ 0 = leb-true _ _ t in omega (arith, h)))

pub no_byte_mark : (s : List ℕ) (n : ℕ) → s ≡ [] → 1 < n → false ≡ mark_front s n
no_byte_mark s zero e h = absurd (omega (arith, h))
no_byte_mark s (suc n) e h = subst (λ l. false ≡ mark_front l (suc n)) (sym e) (ap (λ b. b && is_mark (take (suc n) [])) (none-long n))
