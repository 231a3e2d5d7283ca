-- How long a front passes a test, from how long the bytes after its first do.
use Rattle.std.proofs.Common.{◌≡◌, ℕ, zero, suc, ◌+◌, ◌<◌, ◌≤◌, Bool, true, false, List, [], ◌∷◌, length, drop, take, Option, Some, None, refl, sym, ap, ◌∙◌, subst, arith, one-add, true≢false}
use Rattle.std.specs.List.{list_all}
use Rattle.lv_ast.specs.Tokens.{is_blank, without_blanks, kind_if}
use Rattle.lv_ast.specs.declared.tokens.Kind.{Kind}
use Rattle.lv_lexer.specs.Fronts.{front_length, IsLongest, IsLongestOf, IsFront, IsFound}
use Rattle.lv_lexer.proofs.Fronts.{front-none, front-step, front-stop, front_within}

-- ---- a class of bytes

all_front : (p : ℕ → Bool) (s : List ℕ) → list_all p (take (front_length p s) s) ≡ true
all_front p [] = rw front-none refl
all_front p (c ∷ cs) =
    elim (p c) as (λ b. p c ≡ b → list_all p (take (front_length p (c ∷ cs)) (c ∷ cs)) ≡ true) [
      | true ↦ λ e. rw (front-step p c cs e, e) (all_front p cs)
      | false ↦ λ e. rw (front-stop p c cs e) refl
    ] refl

all_beyond : (p : ℕ → Bool) (s : List ℕ) (m : ℕ) → front_length p s < m → m ≤ length s → list_all p (take m s) ≡ false
all_beyond p [] m a b = absurd (omega (arith, a, b))
all_beyond p (c ∷ cs) zero a b = absurd (omega (arith, a))
all_beyond p (c ∷ cs) (suc m) a b =
    elim (p c) as (λ b. p c ≡ b → list_all p (take (suc m) (c ∷ cs)) ≡ false) [
      | true ↦ λ e. let k : front_length p cs < m = omega (arith, a, front-step p c cs e) in rw e (all_beyond p cs m k (omega (arith, b)))
      | false ↦ λ e. rw e refl
    ] refl

pub class_longest : (p : ℕ → Bool) (s : List ℕ) → IsLongest (list_all p) s (front_length p s)
class_longest p s = record { within = front_within p s; passes = all_front p s; longest = all_beyond p s }

-- ---- one byte more at the front

module _ (test inner : List ℕ → Bool) (c : ℕ) (cs : List ℕ) (same : (xs : List ℕ) → test (c ∷ xs) ≡ inner xs) where
  beyond : (n : ℕ) → IsLongest inner cs n → (m : ℕ) → suc n < m → m ≤ length (c ∷ cs) → test (take m (c ∷ cs)) ≡ false
  beyond n h zero a b = absurd (omega (arith, a))
  beyond n h (suc m) a b = same (take m cs) ∙ h.longest m (omega (arith, a)) (omega (arith, b))

  shifted : (n : ℕ) → IsLongest inner cs n → IsLongest test (c ∷ cs) (suc n)
  shifted n h = record {
    within = let k : n ≤ length cs = h.within in omega (arith, k);
    passes = same (take n cs) ∙ h.passes;
    longest = beyond n h;
  }

  pub cons_longest : (s : List ℕ) → s ≡ (c ∷ cs) → (n : ℕ) → IsLongest inner cs n → IsLongest test s (1 + n)
  cons_longest s e n h = subst (λ l. IsLongest test l (1 + n)) (sym e) (subst (IsLongest test (c ∷ cs)) (sym (one-add n)) (shifted n h))

  none-at : test [] ≡ false → ((m : ℕ) → inner (take m cs) ≡ false) → (m : ℕ) → test (take m (c ∷ cs)) ≡ false
  none-at z h zero = z
  none-at z h (suc m) = same (take m cs) ∙ h m

  pub cons_none : (s : List ℕ) → s ≡ (c ∷ cs) → test [] ≡ false → ((m : ℕ) → inner (take m cs) ≡ false) → (m : ℕ) → test (take m s) ≡ false
  cons_none s e z h = subst (λ l. (m : ℕ) → test (take m l) ≡ false) (sym e) (none-at z h)

-- the first byte passes, and then a class of bytes
pub cons_class : (test : List ℕ → Bool) (p : ℕ → Bool) (c : ℕ) (cs s : List ℕ) → s ≡ (c ∷ cs) → ((xs : List ℕ) → test (c ∷ xs) ≡ list_all p xs) → (n : ℕ) → n ≡ front_length p cs → IsLongest test s (1 + n)
cons_class test p c cs s e same n k = cons_longest test (list_all p) c cs same s e n (subst (IsLongest (list_all p) cs) (sym k) (class_longest p cs))

-- the first byte fails
pub cons_fails : (test : List ℕ → Bool) (c : ℕ) (cs s : List ℕ) → s ≡ (c ∷ cs) → test [] ≡ false → ((xs : List ℕ) → test (c ∷ xs) ≡ false) → (m : ℕ) → test (take m s) ≡ false
cons_fails test c cs s e z same = cons_none test (λ _. false) c cs same s e z (λ _. refl)

pub take-nothing : (m : ℕ) → take {A = ℕ} m [] ≡ []
take-nothing zero = refl
take-nothing (suc m) = refl

pub nil_front : (test : List ℕ → Bool) (s : List ℕ) (r : Option ℕ) → test [] ≡ false → s ≡ [] → r ≡ None → IsFront test s r
nil_front test s r z e k = subst (IsFront test s) (sym k) (subst (λ l. IsFront test l None) (sym e) (λ m. ap test (take-nothing m) ∙ z))

pub none_front : (test : List ℕ → Bool) (s : List ℕ) (r : Option ℕ) → r ≡ None → ((m : ℕ) → test (take m s) ≡ false) → IsFront test s r
none_front test s r k h = subst (IsFront test s) (sym k) h

-- ---- white space in front

without-blank : (c : ℕ) (cs : List ℕ) → is_blank c ≡ true → without_blanks (c ∷ cs) ≡ without_blanks cs
unfolding without_blanks
without-blank c cs h = rw h

without-other : (c : ℕ) (cs : List ℕ) → is_blank c ≡ false → without_blanks (c ∷ cs) ≡ (c ∷ cs)
unfolding without_blanks
without-other c cs h = rw h

without-none : without_blanks [] ≡ []
unfolding without_blanks
without-none = refl

pub without_blanks-drop : (s : List ℕ) → without_blanks s ≡ drop (front_length is_blank s) s
without_blanks-drop [] = rw (front-none, without-none) refl
without_blanks-drop (c ∷ cs) =
    elim (is_blank c) as (λ b. is_blank c ≡ b → without_blanks (c ∷ cs) ≡ drop (front_length is_blank (c ∷ cs)) (c ∷ cs)) [
      | true ↦ λ e. rw (front-step is_blank c cs e, without-blank c cs e) (without_blanks-drop cs)
      | false ↦ λ e. rw (front-stop is_blank c cs e, without-other c cs e) refl
    ] refl

pub same_longest : (test other : List ℕ → Bool) (s : List ℕ) → ((m : ℕ) → other (take m s) ≡ test (take m s)) → (n : ℕ) → IsLongest test s n → IsLongest other s n
same_longest test other s same n h = record { within = h.within; passes = same n ∙ h.passes; longest = λ m a b. same m ∙ h.longest m a b }

pub same_front : (test other : List ℕ → Bool) (s : List ℕ) → ((m : ℕ) → other (take m s) ≡ test (take m s)) → (r : Option ℕ) → IsFront test s r → IsFront other s r
same_front test other s same None h = λ m. same m ∙ h m
same_front test other s same (Some n) h = same_longest test other s same n h

-- a test of what stands behind white space
abbrev pub spaced : (List ℕ → Bool) → List ℕ → Bool
spaced test s = test (without_blanks s)

module _ (test : List ℕ → Bool) (z : test [] ≡ false) where
  unspaced : (c : ℕ) (cs : List ℕ) → is_blank c ≡ false → (m : ℕ) → spaced test (take m (c ∷ cs)) ≡ test (take m (c ∷ cs))
  unspaced c cs e zero = ap test without-none
  unspaced c cs e (suc m) = ap test (without-other c (take m cs) e)

  pub spaced_longest : (s : List ℕ) (n : ℕ) → IsLongest test (drop (front_length is_blank s) s) n → IsLongest (spaced test) s (front_length is_blank s + n)
  spaced_longest [] n = λ h.
      let none : take n (drop (front_length is_blank []) []) ≡ [] = rw front-none (take-nothing n) in
      absurd (true≢false (sym h.passes ∙ (ap test none ∙ z)))
  spaced_longest (c ∷ cs) n =
      elim (is_blank c) as (λ b. is_blank c ≡ b → IsLongest test (drop (front_length is_blank (c ∷ cs)) (c ∷ cs)) n → IsLongest (spaced test) (c ∷ cs) (front_length is_blank (c ∷ cs) + n)) [
        | true ↦ λ e h.
            let inner : IsLongest (spaced test) cs (front_length is_blank cs + n) = spaced_longest cs n (subst (λ k. IsLongest test (drop k (c ∷ cs)) n) (front-step is_blank c cs e) h) in
            let k : suc (front_length is_blank cs + n) ≡ front_length is_blank (c ∷ cs) + n = let f : front_length is_blank (c ∷ cs) ≡ suc (front_length is_blank cs) = front-step is_blank c cs e in omega (arith, f) in
            subst (IsLongest (spaced test) (c ∷ cs)) k (shifted (spaced test) (spaced test) c cs (λ xs. ap test (without-blank c xs e)) (front_length is_blank cs + n) inner)
        | false ↦ λ e h.
            let f : front_length is_blank (c ∷ cs) ≡ 0 = front-stop is_blank c cs e in
            let here : IsLongest test (c ∷ cs) n = subst (λ k. IsLongest test (drop k (c ∷ cs)) n) f h in
            let k : n ≡ front_length is_blank (c ∷ cs) + n = omega (arith, f) in
            subst (IsLongest (spaced test) (c ∷ cs)) k (same_longest test (spaced test) (c ∷ cs) (unspaced c cs e) n here)
      ] refl

  pub spaced_none : (s : List ℕ) → ((m : ℕ) → test (take m (drop (front_length is_blank s) s)) ≡ false) → (m : ℕ) → spaced test (take m s) ≡ false
  spaced_none [] = λ h m. ap (spaced test) (take-nothing m) ∙ (ap test without-none ∙ z)
  spaced_none (c ∷ cs) =
      elim (is_blank c) as (λ b. is_blank c ≡ b → ((m : ℕ) → test (take m (drop (front_length is_blank (c ∷ cs)) (c ∷ cs))) ≡ false) → (m : ℕ) → spaced test (take m (c ∷ cs)) ≡ false) [
        | true ↦ λ e h.
            let inner : (m : ℕ) → spaced test (take m cs) ≡ false = spaced_none cs (subst (λ k. (m : ℕ) → test (take m (drop k (c ∷ cs))) ≡ false) (front-step is_blank c cs e) h) in
            none-at (spaced test) (spaced test) c cs (λ xs. ap test (without-blank c xs e)) (ap test without-none ∙ z) inner
        | false ↦ λ e h m.
            let here : (m : ℕ) → test (take m (c ∷ cs)) ≡ false = subst (λ k. (m : ℕ) → test (take m (drop k (c ∷ cs))) ≡ false) (front-stop is_blank c cs e) h in
            unspaced c cs e m ∙ here m
      ] refl

-- ---- tokens by their first byte

abbrev pub NoneOf : (List ℕ → Option Kind) → List ℕ → Type 0
NoneOf kind s = (m : ℕ) → kind (take m s) ≡ None

pub if-true : (k : Kind) (b : Bool) → b ≡ true → kind_if b k ≡ Some k
if-true k b h = rw h refl

pub if-false : (k : Kind) (b : Bool) → b ≡ false → kind_if b k ≡ None
if-false k b h = rw h refl

pub longest_of : (kind : List ℕ → Option Kind) (test : List ℕ → Bool) (s : List ℕ) (n : ℕ) (k : Kind) (of : (m : ℕ) → Kind) → ((m : ℕ) → kind (take m s) ≡ kind_if (test (take m s)) (of m)) → of n ≡ k → IsLongest test s n → IsLongestOf kind s k n
longest_of kind test s n k of same e h = record {
  within = h.within;
  whole = same n ∙ (if-true (of n) (test (take n s)) h.passes ∙ ap (λ k. Some k) e);
  longest = λ m a b. same m ∙ if-false (of m) (test (take m s)) (h.longest m a b);
}

pub none_of : (kind : List ℕ → Option Kind) (test : List ℕ → Bool) (s : List ℕ) (of : (m : ℕ) → Kind) → ((m : ℕ) → kind (take m s) ≡ kind_if (test (take m s)) (of m)) → ((m : ℕ) → test (take m s) ≡ false) → NoneOf kind s
none_of kind test s of same h m = same m ∙ if-false (of m) (test (take m s)) (h m)

module _ (kind inner : List ℕ → Option Kind) (c : ℕ) (cs : List ℕ) (same : (xs : List ℕ) → kind (c ∷ xs) ≡ inner xs) where
  kind-beyond : (n : ℕ) → ((m : ℕ) → n < m → m ≤ length cs → inner (take m cs) ≡ None) → (m : ℕ) → suc n < m → m ≤ length (c ∷ cs) → kind (take m (c ∷ cs)) ≡ None
  kind-beyond n h zero a b = absurd (omega (arith, a))
  kind-beyond n h (suc m) a b = same (take m cs) ∙ h m (omega (arith, a)) (omega (arith, b))

  kind-shifted : (k : Kind) (n : ℕ) → IsLongestOf inner cs k n → IsLongestOf kind (c ∷ cs) k (suc n)
  kind-shifted k n h = record {
    within = let k : n ≤ length cs = h.within in omega (arith, k);
    whole = same (take n cs) ∙ h.whole;
    longest = kind-beyond n h.longest;
  }

  pub kind_cons : (s : List ℕ) → s ≡ (c ∷ cs) → (k : Kind) (n : ℕ) → IsLongestOf inner cs k n → IsLongestOf kind s k (1 + n)
  kind_cons s e k n h = subst (λ l. IsLongestOf kind l k (1 + n)) (sym e) (subst (IsLongestOf kind (c ∷ cs) k) (sym (one-add n)) (kind-shifted k n h))

  kind-none-at : kind [] ≡ None → NoneOf inner cs → NoneOf kind (c ∷ cs)
  kind-none-at z h zero = z
  kind-none-at z h (suc m) = same (take m cs) ∙ h m

  pub kind_cons_none : (s : List ℕ) → s ≡ (c ∷ cs) → kind [] ≡ None → NoneOf inner cs → NoneOf kind s
  kind_cons_none s e z h = subst (NoneOf kind) (sym e) (kind-none-at z h)

pub nil_found : (kind : List ℕ → Option Kind) (s : List ℕ) (r : Option (Kind × ℕ)) → kind [] ≡ None → s ≡ [] → r ≡ None → IsFound kind s r
nil_found kind s r z e k = subst (IsFound kind s) (sym k) (subst (λ l. IsFound kind l None) (sym e) (λ m. ap kind (take-nothing m) ∙ z))

pub none_found : (kind : List ℕ → Option Kind) (s : List ℕ) (r : Option (Kind × ℕ)) → r ≡ None → NoneOf kind s → IsFound kind s r
none_found kind s r k h = subst (IsFound kind s) (sym k) h
