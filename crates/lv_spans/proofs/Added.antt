-- A span that is put into a table.
use Rattle.std.proofs.Common.{◌≡◌, ℕ, ◌^◌, ◌<◌, ◌≤◌, Bool, true, false, cond, ◌&&◌, ◌||◌, ◌==◌, List, Option, Some, None, unwrap_or, bit_or, refl, sym, ◌∙◌, ap, subst, arith}
use Rattle.std.specs.Prelude.{nat_lt}
use Rattle.std.proofs.lemmas.Bool.Decides.{nat_tests}
use Rattle.std.specs.Ordering.{nat_cmp, is_eq}
use Rattle.std.specs.Option.{option_cmp}
use Rattle.std.specs.BTreeMap.{BTreeMap, get, is_at, Updates}
use Rattle.std.proofs.lemmas.Bool.{true≢false}
use Rattle.lv_flat.specs.Signals.{Signals, signal_at}
use Rattle.lv_source.specs.Names.{width_of}
use Rattle.std.proofs.lemmas.Nat.{or_lt, le_or_r}
use Rattle.lv_spans.specs.declared.span.Span.{Span}
use Rattle.lv_spans.specs.Sets.{Cell, Masks, order, entry_at, own_at, has, is_set, is_element, is_under}
use Rattle.lv_spans.specs.Domain.{IsSpan, IsWithin}
use Rattle.lv_spans.specs.Touched.{AreTouched}
use Rattle.lv_spans.proofs.Bits.{is_set-or, is_set-zero}
use Rattle.lv_spans.proofs.Cells.{same-cell}

lt-false : (a : ℕ) → nat_lt a a ≡ false
lt-false a = grind (arith, nat_tests)

eq-same : (a : ℕ) → (a == a) ≡ true
eq-same a = grind (arith, nat_tests)

of-eq : (a b : ℕ) → (a == b) ≡ true → a ≡ b
of-eq a b h = grind (arith, nat_tests)

nat-same : (a : ℕ) → is_eq (nat_cmp a a) ≡ true
nat-same a = rw (lt-false a) (rw (eq-same a) refl)

order-same : (q : Cell) → is_eq (order q q) ≡ true
order-same (s, None) = rw (lt-false s) (rw (eq-same s) refl)
order-same (s, Some k) = rw (lt-false s) (rw (eq-same s) (rw (lt-false k) (rw (eq-same k) refl)))

both-ways : (s t : Bool) → (s ≡ true → t ≡ true) → (t ≡ true → s ≡ true) → s ≡ t
both-ways true t f g = sym (f refl)
both-ways false true f g = g refl
both-ways false false f g = refl

or-left : (a b : Bool) → a ≡ true → (a || b) ≡ true
or-left true b h = refl
or-left false b h = absurd (true≢false (sym h))

or-right : (a b : Bool) → b ≡ true → (a || b) ≡ true
or-right true b h = refl
or-right false b h = h

abbrev pub hits : Cell → Cell → Bool
hits k q = is_at (order k) q

hit-self : (k q : Cell) → k ≡ q → hits k q ≡ true
hit-self k q e = subst (λ (x : Cell). hits k x ≡ true) e (order-same k)

pub under-self : (s : ℕ) (el : Option ℕ) → is_under s el (s, el) ≡ true
under-self s None = eq-same s
under-self s (Some k) = rw (eq-same s) (eq-same k)

under-hit : (s : ℕ) (el : Option ℕ) (q : Cell) → hits (s, el) q ≡ true → is_under s el q ≡ true
under-hit s el q h = subst (λ (x : Cell). is_under s el x ≡ true) (same-cell (s, el) q h) (under-self s el)

hit-none : (s : ℕ) (el : Option ℕ) (q : Cell) → hits (s, el) (q.0, None) ≡ true → is_under s el q ≡ true
hit-none s None q h = let e : s ≡ q.0 = ap (λ (x : Cell). x.0) (same-cell (s, None) (q.0, None) h) in subst (λ (n : ℕ). (n == s) ≡ true) e (eq-same s)
hit-none s (Some k) q h = absurd (true≢false (ap (λ (x : Cell). is_none x.1) (sym (same-cell (s, Some k) (q.0, None) h))))
  where
    is_none : Option ℕ → Bool
    is_none None = true
    is_none (Some k) = false

and-left : (a b : Bool) → (a && b) ≡ true → a ≡ true
and-left true b h = refl
and-left false b h = h

and-right : (a b : Bool) → (a && b) ≡ true → b ≡ true
and-right true b h = h
and-right false b h = absurd (true≢false (sym h))

pub under-to : (s : ℕ) (el : Option ℕ) (q : Cell) → is_under s el q ≡ true → (hits (s, el) q || hits (s, el) (q.0, None)) ≡ true
under-to s None q h = or-right (hits (s, None) q) (hits (s, None) (q.0, None)) (hit-self (s, None) (q.0, None) (ap (λ n. (n, None)) (sym (of-eq q.0 s h))))
under-to s (Some k) (j, None) h = absurd (true≢false (sym (and-right (j == s) false h)))
under-to s (Some k) (j, Some i) h = or-left (hits (s, Some k) (j, Some i)) (hits (s, Some k) (j, None)) (hit-self (s, Some k) (j, Some i)
    (ap (λ n. (n, Some k)) (sym (of-eq j s (and-left (j == s) (i == k) h))) ∙ ap (λ n. (j, Some n)) (sym (of-eq i k (and-right (j == s) (i == k) h)))))

under-is : (s : ℕ) (el : Option ℕ) (q : Cell) → (hits (s, el) q || hits (s, el) (q.0, None)) ≡ is_under s el q
under-is s el q = both-ways (hits (s, el) q || hits (s, el) (q.0, None)) (is_under s el q) (from (hits (s, el) q) (hits (s, el) (q.0, None)) refl refl) (under-to s el q)
  where
    from : (t u : Bool) → hits (s, el) q ≡ t → hits (s, el) (q.0, None) ≡ u → (t || u) ≡ true → is_under s el q ≡ true
    from true u e f h = under-hit s el q e
    from false true e f h = hit-none s el q f
    from false false e f h = absurd (true≢false (sym h))

spread : (a b t u m : Bool) → ((a || (t && m)) || (b || (u && m))) ≡ ((a || b) || ((t || u) && m))
spread true b t u m = refl
spread false true true true true = refl
spread false false true true true = refl
spread false true true true false = refl
spread false false true true false = refl
spread false true true false true = refl
spread false false true false true = refl
spread false true true false false = refl
spread false false true false false = refl
spread false true false true true = refl
spread false false false true true = refl
spread false true false true false = refl
spread false false false true false = refl
spread false true false false true = refl
spread false false false false true = refl
spread false true false false false = refl
spread false false false false false = refl

some-same : (a b : ℕ) → Some a ≡ Some b → a ≡ b
some-same a b f = ap (λ o. unwrap_or o 0) f

abbrev pub bit : Masks → Cell → ℕ → Bool
bit m q i = is_set (own_at m q) i

module _ (m n : Masks) (s : ℕ) (el : Option ℕ) (mask v : ℕ) (w : v ≡ bit_or (own_at m (s, el)) mask)
    (u : (q : Cell) → entry_at n q ≡ cond (hits (s, el) q) (Some v) (entry_at m q)) where
  one : (q : Cell) (i : ℕ) (t : Bool) → hits (s, el) q ≡ t → bit n q i ≡ (bit m q i || (t && is_set mask i))
  one q i true h =
      ap (λ o. is_set (unwrap_or o 0) i) (u q ∙ ap (λ c. cond c (Some v) (entry_at m q)) h) ∙
      (ap (λ x. is_set x i) w ∙ (is_set-or (own_at m (s, el)) mask i ∙ ap (λ (c : Cell). bit m c i || is_set mask i) (same-cell (s, el) q h)))
  one q i false h = ap (λ o. is_set (unwrap_or o 0) i) (u q ∙ ap (λ c. cond c (Some v) (entry_at m q)) h) ∙ last (bit m q i)
    where
      last : (a : Bool) → a ≡ (a || false)
      last true = refl
      last false = refl

  pub bit-added : (q : Cell) (i : ℕ) → bit n q i ≡ (bit m q i || (hits (s, el) q && is_set mask i))
  bit-added q i = one q i (hits (s, el) q) refl

  pub has-added : (q : Cell) (i : ℕ) → has n q i ≡ (has m q i || (is_under s el q && is_set mask i))
  has-added q i =
      is_set-or (own_at n q) (own_at n (q.0, None)) i ∙
      (ap (λ x. x || bit n (q.0, None) i) (bit-added q i) ∙ (ap (λ x. (bit m q i || (hits (s, el) q && is_set mask i)) || x) (bit-added (q.0, None) i) ∙
      (spread (bit m q i) (bit m (q.0, None) i) (hits (s, el) q) (hits (s, el) (q.0, None)) (is_set mask i) ∙
      (ap (λ x. x || ((hits (s, el) q || hits (s, el) (q.0, None)) && is_set mask i)) (sym (is_set-or (own_at m q) (own_at m (q.0, None)) i)) ∙
      ap (λ x. has m q i || (x && is_set mask i)) (under-is s el q)))))

  module _ (S : Signals) (h : IsWithin S m) (p : IsSpan S (record { signal = s; element = el; mask = mask })) where
    narrow : (o : Option ℕ) → entry_at m (s, el) ≡ o → unwrap_or o 0 < 2 ^ width_of (signal_at S s)
    narrow None e = let a = p.wide in omega (arith, a)
    narrow (Some x) e = (h (s, el) x e).wide

    joined : IsSpan S (record { signal = s; element = el; mask = v })
    joined = record {
      signal = p.signal;
      element = p.element;
      wide = subst (λ (x : ℕ). x < 2 ^ width_of (signal_at S s)) (sym w) (or_lt (width_of (signal_at S s)) (own_at m (s, el)) mask (narrow (entry_at m (s, el)) refl) p.wide);
      some = let l = le_or_r (own_at m (s, el)) mask in let a = p.some in omega (arith, l, a, w);
    }

    pub within-added : IsWithin S n
    within-added q x e = by (hits (s, el) q) refl
      where
        by : (t : Bool) → hits (s, el) q ≡ t → IsSpan S (record { signal = q.0; element = q.1; mask = x })
        by true t = subst (λ (c : Cell). IsSpan S (record { signal = c.0; element = c.1; mask = x })) (same-cell (s, el) q t)
            (subst (λ (y : ℕ). IsSpan S (record { signal = s; element = el; mask = y })) (some-same v x (sym (u q ∙ ap (λ c. cond c (Some v) (entry_at m q)) t) ∙ e)) joined)
        by false t = h q x (sym (u q ∙ ap (λ c. cond c (Some v) (entry_at m q)) t) ∙ e)

pub same-of : (s k : ℕ) (q : Cell) → is_under s (Some k) q ≡ true → (s, Some k) ≡ q
same-of s k (j, None) h = absurd (true≢false (sym (and-right (j == s) false h)))
same-of s k (j, Some i) h = ap (λ n. (n, Some k)) (sym (of-eq j s (and-left (j == s) (i == k) h))) ∙ ap (λ n. (j, Some n)) (sym (of-eq i k (and-right (j == s) (i == k) h)))

pub signal-hit : (s : ℕ) (el : Option ℕ) (q : Cell) → hits (s, el) q ≡ true → is_at (nat_cmp s) q.0 ≡ true
signal-hit s el q h = subst (λ (n : ℕ). is_at (nat_cmp s) n ≡ true) (ap (λ (x : Cell). x.0) (same-cell (s, el) q h)) (nat-same s)

pub hit-key : (s : ℕ) (el : Option ℕ) (j : ℕ) → s ≡ j → hits (s, el) (j, el) ≡ true
hit-key s el j e = hit-self (s, el) (j, el) (ap (λ n. (n, el)) e)
