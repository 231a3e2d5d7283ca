-- A span and a table that share a bit, or share none.
use Rattle.std.proofs.Common.{◌≡◌, ℕ, ◌<◌, ◌≤◌, ◌^◌, inl, inr, Bool, true, false, not, cond, ◌&&◌, ◌||◌, ◌==◌, Option, Some, None, unwrap_or, bit_and, bit_or, refl, sym, ◌∙◌, ap, subst, arith}
use Rattle.std.specs.Prelude.{nat_eq, nat_lt}
use Rattle.std.proofs.lemmas.Bool.{true≢false, cases_lt}
use Rattle.std.proofs.lemmas.Bool.Decides.{nat_tests}
use Rattle.std.proofs.lemmas.Nat.Bits.{bit_at_above}
use Rattle.std.specs.Ordering.{nat_cmp}
use Rattle.std.specs.BTreeMap.{BTreeMap, get, is_at, Updates}
use Rattle.std.proofs.lemmas.Map.Lookups.{exact_unsigned}
use Rattle.lv_source.specs.Names.{Bounds, width_of, low, high, is_signal_sort}
use Rattle.lv_source.specs.Places.{within}
use Rattle.lv_flat.specs.Signals.{Signals, signal_at}
use Rattle.lv_spans.specs.declared.span.Span.{Span}
use Rattle.lv_spans.specs.Sets.{Cell, Masks, order, entry_at, own_at, mask_at, has, is_set, is_element, is_under}
use Rattle.lv_spans.specs.Domain.{is_element_in, is_cell, is_bit, IsSpan, IsWithin, Meets}
use Rattle.lv_spans.specs.Touched.{AreTouched}
use Rattle.lv_spans.proofs.Bits.{is_set-or, is_set-and, is_set-zero, some-bit}
use Rattle.lv_spans.proofs.Added.{bit, under-self, under-to, bit-added, hits, same-of, signal-hit, hit-key}
use Rattle.lv_spans.proofs.Cells.{is-equal}

two-true : (a b : Bool) → a ≡ true → b ≡ true → (a && b) ≡ true
two-true true b h k = k
two-true false b h k = h

and-left : (a b : Bool) → (a && b) ≡ true → a ≡ true
and-left true b h = refl
and-left false b h = h

and-right : (a b : Bool) → (a && b) ≡ true → b ≡ true
and-right true b h = h
and-right false b h = absurd (true≢false (sym h))

or-split : (a b : Bool) → (a || b) ≡ true → {P : Type 0} → (a ≡ true → P) → (b ≡ true → P) → P
or-split true b h f g = f refl
or-split false b h f g = g h

or-left : (a b : Bool) → a ≡ true → (a || b) ≡ true
or-left true b h = refl
or-left false b h = absurd (true≢false (sym h))

or-right : (a b : Bool) → b ≡ true → (a || b) ≡ true
or-right true b h = refl
or-right false b h = h

lt-true : (a b : ℕ) → a < b → nat_lt a b ≡ true
lt-true a b h = grind (arith, nat_tests)

lt-same : (a b : ℕ) → b ≤ a → nat_lt a b ≡ false
lt-same a b h = grind (arith, nat_tests)

some : (n : ℕ) → not (nat_eq n 0) ≡ true → 0 < n
some n h = grind (arith, nat_tests)

zero-of : (n : ℕ) → not (nat_eq n 0) ≡ false → n ≡ 0
zero-of n h = grind (arith, nat_tests)

-- a bit of a mask lies below the width
below : (mask w i : ℕ) → mask < 2 ^ w → is_set mask i ≡ true → i < w
below mask w i lt h = elim (cases_lt i w) [
  | inl l ↦ l
  | inr ge ↦ absurd (true≢false (sym h ∙ ap (λ x. x == 1) (bit_at_above mask w i lt ge)))
]

shared : (a b : ℕ) → not (nat_eq (bit_and a b) 0) ≡ true → (i : ℕ) × (is_set a i ≡ true) × (is_set b i ≡ true)
shared a b h =
    let n : ℕ = bit_and a b in
    let r = some-bit n n (omega arith) (some n h) in
    let e = sym (is_set-and a b r.0) ∙ r.1 in
    (r.0, and-left (is_set a r.0) (is_set b r.0) e, and-right (is_set a r.0) (is_set b r.0) e)

none-shared : (a b i : ℕ) → not (nat_eq (bit_and a b) 0) ≡ false → (is_set a i && is_set b i) ≡ false
none-shared a b i h = sym (is_set-and a b i) ∙ (ap (λ x. is_set x i) (zero-of (bit_and a b) h) ∙ is_set-zero i)

abbrev clash : {A : Type 0} (b : Bool) → b ≡ true → b ≡ false → A
clash b h k = absurd (true≢false (sym h ∙ k))

swap : (a b : Bool) → (a && b) ≡ false → (b && a) ≡ false
swap true true h = h
swap true false h = refl
swap false true h = refl
swap false false h = refl

not-both : (u r : Bool) → (u ≡ true → r ≡ false) → (u && r) ≡ false
not-both true r f = f refl
not-both false r f = refl

-- a cell of a signal
abbrev Key : Option Bounds → Type 0
Key o = (el : Option ℕ) × (is_element_in o el ≡ true)

key : (o : Option Bounds) → Key o
key None = (None, refl)
key (Some b) = (Some (low b), rw (lt-same (low b) (low b) (omega arith)) (rw (lt-same (high b) (low b) (omega arith)) refl))

module _ (m : Masks) (s : Span) where
  pub meet-one : (k n : ℕ) → s.element ≡ Some k → n ≡ mask_at m (s.signal, Some k) → not (nat_eq (bit_and n s.mask) 0) ≡ true → (S : Signals) → IsWithin S m → IsSpan S s → Meets S m s
  meet-one k n e f h S w p =
      let r = shared n s.mask h in (
        (s.signal, Some k),
        r.0,
        two-true _ _ (p.element k e) (lt-true r.0 (width_of (signal_at S s.signal)) (below s.mask (width_of (signal_at S s.signal)) r.0 p.wide r.2)),
        subst (λ (el : Option ℕ). is_under s.signal el (s.signal, Some k) ≡ true) (sym e) (under-self s.signal (Some k)),
        r.2,
        ap (λ x. is_set x r.0) (sym f) ∙ r.1,
      )

  pub apart-one : (k n : ℕ) → s.element ≡ Some k → n ≡ mask_at m (s.signal, Some k) → not (nat_eq (bit_and n s.mask) 0) ≡ false →
      (q : Cell) (i : ℕ) → (is_under s.signal s.element q && (is_set s.mask i && has m q i)) ≡ false
  apart-one k n e f h q i = not-both (is_under s.signal s.element q) (is_set s.mask i && has m q i) (λ u.
      let same : (s.signal, Some k) ≡ q = same-of s.signal k q (subst (λ (el : Option ℕ). is_under s.signal el q ≡ true) e u) in
      subst (λ (c : Cell). (is_set s.mask i && has m c i) ≡ false) same
      (swap (is_set (mask_at m (s.signal, Some k)) i) (is_set s.mask i) (none-shared (mask_at m (s.signal, Some k)) s.mask i (ap (λ x. not (nat_eq (bit_and x s.mask) 0)) (sym f) ∙ h))))

  module _ (t : BTreeMap ℕ ℕ) (a : AreTouched m t) where
    from-entry : (o : Option ℕ) (i : ℕ) → is_set (unwrap_or o 0) i ≡ true → (v : ℕ) × (o ≡ Some v)
    from-entry None i h = clash (is_set 0 i) h (is_set-zero i)
    from-entry (Some v) i h = (v, refl)

    by-key : (S : Signals) → IsWithin S m → IsSpan S s → s.element ≡ None → (i : ℕ) → is_set s.mask i ≡ true → (e : Option ℕ) → bit m (s.signal, e) i ≡ true → Meets S m s
    by-key S w p none i hm (Some k) h =
        let x = from-entry (entry_at m (s.signal, Some k)) i h in (
          (s.signal, Some k),
          i,
          two-true _ _ ((w (s.signal, Some k) x.0 x.1).element k refl) (lt-true i (width_of (signal_at S s.signal)) (below s.mask (width_of (signal_at S s.signal)) i p.wide hm)),
          subst (λ (el : Option ℕ). is_under s.signal el (s.signal, Some k) ≡ true) (sym none) (under-self s.signal None),
          hm,
          is_set-or (own_at m (s.signal, Some k)) (own_at m (s.signal, None)) i ∙ or-left _ _ h,
        )
    by-key S w p none i hm None h =
        let c = key (signal_at S s.signal).array in (
          (s.signal, c.0),
          i,
          two-true _ _ (two-true _ _ p.signal c.1) (lt-true i (width_of (signal_at S s.signal)) (below s.mask (width_of (signal_at S s.signal)) i p.wide hm)),
          subst (λ (el : Option ℕ). is_under s.signal el (s.signal, c.0) ≡ true) (sym none) (under-self s.signal None),
          hm,
          is_set-or (own_at m (s.signal, c.0)) (own_at m (s.signal, None)) i ∙ or-right _ _ h,
        )

    pub meet-all : (n : ℕ) → s.element ≡ None → n ≡ unwrap_or (get nat_cmp t s.signal) 0 → not (nat_eq (bit_and n s.mask) 0) ≡ true → (S : Signals) → IsWithin S m → IsSpan S s → Meets S m s
    meet-all n e f h S w p =
        let r = shared n s.mask h in
        let o = a.one s.signal r.0 (ap (λ x. is_set x r.0) (sym f) ∙ r.1) in
        by-key S w p e r.0 r.2 o.0 o.1

    pub apart-all : (n : ℕ) → s.element ≡ None → n ≡ unwrap_or (get nat_cmp t s.signal) 0 → not (nat_eq (bit_and n s.mask) 0) ≡ false →
        (q : Cell) (i : ℕ) → (is_under s.signal s.element q && (is_set s.mask i && has m q i)) ≡ false
    apart-all n e f h q i = not-both (is_under s.signal s.element q) (is_set s.mask i && has m q i) (λ u.
        let same : q.0 ≡ s.signal = eq-of q.0 s.signal (subst (λ (el : Option ℕ). is_under s.signal el q ≡ true) e u) in
        not-both (is_set s.mask i) (has m q i) (λ hm. off (has m q i) refl same hm))
      where
        eq-of : (x y : ℕ) → (x == y) ≡ true → x ≡ y
        eq-of x y g = grind (arith, nat_tests)

        touched : q.0 ≡ s.signal → has m q i ≡ true → is_set n i ≡ true
        touched same g = or-split (bit m q i) (bit m (q.0, None) i) (sym (is_set-or (own_at m q) (own_at m (q.0, None)) i) ∙ g)
            (λ x. ap (λ y. is_set y i) f ∙ subst (λ (j : ℕ). is_set (unwrap_or (get nat_cmp t j) 0) i ≡ true) same (a.all q i x))
            (λ x. ap (λ y. is_set y i) f ∙ subst (λ (j : ℕ). is_set (unwrap_or (get nat_cmp t j) 0) i ≡ true) same (a.all (q.0, None) i x))

        off : (g : Bool) → has m q i ≡ g → q.0 ≡ s.signal → is_set s.mask i ≡ true → g ≡ false
        off false g same hm = refl
        off true g same hm = clash (is_set n i && is_set s.mask i) (two-true _ _ (touched same g) hm) (none-shared n s.mask i h)

-- ---- what is touched, with one span more

module _ (m n : Masks) (s : ℕ) (el : Option ℕ) (mask : ℕ) (is : (q : Cell) (i : ℕ) → bit n q i ≡ (bit m q i || (hits (s, el) q && is_set mask i))) (t x : BTreeMap ℕ ℕ) (v : ℕ)
    (w : v ≡ bit_or (unwrap_or (get nat_cmp t s) 0) mask) (u : Updates nat_cmp t x s (Some v)) (a : AreTouched m t) where
  abbrev T : BTreeMap ℕ ℕ → ℕ → ℕ → Bool
  T y j i = is_set (unwrap_or (get nat_cmp y j) 0) i

  same-key : (j : ℕ) → is_at (nat_cmp s) j ≡ true → s ≡ j
  same-key j h = exact_unsigned s j (is-equal (nat_cmp s j) h)

  at : (j i : ℕ) (c : Bool) → is_at (nat_cmp s) j ≡ c → T x j i ≡ (T t j i || (c && is_set mask i))
  at j i true h =
      ap (λ o. is_set (unwrap_or o 0) i) (u.0 j ∙ ap (λ c. cond c (Some v) (get nat_cmp t j)) h) ∙
      (ap (λ y. is_set y i) w ∙ (is_set-or (unwrap_or (get nat_cmp t s) 0) mask i ∙ ap (λ k. T t k i || is_set mask i) (same-key j h)))
  at j i false h = ap (λ o. is_set (unwrap_or o 0) i) (u.0 j ∙ ap (λ c. cond c (Some v) (get nat_cmp t j)) h) ∙ last (T t j i)
    where
      last : (b : Bool) → b ≡ (b || false)
      last true = refl
      last false = refl

  pub touched-added : AreTouched n x
  touched-added = record {
    all = λ q i h. at q.0 i (is_at (nat_cmp s) q.0) refl ∙ or-split (bit m q i) (hits (s, el) q && is_set mask i) (sym (is q i) ∙ h)
        (λ b. or-left _ _ (a.all q i b))
        (λ b. or-right _ _ (two-true _ _ (signal-hit s el q (and-left _ _ b)) (and-right _ _ b)));
    one = λ j i h. or-split (T t j i) (is_at (nat_cmp s) j && is_set mask i) (sym (at j i (is_at (nat_cmp s) j) refl) ∙ h)
        (λ b. let o = a.one j i b in (o.0, is (j, o.0) i ∙ or-left _ _ o.1))
        (λ b. (el, is (j, el) i ∙ or-right _ _ (two-true _ _ (hit-key s el j (same-key j (and-left _ _ b))) (and-right _ _ b))));
  }
