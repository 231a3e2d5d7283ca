-- Spans with a bit that is written in the block and not done.
use Rattle.std.proofs.Common.{◌≡◌, ℕ, ◌+◌, ◌^◌, ◌<◌, ◌≤◌, Bool, true, false, not, ◌&&◌, ◌||◌, ◌==◌, List, length, take, get_or, Option, Some, None, bit_and, refl, sym, ◌∙◌, ap, subst, arith, inl, inr}
use Rattle.std.specs.Prelude.{nat_lt}
use Rattle.std.proofs.lemmas.Bool.{cases_lt}
use Rattle.std.proofs.lemmas.Bool.Decides.{nat_tests}
use Rattle.std.proofs.lemmas.Nat.Bits.{bit_at_above}
use Rattle.lv_source.specs.Names.{Bounds, width_of, low, high, is_signal_sort}
use Rattle.lv_source.specs.Places.{Bit, has_bit, within}
use Rattle.lv_source.specs.Summary.{without}
use Rattle.lv_source.proofs.Tests.{and-left, and-right, and-both, or-right}
use Rattle.lv_source.proofs.Summaries.{some_bit_of, bit_is_some, filter-has}
use Rattle.lv_flat.specs.Signals.{Signals, signal_at}
use Rattle.lv_spans.specs.declared.span.Span.{Span}
use Rattle.lv_spans.specs.Sets.{Cell, Masks, own_at, mask_at, has, is_set, is_under}
use Rattle.lv_spans.specs.Domain.{is_element_in, is_cell, is_bit, bit_of, spans_have, IsSpan, IsSetOf, AreSpansOf}
use Rattle.lv_spans.proofs.Bits.{is_set-and, is_set-zero, some-bit}
use Rattle.lv_spans.proofs.Added.{under-self}
use Rattle.lv_paths.specs.Bits.{holds, open_mask, is_cell_open, IsElementOpen, is_open_bit, IsOpen, exposes, IsExposed}
use Rattle.lv_paths.proofs.Lists.{any-at, any-more, no-way}
use Rattle.lv_paths.proofs.Masks.{bits-left}

not-zero : (n : ℕ) → not (n == 0) ≡ true → 0 < n
not-zero n h = grind (arith, nat_tests)

of-zero : (n : ℕ) → not (n == 0) ≡ false → n ≡ 0
of-zero n h = grind (arith, nat_tests)

of-eq : (a b : ℕ) → (a == b) ≡ true → a ≡ b
of-eq a b h = grind (arith, nat_tests)

lt-true : (a b : ℕ) → a < b → nat_lt a b ≡ true
lt-true a b h = grind (arith, nat_tests)

within-least : (l h i : ℕ) → within l h i ≡ true → l ≤ i
within-least l h i e = grind (arith, nat_tests)

within-most : (l h i : ℕ) → within l h i ≡ true → i ≤ h
within-most l h i e = grind (arith, nat_tests)

is-within : (l h i : ℕ) → l ≤ i → i ≤ h → within l h i ≡ true
is-within l h i p q = grind (arith, nat_tests)

set-below : (n w i : ℕ) → n < 2 ^ w → is_set n i ≡ true → i < w
set-below n w i l h = elim (cases_lt i w) [
  | inl a ↦ a
  | inr b ↦ absurd (no-way (is_set n i) h (ap (λ x. x == 1) (bit_at_above n w i l b)))
]

-- ---- one cell

module _ (w d : Masks) (mask : ℕ) (q : Cell) where
  open-bits : (i : ℕ) → is_set (open_mask w d mask q) i ≡ ((has w q i && is_set mask i) && not (holds d q i))
  open-bits i =
      bits-left (bit_and (mask_at w q) mask) (own_at d q) i ∙ ap (λ u. u && not (holds d q i)) (is_set-and (mask_at w q) mask i)

  record HasOpen : Type 0 where
    at : ℕ
    set : is_set mask at ≡ true
    written : has w q at ≡ true
    left : not (holds d q at) ≡ true

  has-open : is_cell_open w d mask q ≡ true → HasOpen
  has-open h =
      let n : ℕ = open_mask w d mask q in
      let r : (i : ℕ) × (is_set n i ≡ true) = some-bit n n (omega arith) (not-zero n h) in
      let e : ((has w q r.0 && is_set mask r.0) && not (holds d q r.0)) ≡ true = sym (open-bits r.0) ∙ r.1 in
      let f : (has w q r.0 && is_set mask r.0) ≡ true = and-left (has w q r.0 && is_set mask r.0) (not (holds d q r.0)) e in
      record {
        at = r.0;
        set = and-right (has w q r.0) (is_set mask r.0) f;
        written = and-left (has w q r.0) (is_set mask r.0) f;
        left = and-right (has w q r.0 && is_set mask r.0) (not (holds d q r.0)) e;
      }

  turned : (a b c : Bool) → ((a && b) && c) ≡ false → (b && (a && c)) ≡ false
  turned true true c h = h
  turned false true c h = refl
  turned a false c h = refl

  has-shut : is_cell_open w d mask q ≡ false → (i : ℕ) → (is_set mask i && (has w q i && not (holds d q i))) ≡ false
  has-shut h i = turned (has w q i) (is_set mask i) (not (holds d q i))
      (sym (open-bits i) ∙ (ap (λ n. is_set n i) (of-zero (open_mask w d mask q) h) ∙ is_set-zero i))

-- ---- one span

never : (a b : Bool) → (a ≡ true → b ≡ false) → (a && b) ≡ false
never true b f = f refl
never false b f = refl

module _ (S : Signals) (w d : Masks) (s : Span) where
  -- no cell that the span stands for has a bit
  all-shut : ((q : Cell) → is_cell S q ≡ true → is_under s.signal s.element q ≡ true → is_cell_open w d s.mask q ≡ false) →
      (q : Cell) (i : ℕ) → is_bit S q i ≡ true → is_open_bit w d s q i ≡ false
  all-shut f q i h = never (is_under s.signal s.element q) (is_set s.mask i && (has w q i && not (holds d q i)))
      (λ u. has-shut w d s.mask q (f q (and-left (is_cell S q) (nat_lt i (width_of (signal_at S q.0))) h) u) i)

  some-open : IsSpan S s → (el : Option ℕ) → is_cell S (s.signal, el) ≡ true → is_under s.signal s.element (s.signal, el) ≡ true →
      is_cell_open w d s.mask (s.signal, el) ≡ true → IsOpen S w d s
  some-open p el c u h =
      let r : HasOpen w d s.mask (s.signal, el) = has-open w d s.mask (s.signal, el) h in
      let q : Cell = (s.signal, el) in
      let width : ℕ = width_of (signal_at S s.signal) in (
        q,
        r.at,
        and-both (is_cell S q) (nat_lt r.at width) c (lt-true r.at width (set-below s.mask width r.at p.wide r.set)),
        and-both (is_under s.signal s.element q) (is_set s.mask r.at && (has w q r.at && not (holds d q r.at))) u
            (and-both (is_set s.mask r.at) (has w q r.at && not (holds d q r.at)) r.set (and-both (has w q r.at) (not (holds d q r.at)) r.written r.left)),
      )

  -- an element
  module _ (e : ℕ) (el : s.element ≡ Some e) where
    pub open-element : IsSpan S s → is_cell_open w d s.mask (s.signal, Some e) ≡ true → IsOpen S w d s
    open-element p h = some-open p (Some e) (p.element e el) (subst (λ (x : Option ℕ). is_under s.signal x (s.signal, Some e) ≡ true) (sym el) (under-self s.signal (Some e))) h

    cell-of : (q : Cell) → is_under s.signal (Some e) q ≡ true → q ≡ (s.signal, Some e)
    cell-of (j, None) h = absurd (no-way false (and-right (j == s.signal) false h) refl)
    cell-of (j, Some i) h =
        ap (λ (n : ℕ). (n, Some i)) (of-eq j s.signal (and-left (j == s.signal) (i == e) h)) ∙ ap (λ (n : ℕ). (s.signal, Some n)) (of-eq i e (and-right (j == s.signal) (i == e) h))

    pub shut-element : is_cell_open w d s.mask (s.signal, Some e) ≡ false → (q : Cell) (i : ℕ) → is_bit S q i ≡ true → is_open_bit w d s q i ≡ false
    shut-element h = all-shut (λ q c u.
        ap (is_cell_open w d s.mask) (cell-of q (subst (λ (x : Option ℕ). is_under s.signal x q ≡ true) el u)) ∙ h)

  module _ (whole : s.element ≡ None) where
    signal-of : (q : Cell) → is_under s.signal s.element q ≡ true → q.0 ≡ s.signal
    signal-of q u = of-eq q.0 s.signal (subst (λ (x : Option ℕ). is_under s.signal x q ≡ true) whole u)

    element-in : (q : Cell) (o : Option Bounds) → (signal_at S s.signal).array ≡ o → is_cell S q ≡ true → is_under s.signal s.element q ≡ true → is_element_in o q.1 ≡ true
    element-in q o a c u =
        subst (λ (x : Option Bounds). is_element_in x q.1 ≡ true) (ap (λ j. (signal_at S j).array) (signal-of q u) ∙ a)
        (and-right (is_signal_sort (signal_at S q.0).sort) (is_element_in (signal_at S q.0).array q.1) c)

    none-of : (el : Option ℕ) → is_element_in None el ≡ true → el ≡ None
    none-of None h = refl
    none-of (Some j) h = cc

    under-whole : (el : Option ℕ) → is_under s.signal s.element (s.signal, el) ≡ true
    under-whole el = subst (λ (x : Option ℕ). is_under s.signal x (s.signal, el) ≡ true) (sym whole) (under-self s.signal None)

    -- a signal that is no array
    pub open-scalar : (signal_at S s.signal).array ≡ None → IsSpan S s → is_cell_open w d s.mask (s.signal, None) ≡ true → IsOpen S w d s
    open-scalar a p h =
        some-open p None (and-both (is_signal_sort (signal_at S s.signal).sort) (is_element_in (signal_at S s.signal).array None) p.signal (ap (λ o. is_element_in o None) a))
        (under-whole None) h

    pub shut-scalar : (signal_at S s.signal).array ≡ None → is_cell_open w d s.mask (s.signal, None) ≡ false → (q : Cell) (i : ℕ) → is_bit S q i ≡ true → is_open_bit w d s q i ≡ false
    shut-scalar a h = all-shut (λ q c u.
        let same : q ≡ (s.signal, None) = ap (λ (n : ℕ). (n, q.1)) (signal-of q u) ∙ ap (λ (x : Option ℕ). (s.signal, x)) (none-of q.1 (element-in q None a c u)) in
        ap (is_cell_open w d s.mask) same ∙ h)

    -- an array
    module _ (b : Bounds) (array : (signal_at S s.signal).array ≡ Some b) (l end : ℕ) (lo : l ≡ low b) (hi : end ≡ high b + 1) where
      pub open-array : IsSpan S s → IsElementOpen w d s.mask s.signal l end → IsOpen S w d s
      open-array p r =
          some-open p (Some r.0) (and-both (is_signal_sort (signal_at S s.signal).sort) (is_element_in (signal_at S s.signal).array (Some r.0)) p.signal
          (ap (λ o. is_element_in o (Some r.0)) array ∙ is-within (low b) (high b) r.0 (let a = r.1 in omega (arith, a, lo)) (let a = r.2 in omega (arith, a, hi)))) (under-whole (Some r.0)) r.3

      by-element : (q : Cell) (el : Option ℕ) → q.1 ≡ el → q.0 ≡ s.signal → is_element_in (Some b) el ≡ true →
          ((e : ℕ) → l ≤ e → e < end → is_cell_open w d s.mask (s.signal, Some e) ≡ false) → is_cell_open w d s.mask q ≡ false
      by-element q None e f t h = absurd (no-way false t refl)
      by-element q (Some i) e f t h =
          let same : q ≡ (s.signal, Some i) = ap (λ (n : ℕ). (n, q.1)) f ∙ ap (λ (x : Option ℕ). (s.signal, x)) e in
          ap (is_cell_open w d s.mask) same ∙
          h i (let a = within-least (low b) (high b) i t in omega (arith, a, lo)) (let a = within-most (low b) (high b) i t in omega (arith, a, hi))

      pub shut-array : ((e : ℕ) → l ≤ e → e < end → is_cell_open w d s.mask (s.signal, Some e) ≡ false) → (q : Cell) (i : ℕ) → is_bit S q i ≡ true → is_open_bit w d s q i ≡ false
      shut-array h = all-shut (λ q c u. by-element q q.1 refl (signal-of q u) (element-in q (Some b) array c u) h)

-- ---- a list of spans

either-false : (a u m g : Bool) → (a && g) ≡ false → (u && (m && g)) ≡ false → ((a || (u && m)) && g) ≡ false
either-false true u m g h k = h
either-false false true true g h k = k
either-false false true false g h k = refl
either-false false false m g h k = refl

-- no bit of the spans is written and not done
abbrev pub AllShut : Signals → Masks → Masks → List Span → Type 0
AllShut S w d xs = (q : Cell) (i : ℕ) → is_bit S q i ≡ true → (spans_have xs q i && (has w q i && not (holds d q i))) ≡ false

module _ (S : Signals) (w d : Masks) (xs : List Span) where
  pub shut-more : (k : ℕ) (s : Span) → k < length xs → s ≡ get_or xs k s → AllShut S w d (take k xs) → ((q : Cell) (i : ℕ) → is_bit S q i ≡ true → is_open_bit w d s q i ≡ false) →
      AllShut S w d (take (k + 1) xs)
  shut-more k s lt e h f q i t =
      ap (λ u. u && (has w q i && not (holds d q i))) (any-more (λ (x : Span). is_under x.signal x.element q && is_set x.mask i) xs k s lt e) ∙
      either-false (spans_have (take k xs) q i) (is_under s.signal s.element q) (is_set s.mask i) (has w q i && not (holds d q i)) (h q i t) (f q i t)

  module _ (bits : List Bit) (p : AreSpansOf S bits xs) (W D : List Bit) (hw : IsSetOf S W (has w)) (hd : IsSetOf S D (holds d)) where
    seen : (k : ℕ) (s : Span) → k < length xs → s ≡ get_or xs k s → IsOpen S w d s → exposes W D bits ≡ true
    seen k s lt e r =
        let q : Cell = r.0 in
        let i : ℕ = r.1 in
        let rest : Bool = has w q i && not (holds d q i) in
        let under : is_under s.signal s.element q ≡ true = and-left (is_under s.signal s.element q) (is_set s.mask i && rest) r.3 in
        let more : (is_set s.mask i && rest) ≡ true = and-right (is_under s.signal s.element q) (is_set s.mask i && rest) r.3 in
        let set : is_set s.mask i ≡ true = and-left (is_set s.mask i) rest more in
        let good : rest ≡ true = and-right (is_set s.mask i) rest more in
        let written : has w q i ≡ true = and-left (has w q i) (not (holds d q i)) good in
        let left : not (holds d q i) ≡ true = and-right (has w q i) (not (holds d q i)) good in
        let there : spans_have xs q i ≡ true =
        any-at (λ (x : Span). is_under x.signal x.element q && is_set x.mask i) xs k s lt e (and-both (is_under s.signal s.element q) (is_set s.mask i) under set) in
        let b : Bit = bit_of S q i in
        bit_is_some (has_bit W) (without D bits) b
        (filter-has (λ c. not (has_bit D c)) bits b ∙ and-both (not (has_bit D b)) (has_bit bits b) (ap not (sym (hd.same q i r.2)) ∙ left) (sym (p.set.same q i r.2) ∙ there))
        (sym (hw.same q i r.2) ∙ written)

    unseen : AllShut S w d xs → (u : Bool) → exposes W D bits ≡ u → u ≡ false
    unseen h false e = refl
    unseen h true e =
        let r : (b : Bit) × (has_bit (without D bits) b ≡ true) × (has_bit W b ≡ true) = some_bit_of (has_bit W) (without D bits) e in
        let b : Bit = r.0 in
        let f : (not (has_bit D b) && has_bit bits b) ≡ true = sym (filter-has (λ c. not (has_bit D c)) bits b) ∙ r.1 in
        let in_bits : has_bit bits b ≡ true = and-right (not (has_bit D b)) (has_bit bits b) f in
        let z : (q : Cell) × (i : ℕ) × (is_bit S q i ≡ true) × (bit_of S q i ≡ b) = p.set.inside b in_bits in
        let q : Cell = z.0 in
        let i : ℕ = z.1 in
        let there : spans_have xs q i ≡ true = p.set.same q i z.2 ∙ (ap (has_bit bits) z.3 ∙ in_bits) in
        let written : has w q i ≡ true = hw.same q i z.2 ∙ (ap (has_bit W) z.3 ∙ r.2) in
        let left : not (holds d q i) ≡ true = ap not (hd.same q i z.2 ∙ ap (has_bit D) z.3) ∙ and-left (not (has_bit D b)) (has_bit bits b) f in
        absurd (no-way (spans_have xs q i && (has w q i && not (holds d q i)))
        (and-both (spans_have xs q i) (has w q i && not (holds d q i)) there (and-both (has w q i) (not (holds d q i)) written left)) (h q i z.2))

  pub is-exposed : (already : Bool) (k : ℕ) (s : Span) → k < length xs → s ≡ get_or xs k s → IsOpen S w d s → (bits : List Bit) → AreSpansOf S bits xs → IsExposed S w d already true bits
  is-exposed already k s lt e r bits p = λ W D hw hd. sym (or-right already (exposes W D bits) (seen bits p W D hw hd k s lt e r))

  pub not-exposed : (already : Bool) → already ≡ false → AllShut S w d xs → (bits : List Bit) → AreSpansOf S bits xs → IsExposed S w d already false bits
  not-exposed already a h bits p = λ W D hw hd. sym (ap (λ u. u || exposes W D bits) a ∙ unseen bits p W D hw hd h (exposes W D bits) refl)

pub exposed-already : (S : Signals) (w d : Masks) (already : Bool) (bits : List Bit) → already ≡ true → IsExposed S w d already true bits
exposed-already S w d already bits a = λ W D hw hd. sym (ap (λ u. u || exposes W D bits) a)
