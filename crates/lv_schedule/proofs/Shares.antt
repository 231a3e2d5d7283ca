-- Spans that share a bit, and spans that are read of all that their signal's hub leads to.
use Rattle.std.proofs.Common.{◌≡◌, ℕ, ◌-◌, ◌^◌, ◌<◌, Bool, true, false, not, ◌&&◌}
use Rattle.std.proofs.Common.{◌==◌, List, refl, ap, sym, subst, ◌∙◌, inl, inr, arith, Option, Some, None, bit_and}
use Rattle.std.specs.Prelude.{slice_get, nat_lt}
use Rattle.std.specs.List.{list_any}
use Rattle.std.specs.Int.{bit_at, bit_not, w128}
use Rattle.std.proofs.lemmas.Bool.{eqb-true, eq-eqb, cases_lt, cases_eq, ltb-true}
use Rattle.std.proofs.lemmas.Nat.Bits.{bit_at_not, bit_at_above, bit_at-lt}
use Rattle.lv_source.proofs.Tests.{and-left, and-right, and-both, decide, not-true}
use Rattle.lv_spans.specs.declared.span.Span.{Span}
use Rattle.lv_spans.specs.Sets.{Cell, Masks, has, is_set, is_element, is_under}
use Rattle.lv_spans.proofs.Bits.{is_set-and, is_set-zero, some-bit}
use Rattle.lv_schedule.specs.declared.drivers.Driver.{Driver}
use Rattle.lv_schedule.specs.Drivers.{is_element_of_both, shares, is_met}
use Rattle.lv_schedule.specs.Tables.{is_live, is_live_at, drives_bit, IsOwn, IsCovering, IsWhole, is_wide}
use Rattle.lv_schedule.proofs.Lists.{same_tests, not_both, any_of, any_alike}

-- ---- masks

pub not_zero : (n : ℕ) → not (n == 0) ≡ true → 0 < n
not_zero n h = elim (cases_lt 0 n) [
  | inl l ↦ l
  | inr g ↦ absurd (not_both (n == 0) (eq-eqb n 0 (omega arith)) (not-true (n == 0) h))
]

pub has_none : (n i : ℕ) → is_set n i ≡ true → not (n == 0) ≡ true
has_none n i h = elim (decide (n == 0)) [
  | inl e ↦ absurd (not_both (is_set n i) h (ap (λ z. is_set z i) (eqb-true n 0 e) ∙ is_set-zero i))
  | inr e ↦ ap not e
]

pub bit_of_both : (a b : ℕ) → not (bit_and a b == 0) ≡ true → (i : ℕ) × (is_set a i ≡ true) × (is_set b i ≡ true)
bit_of_both a b h =
    let t : (i : ℕ) × (is_set (bit_and a b) i ≡ true) = some-bit (bit_and a b) (bit_and a b) (omega arith) (not_zero (bit_and a b) h) in
    let e : (is_set a t.0 && is_set b t.0) ≡ true = sym (is_set-and a b t.0) ∙ t.1 in
    (t.0, and-left (is_set a t.0) (is_set b t.0) e, and-right (is_set a t.0) (is_set b t.0) e)

pub both_have : (a b i : ℕ) → is_set a i ≡ true → is_set b i ≡ true → not (bit_and a b == 0) ≡ true
both_have a b i h k = has_none (bit_and a b) i (is_set-and a b i ∙ and-both (is_set a i) (is_set b i) h k)

pub set_below : (n w i : ℕ) → n < 2 ^ w → is_set n i ≡ true → i < w
set_below n w i l h = elim (cases_lt i w) [
  | inl a ↦ a
  | inr b ↦ absurd (let z : bit_at n i ≡ 0 = bit_at_above n w i l b in let o : bit_at n i ≡ 1 = eqb-true (bit_at n i) 1 h in omega arith)
]

-- ---- elements

pub under_self : (s : ℕ) (e : Option ℕ) → is_under s e (s, e) ≡ true
under_self s None = eq-eqb s s refl
under_self s (Some k) = and-both (s == s) (k == k) (eq-eqb s s refl) (eq-eqb k k refl)

pub under_signal : (s : ℕ) (e : Option ℕ) (q : Cell) → is_under s e q ≡ true → q.0 ≡ s
under_signal s None q h = eqb-true q.0 s h
under_signal s (Some k) q h = eqb-true q.0 s (and-left (q.0 == s) (is_element k q.1) h)

element_of : (k : ℕ) (e : Option ℕ) → is_element k e ≡ true → e ≡ Some k
element_of k None h = cc
element_of k (Some j) h = ap (λ z. Some z) (eqb-true j k h)

-- two spans that are over one cell
pub over_one : (s t : ℕ) (d e : Option ℕ) (q : Cell) → is_under s d q ≡ true → is_under t e q ≡ true → is_element_of_both d e ≡ true
over_one s t None e q h k = refl
over_one s t (Some m) None q h k = refl
over_one s t (Some m) (Some n) q h k =
    let a : q.1 ≡ Some m = element_of m q.1 (and-right (q.0 == s) (is_element m q.1) h) in
    let b : q.1 ≡ Some n = element_of n q.1 (and-right (q.0 == t) (is_element n q.1) k) in
    let c : Some m ≡ Some n = sym a ∙ b in
    eq-eqb m n (let z : m ≡ n = cc in z)

pub shares_by : (r t : Span) (q : Cell) (i : ℕ) → is_under r.signal r.element q ≡ true → is_set r.mask i ≡ true → is_under t.signal t.element q ≡ true → is_set t.mask i ≡ true
    → shares r t ≡ true
shares_by r t q i h m k n =
    and-both (r.signal == t.signal) (is_element_of_both r.element t.element && not (bit_and r.mask t.mask == 0))
    (eq-eqb r.signal t.signal (sym (under_signal r.signal r.element q h) ∙ under_signal t.signal t.element q k))
    (and-both (is_element_of_both r.element t.element) (not (bit_and r.mask t.mask == 0)) (over_one r.signal t.signal r.element t.element q h k) (both_have r.mask t.mask i m n))

-- ---- what shares a bit has one

pub shares_signal : (r t : Span) → shares r t ≡ true → r.signal ≡ t.signal
shares_signal r t h = eqb-true r.signal t.signal (and-left (r.signal == t.signal) (is_element_of_both r.element t.element && not (bit_and r.mask t.mask == 0)) h)

pub shares_mask : (r t : Span) → shares r t ≡ true → not (bit_and r.mask t.mask == 0) ≡ true
shares_mask r t h =
    and-right (is_element_of_both r.element t.element) (not (bit_and r.mask t.mask == 0))
    (and-right (r.signal == t.signal) (is_element_of_both r.element t.element && not (bit_and r.mask t.mask == 0)) h)

pub shares_live : (r : Span) (d : Driver) → shares r d.span ≡ true → is_live_at r.signal d ≡ true
shares_live r d h =
    let b : (i : ℕ) × (is_set r.mask i ≡ true) × (is_set d.span.mask i ≡ true) = bit_of_both r.mask d.span.mask (shares_mask r d.span h) in
    and-both (d.span.signal == r.signal) (is_live d) (eq-eqb d.span.signal r.signal (sym (shares_signal r d.span h))) (has_none d.span.mask b.0 b.2)

-- ---- whole signals

pub turned : (n i : ℕ) → n < 2 ^ 128 → i < 128 → is_set n i ≡ false → is_set (bit_not w128 n) i ≡ true
turned n i l m f =
    let b : bit_at n i < 2 = bit_at-lt n i in
    let z : bit_at n i ≡ 0 = elim (cases_eq (bit_at n i) 1) [
      | inl o ↦ absurd (not_both (is_set n i) (eq-eqb (bit_at n i) 1 o) f)
      | inr o ↦ omega arith
    ] in
    let t : bit_at (bit_not w128 n) i ≡ 1 = (let y : bit_at (bit_not w128 n) i ≡ 1 - bit_at n i = bit_at_not w128 n i l m in omega arith) in
    eq-eqb (bit_at (bit_not w128 n) i) 1 t

-- where no bit at another place of the signal is driven
pub covering : (D : List Driver) (r : Span) (set : Masks) (rest : ℕ) → ((q : Cell) (i : ℕ) → has set q i ≡ list_any (drives_bit q i) D)
    → ((i : ℕ) → i < 128 → is_set r.mask i ≡ false → is_set rest i ≡ true)
    → ((q : Cell) (i : ℕ) → (is_under r.signal None q && (is_set rest i && has set q i)) ≡ false) → IsCovering D r
covering D r set rest h t a q i e f m = elim (decide (list_any (drives_bit q i) D)) [
  | inl d ↦
      absurd (not_both (is_under r.signal None q && (is_set rest i && has set q i))
      (and-both (is_under r.signal None q) (is_set rest i && has set q i) (eq-eqb q.0 r.signal e)
      (and-both (is_set rest i) (has set q i) (t i m f) (h q i ∙ d))) (a q i))
  | inr d ↦ d
]

no_alone : (b c : Bool) → ((b ≡ true) → (c ≡ true) → ⊥) → not (b && c) ≡ true
no_alone true true f = absurd (f refl refl)
no_alone true false f = refl
no_alone false c f = refl

module _ (D : List Driver) (part : ℕ) (alone : Bool) (own : Masks) (r : Span) (whole : r.element ≡ None) (c : IsCovering D r) (o : IsOwn D part alone own)
    (narrow : list_any is_wide D ≡ false)
    (a : (q : Cell) (i : ℕ) → (is_under r.signal r.element q && (is_set r.mask i && has own q i)) ≡ false) where
  wide_not : (k : ℕ) (d : Driver) → slice_get D k ≡ Some d → d.span.mask < 2 ^ 128
  wide_not k d e = elim (decide (nat_lt d.span.mask (2 ^ 128))) [
    | inl t ↦ ltb-true d.span.mask (2 ^ 128) t
    | inr f ↦ absurd (not_both (list_any is_wide D) (any_of is_wide D k d e (ap not f)) narrow)
  ]

  met_of_live : (k : ℕ) (d : Driver) → slice_get D k ≡ Some d → is_live_at r.signal d ≡ true → is_met part alone r d ≡ true
  met_of_live k d e h =
      let s : d.span.signal ≡ r.signal = eqb-true d.span.signal r.signal (and-left (d.span.signal == r.signal) (is_live d) h) in
      let l : not (d.span.mask == 0) ≡ true = and-right (d.span.signal == r.signal) (is_live d) h in
      let b : (i : ℕ) × (is_set d.span.mask i ≡ true) = some-bit d.span.mask d.span.mask (omega arith) (not_zero d.span.mask l) in
      let q : Cell = (d.span.signal, d.span.element) in
      let m : b.0 < 128 = set_below d.span.mask 128 b.0 (wide_not k d e) b.1 in
      let t : drives_bit q b.0 d ≡ true = and-both (is_under d.span.signal d.span.element q) (is_set d.span.mask b.0) (under_self d.span.signal d.span.element) b.1 in
      let u : is_under r.signal r.element q ≡ true = subst (λ z. is_under r.signal z q ≡ true) (sym whole) (eq-eqb d.span.signal r.signal s) in
      let i : is_set r.mask b.0 ≡ true = elim (decide (is_set r.mask b.0)) [
        | inl y ↦ y
        | inr n ↦ absurd (not_both (list_any (drives_bit q b.0) D) (any_of (drives_bit q b.0) D k d e t) (c q b.0 s n m))
      ] in
      and-both (shares r d.span) (not (alone && (d.part == part))) (shares_by r d.span q b.0 u i (under_self d.span.signal d.span.element) b.1)
      (no_alone alone (d.part == part) (λ y z.
      not_both (is_under r.signal r.element q && (is_set r.mask b.0 && has own q b.0))
      (and-both (is_under r.signal r.element q) (is_set r.mask b.0 && has own q b.0) u
      (and-both (is_set r.mask b.0) (has own q b.0) i
      (o q b.0 ∙ and-both alone (list_any (λ d. (d.part == part) && drives_bit q b.0 d) D) y
      (any_of (λ d. (d.part == part) && drives_bit q b.0 d) D k d e (and-both (d.part == part) (drives_bit q b.0 d) z t)))))
      (a q b.0)))

  met_is_live : (k : ℕ) (d : Driver) → slice_get D k ≡ Some d → is_met part alone r d ≡ is_live_at r.signal d
  met_is_live k d e = same_tests (is_met part alone r d) (is_live_at r.signal d)
      (λ h. shares_live r d (and-left (shares r d.span) (not (alone && (d.part == part))) h)) (met_of_live k d e)

  pub whole_is : (count : ℕ) → r.signal < count → IsWhole D count part alone r
  whole_is count l = record {
    below = l;
    same = λ k. any_alike (λ d. is_met part alone r d && (d.part == k)) (λ d. is_live_at r.signal d && (d.part == k)) D
        (λ n d e. ap (λ b. b && (d.part == k)) (met_is_live n d e));
  }
