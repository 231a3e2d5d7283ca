-- Bits that parts drive, part by part.
use Rattle.std.proofs.Common.{◌≡◌, ℕ, ◌+◌, ◌<◌, ◌≤◌, Bool, true, false, ◌&&◌, ◌||◌, ◌==◌, List, take, length, get_or, set, refl, ap, sym, subst, ◌∙◌, inl, inr, arith, Some}
use Rattle.std.specs.Prelude.{slice_get, All}
use Rattle.std.specs.List.{list_any}
use Rattle.std.proofs.lemmas.Bool.{cases_eq, eq-eqb, ne_eqb}
use Rattle.std.proofs.lemmas.List.{get_or-set_same, get_or-set_other}
use Rattle.std.proofs.lemmas.Option.{slice_get_read, slice_get_within}
use Rattle.lv_source.proofs.Tests.{and-both}
use Rattle.lv_flat.specs.Signals.{Signals}
use Rattle.lv_spans.specs.declared.span.Span.{Span}
use Rattle.lv_spans.specs.Sets.{Cell, Masks, has, is_under, is_set}
use Rattle.lv_spans.specs.Domain.{IsSpan, IsWithin, Meets, spans_have}
use Rattle.lv_extents.specs.declared.extent.Extent.{Extent}
use Rattle.lv_rules.specs.Drives.{is_marked, MeetsSome, is_overdriven, is_mixed, SharesBit, AreApart, HasNoneTwice, AllSpans, IsTwice}
use Rattle.lv_rules.proofs.Lists.{IsSome, some_of, any_of, not_both, IsFront, take_get, get_take, any_step}

-- ---- one span more

pub meets-some : (S : Signals) (set : Masks) (spans : List Span) (k : ℕ) (s : Span) → slice_get spans k ≡ Some s → Meets S set s → MeetsSome S set spans
meets-some S set spans k s e m = record {
  cell = m.0;
  at = m.1;
  there = m.2;
  in_spans = any_of (λ x. is_under x.signal x.element m.0 && is_set x.mask m.1) spans k s e (and-both (is_under s.signal s.element m.0) (is_set s.mask m.1) m.3 m.4);
  in_set = m.5;
}

both_false : (a b c d : Bool) → (a && d) ≡ false → (b && (c && d)) ≡ false → ((a || b && c) && d) ≡ false
both_false true b c true h k = cc
both_false true b c false h k = refl
both_false false true true d h k = k
both_false false true false d h k = refl
both_false false false c d h k = refl

pub apart-more : (spans : List Span) (set : Masks) (n : ℕ) (s : Span) → n < length spans → s ≡ get_or spans n s
    → ((q : Cell) (i : ℕ) → (is_under s.signal s.element q && (is_set s.mask i && has set q i)) ≡ false)
    → ((q : Cell) (i : ℕ) → (spans_have (take n spans) q i && has set q i) ≡ false)
    → (q : Cell) (i : ℕ) → (spans_have (take (n + 1) spans) q i && has set q i) ≡ false
apart-more spans set n s l e h k q i =
    let p : Span → Bool = λ x. is_under x.signal x.element q && is_set x.mask i in
    ap (λ z. z && has set q i) (sym (any_step p spans n s false (spans_have (take n spans) q i) (spans_have (take n spans) q i || p s) l e refl refl)) ∙
    both_false (spans_have (take n spans) q i) (is_under s.signal s.element q) (is_set s.mask i) (has set q i) (k q i) (h q i)

pub span_at : (S : Signals) (spans : List Span) (n : ℕ) (s : Span) → n < length spans → s ≡ get_or spans n s → All (IsSpan S) spans → IsSpan S s
span_at S spans n s l e h = subst (IsSpan S) (sym e) (h n s l)

-- ---- one mark more

or_true : (a b : Bool) → b ≡ true → (a || b) ≡ true
or_true true b h = refl
or_true false b h = h

or_false : (a b : Bool) → b ≡ false → (a || b) ≡ a
or_false true b h = refl
or_false false b h = h

pub marked-set : (marks : List Bool) (k s : ℕ) → s < length marks → is_marked (set marks k true) s ≡ (is_marked marks s || (k == s))
marked-set marks k s l = elim (cases_eq s k) [
  | inl e ↦
      ap (is_marked (set marks k true)) e ∙ (get_or-set_same marks k true false (subst (λ z. z < length marks) e l) ∙
      sym (or_true (is_marked marks s) (k == s) (eq-eqb k s (sym e))))
  | inr e ↦ get_or-set_other marks k s true false e ∙ sym (or_false (is_marked marks s) (k == s) (ne_eqb k s (λ f. e (sym f))))
]

-- ---- one part more

pub record AreShared (S : Signals) (clocked unclocked : List Bool) (xs : List Extent) (set : Masks) (n : ℕ) : Type 0 where
  pub alone : (k : ℕ) (x : Extent) → k < n → slice_get xs k ≡ Some x → (is_overdriven S x || is_mixed S clocked unclocked x) ≡ false
  pub apart : (j k : ℕ) (x y : Extent) → j < k → k < n → slice_get xs j ≡ Some x → slice_get xs k ≡ Some y → AreApart x y
  pub holds : (q : Cell) (i : ℕ) → has set q i ≡ list_any (λ x. spans_have x.drives q i) (take n xs)
  pub within : AllSpans S xs → IsWithin S set

pub shared_none : (S : Signals) (clocked unclocked : List Bool) (xs : List Extent) (set : Masks) → ((q : Cell) (i : ℕ) → has set q i ≡ false) → ((S : Signals) → IsWithin S set)
    → AreShared S clocked unclocked xs set 0
shared_none S clocked unclocked xs set h w = record {
  alone = λ k x l e. absurd (omega arith);
  apart = λ j k x y l m e f. absurd (omega arith);
  holds = h;
  within = λ a. w S;
}

same_item : {X : Type 0} (xs : List X) (n k : ℕ) (x y : X) → n < length xs → x ≡ get_or xs n x → k ≡ n → slice_get xs k ≡ Some y → x ≡ y
same_item xs n k x y l e f g = let r : Some x ≡ Some y = sym (slice_get_read xs (length xs) n x refl l e) ∙ (ap (slice_get xs) (sym f) ∙ g) in cc

apart_by : (a b c : Bool) → (a ≡ true → c ≡ true) → (b && c) ≡ false → (a && b) ≡ false
apart_by true true c f h = ap (λ z. true && z) (sym (f refl)) ∙ h
apart_by true false c f h = refl
apart_by false b c f h = refl

pub shared_more : (S : Signals) (clocked unclocked : List Bool) (xs : List Extent) (set new : Masks) (n : ℕ) (x : Extent) → n < length xs → x ≡ get_or xs n x
    → (is_overdriven S x || is_mixed S clocked unclocked x) ≡ false
    → ((q : Cell) (i : ℕ) → (spans_have x.drives q i && has set q i) ≡ false)
    → ((q : Cell) (i : ℕ) → has new q i ≡ (has set q i || spans_have x.drives q i))
    → ((S : Signals) → IsWithin S set → All (IsSpan S) x.drives → IsWithin S new)
    → AreShared S clocked unclocked xs set n → AreShared S clocked unclocked xs new (n + 1)
shared_more S clocked unclocked xs set new n x l e alone apart holds within h = record {
  alone = λ k y m f. elim (cases_eq k n) [
    | inl g ↦ subst (λ z. (is_overdriven S z || is_mixed S clocked unclocked z) ≡ false) (same_item xs n k x y l e g f) alone
    | inr g ↦ h.alone k y (omega arith) f
  ];
  apart = λ j k a b m o f g. elim (cases_eq k n) [
    | inl d ↦ subst (AreApart a) (same_item xs n k x b l e d g) (λ q i.
        apart_by (spans_have a.drives q i) (spans_have x.drives q i) (has set q i)
        (λ t. h.holds q i ∙ any_of (λ z. spans_have z.drives q i) (take n xs) j a (get_take xs n j a (omega arith) f) t) (apart q i))
    | inr d ↦ h.apart j k a b m (omega arith) f g
  ];
  holds = λ q i. any_step (λ z. spans_have z.drives q i) xs n x false (has set q i) (has new q i) l e (h.holds q i) (holds q i);
  within = λ a. within S (h.within a) (a n x (slice_get_read xs (length xs) n x refl l e));
}

pub shared_all : (S : Signals) (clocked unclocked : List Bool) (xs : List Extent) (set : Masks) (n : ℕ) → length xs ≤ n → AreShared S clocked unclocked xs set n
    → HasNoneTwice S clocked unclocked xs
shared_all S clocked unclocked xs set n l h = record {
  alone = λ k x e. h.alone k x (let m : k < length xs = slice_get_within xs k x e in omega arith) e;
  apart = λ j k x y m e f. h.apart j k x y m (let o : k < length xs = slice_get_within xs k y f in omega arith) e f;
}

pub twice-alone : (S : Signals) (clocked unclocked : List Bool) (xs : List Extent) (n : ℕ) (x : Extent) → n < length xs → x ≡ get_or xs n x
    → (is_overdriven S x || is_mixed S clocked unclocked x) ≡ true → IsTwice S clocked unclocked xs (record { part = n; place = x.place })
twice-alone S clocked unclocked xs n x l e h = record {
  x = x;
  there = slice_get_read xs (length xs) n x refl l e;
  place = refl;
  holds = λ f. absurd (not_both (is_overdriven S x || is_mixed S clocked unclocked x) h f);
}

twice-with : (S : Signals) (xs : List Extent) (set : Masks) (n : ℕ) (x : Extent) → ((q : Cell) (i : ℕ) → has set q i ≡ list_any (λ x. spans_have x.drives q i) (take n xs))
    → MeetsSome S set x.drives → (j : ℕ) × (y : Extent) × (j < n) × (slice_get xs j ≡ Some y) × SharesBit S x y
twice-with S xs set n x holds m =
    let r : IsSome (λ (y : Extent). spans_have y.drives m.cell m.at) (take n xs) = some_of (λ y. spans_have y.drives m.cell m.at) (take n xs) (sym (holds m.cell m.at) ∙ m.in_set) in
    let f : IsFront xs n r.at r.item = take_get xs n r.at r.item r.there in
    (r.at, r.item, f.below, f.there, record { cell = m.cell; at = m.at; there = m.there; first = m.in_spans; second = r.holds })

pub twice-shared : (S : Signals) (clocked unclocked : List Bool) (xs : List Extent) (set : Masks) (n : ℕ) (x : Extent) → n < length xs → x ≡ get_or xs n x
    → AreShared S clocked unclocked xs set n → ((S : Signals) → IsWithin S set → All (IsSpan S) x.drives → MeetsSome S set x.drives)
    → IsTwice S clocked unclocked xs (record { part = n; place = x.place })
twice-shared S clocked unclocked xs set n x l e h m = record {
  x = x;
  there = slice_get_read xs (length xs) n x refl l e;
  place = refl;
  holds = λ f a. twice-with S xs set n x h.holds (m S (h.within a) (a n x (slice_get_read xs (length xs) n x refl l e)));
}
