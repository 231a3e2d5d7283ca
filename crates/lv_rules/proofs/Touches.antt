-- Which signals a list of bits touches, by the spans that have the bits.
use Rattle.std.proofs.Common.{◌≡◌, ℕ, zero, suc, ◌/◌, ◌%◌, ◌^◌, ◌<◌, ◌≤◌, Bool, true, false, ◌&&◌, ◌||◌, ◌==◌, not, List, [], ◌++◌, refl, ap, sym, subst, ◌∙◌, inl, inr, arith, Option, Some, None}
use Rattle.std.specs.Prelude.{nat_lt, All, slice_get}
use Rattle.std.specs.List.{list_any}
use Rattle.std.specs.Int.{bit_at}
use Rattle.std.proofs.lemmas.Bool.{cases_eq, cases_lt, eqb-true, eq-eqb, lt-ltb, le-ltb, ltb-true}
use Rattle.std.proofs.lemmas.Nat.Bits.{bit_at_lowest, bit_at-suc, bit_at_above}
use Rattle.std.proofs.lemmas.List.Folds.{list_any-append}
use Rattle.std.proofs.lemmas.List.Elements.{All-append, All-nil}
use Rattle.std.proofs.lemmas.Option.{slice_get_within, get_or_from_slice_get, slice_get-get_or}
use Rattle.lv_source.specs.Names.{Bounds, Declared, width_of, is_signal_sort, low, high}
use Rattle.lv_source.specs.Places.{Bit, has_bit, whole, cells}
use Rattle.lv_source.specs.PartRules.{touches}
use Rattle.lv_source.proofs.Tests.{or-split, and-left, and-right, and-both}
use Rattle.lv_source.proofs.Trees.{HasCell}
use Rattle.lv_source.proofs.Within.{cells_have}
use Rattle.lv_source.proofs.Drives.{whole_place}
use Rattle.lv_source.proofs.Unique.{some_bit_with, bit_with}
use Rattle.lv_flat.specs.Cells.{all_cells, AreDistinct}
use Rattle.lv_flat.specs.Signals.{Signals, signal_at}
use Rattle.lv_lower_exprs.proofs.Wholes.{signal_in}
use Rattle.lv_spans.specs.declared.span.Span.{Span}
use Rattle.lv_spans.specs.Sets.{Cell, is_set, is_under}
use Rattle.lv_spans.specs.Domain.{is_element_in, is_cell, is_bit, bit_of, spans_have, IsSpan, AreSpansOf}
use Rattle.lv_rules.specs.Rules.{unclocked}
use Rattle.lv_rules.proofs.Lists.{same_tests, IsSome, some_of, any_of, any_more, any_filter}
use Rattle.lv_rules.proofs.Signals.{has_element, one_signal}

-- ---- masks

pub some_bit : (k n : ℕ) → n ≤ k → 0 < n → (i : ℕ) × (is_set n i ≡ true)
some_bit zero n h p = absurd (omega arith)
some_bit (suc k) n h p = elim (cases_eq (n % 2) 1) [
  | inl e ↦ (0, ap (λ x. x == 1) (bit_at_lowest n ∙ e))
  | inr ne ↦ let r : (i : ℕ) × (is_set (n / 2) i ≡ true) = some_bit k (n / 2) (omega arith) (omega arith) in
      (suc r.0, ap (λ x. x == 1) (bit_at-suc n r.0) ∙ r.1)
]

pub set_below : (n w i : ℕ) → n < 2 ^ w → is_set n i ≡ true → i < w
set_below n w i l h = elim (cases_lt i w) [
  | inl a ↦ a
  | inr b ↦ absurd (let z : bit_at n i ≡ 0 = bit_at_above n w i l b in let o : bit_at n i ≡ 1 = eqb-true (bit_at n i) 1 h in omega arith)
]

-- ---- one bit that a span has

pub record IsIn (S : Signals) (s : Span) : Type 0 where
  pub cell : Cell
  pub at : ℕ
  pub same : cell.0 ≡ s.signal
  pub there : is_bit S cell at ≡ true
  pub under : is_under s.signal s.element cell ≡ true
  pub set : is_set s.mask at ≡ true

element_of : (a : Option Bounds) → (e : Option ℕ) × (is_element_in a e ≡ true)
element_of None = (None, refl)
element_of (Some b) = (
  Some (low b),
  and-both (not (nat_lt (low b) (low b))) (not (nat_lt (high b) (low b)))
      (ap not (le-ltb (low b) (low b) (omega arith))) (ap not (le-ltb (high b) (low b) (omega arith))),
)

bit_in : (S : Signals) (s : Span) (e : Option ℕ) (i : ℕ) → IsSpan S s → is_element_in (signal_at S s.signal).array e ≡ true
    → is_under s.signal s.element (s.signal, e) ≡ true → is_set s.mask i ≡ true → IsIn S s
bit_in S s e i h t u m = record {
  cell = (s.signal, e);
  at = i;
  same = refl;
  there = and-both (is_cell S (s.signal, e)) (nat_lt i (width_of (signal_at S s.signal)))
      (and-both (is_signal_sort (signal_at S s.signal).sort) (is_element_in (signal_at S s.signal).array e) h.signal t)
      (lt-ltb i (width_of (signal_at S s.signal)) (set_below s.mask (width_of (signal_at S s.signal)) i h.wide m));
  under = u;
  set = m;
}

by_element : (S : Signals) (s : Span) (i : ℕ) (o : Option ℕ) → s.element ≡ o → IsSpan S s → is_set s.mask i ≡ true → IsIn S s
by_element S s i None e h m =
    let t : (x : Option ℕ) × (is_element_in (signal_at S s.signal).array x ≡ true) = element_of (signal_at S s.signal).array in
    bit_in S s t.0 i h t.1 (subst (λ o. is_under s.signal o (s.signal, t.0) ≡ true) (sym e) (eq-eqb s.signal s.signal refl)) m
by_element S s i (Some k) e h m =
    let c : is_cell S (s.signal, Some k) ≡ true = h.element k e in
    bit_in S s (Some k) i h (and-right (is_signal_sort (signal_at S s.signal).sort) (is_element_in (signal_at S s.signal).array (Some k)) c)
    (subst (λ o. is_under s.signal o (s.signal, Some k) ≡ true) (sym e) (and-both (s.signal == s.signal) (k == k) (eq-eqb s.signal s.signal refl) (eq-eqb k k refl))) m

pub span_has : (S : Signals) (s : Span) → IsSpan S s → IsIn S s
span_has S s h = let b : (i : ℕ) × (is_set s.mask i ≡ true) = some_bit s.mask s.mask (omega arith) h.some in by_element S s b.0 s.element refl h b.1

-- ---- bits and cells

pub bit_cell : (S : Signals) (q : Cell) (i : ℕ) → is_bit S q i ≡ true → (is_signal_sort (signal_at S q.0).sort ≡ true) × HasCell (signal_at S q.0)
    (bit_of S q i).name × (i < width_of (signal_at S q.0))
bit_cell S q i h =
    let d : Declared = signal_at S q.0 in
    let c : is_cell S q ≡ true = and-left (is_cell S q) (nat_lt i (width_of d)) h in (
      and-left (is_signal_sort d.sort) (is_element_in d.array q.1) c,
      has_element d q.1 (and-right (is_signal_sort d.sort) (is_element_in d.array q.1) c),
      ltb-true i (width_of d) (and-right (is_cell S q) (nat_lt i (width_of d)) h),
    )

pub bit_whole : (S : Signals) (q : Cell) (i : ℕ) → is_bit S q i ≡ true → has_bit (whole (signal_at S q.0)) (bit_of S q i) ≡ true
bit_whole S q i h =
    let c : (is_signal_sort (signal_at S q.0).sort ≡ true) × HasCell (signal_at S q.0) (bit_of S q i).name × (i < width_of (signal_at S q.0)) = bit_cell S q i h in
    cells_have (width_of (signal_at S q.0)) i (cells (signal_at S q.0)) (bit_of S q i).name c.1 c.2

-- a bit of a signal's cell is the signal's alone
pub bit_signal : (S : Signals) (q : Cell) (i s : ℕ) → AreDistinct (all_cells S) → is_signal_sort (signal_at S s).sort ≡ true → is_bit S q i ≡ true
    → has_bit (whole (signal_at S s)) (bit_of S q i) ≡ true → q.0 ≡ s
bit_signal S q i s distinct a h k =
    let c : (is_signal_sort (signal_at S q.0).sort ≡ true) × HasCell (signal_at S q.0) (bit_of S q i).name × (i < width_of (signal_at S q.0)) = bit_cell S q i h in
    one_signal S q.0 s (bit_of S q i).name distinct c.0 a c.1 ((whole_place (signal_at S s) (bit_of S q i) k).0)

pub under_signal : (s : ℕ) (e : Option ℕ) (q : Cell) → is_under s e q ≡ true → q.0 ≡ s
under_signal s None q h = eqb-true q.0 s h
under_signal s (Some k) q h = eqb-true q.0 s (and-left (q.0 == s) _ h)

-- ---- what is touched

touched_span : (S : Signals) (bits : List Bit) (xs : List Span) (s : ℕ) → AreDistinct (all_cells S) → AreSpansOf S bits xs → is_signal_sort (signal_at S s).sort ≡ true
    → touches bits (signal_at S s) ≡ true → list_any (λ x. x.signal == s) xs ≡ true
touched_span S bits xs s distinct h a t =
    let b : (b : Bit) × (has_bit bits b ≡ true) × (has_bit (whole (signal_at S s)) b ≡ true) = some_bit_with (has_bit (whole (signal_at S s))) bits t in
    let r : (q : Cell) × (i : ℕ) × (is_bit S q i ≡ true) × (bit_of S q i ≡ b.0) = h.set.inside b.0 b.1 in
    let q : Cell = r.0 in
    let e : q.0 ≡ s = bit_signal S q r.1 s distinct a r.2 (ap (has_bit (whole (signal_at S s))) r.3 ∙ b.2) in
    let m : spans_have xs q r.1 ≡ true = h.set.same q r.1 r.2 ∙ (ap (has_bit bits) r.3 ∙ b.1) in
    any_more (λ x. is_under x.signal x.element q && is_set x.mask r.1) (λ x. x.signal == s) xs
    (λ x k. eq-eqb x.signal s (sym (under_signal x.signal x.element q (and-left (is_under x.signal x.element q) (is_set x.mask r.1) k)) ∙ e)) m

pub all_at : {X : Type 0} (P : X → Type 0) (xs : List X) (k : ℕ) (x : X) → All P xs → slice_get xs k ≡ Some x → P x
all_at P xs k x h e = subst P (get_or_from_slice_get xs k x x e) (h k x (slice_get_within xs k x e))

span_touches : (S : Signals) (bits : List Bit) (xs : List Span) (k : ℕ) (x : Span) → AreSpansOf S bits xs → slice_get xs k ≡ Some x
    → touches bits (signal_at S x.signal) ≡ true
span_touches S bits xs k x h e =
    let b : IsIn S x = span_has S x (all_at (IsSpan S) xs k x h.each e) in
    let m : spans_have xs b.cell b.at ≡ true =
    any_of (λ x. is_under x.signal x.element b.cell && is_set x.mask b.at) xs k x e (and-both (is_under x.signal x.element b.cell) (is_set x.mask b.at) b.under b.set) in
    let i : has_bit bits (bit_of S b.cell b.at) ≡ true = sym (h.set.same b.cell b.at b.there) ∙ m in
    bit_with (has_bit (whole (signal_at S x.signal))) bits (bit_of S b.cell b.at) i
    (subst (λ s. has_bit (whole (signal_at S s)) (bit_of S b.cell b.at) ≡ true) b.same (bit_whole S b.cell b.at b.there))

-- a signal is touched where a span names it
pub touches_by : (S : Signals) (bits : List Bit) (xs : List Span) (s : ℕ) → AreDistinct (all_cells S) → AreSpansOf S bits xs → is_signal_sort (signal_at S s).sort ≡ true
    → touches bits (signal_at S s) ≡ list_any (λ x. x.signal == s) xs
touches_by S bits xs s distinct h a = same_tests (touches bits (signal_at S s)) (list_any (λ x. x.signal == s) xs)
    (touched_span S bits xs s distinct h a)
    (λ k. let r : IsSome (λ (x : Span). x.signal == s) xs = some_of (λ x. x.signal == s) xs k in
    subst (λ z. touches bits (signal_at S z) ≡ true) (eqb-true r.item.signal s r.holds) (span_touches S bits xs r.at r.item h r.there))

pub signal_get : (S : Signals) (s : ℕ) (x : Declared) → slice_get S s ≡ Some x → signal_at S s ≡ x
signal_get S s x e = get_or_from_slice_get S s x _ e

touched_there : (S : Signals) (bits : List Bit) (xs : List Span) (P : Declared → Bool) → AreDistinct (all_cells S) → AreSpansOf S bits xs
    → list_any (λ x. touches bits x && P x) (unclocked S) ≡ true → list_any (λ x. P (signal_at S x.signal)) xs ≡ true
touched_there S bits xs P distinct h t =
    let f : list_any (λ (x : Declared). is_signal_sort x.sort && (touches bits x && P x)) S ≡ true =
    sym (any_filter (λ (x : Declared). is_signal_sort x.sort) (λ x. touches bits x && P x) S) ∙ t in
    let r : IsSome (λ (x : Declared). is_signal_sort x.sort && (touches bits x && P x)) S = some_of (λ x. is_signal_sort x.sort && (touches bits x && P x)) S f in
    let e : signal_at S r.at ≡ r.item = signal_get S r.at r.item r.there in
    let a : is_signal_sort (signal_at S r.at).sort ≡ true = ap (λ (x : Declared). is_signal_sort x.sort) e ∙ and-left (is_signal_sort r.item.sort) (touches bits r.item && P r.item) r.holds in
    let b : (touches bits r.item && P r.item) ≡ true = and-right (is_signal_sort r.item.sort) (touches bits r.item && P r.item) r.holds in
    let c : touches bits (signal_at S r.at) ≡ true = ap (touches bits) e ∙ and-left (touches bits r.item) (P r.item) b in
    let p : P (signal_at S r.at) ≡ true = ap P e ∙ and-right (touches bits r.item) (P r.item) b in
    any_more (λ x. x.signal == r.at) (λ x. P (signal_at S x.signal)) xs (λ x k. ap (λ s. P (signal_at S s)) (eqb-true x.signal r.at k) ∙ p)
    (touched_span S bits xs r.at distinct h a c)

touched_back : (S : Signals) (bits : List Bit) (xs : List Span) (P : Declared → Bool) → AreSpansOf S bits xs
    → list_any (λ x. P (signal_at S x.signal)) xs ≡ true → list_any (λ x. touches bits x && P x) (unclocked S) ≡ true
touched_back S bits xs P h t =
    let r : IsSome (λ (x : Span). P (signal_at S x.signal)) xs = some_of (λ x. P (signal_at S x.signal)) xs t in
    let d : Declared = signal_at S r.item.signal in
    let i : IsSpan S r.item = all_at (IsSpan S) xs r.at r.item h.each r.there in
    let c : touches bits d ≡ true = span_touches S bits xs r.at r.item h r.there in
    any_filter (λ (x : Declared). is_signal_sort x.sort) (λ x. touches bits x && P x) S ∙
    any_of (λ (x : Declared). is_signal_sort x.sort && (touches bits x && P x)) S r.item.signal d (slice_get-get_or S r.item.signal _ (signal_in S r.item.signal i.signal))
    (and-both (is_signal_sort d.sort) (touches bits d && P d) i.signal (and-both (touches bits d) (P d) c r.holds))

-- some signal that is touched is so where the signal of some span is
pub any_touched : (S : Signals) (bits : List Bit) (xs : List Span) (P : Declared → Bool) → AreDistinct (all_cells S) → AreSpansOf S bits xs
    → list_any (λ x. touches bits x && P x) (unclocked S) ≡ list_any (λ x. P (signal_at S x.signal)) xs
any_touched S bits xs P distinct h = same_tests (list_any (λ x. touches bits x && P x) (unclocked S)) (list_any (λ x. P (signal_at S x.signal)) xs)
    (touched_there S bits xs P distinct h) (touched_back S bits xs P h)

-- ---- lists put together

nothing : false ≡ true → ⊥
nothing h = cc

pub spans_none : (S : Signals) → AreSpansOf S [] []
spans_none S = record {
  set = record { same = λ q i h. refl; inside = λ b h. absurd (nothing h) };
  each = All-nil (IsSpan S);
}

pub spans_append : (S : Signals) (as' bs : List Bit) (xs ys : List Span) → AreSpansOf S as' xs → AreSpansOf S bs ys → AreSpansOf S (as' ++ bs) (xs ++ ys)
spans_append S as' bs xs ys h k = record {
  set = record {
    same = λ q i t.
        list_any-append (λ x. is_under x.signal x.element q && is_set x.mask i) xs ys ∙
        (ap (λ c. c || spans_have ys q i) (h.set.same q i t) ∙ (ap (λ c. has_bit as' (bit_of S q i) || c) (k.set.same q i t) ∙
        sym (list_any-append _ as' bs)));
    inside = λ b t. elim (or-split (has_bit as' b) (has_bit bs b) (sym (list_any-append _ as' bs) ∙ t)) [ inl e ↦ h.set.inside b e | inr e ↦ k.set.inside b e ];
  };
  each = All-append (IsSpan S) xs ys h.each k.each;
}
