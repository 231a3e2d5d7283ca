-- One part reads a bit that another drives where spans of theirs share one.
use Rattle.std.proofs.Common.{◌≡◌, ℕ, zero, suc, Bool, true, false, not, ◌&&◌, ◌==◌}
use Rattle.std.proofs.Common.{List, [], ◌∷◌, refl, ap, sym, subst, ◌∙◌, inl, inr, arith, Option, Some, None}
use Rattle.std.specs.Prelude.{slice_get, nat_lt, All, bit_and}
use Rattle.std.specs.List.{list_any}
use Rattle.std.proofs.lemmas.Bool.{eqb-true, eq-eqb, lt-ltb, le-ltb}
use Rattle.std.proofs.lemmas.Option.{slice_get_within, get_or_from_slice_get}
use Rattle.lv_source.specs.Names.{Bounds, low, high, width_of, is_signal_sort}
use Rattle.lv_source.specs.Places.{Bit, has_bit}
use Rattle.lv_source.specs.Views.{View, is_edge, is_combinational, is_view_feeding, view_feeds}
use Rattle.lv_source.proofs.Tests.{and-left, and-right, and-both, decide, not-true}
use Rattle.lv_source.proofs.Unique.{some_bit_with, bit_with}
use Rattle.lv_flat.specs.Signals.{Signals, signal_at}
use Rattle.lv_spans.specs.declared.span.Span.{Span}
use Rattle.lv_spans.specs.Sets.{Cell, is_set, is_under}
use Rattle.lv_spans.specs.Domain.{is_element_in, is_cell, is_bit, bit_of, spans_have, IsSpan, AreSpansOf}
use Rattle.lv_extents.specs.declared.extent.Extent.{Extent}
use Rattle.lv_extents.specs.Extents.{Each, IsExtent, AreExtents, way_of}
use Rattle.lv_schedule.specs.declared.drivers.Driver.{Driver}
use Rattle.lv_schedule.specs.Drivers.{driver, drivers_of, is_element_of_both, shares, is_met, feeds_by, feeds}
use Rattle.lv_schedule.proofs.Lists.{IsSome, some_of, any_of, same_tests, not_both}
use Rattle.lv_schedule.proofs.Driven.{driven_of, driven_where}
use Rattle.lv_schedule.proofs.Shares.{bit_of_both, set_below, under_self, shares_by, shares_signal, shares_mask}

-- ---- one for each

pub record IsPair {A B : Type 0} (R : A → B → Type 0) (as' : List A) (k : ℕ) (b : B) : Type 0 where
  pub item : A
  pub there : slice_get as' k ≡ Some item
  pub holds : R item b

pub each_get : {A B : Type 0} (R : A → B → Type 0) (as' : List A) (bs : List B) (k : ℕ) (b : B) → Each R as' bs → slice_get bs k ≡ Some b → IsPair R as' k b
each_get R [] [] k b h e = cc
each_get R [] (c ∷ bs) k b h e = absurd h
each_get R (a ∷ as') [] k b h e = absurd h
each_get R (a ∷ as') (c ∷ bs) zero b h e = let q : c ≡ b = cc in record { item = a; there = refl; holds = subst (R a) q h.0 }
each_get R (a ∷ as') (c ∷ bs) (suc k) b h e = let r : IsPair R as' k b = each_get R as' bs k b h.1 e in record { item = r.item; there = r.there; holds = r.holds }

pub record IsMatched {A B : Type 0} (R : A → B → Type 0) (bs : List B) (k : ℕ) (a : A) : Type 0 where
  pub item : B
  pub there : slice_get bs k ≡ Some item
  pub holds : R a item

pub each_back : {A B : Type 0} (R : A → B → Type 0) (as' : List A) (bs : List B) (k : ℕ) (a : A) → Each R as' bs → slice_get as' k ≡ Some a → IsMatched R bs k a
each_back R [] [] k a h e = cc
each_back R [] (c ∷ bs) k a h e = absurd h
each_back R (b ∷ as') [] k a h e = absurd h
each_back R (b ∷ as') (c ∷ bs) zero a h e = let q : b ≡ a = cc in record { item = c; there = refl; holds = subst (λ z. R z c) q h.0 }
each_back R (b ∷ as') (c ∷ bs) (suc k) a h e = let r : IsMatched R bs k a = each_back R as' bs k a h.1 e in record { item = r.item; there = r.there; holds = r.holds }

pub all_at : {X : Type 0} (P : X → Type 0) (xs : List X) (k : ℕ) (x : X) → All P xs → slice_get xs k ≡ Some x → P x
all_at P xs k x h e = subst P (get_or_from_slice_get xs k x x e) (h k x (slice_get_within xs k x e))

-- ---- a bit that two spans share

pub record IsShared (S : Signals) (r t : Span) : Type 0 where
  pub cell : Cell
  pub at : ℕ
  pub there : is_bit S cell at ≡ true
  pub first : (is_under r.signal r.element cell && is_set r.mask at) ≡ true
  pub second : (is_under t.signal t.element cell && is_set t.mask at) ≡ true

some_element : (a : Option Bounds) → (e : Option ℕ) × (is_element_in a e ≡ true)
some_element None = (None, refl)
some_element (Some b) = (
  Some (low b),
  and-both (not (nat_lt (low b) (low b))) (not (nat_lt (high b) (low b)))
      (ap not (le-ltb (low b) (low b) (omega arith))) (ap not (le-ltb (high b) (low b) (omega arith))),
)

-- an element that is under both
common : (S : Signals) (r t : Span) (d e : Option ℕ) → r.element ≡ d → t.element ≡ e → IsSpan S r → IsSpan S t → r.signal ≡ t.signal → is_element_of_both r.element t.element ≡ true
    → (q : Cell) × (is_cell S q ≡ true) × (is_under r.signal d q ≡ true) × (is_under t.signal e q ≡ true) × (q.0 ≡ r.signal)
common S r t None None de ee h k s b =
    let x : (e : Option ℕ) × (is_element_in (signal_at S r.signal).array e ≡ true) = some_element (signal_at S r.signal).array in (
      (r.signal, x.0),
      and-both (is_signal_sort (signal_at S r.signal).sort) (is_element_in (signal_at S r.signal).array x.0) h.signal x.1,
      eq-eqb r.signal r.signal refl,
      eq-eqb r.signal t.signal s,
      refl,
    )
common S r t None (Some j) de ee h k s b = (
  (r.signal, Some j),
  subst (λ z. is_cell S (z, Some j) ≡ true) (sym s) (k.element j ee),
  eq-eqb r.signal r.signal refl,
  subst (λ z. is_under t.signal (Some j) (z, Some j) ≡ true) (sym s) (under_self t.signal (Some j)),
  refl,
)
common S r t (Some i) None de ee h k s b = ((r.signal, Some i), h.element i de, under_self r.signal (Some i), eq-eqb r.signal t.signal s, refl)
common S r t (Some i) (Some j) de ee h k s b =
    let c : is_element_of_both (Some i) (Some j) ≡ true = subst (λ z. is_element_of_both (Some i) z ≡ true) ee (subst (λ z. is_element_of_both z t.element ≡ true) de b) in
    let f : i ≡ j = eqb-true i j c in (
      (r.signal, Some i),
      h.element i de,
      under_self r.signal (Some i),
      subst (λ z. is_under t.signal (Some j) (z, Some i) ≡ true) (sym s) (subst (λ z. is_under t.signal (Some z) (t.signal, Some i) ≡ true) f (under_self t.signal (Some i))),
      refl,
    )

share_one : (S : Signals) (r t : Span) → IsSpan S r → IsSpan S t → shares r t ≡ true → IsShared S r t
share_one S r t h k s =
    let e : r.signal ≡ t.signal = shares_signal r t s in
    let c = common S r t r.element t.element refl refl h k e
    (and-left (is_element_of_both r.element t.element) (not (bit_and r.mask t.mask == 0))
    (and-right (r.signal == t.signal) (is_element_of_both r.element t.element && not (bit_and r.mask t.mask == 0)) s)) in
    let b : (i : ℕ) × (is_set r.mask i ≡ true) × (is_set t.mask i ≡ true) = bit_of_both r.mask t.mask (shares_mask r t s) in
    record {
      cell = c.0;
      at = b.0;
      there = and-both (is_cell S c.0) (nat_lt b.0 (width_of (signal_at S c.0.0))) c.1
          (subst (λ z. nat_lt b.0 (width_of (signal_at S z)) ≡ true) (sym c.4)
          (lt-ltb b.0 (width_of (signal_at S r.signal)) (set_below r.mask (width_of (signal_at S r.signal)) b.0 h.wide b.1)));
      first = and-both (is_under r.signal r.element c.0) (is_set r.mask b.0) c.2 b.1;
      second = and-both (is_under t.signal t.element c.0) (is_set t.mask b.0) c.3 b.2;
    }

-- ---- bits that one reads and another drives

pub record HasShared (rs ts : List Span) : Type 0 where
  pub r : Span
  pub t : Span
  pub at : ℕ
  pub in_first : slice_get rs at ≡ Some r
  pub to : ℕ
  pub in_second : slice_get ts to ≡ Some t
  pub shared : shares r t ≡ true

shared_spans : (S : Signals) (as' bs : List Bit) (rs ts : List Span) → AreSpansOf S as' rs → AreSpansOf S bs ts → list_any (has_bit bs) as' ≡ true → HasShared rs ts
shared_spans S as' bs rs ts h k e =
    let b : (b : Bit) × (has_bit as' b ≡ true) × (has_bit bs b ≡ true) = some_bit_with (has_bit bs) as' e in
    let q : (q : Cell) × (i : ℕ) × (is_bit S q i ≡ true) × (bit_of S q i ≡ b.0) = h.set.inside b.0 b.1 in
    let f : spans_have rs q.0 q.1 ≡ true = h.set.same q.0 q.1 q.2 ∙ (ap (has_bit as') q.3 ∙ b.1) in
    let g : spans_have ts q.0 q.1 ≡ true = k.set.same q.0 q.1 q.2 ∙ (ap (has_bit bs) q.3 ∙ b.2) in
    let x : IsSome (λ (s : Span). is_under s.signal s.element q.0 && is_set s.mask q.1) rs = some_of (λ s. is_under s.signal s.element q.0 && is_set s.mask q.1) rs f in
    let y : IsSome (λ (s : Span). is_under s.signal s.element q.0 && is_set s.mask q.1) ts = some_of (λ s. is_under s.signal s.element q.0 && is_set s.mask q.1) ts g in
    record {
      r = x.item;
      t = y.item;
      at = x.at;
      in_first = x.there;
      to = y.at;
      in_second = y.there;
      shared = shares_by x.item y.item q.0 q.1
          (and-left (is_under x.item.signal x.item.element q.0) (is_set x.item.mask q.1) x.holds) (and-right (is_under x.item.signal x.item.element q.0) (is_set x.item.mask q.1) x.holds)
          (and-left (is_under y.item.signal y.item.element q.0) (is_set y.item.mask q.1) y.holds) (and-right (is_under y.item.signal y.item.element q.0) (is_set y.item.mask q.1) y.holds);
    }

shared_bit : (S : Signals) (as' bs : List Bit) (rs ts : List Span) → AreSpansOf S as' rs → AreSpansOf S bs ts → HasShared rs ts → list_any (has_bit bs) as' ≡ true
shared_bit S as' bs rs ts h k e =
    let c : IsShared S e.r e.t = share_one S e.r e.t (all_at (IsSpan S) rs e.at e.r h.each e.in_first) (all_at (IsSpan S) ts e.to e.t k.each e.in_second) e.shared in
    bit_with (has_bit bs) as' (bit_of S c.cell c.at)
    (sym (h.set.same c.cell c.at c.there) ∙ any_of (λ s. is_under s.signal s.element c.cell && is_set s.mask c.at) rs e.at e.r e.in_first c.first)
    (sym (k.set.same c.cell c.at c.there) ∙ any_of (λ s. is_under s.signal s.element c.cell && is_set s.mask c.at) ts e.to e.t e.in_second c.second)

-- ---- parts

pub record AreFeeding (xs : List Extent) (j k : ℕ) : Type 0 where
  pub x : Extent
  pub y : Extent
  pub first : slice_get xs j ≡ Some x
  pub second : slice_get xs k ≡ Some y
  pub free : is_edge (way_of x.way) ≡ false
  pub also_free : is_edge (way_of y.way) ≡ false
  pub apart : (is_combinational (way_of x.way) && (k == j)) ≡ false
  pub shared : HasShared x.reads y.drives

feeds_there : (xs : List Extent) (j k : ℕ) → AreFeeding xs j k → feeds xs j k ≡ true
feeds_there xs j k f =
    let alone : Bool = is_combinational (way_of f.x.way) in
    let P : Driver → Bool = λ d. is_met j alone f.shared.r d && (d.part == k) in
    let m : P (driver k f.shared.t) ≡ true =
    and-both (is_met j alone f.shared.r (driver k f.shared.t)) (k == k)
    (and-both (shares f.shared.r f.shared.t) (not (alone && (k == j))) f.shared.shared (ap not f.apart)) (eq-eqb k k refl) in
    let d : list_any P (drivers_of 0 xs) ≡ true = driven_of P xs k f.y f.second f.also_free (any_of (λ t. P (driver k t)) f.y.drives f.shared.to f.shared.t f.shared.in_second m) in
    ap (λ (o : Option Extent). elim o [ None ↦ false | Some x ↦ feeds_by (drivers_of 0 xs) j x k ]) f.first ∙
    and-both (not (is_edge (way_of f.x.way))) (list_any (λ r. list_any (λ d. is_met j alone r d && (d.part == k)) (drivers_of 0 xs)) f.x.reads) (ap not f.free)
    (any_of (λ r. list_any (λ d. is_met j alone r d && (d.part == k)) (drivers_of 0 xs)) f.x.reads f.shared.at f.shared.r f.shared.in_first d)

feeds_some : (xs : List Extent) (j k : ℕ) (o : Option Extent) → slice_get xs j ≡ o → elim o [ None ↦ false | Some x ↦ feeds_by (drivers_of 0 xs) j x k ] ≡ true → AreFeeding xs j k
feeds_some xs j k None e h = cc
feeds_some xs j k (Some x) e h =
    let alone : Bool = is_combinational (way_of x.way) in
    let Q : Span → Bool = λ r. list_any (λ d. is_met j alone r d && (d.part == k)) (drivers_of 0 xs) in
    let f : not (is_edge (way_of x.way)) ≡ true = and-left (not (is_edge (way_of x.way))) (list_any Q x.reads) h in
    let r : IsSome Q x.reads = some_of Q x.reads (and-right (not (is_edge (way_of x.way))) (list_any Q x.reads) h) in
    let P : Driver → Bool = λ d. is_met j alone r.item d && (d.part == k) in
    let w = driven_where P xs r.holds in
    let t : IsSome (λ (t : Span). P (driver w.0 t)) w.1.drives = some_of (λ t. P (driver w.0 t)) w.1.drives w.4 in
    let s : w.0 ≡ k = eqb-true w.0 k (and-right (is_met j alone r.item (driver w.0 t.item)) (w.0 == k) t.holds) in
    let m : is_met j alone r.item (driver w.0 t.item) ≡ true = and-left (is_met j alone r.item (driver w.0 t.item)) (w.0 == k) t.holds in
    record {
      x = x;
      y = w.1;
      first = e;
      second = subst (λ n. slice_get xs n ≡ Some w.1) s w.2;
      free = not-true (is_edge (way_of x.way)) f;
      also_free = w.3;
      apart = subst (λ n. (alone && (n == j)) ≡ false) s (not-true (alone && (w.0 == j)) (and-right (shares r.item t.item) (not (alone && (w.0 == j))) m));
      shared = record {
        r = r.item;
        t = t.item;
        at = r.at;
        in_first = r.there;
        to = t.at;
        in_second = t.there;
        shared = and-left (shares r.item t.item) (not (alone && (w.0 == j))) m;
      };
    }

swapped : (b : Bool) (j k : ℕ) → (b && (k == j)) ≡ false → ((j == k) && b) ≡ false
swapped true j k h = elim (decide (j == k)) [
  | inl e ↦ absurd (not_both (k == j) (eq-eqb k j (sym (eqb-true j k e))) h)
  | inr e ↦ ap (λ c. c && true) e
]
swapped false j k h = elim (decide (j == k)) [ inl e ↦ ap (λ c. c && false) e | inr e ↦ ap (λ c. c && false) e ]

swapped_back : (b : Bool) (j k : ℕ) → ((j == k) && b) ≡ false → (b && (k == j)) ≡ false
swapped_back true j k h = elim (decide (k == j)) [
  | inl e ↦ absurd (not_both ((j == k) && true) (and-both (j == k) true (eq-eqb j k (sym (eqb-true k j e))) refl) h)
  | inr e ↦ e
]
swapped_back false j k h = refl

-- ---- views

pub record AreViewFeeding (vs : List View) (j k : ℕ) : Type 0 where
  pub v : View
  pub w : View
  pub first : slice_get vs j ≡ Some v
  pub second : slice_get vs k ≡ Some w
  pub feeds : is_view_feeding j k v w ≡ true

inner_feeding : (vs : List View) (j k : ℕ) (v : View) (o : Option View) → slice_get vs j ≡ Some v → slice_get vs k ≡ o → elim o [ None ↦ false | Some w ↦ is_view_feeding j k v w ] ≡ true
    → AreViewFeeding vs j k
inner_feeding vs j k v None e f h = cc
inner_feeding vs j k v (Some w) e f h = record { v = v; w = w; first = e; second = f; feeds = h }

outer_feeding : (vs : List View) (j k : ℕ) (o : Option View) → slice_get vs j ≡ o
    → elim o [ None ↦ false | Some v ↦ elim (slice_get vs k) [ None ↦ false | Some w ↦ is_view_feeding j k v w ] ] ≡ true → AreViewFeeding vs j k
outer_feeding vs j k None e h = cc
outer_feeding vs j k (Some v) e h = inner_feeding vs j k v (slice_get vs k) e refl h

pub view_feeding : (vs : List View) (j k : ℕ) → view_feeds vs j k ≡ true → AreViewFeeding vs j k
view_feeding vs j k h = outer_feeding vs j k (slice_get vs j) refl h

pub feeding_view : (vs : List View) (j k : ℕ) (v w : View) → slice_get vs j ≡ Some v → slice_get vs k ≡ Some w → is_view_feeding j k v w ≡ true → view_feeds vs j k ≡ true
feeding_view vs j k v w e f h =
    ap (λ (o : Option View). elim o [ None ↦ false | Some v ↦ elim (slice_get vs k) [ None ↦ false | Some w ↦ is_view_feeding j k v w ] ]) e ∙
    (ap (λ (o : Option View). elim o [ None ↦ false | Some w ↦ is_view_feeding j k v w ]) f ∙ h)

module _ (S : Signals) (vs : List View) (xs : List Extent) (h : AreExtents S vs xs) where
  to_extents : (j k : ℕ) → view_feeds vs j k ≡ true → feeds xs j k ≡ true
  to_extents j k e =
      let f : AreViewFeeding vs j k = view_feeding vs j k e in
      let x : IsMatched (IsExtent S) xs j f.v = each_back (IsExtent S) vs xs j f.v h f.first in
      let y : IsMatched (IsExtent S) xs k f.w = each_back (IsExtent S) vs xs k f.w h f.second in
      let c : Bool = list_any (has_bit f.w.drives) f.v.reads in
      let b : Bool = not ((j == k) && is_combinational f.v.way) in
      let a : Bool = not (is_edge f.v.way) && not (is_edge f.w.way) in
      let ab : (a && b) ≡ true = and-left (a && b) c f.feeds in
      let aa : a ≡ true = and-left a b ab in
      feeds_there xs j k (record {
        x = x.item;
        y = y.item;
        first = x.there;
        second = y.there;
        free = ap is_edge x.holds.way ∙ not-true (is_edge f.v.way) (and-left (not (is_edge f.v.way)) (not (is_edge f.w.way)) aa);
        also_free = ap is_edge y.holds.way ∙ not-true (is_edge f.w.way) (and-right (not (is_edge f.v.way)) (not (is_edge f.w.way)) aa);
        apart = ap (λ w. is_combinational w && (k == j)) x.holds.way ∙ swapped_back (is_combinational f.v.way) j k (not-true ((j == k) && is_combinational f.v.way) (and-right a b ab));
        shared = shared_spans S f.v.reads f.w.drives x.item.reads y.item.drives x.holds.reads y.holds.drives (and-right (a && b) c f.feeds);
      })

  to_views : (j k : ℕ) → feeds xs j k ≡ true → view_feeds vs j k ≡ true
  to_views j k e =
      let f : AreFeeding xs j k = feeds_some xs j k (slice_get xs j) refl e in
      let v : IsPair (IsExtent S) vs j f.x = each_get (IsExtent S) vs xs j f.x h f.first in
      let w : IsPair (IsExtent S) vs k f.y = each_get (IsExtent S) vs xs k f.y h f.second in
      let c : Bool = list_any (has_bit w.item.drives) v.item.reads in
      let b : Bool = not ((j == k) && is_combinational v.item.way) in
      let a : Bool = not (is_edge v.item.way) && not (is_edge w.item.way) in
      feeding_view vs j k v.item w.item v.there w.there
      (and-both (a && b) c
      (and-both a b
      (and-both (not (is_edge v.item.way)) (not (is_edge w.item.way)) (ap not (ap is_edge (sym v.holds.way) ∙ f.free)) (ap not (ap is_edge (sym w.holds.way) ∙ f.also_free)))
      (ap not (swapped (is_combinational v.item.way) j k (ap (λ w. is_combinational w && (k == j)) (sym v.holds.way) ∙ f.apart))))
      (shared_bit S v.item.reads w.item.drives f.x.reads f.y.drives v.holds.reads w.holds.drives f.shared))

  pub feeds_alike : (j k : ℕ) → view_feeds vs j k ≡ feeds xs j k
  feeds_alike j k = same_tests (view_feeds vs j k) (feeds xs j k) (to_extents j k) (to_views j k)
