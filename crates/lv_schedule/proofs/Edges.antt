-- The edges of parts and hubs, one after another.
use Rattle.std.proofs.Common.{◌≡◌, ℕ, zero, suc, ◌+◌, ◌-◌, ◌<◌, Bool, true, false, not, ◌&&◌, ◌||◌, ◌==◌, cond, List}
use Rattle.std.proofs.Common.{[], ◌∷◌, ◌++◌, length, take, get_or, refl, ap, sym, subst, ◌∙◌, inl, inr, arith, Option, Some, None}
use Rattle.std.specs.Prelude.{slice_get, nat_lt, Vec}
use Rattle.std.specs.List.{list_any}
use Rattle.std.proofs.lemmas.Bool.{cases_lt, cases_eq, eqb-true, eq-eqb, lt-ltb, le-ltb}
use Rattle.std.proofs.lemmas.List.{length-append, get_or_past, get_or_append_left}
use Rattle.lv_source.specs.Views.{is_edge, is_combinational}
use Rattle.lv_source.proofs.Tests.{and-left, and-right, and-both}
use Rattle.lv_spans.specs.declared.span.Span.{Span}
use Rattle.lv_spans.specs.Sets.{Cell, Masks, has, is_set, is_under}
use Rattle.lv_spans.specs.Domain.{spans_have}
use Rattle.lv_extents.specs.declared.extent.Extent.{Extent}
use Rattle.lv_extents.specs.Extents.{way_of}
use Rattle.lv_order.specs.Graphs.{Graph, graph, has as has_vertex, edges_of, goes}
use Rattle.lv_schedule.specs.declared.drivers.Driver.{Driver}
use Rattle.lv_schedule.specs.Drivers.{driver, drivers_of, is_met, feeds_by, feeds}
use Rattle.lv_schedule.specs.Hubs.{steps_to, reaches, IsHubGraph}
use Rattle.lv_schedule.specs.Tables.{is_live_at, drives_bit, drives_signal, IsOwn, IsWhole, hubs_of, leads_out, AddsSpan, AddsSpans, IsRow, ArePartRows, AreRows}
use Rattle.lv_schedule.proofs.Lists.{IsSome, some_of, any_of, any_none, any_alike, any_push, any_step, same_tests, not_both}
use Rattle.lv_schedule.proofs.Driven.{driven_of, driven_where, parts_below}

-- ---- parts of drivers

part_in : (xs : List Extent) (k : ℕ) (d : Driver) → slice_get (drivers_of 0 xs) k ≡ Some d → d.part < length xs
part_in xs k d e = elim (cases_lt d.part (length xs)) [
  | inl l ↦ l
  | inr g ↦ absurd (not_both (list_any (λ (d : Driver). not (nat_lt d.part (length xs))) (drivers_of 0 xs))
      (any_of (λ (d : Driver). not (nat_lt d.part (length xs))) (drivers_of 0 xs) k d e (ap not (le-ltb d.part (length xs) g))) (parts_below xs (length xs) refl))
]

step_part : (xs : List Extent) (count w k : ℕ) → w < length xs → steps_to (hubs_of xs count) w k ≡ (w == k)
step_part xs count w k l = ap (λ b. cond b (w == k) (drives_signal (drivers_of 0 xs) (w - length xs) k)) (lt-ltb w (length xs) l)

step_hub : (xs : List Extent) (count s k : ℕ) → steps_to (hubs_of xs count) (length xs + s) k ≡ drives_signal (drivers_of 0 xs) s k
step_hub xs count s k =
    let d : (length xs + s) - length xs ≡ s = omega arith in
    ap (λ b. cond b ((length xs + s) == k) (drives_signal (drivers_of 0 xs) ((length xs + s) - length xs) k)) (le-ltb (length xs + s) (length xs) (omega arith)) ∙
    ap (λ n. drives_signal (drivers_of 0 xs) n k) d

both_none : (a b : Bool) → a ≡ false → b ≡ false → (a || b) ≡ false
both_none true b h k = h
both_none false b h k = k

-- ---- spans

pub add_hub : (xs : List Extent) (count part : ℕ) (alone : Bool) (r : Span) (row new : List ℕ) → IsWhole (drivers_of 0 xs) count part alone r
    → new ≡ row ++ (length xs + r.signal) ∷ [] → AddsSpan xs count part alone r row new
add_hub xs count part alone r row new w e = record {
  reach = λ k.
      ap (λ z. reaches (hubs_of xs count) z k) e ∙ (any_push (λ v. steps_to (hubs_of xs count) v k) row (length xs + r.signal) ∙
      ap (λ b. reaches (hubs_of xs count) row k || b) (step_hub xs count r.signal k ∙ sym (w.same k)));
  within = λ h.
      let l : r.signal < count = w.below in
      ap (leads_out xs count) e ∙ (any_push (λ v. not (nat_lt v (length xs + count))) row (length xs + r.signal) ∙
      both_none (leads_out xs count row) (not (nat_lt (length xs + r.signal) (length xs + count))) h
      (ap not (lt-ltb (length xs + r.signal) (length xs + count) (omega arith))));
}

pub add_met : (xs : List Extent) (count part : ℕ) (alone : Bool) (r : Span) (row new : List ℕ)
    → ((P : ℕ → Bool) → list_any P new ≡ (list_any P row || list_any (λ d. is_met part alone r d && P d.part) (drivers_of 0 xs))) → AddsSpan xs count part alone r row new
add_met xs count part alone r row new f = record {
  reach = λ k.
      f (λ v. steps_to (hubs_of xs count) v k) ∙ ap (λ b. reaches (hubs_of xs count) row k || b)
      (any_alike (λ (d : Driver). is_met part alone r d && steps_to (hubs_of xs count) d.part k) (λ d. is_met part alone r d && (d.part == k)) (drivers_of 0 xs)
      (λ n d e. ap (λ b. is_met part alone r d && b) (step_part xs count d.part k (part_in xs n d e))));
  within = λ h.
      f (λ v. not (nat_lt v (length xs + count))) ∙
      both_none (leads_out xs count row) (list_any (λ (d : Driver). is_met part alone r d && not (nat_lt d.part (length xs + count))) (drivers_of 0 xs)) h
      (any_none (λ (d : Driver). is_met part alone r d && not (nat_lt d.part (length xs + count))) (drivers_of 0 xs)
      (λ n d e. let l : d.part < length xs = part_in xs n d e in
      ap (λ b. is_met part alone r d && b) (ap not (lt-ltb d.part (length xs + count) (omega arith))) ∙ and_none (is_met part alone r d)));
}
  where
    and_none : (b : Bool) → (b && false) ≡ false
    and_none true = refl
    and_none false = refl

or_none : (b : Bool) → b ≡ (b || false)
or_none true = refl
or_none false = refl

pub adds_none : (xs : List Extent) (count part : ℕ) (alone : Bool) (row : List ℕ) → AddsSpans xs count part alone [] row row
adds_none xs count part alone row = record { reach = λ k. or_none (reaches (hubs_of xs count) row k); within = λ h. h }

pub adds_more : (xs : List Extent) (count part : ℕ) (alone : Bool) (rs : List Span) (n : ℕ) (r : Span) (row old new : List ℕ) → n < length rs → r ≡ get_or rs n r
    → AddsSpans xs count part alone (take n rs) row old → AddsSpan xs count part alone r old new → AddsSpans xs count part alone (take (n + 1) rs) row new
adds_more xs count part alone rs n r row old new l e h a = record {
  reach = λ k.
      any_step (λ r. list_any (λ d. is_met part alone r d && (d.part == k)) (drivers_of 0 xs)) rs n r (reaches (hubs_of xs count) row k) (reaches (hubs_of xs count) old k)
      (reaches (hubs_of xs count) new k) l e (h.reach k) (a.reach k);
  within = λ f. a.within (h.within f);
}

-- ---- parts

pub own_is : (xs : List Extent) (part : ℕ) (x : Extent) (alone : Bool) (own : Masks) → slice_get xs part ≡ Some x → is_edge (way_of x.way) ≡ false
    → ((q : Cell) (i : ℕ) → has own q i ≡ (alone && spans_have x.drives q i)) → IsOwn (drivers_of 0 xs) part alone own
own_is xs part x alone own e f h q i = h q i ∙ ap (λ b. alone && b) (same_tests (spans_have x.drives q i) (list_any P (drivers_of 0 xs)) to from)
  where
    P : Driver → Bool
    P d = (d.part == part) && drives_bit q i d

    to : spans_have x.drives q i ≡ true → list_any P (drivers_of 0 xs) ≡ true
    to k =
        let t : IsSome (λ (s : Span). is_under s.signal s.element q && is_set s.mask i) x.drives = some_of (λ s. is_under s.signal s.element q && is_set s.mask i) x.drives k in
        driven_of P xs part x e f (any_of (λ t. P (driver part t)) x.drives t.at t.item t.there
        (and-both (part == part) (is_under t.item.signal t.item.element q && is_set t.item.mask i) (eq-eqb part part refl) t.holds))

    from : list_any P (drivers_of 0 xs) ≡ true → spans_have x.drives q i ≡ true
    from k =
        let w = driven_where P xs k in
        let t : IsSome (λ (t : Span). P (driver w.0 t)) w.1.drives = some_of (λ t. P (driver w.0 t)) w.1.drives w.4 in
        let n : w.0 ≡ part = eqb-true w.0 part (and-left (w.0 == part) (is_under t.item.signal t.item.element q && is_set t.item.mask i) t.holds) in
        let y : Some w.1 ≡ Some x = sym w.2 ∙ (ap (slice_get xs) n ∙ e) in
        let z : w.1 ≡ x = cc in
        subst (λ (v : Extent). spans_have v.drives q i ≡ true) z
        (any_of (λ s. is_under s.signal s.element q && is_set s.mask i) w.1.drives t.at t.item t.there
        (and-right (w.0 == part) (is_under t.item.signal t.item.element q && is_set t.item.mask i) t.holds))

feeds_is : (xs : List Extent) (part k : ℕ) (x : Extent) → slice_get xs part ≡ Some x → feeds xs part k ≡ feeds_by (drivers_of 0 xs) part x k
feeds_is xs part k x e = ap (λ (o : Option Extent). elim o [ None ↦ false | Some x ↦ feeds_by (drivers_of 0 xs) part x k ]) e

pub row_of : (xs : List Extent) (count part : ℕ) (x : Extent) (row : List ℕ) → slice_get xs part ≡ Some x → is_edge (way_of x.way) ≡ false
    → AddsSpans xs count part (is_combinational (way_of x.way)) x.reads [] row → IsRow xs count part row
row_of xs count part x row e f a = record {
  reach = λ k.
      a.reach k ∙ sym (feeds_is xs part k x e ∙
      ap (λ b. not b && list_any (λ r. list_any (λ d. is_met part (is_combinational (way_of x.way)) r d && (d.part == k)) (drivers_of 0 xs)) x.reads) f);
  within = a.within refl;
}

pub row_none : (xs : List Extent) (count part : ℕ) (x : Extent) → slice_get xs part ≡ Some x → is_edge (way_of x.way) ≡ true → IsRow xs count part []
row_none xs count part x e f = record {
  reach = λ k. sym (feeds_is xs part k x e ∙
      ap (λ b. not b && list_any (λ r. list_any (λ d. is_met part (is_combinational (way_of x.way)) r d && (d.part == k)) (drivers_of 0 xs)) x.reads) f);
  within = refl;
}

-- ---- rows

pushed_size : (E : Graph) (row : List ℕ) → length (E ++ row ∷ []) ≡ length E + 1
pushed_size E row = length-append E (row ∷ []) ∙ (let d : length E + length (row ∷ []) ≡ length E + 1 = omega arith in d)

pushed_before : (E : Graph) (row : List ℕ) (j : ℕ) → j < length E → edges_of (E ++ row ∷ []) j ≡ edges_of E j
pushed_before E row j l = get_or_append_left E (row ∷ []) [] j l

pushed_at : (E : Graph) (row : List ℕ) (j : ℕ) → j ≡ length E → edges_of (E ++ row ∷ []) j ≡ row
pushed_at [] row zero e = refl
pushed_at [] row (suc j) e = absurd (omega arith)
pushed_at (x ∷ E) row zero e = absurd (omega arith)
pushed_at (x ∷ E) row (suc j) e = pushed_at E row j (omega arith)

pub graph_pushed : {Z : Type 0} (rows : List (Vec ℕ Z)) (r : Vec ℕ Z) → graph (rows ++ r ∷ []) ≡ graph rows ++ r.items ∷ []
graph_pushed [] r = refl
graph_pushed (x ∷ rows) r = ap (λ z. x.items ∷ z) (graph_pushed rows r)

pub part_rows_none : (xs : List Extent) (count : ℕ) → ArePartRows xs count 0 []
part_rows_none xs count = record { size = refl; each = λ j l. absurd (omega arith) }

pub part_rows_more : (xs : List Extent) (count n : ℕ) (E F : Graph) (row : List ℕ) → F ≡ E ++ row ∷ [] → IsRow xs count n row → ArePartRows xs count n E → ArePartRows xs count (n + 1) F
part_rows_more xs count n E F row e r h = subst (ArePartRows xs count (n + 1)) (sym e) (record {
  size = pushed_size E row ∙ ap (λ m. m + 1) h.size;
  each = λ j l. elim (cases_eq j n) [
    | inl f ↦ subst (IsRow xs count j) (sym (pushed_at E row j (f ∙ sym h.size))) (subst (λ m. IsRow xs count m row) (sym f) r)
    | inr f ↦
        let m : j < n = omega arith in
        let s : length E ≡ n = h.size in
        subst (IsRow xs count j) (sym (pushed_before E row j (omega arith))) (h.each j m)
  ];
})

pub rows_none : (xs : List Extent) (count n : ℕ) (E : Graph) → n ≡ length xs → ArePartRows xs count n E → AreRows xs count 0 E
rows_none xs count n E e h = record {
  size = h.size ∙ (let d : n ≡ length xs + 0 = omega arith in d);
  parts = λ j l. h.each j (omega arith);
  hubs = λ s k l. absurd (omega arith);
}

pub rows_more : (xs : List Extent) (count n : ℕ) (E F : Graph) (row : List ℕ) → F ≡ E ++ row ∷ []
    → ((P : ℕ → Bool) → list_any P row ≡ list_any (λ d. is_live_at n d && P d.part) (drivers_of 0 xs)) → AreRows xs count n E → AreRows xs count (n + 1) F
rows_more xs count n E F row e r h = subst (AreRows xs count (n + 1)) (sym e) (record {
  size = pushed_size E row ∙ (let s : length E ≡ length xs + n = h.size in let d : length E + 1 ≡ length xs + (n + 1) = omega arith in d);
  parts = λ j l. let s : length E ≡ length xs + n = h.size in subst (IsRow xs count j) (sym (pushed_before E row j (omega arith))) (h.parts j l);
  hubs = λ s k l. elim (cases_eq s n) [
    | inl f ↦
        let t : length E ≡ length xs + n = h.size in
        ap (λ z. has_vertex z k) (pushed_at E row (length xs + s) (omega arith)) ∙ (r (λ w. w == k) ∙ ap (λ m. drives_signal (drivers_of 0 xs) m k) (sym f))
    | inr f ↦
        let t : length E ≡ length xs + n = h.size in
        let m : s < n = omega arith in
        ap (λ z. has_vertex z k) (pushed_before E row (length xs + s) (omega arith)) ∙ h.hubs s k m
  ];
})

-- ---- the graph

only_parts : (xs : List Extent) (s k : ℕ) → drives_signal (drivers_of 0 xs) s k ≡ true → k < length xs
only_parts xs s k h =
    let t : IsSome (λ (d : Driver). is_live_at s d && (d.part == k)) (drivers_of 0 xs) = some_of (λ d. is_live_at s d && (d.part == k)) (drivers_of 0 xs) h in
    subst (λ n. n < length xs) (eqb-true t.item.part k (and-right (is_live_at s t.item) (t.item.part == k) t.holds)) (part_in xs t.at t.item t.there)

row_within : (xs : List Extent) (count w : ℕ) (row : List ℕ) → leads_out xs count row ≡ false → has_vertex row w ≡ true → w < length xs + count
row_within xs count w row h e = elim (cases_lt w (length xs + count)) [
  | inl l ↦ l
  | inr g ↦
      let t : IsSome (λ v. v == w) row = some_of (λ v. v == w) row e in
      absurd (not_both (leads_out xs count row)
      (any_of (λ v. not (nat_lt v (length xs + count))) row t.at t.item t.there
      (ap (λ v. not (nat_lt v (length xs + count))) (eqb-true t.item w t.holds) ∙ ap not (le-ltb w (length xs + count) g))) h)
]

goes_where : (E : Graph) (v w : ℕ) → goes E v w ≡ true → v < length E
goes_where E v w e = elim (cases_lt v (length E)) [
  | inl l ↦ l
  | inr n ↦ absurd (not_both (goes E v w) e (ap (λ ws. has_vertex ws w) (get_or_past E v [] n)))
]

pub hub_graph : (xs : List Extent) (count n : ℕ) (E : Graph) → n ≡ count → AreRows xs count n E → IsHubGraph (hubs_of xs count) E
hub_graph xs count n E e h =
    let s : length E ≡ length xs + count = h.size ∙ ap (λ m. length xs + m) e in
    record {
      size = s;
      graph = λ v w g. elim (cases_lt v (length xs)) [
        | inl l ↦ let m : w < length xs + count = row_within xs count w (edges_of E v) (h.parts v l).within g in omega arith
        | inr m ↦
            let l : v < length E = goes_where E v w g in
            let d : length xs + (v - length xs) ≡ v = omega arith in
            let o : v - length xs < n = omega arith in
            let p : w < length xs = only_parts xs (v - length xs) w (sym (h.hubs (v - length xs) w o) ∙ (ap (λ z. goes E z w) d ∙ g)) in
            omega arith
      ];
      rows = λ j k l. (h.parts j l).reach k;
      hubs = λ m k l. h.hubs m k (omega arith);
      only = only_parts xs;
    }
