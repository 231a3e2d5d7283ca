-- Blocking, by extents.
use Rattle.std.proofs.Common.{◌≡◌, ℕ, zero, suc, ◌+◌, ◌-◌, ◌<◌, ◌≤◌, Bool, true, false, not, ◌&&◌, ◌||◌, ◌==◌, List, []}
use Rattle.std.proofs.Common.{◌∷◌, map, take, drop, length, get_or, refl, ap, sym, subst, ◌∙◌, inl, inr, arith, Option, Some, None}
use Rattle.std.specs.Prelude.{slice_get, Contains, if◌then◌else◌, flat_map, filter}
use Rattle.std.specs.List.{list_any}
use Rattle.std.proofs.lemmas.Bool.{cases_eq, cases_lt, eqb-true, eq-eqb, ne_eqb}
use Rattle.std.proofs.lemmas.List.Folds.{list_any-append}
use Rattle.std.proofs.lemmas.Option.{slice_get_within, slice_get_read, get_or_from_slice_get}
use Rattle.lv_source.specs.Names.{Declared, is_signal_sort, is_variable_sort}
use Rattle.lv_source.specs.Parts.{At}
use Rattle.lv_source.specs.PartRules.{touches, others}
use Rattle.lv_source.specs.Views as v
use Rattle.lv_source.specs.Views.{View, Seen, is_edge, at_view, at_views, seen_places, seen_writes, first_aim, is_shared_view, is_blocking_seen, blocking_views}
use Rattle.lv_source.proofs.Tests.{or-left, or-right, or-split, and-both, and-left, and-right}
use Rattle.lv_flat.specs.Cells.{AreDistinct, all_cells}
use Rattle.lv_flat.specs.Signals.{Signals, signal_at}
use Rattle.lv_lower_exprs.proofs.Wholes.{signal_in}
use Rattle.lv_spans.specs.declared.span.Span.{Span}
use Rattle.lv_spans.specs.Domain.{IsSpan, AreSpansOf}
use Rattle.lv_extents.specs.declared.extent.Aim.{Aim}
use Rattle.lv_extents.specs.declared.extent.Step.{Step}
use Rattle.lv_extents.specs.declared.extent.Extent.{Extent}
use Rattle.lv_extents.specs.Extents.{Each, IsAim, IsStep, IsExtent, AreExtents, way_of}
use Rattle.lv_rules.specs.declared.told.Told.{Told}
use Rattle.lv_rules.specs.declared.readers.Reader.{Reader}
use Rattle.lv_rules.specs.Rules.{unclocked, IsAnswer, IsFound, step_place}
use Rattle.lv_rules.specs.Drives.{is_marked, names}
use Rattle.lv_rules.specs.Reads.{aims_name, steps_later, others_read, reader_at, is_sharing_span, is_blocking_step, is_blocking_part, IsBlocked}
use Rattle.lv_rules.proofs.Lists.{same_tests, IsSome, some_of, any_of, any_alike, any_flat, IsFront, take_get, get_take, drop_get, get_drop, none_in, filter_none, filter_has}
use Rattle.lv_rules.proofs.Answering.{IsPair, IsMatched, each_get, each_back, each_any, views_none, told_one, head_has}
use Rattle.lv_rules.proofs.Touches.{any_touched, touches_by, all_at, spans_none, spans_append}
use Rattle.lv_rules.proofs.Twice.{and_turn}

-- ---- the others of a front

pub record IsOther {X : Type 0} (p : X → Bool) (xs : List X) (k : ℕ) : Type 0 where
  pub at : ℕ
  pub item : X
  pub there : slice_get xs at ≡ Some item
  pub apart : at ≡ k → ⊥
  pub holds : p item ≡ true

other_of : {X : Type 0} (p : X → Bool) (xs : List X) (k : ℕ) → list_any p (others k xs) ≡ true → IsOther p xs k
other_of p xs k h = elim (or-split (list_any p (take k xs)) (list_any p (drop (suc k) xs)) (sym (list_any-append p (take k xs) (drop (suc k) xs)) ∙ h)) [
  | inl f ↦
      let q : IsSome p (take k xs) = some_of p (take k xs) f in
      let g : IsFront xs k q.at q.item = take_get xs k q.at q.item q.there in
      let l : q.at < k = g.below in
      record { at = q.at; item = q.item; there = g.there; apart = (λ z. let y : q.at ≡ k = z in omega arith); holds = q.holds }
  | inr f ↦
      let q : IsSome p (drop (suc k) xs) = some_of p (drop (suc k) xs) f in
      record { at = suc k + q.at; item = q.item; there = drop_get xs (suc k) q.at q.item q.there; apart = (λ z. let y : suc k + q.at ≡ k = z in omega arith); holds = q.holds }
]

of_other : {X : Type 0} (p : X → Bool) (xs : List X) (k j : ℕ) (x : X) → slice_get xs j ≡ Some x → (j ≡ k → ⊥) → p x ≡ true → list_any p (others k xs) ≡ true
of_other p xs k j x e ne h = list_any-append p (take k xs) (drop (suc k) xs) ∙ elim (cases_lt j k) [
  | inl l ↦ or-left (list_any p (take k xs)) (list_any p (drop (suc k) xs)) (any_of p (take k xs) j x (get_take xs k j x l e) h)
  | inr g ↦
      let d : suc k + (j - suc k) ≡ j = omega arith in
      or-right (list_any p (take k xs)) (list_any p (drop (suc k) xs)) (any_of p (drop (suc k) xs) (j - suc k) x (get_drop xs (suc k) (j - suc k) x (ap (slice_get xs) d ∙ e)) h)
]

others-there : {X : Type 0} (p : X → Bool) (xs : List X) (n k : ℕ) (x : X) → n < length xs → x ≡ get_or xs n x
    → list_any p (others k (take (n + 1) xs)) ≡ true → (list_any p (others k (take n xs)) || p x && not (n == k)) ≡ true
others-there p xs n k x l e h =
    let o : IsOther p (take (n + 1) xs) k = other_of p (take (n + 1) xs) k h in
    let f : IsFront xs (n + 1) o.at o.item = take_get xs (n + 1) o.at o.item o.there in
    let m : o.at < n + 1 = f.below in
    elim (cases_eq o.at n) [
      | inl g ↦
          let q : Some x ≡ Some o.item = sym (slice_get_read xs (length xs) n x refl l e) ∙ (ap (slice_get xs) (sym g) ∙ f.there) in
          let same : x ≡ o.item = cc in
          or-right (list_any p (others k (take n xs))) (p x && not (n == k))
          (and-both (p x) (not (n == k)) (ap p same ∙ o.holds) (ap not (ne_eqb n k (λ z. o.apart (g ∙ z)))))
      | inr g ↦ or-left (list_any p (others k (take n xs))) (p x && not (n == k))
          (of_other p (take n xs) k o.at o.item (get_take xs n o.at o.item (omega arith) f.there) o.apart o.holds)
    ]

others-back : {X : Type 0} (p : X → Bool) (xs : List X) (n k : ℕ) (x : X) → n < length xs → x ≡ get_or xs n x
    → (list_any p (others k (take n xs)) || p x && not (n == k)) ≡ true → list_any p (others k (take (n + 1) xs)) ≡ true
others-back p xs n k x l e h = elim (or-split (list_any p (others k (take n xs))) (p x && not (n == k)) h) [
  | inl f ↦
      let o : IsOther p (take n xs) k = other_of p (take n xs) k f in
      let g : IsFront xs n o.at o.item = take_get xs n o.at o.item o.there in
      let m : o.at < n = g.below in
      of_other p (take (n + 1) xs) k o.at o.item (get_take xs (n + 1) o.at o.item (omega arith) g.there) o.apart o.holds
  | inr f ↦ of_other p (take (n + 1) xs) k n x (get_take xs (n + 1) n x (omega arith) (slice_get_read xs (length xs) n x refl l e))
      (λ z. let b : not (n == k) ≡ true = and-right (p x) (not (n == k)) f in let d : (n == k) ≡ true = eq-eqb n k z in let t : not true ≡ true = ap not (sym d) ∙ b in cc)
      (and-left (p x) (not (n == k)) f)
]

pub others-more : {X : Type 0} (p : X → Bool) (xs : List X) (n k : ℕ) (x : X) → n < length xs → x ≡ get_or xs n x
    → list_any p (others k (take (n + 1) xs)) ≡ (list_any p (others k (take n xs)) || p x && not (n == k))
others-more p xs n k x l e = same_tests (list_any p (others k (take (n + 1) xs))) (list_any p (others k (take n xs)) || p x && not (n == k))
    (others-there p xs n k x l e) (others-back p xs n k x l e)

others-none : {X : Type 0} (p : X → Bool) (k : ℕ) → list_any p (others k []) ≡ false
others-none p zero = refl
others-none p (suc k) = refl

pub others-start : {X : Type 0} (p : X → Bool) (xs : List X) (k : ℕ) → false ≡ list_any p (others k (take 0 xs))
others-start p xs k = sym (others-none p k)

-- ---- signals that are shared

each_take : {A B : Type 0} (R : A → B → Type 0) (n : ℕ) (as' : List A) (bs : List B) → Each R as' bs → Each R (take n as') (take n bs)
each_take R zero as' bs h = tt
each_take R (suc n) [] [] h = tt
each_take R (suc n) [] (b ∷ bs) h = absurd h
each_take R (suc n) (a ∷ as') [] h = absurd h
each_take R (suc n) (a ∷ as') (b ∷ bs) h = (h.0, each_take R n as' bs h.1)

each_drop : {A B : Type 0} (R : A → B → Type 0) (n : ℕ) (as' : List A) (bs : List B) → Each R as' bs → Each R (drop n as') (drop n bs)
each_drop R zero as' bs h = h
each_drop R (suc n) [] [] h = tt
each_drop R (suc n) [] (b ∷ bs) h = absurd h
each_drop R (suc n) (a ∷ as') [] h = absurd h
each_drop R (suc n) (a ∷ as') (b ∷ bs) h = each_drop R n as' bs h.1

each_others : {A B : Type 0} (R : A → B → Type 0) (p : A → Bool) (q : B → Bool) (k : ℕ) (as' : List A) (bs : List B) → Each R as' bs → ((a : A) (b : B) → R a b → p a ≡ q b)
    → list_any p (others k as') ≡ list_any q (others k bs)
each_others R p q k as' bs h f =
    list_any-append p (take k as') (drop (suc k) as') ∙
    (ap (λ z. z || list_any p (drop (suc k) as')) (each_any R p q (take k as') (take k bs) (each_take R k as' bs h) f) ∙
    (ap (λ z. list_any q (take k bs) || z) (each_any R p q (drop (suc k) as') (drop (suc k) bs) (each_drop R (suc k) as' bs h) f) ∙
    sym (list_any-append q (take k bs) (drop (suc k) bs))))

writes-spans : (S : Signals) (as' : List v.Aim) (xs : List Aim) → Each (IsAim S) as' xs → AreSpansOf S (flat_map (λ a. a.bits) as') (flat_map (λ a. a.bits) xs)
writes-spans S [] [] h = spans_none S
writes-spans S [] (x ∷ xs) h = absurd h
writes-spans S (a ∷ as') [] h = absurd h
writes-spans S (a ∷ as') (x ∷ xs) h = spans_append S a.bits (flat_map (λ a. a.bits) as') x.bits (flat_map (λ a. a.bits) xs) h.0.bits (writes-spans S as' xs h.1)

-- what the tables say of a signal
pub record IsKnown (S : Signals) (xs : List Extent) (late : List Bool) (readers : List Reader) : Type 0 where
  pub late_is : (s : ℕ) → s < length S → is_marked late s ≡ list_any (λ x. is_edge (way_of x.way) && steps_later s x.steps) xs
  pub read : (s k : ℕ) → s < length S → others_read (reader_at readers s) k ≡ list_any (λ x. names s x.reads) (others k xs)

later-is : (S : Signals) (s : ℕ) (w : View) (y : Extent) → AreDistinct (all_cells S) → is_signal_sort (signal_at S s).sort ≡ true → IsExtent S w y
    → list_any (λ e. not e.at_once && touches (seen_writes e) (signal_at S s)) w.events ≡ steps_later s y.steps
later-is S s w y distinct a h = each_any (IsStep S) (λ e. not e.at_once && touches (seen_writes e) (signal_at S s)) (λ st. not st.at_once && aims_name s st.aims) w.events y.steps h.steps
    (λ e st k.
    ap (λ b. not b && touches (seen_writes e) (signal_at S s)) (sym k.at_once) ∙
    ap (λ b. not st.at_once && b)
    (touches_by S (seen_writes e) (flat_map (λ (z : Aim). z.bits) st.aims) s distinct (writes-spans S e.targets st.aims k.aims) a ∙
    any_flat (λ (z : Span). z.signal == s) (λ (z : Aim). z.bits) st.aims))

shared-signal : (S : Signals) (vs : List View) (xs : List Extent) (late : List Bool) (readers : List Reader) (k s : ℕ) → AreDistinct (all_cells S) → AreExtents S vs xs
    → IsKnown S xs late readers → is_signal_sort (signal_at S s).sort ≡ true → is_shared_view vs k (signal_at S s) ≡ (is_marked late s || others_read (reader_at readers s) k)
shared-signal S vs xs late readers k s distinct h t a =
    ap (λ b. b || list_any (λ w. touches w.reads (signal_at S s)) (others k vs))
    (each_any (IsExtent S) (λ w. is_edge w.way && list_any (λ e. not e.at_once && touches (seen_writes e) (signal_at S s)) w.events)
    (λ y. is_edge (way_of y.way) && steps_later s y.steps) vs xs h
    (λ w y m. ap (λ z. is_edge z && list_any (λ e. not e.at_once && touches (seen_writes e) (signal_at S s)) w.events) (sym m.way) ∙
    ap (λ b. is_edge (way_of y.way) && b) (later-is S s w y distinct a m)) ∙
    sym (t.late_is s (signal_in S s a))) ∙
    ap (λ b. is_marked late s || b)
    (each_others (IsExtent S) (λ w. touches w.reads (signal_at S s)) (λ y. names s y.reads) k vs xs h (λ w y m. touches_by S w.reads y.reads s distinct m.reads a) ∙
    sym (t.read s k (signal_in S s a)))

blocking-seen : (S : Signals) (vs : List View) (xs : List Extent) (late : List Bool) (readers : List Reader) (k : ℕ) (e : Seen) (st : Step) → AreDistinct (all_cells S)
    → AreExtents S vs xs → IsKnown S xs late readers → IsStep S e st → is_blocking_seen (unclocked S) vs k e ≡ is_blocking_step S late readers k st
blocking-seen S vs xs late readers k e st distinct h t m =
    let spans : List Span = flat_map (λ (z : Aim). z.bits) st.aims in
    let are : AreSpansOf S (seen_writes e) spans = writes-spans S e.targets st.aims m.aims in
    ap (λ b. b && list_any (λ y. is_variable_sort y.sort && touches (seen_writes e) y && is_shared_view vs k y) (unclocked S)) (sym m.at_once) ∙
    ap (λ b. st.at_once && b)
    (any_alike (λ (y : Declared). is_variable_sort y.sort && touches (seen_writes e) y && is_shared_view vs k y)
    (λ y. touches (seen_writes e) y && (is_variable_sort y.sort && is_shared_view vs k y)) (unclocked S)
    (λ j y q. and_turn (is_variable_sort y.sort) (touches (seen_writes e) y) (is_shared_view vs k y)) ∙
    (any_touched S (seen_writes e) spans (λ (y : Declared). is_variable_sort y.sort && is_shared_view vs k y) distinct are ∙
    (any_alike (λ (z : Span). is_variable_sort (signal_at S z.signal).sort && is_shared_view vs k (signal_at S z.signal)) (is_sharing_span S late readers k) spans
    (λ j z q. ap (λ b. is_variable_sort (signal_at S z.signal).sort && b)
    (shared-signal S vs xs late readers k z.signal distinct h t ((all_at (IsSpan S) spans j z are.each q).signal))) ∙
    any_flat (is_sharing_span S late readers k) (λ (z : Aim). z.bits) st.aims)))

-- ---- Blocking

edge_none : (b : Bool) (xs : List At) → (b ≡ true → xs ≡ []) → (if b then xs else []) ≡ []
edge_none true xs f = f refl
edge_none false xs f = refl

edge_has : (b : Bool) (xs : List At) (at : At) → b ≡ true → Contains xs at → Contains (if b then xs else []) at
edge_has true xs at e h = h
edge_has false xs at e h = cc

none-blocking : (S : Signals) (vs : List View) (xs : List Extent) (late : List Bool) (readers : List Reader) (k : ℕ) (v : View) (x : Extent) → AreDistinct (all_cells S)
    → AreExtents S vs xs → IsKnown S xs late readers → IsExtent S v x → list_any (is_blocking_part S late readers k x) x.steps ≡ false
    → (if is_edge v.way then flat_map (seen_places v) (filter (is_blocking_seen (unclocked S) vs k) v.events) else []) ≡ []
none-blocking S vs xs late readers k v x distinct h t m f =
    edge_none (is_edge v.way) (flat_map (seen_places v) (filter (is_blocking_seen (unclocked S) vs k) v.events)) (λ e.
    ap (flat_map (seen_places v)) (filter_none (is_blocking_seen (unclocked S) vs k) v.events (λ j s q.
    let y : IsMatched (IsStep S) x.steps j s = each_back (IsStep S) v.events x.steps j s m.steps q in
    let a : is_edge (way_of x.way) ≡ true = ap is_edge m.way ∙ e in
    blocking-seen S vs xs late readers k s y.item distinct h t y.holds ∙
    (ap (λ b. b && is_blocking_step S late readers k y.item) (sym a) ∙ none_in (is_blocking_part S late readers k x) x.steps j y.item f y.there))))

some-blocking : (S : Signals) (vs : List View) (xs : List Extent) (late : List Bool) (readers : List Reader) (k : ℕ) (v : View) (x : Extent) (n : ℕ) → AreDistinct (all_cells S)
    → AreExtents S vs xs → IsKnown S xs late readers → IsExtent S v x → IsFound (is_blocking_part S late readers k x) step_place x.steps (Some n)
    → Contains (if is_edge v.way then flat_map (seen_places v) (filter (is_blocking_seen (unclocked S) vs k) v.events) else []) (at_view v n)
some-blocking S vs xs late readers k v x n distinct h t m f =
    let q : IsSome (λ s. is_blocking_part S late readers k x s && (step_place s == n)) x.steps = some_of (λ s. is_blocking_part S late readers k x s && (step_place s == n)) x.steps f in
    let p : IsPair (IsStep S) v.events q.at q.item = each_get (IsStep S) v.events x.steps q.at q.item m.steps q.there in
    let a : is_blocking_part S late readers k x q.item ≡ true = and-left (is_blocking_part S late readers k x q.item) (step_place q.item == n) q.holds in
    let b : step_place q.item ≡ n = eqb-true (step_place q.item) n (and-right (is_blocking_part S late readers k x q.item) (step_place q.item == n) q.holds) in
    edge_has (is_edge v.way) (flat_map (seen_places v) (filter (is_blocking_seen (unclocked S) vs k) v.events)) (at_view v n)
    (ap is_edge (sym m.way) ∙ and-left (is_edge (way_of x.way)) (is_blocking_step S late readers k q.item) a)
    (filter_has (seen_places v) (is_blocking_seen (unclocked S) vs k) v.events q.at p.item (at_view v n) p.there
    (blocking-seen S vs xs late readers k p.item q.item distinct h t p.holds ∙ and-right (is_edge (way_of x.way)) (is_blocking_step S late readers k q.item) a)
    (head_has (at_view v p.item.place) (at_view v n) (map (at_view v) (first_aim p.item.targets)) (ap (at_view v) (sym p.holds.place ∙ b))))

pub blocking_answer : (S : Signals) (vs : List View) (xs : List Extent) (late : List Bool) (readers : List Reader) (o : Option Told) → AreDistinct (all_cells S) → AreExtents S vs xs
    → IsKnown S xs late readers → IsBlocked S late readers xs o → IsAnswer vs (blocking_views (unclocked S) vs) o
blocking_answer S vs xs late readers None distinct h t f =
    views_none (λ k v. if is_edge v.way then flat_map (seen_places v) (filter (is_blocking_seen (unclocked S) vs k) v.events) else []) vs (λ k v e.
    let x : IsMatched (IsExtent S) xs k v = each_back (IsExtent S) vs xs k v h e in
    none-blocking S vs xs late readers k v x.item distinct h t x.holds (f k x.item x.there))
blocking_answer S vs xs late readers (Some o) distinct h t f =
    told_one S (λ k v. if is_edge v.way then flat_map (seen_places v) (filter (is_blocking_seen (unclocked S) vs k) v.events) else []) vs xs o.part f.x o.place
    (slice_get_within xs o.part f.x f.there) (sym (get_or_from_slice_get xs o.part f.x f.x f.there)) h
    (λ v e m. some-blocking S vs xs late readers o.part v f.x o.place distinct h t m f.found)

-- ---- so far

pub record BeforeAt {X : Type 0} (P : ℕ → X → Type 0) (xs : List X) (n : ℕ) : Type 0 where
  pub each : (k : ℕ) (x : X) → k < n → slice_get xs k ≡ Some x → P k x

pub before_at_none : {X : Type 0} (P : ℕ → X → Type 0) (xs : List X) → BeforeAt P xs 0
before_at_none P xs = record { each = λ k x l e. absurd (omega arith) }

pub before_at_more : {X : Type 0} (P : ℕ → X → Type 0) (xs : List X) (n : ℕ) (x : X) → n < length xs → x ≡ get_or xs n x → P n x → BeforeAt P xs n → BeforeAt P xs (n + 1)
before_at_more P xs n x l e p h = record {
  each = λ k y m q. elim (cases_eq k n) [
    | inl f ↦
        let q' : Some x ≡ Some y = sym (slice_get_read xs (length xs) n x refl l e) ∙ (ap (slice_get xs) (sym f) ∙ q) in
        let s : x ≡ y = cc in
        subst (λ j. P j y) (sym f) (subst (P n) s p)
    | inr f ↦ h.each k y (omega arith) q
  ];
}

pub before_at_all : {X : Type 0} (P : ℕ → X → Type 0) (xs : List X) (n : ℕ) → length xs ≤ n → BeforeAt P xs n → (k : ℕ) (x : X) → slice_get xs k ≡ Some x → P k x
before_at_all P xs n l h k x e = h.each k x (let m : k < length xs = slice_get_within xs k x e in omega arith) e
