-- What the graph of parts and hubs says of the parts.
use Rattle.std.proofs.Common.{◌≡◌, ℕ, ◌<◌, ◌≤◌, Bool, true, false, not, ◌&&◌, ◌==◌}
use Rattle.std.proofs.Common.{List, [], ◌∷◌, length, get_or, refl, ap, sym, subst, ◌∙◌, inl, inr, arith, Option, Some, None}
use Rattle.std.specs.Prelude.{filter, slice_get, nat_lt}
use Rattle.std.specs.List.{list_any}
use Rattle.std.proofs.lemmas.Bool.{cases_lt, eqb-true, false_from_ne_true}
use Rattle.std.proofs.lemmas.Option.{slice_get_within}
use Rattle.lv_source.specs.Places.{Bit, has_bit}
use Rattle.lv_source.specs.PartRules as rules
use Rattle.lv_source.specs.Views.{View, is_edge, is_combinational, view_feeds, is_view_chain, is_view_cycle}
use Rattle.lv_source.proofs.Tests.{and-left, and-right, and-both, decide, not-true}
use Rattle.lv_source.proofs.Unique.{bit_with}
use Rattle.lv_flat.specs.Signals.{Signals}
use Rattle.lv_extents.specs.declared.extent.Extent.{Extent}
use Rattle.lv_extents.specs.Extents.{IsExtent, AreExtents, way_of}
use Rattle.lv_order.specs.Graphs.{Graph, has, are_distinct, leads, IsSorted, IsCycle}
use Rattle.lv_settles.specs.Lawful.{is_outside}
use Rattle.lv_settles.specs.Orders.{IsOrder}
use Rattle.lv_schedule.specs.Hubs.{Hubs, IsHubGraph, is_chain}
use Rattle.lv_schedule.specs.Drivers.{feeds, is_unclocked}
use Rattle.lv_schedule.specs.Tables.{hubs_of}
use Rattle.lv_schedule.specs.Plans.{IsPlanned, IsCircle}
use Rattle.lv_schedule.proofs.Lists.{not_both}
use Rattle.lv_schedule.proofs.Hubs as h
use Rattle.lv_schedule.proofs.Hubs.{IsKept, kept_from, distinct_kept}
use Rattle.lv_schedule.proofs.Feeds.{IsPair, each_get, IsMatched, each_back, AreViewFeeding, view_feeding, feeding_view, feeds_alike}

same_some : {X : Type 0} (x y : X) → Some x ≡ Some y → x ≡ y
same_some x y e = cc

-- ---- parts without a clock

record IsFree (xs : List Extent) (k : ℕ) : Type 0 where
  pub item : Extent
  pub there : slice_get xs k ≡ Some item
  pub free : is_edge (way_of item.way) ≡ false

free_by : (xs : List Extent) (k : ℕ) (o : Option Extent) → slice_get xs k ≡ o → elim o [ None ↦ false | Some x ↦ not (is_edge (way_of x.way)) ] ≡ true → IsFree xs k
free_by xs k None e h = cc
free_by xs k (Some x) e h = record { item = x; there = e; free = not-true (is_edge (way_of x.way)) h }

free_of : (xs : List Extent) (k : ℕ) → is_unclocked xs k ≡ true → IsFree xs k
free_of xs k h = free_by xs k (slice_get xs k) refl h

unclocked_by : (xs : List Extent) (k : ℕ) (x : Extent) → slice_get xs k ≡ Some x → is_edge (way_of x.way) ≡ false → is_unclocked xs k ≡ true
unclocked_by xs k x e h = ap (λ (o : Option Extent). elim o [ None ↦ false | Some x ↦ not (is_edge (way_of x.way)) ]) e ∙ ap not h

-- ---- lists in which none is to come after a later one

pub record IsListing (vs : List View) (order : List ℕ) : Type 0 where
  pub parts : (i k : ℕ) → slice_get order i ≡ Some k → (p : View) × (slice_get vs k ≡ Some p) × (is_edge p.way ≡ false)
  pub all : (k : ℕ) (p : View) → slice_get vs k ≡ Some p → is_edge p.way ≡ false → (i : ℕ) × (slice_get order i ≡ Some k)
  pub once : (i j k : ℕ) → slice_get order i ≡ Some k → slice_get order j ≡ Some k → i ≡ j
  pub behind : (i j k l : ℕ) → i ≤ j → slice_get order i ≡ Some k → slice_get order j ≡ Some l → view_feeds vs k l ≡ true → ⊥

module _ (vs : List View) (order : List ℕ) (s : IsListing vs order) where
  own_bit : (k l : ℕ) (p q : View) (b : Bit) → slice_get vs k ≡ Some p → slice_get vs l ≡ Some q → is_outside p b ≡ true → has_bit q.drives b ≡ true
      → ((k == l) && is_combinational p.way) ≡ false
  own_bit k l p q b e f o d = elim (decide ((k == l) && is_combinational p.way)) [
    | inl t ↦
        let n : k ≡ l = eqb-true k l (and-left (k == l) (is_combinational p.way) t) in
        let w : p ≡ q = same_some p q (sym e ∙ (ap (slice_get vs) n ∙ f)) in
        absurd (not_both (is_combinational p.way && has_bit p.drives b)
        (and-both (is_combinational p.way) (has_bit p.drives b) (and-right (k == l) (is_combinational p.way) t) (ap (λ (v : View). has_bit v.drives b) w ∙ d))
        (not-true (is_combinational p.way && has_bit p.drives b) (and-right (has_bit p.reads b) (not (is_combinational p.way && has_bit p.drives b)) o)))
    | inr t ↦ t
  ]

  free_there : (i k : ℕ) (p : View) → slice_get order i ≡ Some k → slice_get vs k ≡ Some p → is_edge p.way ≡ false
  free_there i k p e f =
      let t : (p : View) × (slice_get vs k ≡ Some p) × (is_edge p.way ≡ false) = s.parts i k e in
      ap (λ (v : View). is_edge v.way) (same_some p t.0 (sym f ∙ t.1)) ∙ t.2

  pub order_of : IsOrder vs order
  order_of = record {
    parts = s.parts;
    all = s.all;
    once = s.once;
    apart = λ i j k l p q m e f g u b o. elim (decide (has_bit q.drives b)) [
      | inl d ↦
          let c : Bool = list_any (has_bit q.drives) p.reads in
          let n : Bool = not ((k == l) && is_combinational p.way) in
          let a : Bool = not (is_edge p.way) && not (is_edge q.way) in
          absurd (s.behind i j k l m e f (feeding_view vs k l p q g u
          (and-both (a && n) c
          (and-both a n
          (and-both (not (is_edge p.way)) (not (is_edge q.way)) (ap not (free_there i k p e g)) (ap not (free_there j l q f u)))
          (ap not (own_bit k l p q b g u o d)))
          (bit_with (has_bit q.drives) p.reads b (and-left (has_bit p.reads b) (not (is_combinational p.way && has_bit p.drives b)) o) d))))
      | inr d ↦ d
    ];
  }

  -- what a part reads stands before it
  record IsEarlier (i k : ℕ) : Type 0 where
    pub at : ℕ
    pub below : at < i
    pub there : slice_get order at ≡ Some k

  earlier : (i k j : ℕ) → slice_get order i ≡ Some k → view_feeds vs k j ≡ true → IsEarlier i j
  earlier i k j e f =
      let r : AreViewFeeding vs k j = view_feeding vs k j f in
      let a : Bool = not (is_edge r.v.way) && not (is_edge r.w.way) in
      let b : Bool = not ((k == j) && is_combinational r.v.way) in
      let n : is_edge r.w.way ≡ false = not-true (is_edge r.w.way) (and-right (not (is_edge r.v.way)) (not (is_edge r.w.way))
      (and-left a b (and-left (a && b) (list_any (has_bit r.w.drives) r.v.reads) r.feeds))) in
      let t : (m : ℕ) × (slice_get order m ≡ Some j) = s.all j r.w r.second n in
      elim (cases_lt t.0 i) [
        | inl l ↦ record { at = t.0; below = l; there = t.1 }
        | inr g ↦ absurd (s.behind i t.0 k j g e t.1 f)
      ]

  down : (i f k : ℕ) (ks : List ℕ) → slice_get order i ≡ Some k → is_view_chain vs f (k ∷ ks) ≡ true → IsEarlier i f
  down i f k [] e h = earlier i k f e h
  down i f k (j ∷ ks) e h =
      let r : IsEarlier i j = earlier i k j e (and-left (view_feeds vs k j) (is_view_chain vs f (j ∷ ks)) h) in
      let t : IsEarlier r.at f = down r.at f j ks r.there (and-right (view_feeds vs k j) (is_view_chain vs f (j ∷ ks)) h) in
      let a : r.at < i = r.below in
      let b : t.at < r.at = t.below in
      record { at = t.at; below = omega arith; there = t.there }

  first_feeds : (f k : ℕ) (ks : List ℕ) → is_view_chain vs f (k ∷ ks) ≡ true → (j : ℕ) × (view_feeds vs k j ≡ true)
  first_feeds f k [] h = (f, h)
  first_feeds f k (j ∷ ks) h = (j, and-left (view_feeds vs k j) (is_view_chain vs f (j ∷ ks)) h)

  pub no_cycle : (ks : List ℕ) → is_view_cycle vs ks ≡ false
  no_cycle [] = refl
  no_cycle (k ∷ ks) = false_from_ne_true (is_view_cycle vs (k ∷ ks)) (λ c.
      let h : is_view_chain vs k (k ∷ ks) ≡ true = and-right (rules.are_distinct (k ∷ ks)) (is_view_chain vs k (k ∷ ks)) c in
      let t : (j : ℕ) × (view_feeds vs k j ≡ true) = first_feeds k k ks h in
      let r : AreViewFeeding vs k t.0 = view_feeding vs k t.0 t.1 in
      let a : Bool = not (is_edge r.v.way) && not (is_edge r.w.way) in
      let b : Bool = not ((k == t.0) && is_combinational r.v.way) in
      let n : is_edge r.v.way ≡ false = not-true (is_edge r.v.way) (and-left (not (is_edge r.v.way)) (not (is_edge r.w.way))
      (and-left a b (and-left (a && b) (list_any (has_bit r.w.drives) r.v.reads) r.feeds))) in
      let i : (i : ℕ) × (slice_get order i ≡ Some k) = s.all k r.v r.first n in
      let d : IsEarlier i.0 k = down i.0 k k ks i.1 h in
      let e : d.at < i.0 = d.below in
      let f : d.at ≡ i.0 = s.once d.at i.0 k d.there i.1 in
      absurd (omega arith))

-- ---- the graph

module _ (S : Signals) (vs : List View) (xs : List Extent) (count : ℕ) (E : Graph) (a : AreExtents S vs xs) (g : IsHubGraph (hubs_of xs count) E) where
  -- an order of its vertices
  pub listing : (list : List ℕ) → IsSorted E list → IsListing vs (filter (is_unclocked xs) list)
  listing list s = record {
    parts = λ i k e.
        let r : IsKept (is_unclocked xs) list i k = kept_from (is_unclocked xs) list i k e in
        let f : IsFree xs k = free_of xs k r.holds in
        let v : IsPair (IsExtent S) vs k f.item = each_get (IsExtent S) vs xs k f.item a f.there in
        (v.item, v.there, ap is_edge (sym v.holds.way) ∙ f.free);
    all = λ k p e f.
        let x : IsMatched (IsExtent S) xs k p = each_back (IsExtent S) vs xs k p a e in
        h.listed (hubs_of xs count) E g list s (is_unclocked xs) k (slice_get_within xs k x.item x.there) (unclocked_by xs k x.item x.there (ap is_edge x.holds.way ∙ f));
    once = h.once (hubs_of xs count) E g list s (is_unclocked xs);
    behind = λ i j k l m e f t.
        let r : IsKept (is_unclocked xs) list i k = kept_from (is_unclocked xs) list i k e in
        let u : IsFree xs k = free_of xs k r.holds in
        h.apart (hubs_of xs count) E g list s (is_unclocked xs) i j k l m e f (slice_get_within xs k u.item u.there) (sym (feeds_alike S vs xs a k l) ∙ t);
  }

  pub planned : (list : List ℕ) → IsSorted E list → IsPlanned vs (filter (is_unclocked xs) list)
  planned list s = record {
    order = order_of vs (filter (is_unclocked xs) list) (listing list s);
    acyclic = no_cycle vs (filter (is_unclocked xs) list) (listing list s);
  }

  chain_alike : (f : ℕ) (ks : List ℕ) → is_view_chain vs f ks ≡ is_chain (hubs_of xs count) f ks
  chain_alike f [] = refl
  chain_alike f (k ∷ []) = feeds_alike S vs xs a k f
  chain_alike f (k ∷ j ∷ ks) =
      ap (λ b. b && is_view_chain vs f (j ∷ ks)) (feeds_alike S vs xs a k j) ∙ ap (λ b. feeds xs k j && b) (chain_alike f (j ∷ ks))

  distinct_alike : (ks : List ℕ) → rules.are_distinct ks ≡ are_distinct ks
  distinct_alike [] = refl
  distinct_alike (k ∷ ks) = ap (λ b. not (has ks k) && b) (distinct_alike ks)

  -- a cycle of its vertices
  pub circle : (ks : List ℕ) → IsCycle E ks → IsCircle vs (filter (λ v. nat_lt v (length xs)) ks)
  circle [] c = absurd (not_both false c.cycle refl)
  circle (k ∷ ks) c =
      let hs : Hubs = hubs_of xs count in
      let d : are_distinct (k ∷ ks) ≡ true = and-left (are_distinct (k ∷ ks)) (leads E k (k ∷ ks)) c.cycle in
      let l : leads E k (k ∷ ks) ≡ true = and-right (are_distinct (k ∷ ks)) (leads E k (k ∷ ks)) c.cycle in
      let m : k < length xs = h.first_part hs E g k ks l c.least (h.leads_within hs E g k k ks l) in
      let t : h.parts_of hs E g (k ∷ ks) ≡ k ∷ h.parts_of hs E g ks = h.take_part hs E g k ks m in
      let e : is_view_cycle vs (k ∷ h.parts_of hs E g ks) ≡ true =
      and-both (rules.are_distinct (k ∷ h.parts_of hs E g ks)) (is_view_chain vs k (k ∷ h.parts_of hs E g ks))
      (distinct_alike (k ∷ h.parts_of hs E g ks) ∙ (ap are_distinct (sym t) ∙ distinct_kept (λ v. nat_lt v (length xs)) (k ∷ ks) d))
      (chain_alike k (k ∷ h.parts_of hs E g ks) ∙ h.chain hs E g k k k ks m m (inl refl) l) in
      record {
        cycle = ap (is_view_cycle vs) t ∙ e;
        least = λ v p. subst (λ (z : List ℕ). get_or z 0 0 ≤ v) (sym t) (c.least v (h.kept_has (λ v. nat_lt v (length xs)) (k ∷ ks) v p));
      }
