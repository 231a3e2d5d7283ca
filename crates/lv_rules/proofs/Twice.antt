-- TwoDrivers, by extents.
use Rattle.std.proofs.Common.{◌≡◌, ℕ, suc, ◌+◌, ◌<◌, Bool, true, false, not, ◌&&◌, ◌||◌, List, map, take, drop, length, refl, ap, sym, subst, ◌∙◌, inl, inr, arith, Option, Some, None}
use Rattle.std.specs.Prelude.{slice_get, Contains, if◌then◌else◌}
use Rattle.std.specs.List.{list_any}
use Rattle.std.proofs.lemmas.Bool.{cases_order}
use Rattle.std.proofs.lemmas.List.Folds.{list_any-append}
use Rattle.std.proofs.lemmas.Option.{slice_get_within}
use Rattle.lv_ast.specs.Names.{Name}
use Rattle.lv_source.specs.Names.{Declared, is_signal_sort, is_variable_sort, is_input_sort}
use Rattle.lv_source.specs.Places.{Bit, has_bit}
use Rattle.lv_source.specs.Parts.{At}
use Rattle.lv_source.specs.PartRules.{told_if, touches, others, has_twice}
use Rattle.lv_source.specs.ScopeRules.{same_sign}
use Rattle.lv_source.specs.Views.{View, is_edge, is_continuous, at_view, aimed_at, view_driven, is_mixed_view, is_two_view, two_views}
use Rattle.lv_source.proofs.Tests.{or-left, or-split, and-both}
use Rattle.lv_source.proofs.Unique.{some_bit_with, bit_with}
use Rattle.lv_flat.specs.Cells.{AreDistinct, all_cells}
use Rattle.lv_flat.specs.Signals.{Signals, signal_at}
use Rattle.lv_lower_exprs.proofs.Wholes.{signal_in}
use Rattle.lv_spans.specs.declared.span.Span.{Span}
use Rattle.lv_spans.specs.Sets.{Cell}
use Rattle.lv_spans.specs.Domain.{is_bit, bit_of, spans_have, IsSpan}
use Rattle.lv_extents.specs.declared.extent.Extent.{Extent}
use Rattle.lv_extents.specs.Extents.{IsExtent, AreExtents, way_of}
use Rattle.lv_rules.specs.declared.told.Told.{Told}
use Rattle.lv_rules.specs.declared.marks.Class.{Class}
use Rattle.lv_rules.specs.declared.marks.Class.TheVariants.{Clocked, Unclocked}
use Rattle.lv_rules.specs.Rules.{unclocked, path_of, IsAnswer}
use Rattle.lv_rules.specs.Drives.{is_marked, names, is_of, is_overdriven, is_mixed, SharesBit, AreApart, AllSpans, IsShared}
use Rattle.lv_rules.proofs.Lists.{IsSome, some_of, any_of, any_alike, IsFront, take_get, get_take, drop_get, and_swap, not_both}
use Rattle.lv_rules.proofs.Answering.{IsPair, IsMatched, each_get, each_back, each_any, views_none, views_has, path_is}
use Rattle.lv_rules.proofs.Parts.{at_itself}
use Rattle.lv_rules.proofs.Touches.{any_touched, touches_by, all_at}

-- ---- overdriven

twice_if : (b t u : Bool) → (b ≡ true → t ≡ u) → (b && t) ≡ (b && u)
twice_if true t u f = f refl
twice_if false t u f = refl

overdriven-is : (S : Signals) (v : View) (x : Extent) → AreDistinct (all_cells S) → IsExtent S v x
    → is_overdriven S x ≡ (is_continuous v.way && has_twice v.drives || list_any (λ y. is_input_sort y.sort && touches v.drives y) (unclocked S))
overdriven-is S v x distinct h =
    ap (λ b. b || list_any (λ s. is_input_sort (signal_at S s.signal).sort) x.drives)
    (ap (λ w. is_continuous w && x.twice) h.way ∙ twice_if (is_continuous v.way) x.twice (has_twice v.drives) h.twice) ∙
    ap (λ b. is_continuous v.way && has_twice v.drives || b)
    (sym (any_touched S v.drives x.drives (λ (y : Declared). is_input_sort y.sort) distinct h.drives) ∙
    any_alike (λ (y : Declared). touches v.drives y && is_input_sort y.sort) (λ y. is_input_sort y.sort && touches v.drives y) (unclocked S)
    (λ k y e. and_swap (touches v.drives y) (is_input_sort y.sort)))

-- ---- mixed

-- what a table says of a signal
pub record IsTable (S : Signals) (xs : List Extent) (class : Class) (marks : List Bool) : Type 0 where
  pub marked : (s : ℕ) → s < length S → is_marked marks s ≡ list_any (λ x. is_of class (way_of x.way) && names s x.drives) xs

other-way : (e b t : Bool) → (t && not (same_sign e b)) ≡ ((if e then not b else b) && t)
other-way true true t = and_swap t false
other-way true false t = and_swap t true
other-way false true t = and_swap t true
other-way false false t = and_swap t false

mixed-signal : (S : Signals) (vs : List View) (xs : List Extent) (clocked unclocked : List Bool) (e : Bool) (s : ℕ) → AreDistinct (all_cells S) → AreExtents S vs xs
    → IsTable S xs Clocked clocked → IsTable S xs Unclocked unclocked → is_signal_sort (signal_at S s).sort ≡ true
    → list_any (λ w. touches w.drives (signal_at S s) && not (same_sign e (is_edge w.way))) vs ≡ is_marked (if e then unclocked else clocked) s
mixed-signal S vs xs clocked unclocked true s distinct h c u a =
    each_any (IsExtent S) (λ w. touches w.drives (signal_at S s) && not (same_sign true (is_edge w.way))) (λ x. is_of Unclocked (way_of x.way) && names s x.drives) vs xs h
    (λ v x k. other-way true (is_edge v.way) (touches v.drives (signal_at S s)) ∙
    (ap (λ w. not (is_edge w) && touches v.drives (signal_at S s)) (sym k.way) ∙ ap (λ b. not (is_edge (way_of x.way)) && b) (touches_by S v.drives x.drives s distinct k.drives a))) ∙
    sym (u.marked s (signal_in S s a))
mixed-signal S vs xs clocked unclocked false s distinct h c u a =
    each_any (IsExtent S) (λ w. touches w.drives (signal_at S s) && not (same_sign false (is_edge w.way))) (λ x. is_of Clocked (way_of x.way) && names s x.drives) vs xs h
    (λ v x k. other-way false (is_edge v.way) (touches v.drives (signal_at S s)) ∙
    (ap (λ w. is_edge w && touches v.drives (signal_at S s)) (sym k.way) ∙ ap (λ b. is_edge (way_of x.way) && b) (touches_by S v.drives x.drives s distinct k.drives a))) ∙
    sym (c.marked s (signal_in S s a))

pub and_turn : (a b c : Bool) → (a && b && c) ≡ (b && (a && c))
and_turn true true c = refl
and_turn true false c = refl
and_turn false true c = refl
and_turn false false c = refl

mixed-is : (S : Signals) (vs : List View) (xs : List Extent) (clocked unclocked' : List Bool) (v : View) (x : Extent) → AreDistinct (all_cells S) → AreExtents S vs xs
    → IsTable S xs Clocked clocked → IsTable S xs Unclocked unclocked' → IsExtent S v x
    → is_mixed S clocked unclocked' x ≡ list_any (is_mixed_view vs v) (unclocked S)
mixed-is S vs xs clocked unclocked' v x distinct h c u k =
    let rest : Declared → Bool = λ y. list_any (λ w. touches w.drives y && not (same_sign (is_edge v.way) (is_edge w.way))) vs in
    any_alike (λ (s : Span). is_variable_sort (signal_at S s.signal).sort && is_marked (if is_edge (way_of x.way) then unclocked' else clocked) s.signal)
    (λ s. is_variable_sort (signal_at S s.signal).sort && rest (signal_at S s.signal)) x.drives
    (λ j s e. ap (λ b. is_variable_sort (signal_at S s.signal).sort && b)
    (ap (λ w. is_marked (if is_edge w then unclocked' else clocked) s.signal) k.way ∙
    sym (mixed-signal S vs xs clocked unclocked' (is_edge v.way) s.signal distinct h c u ((all_at (IsSpan S) x.drives j s k.drives.each e).signal)))) ∙
    (sym (any_touched S v.drives x.drives (λ y. is_variable_sort y.sort && rest y) distinct k.drives) ∙
    any_alike (λ y. touches v.drives y && (is_variable_sort y.sort && rest y)) (is_mixed_view vs v) (unclocked S)
    (λ j y e. sym (and_turn (is_variable_sort y.sort) (touches v.drives y) (rest y))))

-- ---- shared bits

shares-bit : (S : Signals) (v w : View) (x y : Extent) → IsExtent S v x → IsExtent S w y → SharesBit S x y → (b : Bit) × (has_bit v.drives b ≡ true) × (has_bit w.drives b ≡ true)
shares-bit S v w x y h k s =
    (bit_of S s.cell s.at, sym (h.drives.set.same s.cell s.at s.there) ∙ s.first, sym (k.drives.set.same s.cell s.at s.there) ∙ s.second)

other_before : (vs : List View) (j k : ℕ) (w : View) (p : View → Bool) → j < k → slice_get vs j ≡ Some w → p w ≡ true → list_any p (others k vs) ≡ true
other_before vs j k w p l e h =
    list_any-append p (take k vs) (drop (suc k) vs) ∙ or-left (list_any p (take k vs)) (list_any p (drop (suc k) vs)) (any_of p (take k vs) j w (get_take vs k j w l e) h)

pub shared-told : (S : Signals) (vs : List View) (xs : List Extent) (j k : ℕ) (v : View) (x y : Extent) → AreExtents S vs xs → slice_get vs k ≡ Some v → IsExtent S v x
    → j < k → slice_get xs j ≡ Some y → SharesBit S x y → list_any (view_driven (others k vs)) v.drives ≡ true
shared-told S vs xs j k v x y h e m l f s =
    let p : IsPair (IsExtent S) vs j y = each_get (IsExtent S) vs xs j y h f in
    let b : (b : Bit) × (has_bit v.drives b ≡ true) × (has_bit p.item.drives b ≡ true) = shares-bit S v p.item x y m p.holds s in
    bit_with (view_driven (others k vs)) v.drives b.0 b.1 (other_before vs j k p.item (λ w. has_bit w.drives b.0) l p.there b.2)

no-bit : (S : Signals) (v w : View) (x y : Extent) (b : Bit) → IsExtent S v x → IsExtent S w y → AreApart x y → has_bit v.drives b ≡ true → has_bit w.drives b ≡ true → ⊥
no-bit S v w x y b h k a p q =
    let r : (c : Cell) × (i : ℕ) × (is_bit S c i ≡ true) × (bit_of S c i ≡ b) = h.drives.set.inside b p in
    let f : spans_have x.drives r.0 r.1 ≡ true = h.drives.set.same r.0 r.1 r.2 ∙ (ap (has_bit v.drives) r.3 ∙ p) in
    let g : spans_have y.drives r.0 r.1 ≡ true = k.drives.set.same r.0 r.1 r.2 ∙ (ap (has_bit w.drives) r.3 ∙ q) in
    not_both (spans_have x.drives r.0 r.1 && spans_have y.drives r.0 r.1) (and-both (spans_have x.drives r.0 r.1) (spans_have y.drives r.0 r.1) f g) (a r.0 r.1)

abbrev Apart : List Extent → Type 0
Apart xs = (j k : ℕ) (x y : Extent) → j < k → slice_get xs j ≡ Some x → slice_get xs k ≡ Some y → AreApart x y

no-two : (S : Signals) (vs : List View) (xs : List Extent) (j k : ℕ) (v w : View) (b : Bit) → AreExtents S vs xs → Apart xs → (j ≡ k → ⊥)
    → slice_get vs j ≡ Some w → slice_get vs k ≡ Some v → has_bit v.drives b ≡ true → has_bit w.drives b ≡ true → ⊥
no-two S vs xs j k v w b h a ne e f p q =
    let x : IsMatched (IsExtent S) xs k v = each_back (IsExtent S) vs xs k v h f in
    let y : IsMatched (IsExtent S) xs j w = each_back (IsExtent S) vs xs j w h e in
    elim (cases_order j k) [
      | inl g ↦ ne g
      | inr (inl g) ↦ no-bit S w v y.item x.item b y.holds x.holds (a j k y.item x.item g y.there x.there) q p
      | inr (inr g) ↦ no-bit S v w x.item y.item b x.holds y.holds (a k j x.item y.item g x.there y.there) p q
    ]

none-shared : (S : Signals) (vs : List View) (xs : List Extent) (k : ℕ) (v : View) → AreExtents S vs xs → Apart xs → slice_get vs k ≡ Some v
    → list_any (view_driven (others k vs)) v.drives ≡ true → ⊥
none-shared S vs xs k v h a e t =
    let b : (b : Bit) × (has_bit v.drives b ≡ true) × (view_driven (others k vs) b ≡ true) = some_bit_with (view_driven (others k vs)) v.drives t in
    let p : View → Bool = λ w. has_bit w.drives b.0 in
    elim (or-split (list_any p (take k vs)) (list_any p (drop (suc k) vs)) (sym (list_any-append p (take k vs) (drop (suc k) vs)) ∙ b.2)) [
      | inl f ↦
          let r : IsSome p (take k vs) = some_of p (take k vs) f in
          let g : IsFront vs k r.at r.item = take_get vs k r.at r.item r.there in
          let l : r.at < k = g.below in
          no-two S vs xs r.at k v r.item b.0 h a (λ z. let y : r.at ≡ k = z in omega arith) g.there e b.1 r.holds
      | inr f ↦
          let r : IsSome p (drop (suc k) vs) = some_of p (drop (suc k) vs) f in
          no-two S vs xs (suc k + r.at) k v r.item b.0 h a (λ z. let y : suc k + r.at ≡ k = z in omega arith) (drop_get vs (suc k) r.at r.item r.there) e b.1 r.holds
    ]

-- ---- TwoDrivers

regrouped : (a b c d : Bool) → (a || b || c || d) ≡ (a || ((b || c) || d))
regrouped true b c d = refl
regrouped false b c d = refl

two-is : (S : Signals) (vs : List View) (xs : List Extent) (clocked unclocked' : List Bool) (k : ℕ) (v : View) (x : Extent) → AreDistinct (all_cells S) → AreExtents S vs xs
    → IsTable S xs Clocked clocked → IsTable S xs Unclocked unclocked' → IsExtent S v x
    → is_two_view (unclocked S) vs k v ≡ (list_any (view_driven (others k vs)) v.drives || (is_overdriven S x || is_mixed S clocked unclocked' x))
two-is S vs xs clocked unclocked' k v x distinct h c u m =
    regrouped (list_any (view_driven (others k vs)) v.drives) (is_continuous v.way && has_twice v.drives)
    (list_any (λ y. is_input_sort y.sort && touches v.drives y) (unclocked S)) (list_any (is_mixed_view vs v) (unclocked S)) ∙
    ap (λ b. list_any (view_driven (others k vs)) v.drives || b)
    (ap (λ b. b || list_any (is_mixed_view vs v) (unclocked S)) (sym (overdriven-is S v x distinct m)) ∙
    ap (λ b. is_overdriven S x || b) (sym (mixed-is S vs xs clocked unclocked' v x distinct h c u m)))

all-spans : (S : Signals) (vs : List View) (xs : List Extent) → AreExtents S vs xs → AllSpans S xs
all-spans S vs xs h k x e = (each_get (IsExtent S) vs xs k x h e).holds.drives.each

pub told_has : (b : Bool) (ats : List At) (at : At) → b ≡ true → Contains ats at → Contains (told_if b ats) at
told_has true ats at e h = h
told_has false ats at e h = cc

or_by : (a b : Bool) → (b ≡ false → a ≡ true) → (a || b) ≡ true
or_by true b f = refl
or_by false true f = refl
or_by false false f = f refl

or_none : (a : Bool) → (a ≡ true → ⊥) → (a || false) ≡ false
or_none true f = absurd (f refl)
or_none false f = refl

told-at : (S : Signals) (vs : List View) (t : Told) (x : Extent) (v : View) → slice_get vs t.part ≡ Some v → IsExtent S v x → t.place ≡ x.place
    → at_view v x.place ≡ record { path = path_of vs t.part; place = t.place }
told-at S vs t x v e h p = ap (λ (n : ℕ). at_view v n) (sym p) ∙ ap (λ (path : Name). record { path = path; place = t.place }) (sym (path_is vs t.part v e))

pub two_answer : (S : Signals) (vs : List View) (xs : List Extent) (clocked unclocked' : List Bool) (r : Option Told) → AreDistinct (all_cells S) → AreExtents S vs xs
    → IsTable S xs Clocked clocked → IsTable S xs Unclocked unclocked' → IsShared S clocked unclocked' xs r → IsAnswer vs (two_views (unclocked S) vs) r
two_answer S vs xs clocked unclocked' None distinct h c u n = views_none (λ k v. told_if (is_two_view (unclocked S) vs k v) (aimed_at v)) vs (λ k v e.
    let x : IsMatched (IsExtent S) xs k v = each_back (IsExtent S) vs xs k v h e in
    ap (λ b. told_if b (aimed_at v)) (two-is S vs xs clocked unclocked' k v x.item distinct h c u x.holds ∙
    (ap (λ b. list_any (view_driven (others k vs)) v.drives || b) (n.alone k x.item x.there) ∙
    or_none (list_any (view_driven (others k vs)) v.drives) (none-shared S vs xs k v h n.apart e))))
two_answer S vs xs clocked unclocked' (Some t) distinct h c u n =
    let p : IsPair (IsExtent S) vs t.part n.x = each_get (IsExtent S) vs xs t.part n.x h n.there in
    let told : is_two_view (unclocked S) vs t.part p.item ≡ true =
    two-is S vs xs clocked unclocked' t.part p.item n.x distinct h c u p.holds ∙
    or_by (list_any (view_driven (others t.part vs)) p.item.drives) (is_overdriven S n.x || is_mixed S clocked unclocked' n.x) (λ f.
    let g : (j : ℕ) × (y : Extent) × (j < t.part) × (slice_get xs j ≡ Some y) × SharesBit S n.x y = n.holds f (all-spans S vs xs h) in
    shared-told S vs xs g.0 t.part p.item n.x g.1 h p.there p.holds g.2 g.3 g.4) in (
      slice_get_within vs t.part p.item p.there,
      subst (λ (a : At). Contains (two_views (unclocked S) vs) a) (told-at S vs t n.x p.item p.there p.holds n.place)
          (views_has (λ k v. told_if (is_two_view (unclocked S) vs k v) (aimed_at v)) vs t.part p.item (at_view p.item n.x.place) p.there
          (told_has (is_two_view (unclocked S) vs t.part p.item) (aimed_at p.item) (at_view p.item n.x.place) told
          (at_itself S p.item n.x p.holds (map (λ a. at_view p.item a.place) p.item.targets)))),
    )
