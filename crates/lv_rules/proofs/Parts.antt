-- What each rule tells of one part, by its extent.
use Rattle.std.proofs.Common.{◌≡◌, ℕ, Bool, true, false, not, ◌&&◌, ◌||◌, ◌==◌, List, [], ◌∷◌, ◌++◌, map, refl, ap, sym, subst, ◌∙◌, Option, Some, None, inl, inr}
use Rattle.std.specs.Prelude.{flat_map, filter, slice_get, Contains, if◌then◌else◌}
use Rattle.std.specs.List.{list_any, list_all}
use Rattle.std.proofs.lemmas.Bool.{eqb-true, cases_Bool}
use Rattle.std.proofs.lemmas.List.Elements.{Contains-append_left, Contains-append_right}
use Rattle.lv_source.specs.Names.{Declared, is_variable_sort, is_input_sort, is_clock_sort}
use Rattle.lv_source.specs.Parts.{At}
use Rattle.lv_source.specs.PartRules.{told_if, touches}
use Rattle.lv_source.specs.ScopeRules.{same_sign}
use Rattle.lv_source.specs.Views.{Way, Continuous, Combinational, Edge, View, Aim, Seen, is_continuous, is_combinational}
use Rattle.lv_source.specs.Views.{at_view, at_views, aimed_at, is_wrong_aim, is_wrong_view, edge_places, clock_aims, seen_places, first_aim}
use Rattle.lv_source.proofs.Tests.{and-left, and-right}
use Rattle.lv_flat.specs.Cells.{AreDistinct, all_cells}
use Rattle.lv_flat.specs.Signals.{Signals, signal_at, sort_of}
use Rattle.lv_extents.specs.declared.extent.Extent.{Extent}
use Rattle.lv_extents.specs.Extents.{IsAim, IsStep, IsExtent, way_of, all_aims}
use Rattle.lv_rules.specs.declared.local.LocalRule.{LocalRule}
use Rattle.lv_rules.specs.declared.local.LocalRule.TheVariants.{Unfixed, WrongKind, ClockUse, NamedClock, Nonblocking, Latch, ReadFirst}
use Rattle.lv_rules.specs.Rules.{local_views, local_at, unclocked, IsPlace, is_misaimed, is_misdriven, is_other_edge}
use Rattle.lv_rules.specs.Rules.{IsFound, is_unsure, is_clock_aim, aim_place, is_late_step, step_place, IsClockPlace, clock_place_by}
use Rattle.lv_rules.proofs.Lists.{IsSome, some_of, any_of, any_alike, filter_none, filter_has}
use Rattle.lv_rules.proofs.Answering.{IsPair, IsMatched, each_get, each_back, each_any, head_has, told_place, mapped_has}
use Rattle.lv_rules.proofs.Touches.{any_touched}

both : {b : Bool} → b ≡ true → b ≡ false → ⊥
both h k = cc

pub at_itself : (S : Signals) (v : View) (x : Extent) → IsExtent S v x → (ats : List At) → Contains (v.at ∷ ats) (at_view v x.place)
at_itself S v x h ats = head_has v.at (at_view v x.place) ats (ap (at_view v) (sym h.place))

-- ---- WrongKind

misaimed-is : (way : Way) (a : Aim) → is_misaimed way a.sort ≡ is_wrong_aim way a
misaimed-is Continuous a = refl
misaimed-is Combinational a = refl
misaimed-is (Edge s p) a = refl

wrong-targets : (S : Signals) (v : View) (x : Extent) → IsExtent S v x → list_any (is_wrong_aim v.way) v.targets ≡ list_any (λ a. is_misaimed (way_of x.way) (sort_of a.sort)) (all_aims x)
wrong-targets S v x h = each_any (IsAim S) (is_wrong_aim v.way) (λ a. is_misaimed (way_of x.way) (sort_of a.sort)) v.targets (all_aims x) h.aims
    (λ a b k. sym (misaimed-is v.way a) ∙ (ap (λ w. is_misaimed w a.sort) (sym h.way) ∙ ap (is_misaimed (way_of x.way)) (sym k.sort)))

pub and_shift : (a b c : Bool) → (a && b && c) ≡ (a && (b && c))
and_shift true b c = refl
and_shift false b c = refl

wrong-drives : (S : Signals) (v : View) (x : Extent) → AreDistinct (all_cells S) → IsExtent S v x
    → list_any (λ x. touches v.drives x && not (same_sign (not (is_continuous v.way)) (is_variable_sort x.sort)) && not (is_input_sort x.sort)) (unclocked S)
    ≡ list_any (λ s. is_misdriven (way_of x.way) (signal_at S s.signal).sort) x.drives
wrong-drives S v x distinct h =
    any_alike (λ y. touches v.drives y && not (same_sign (not (is_continuous v.way)) (is_variable_sort y.sort)) && not (is_input_sort y.sort))
    (λ y. touches v.drives y && is_misdriven v.way y.sort) (unclocked S)
    (λ k y e. and_shift (touches v.drives y) (not (same_sign (not (is_continuous v.way)) (is_variable_sort y.sort))) (not (is_input_sort y.sort))) ∙
    (any_touched S v.drives x.drives (λ y. is_misdriven v.way y.sort) distinct h.drives ∙
    ap (λ w. list_any (λ s. is_misdriven w (signal_at S s.signal).sort) x.drives) (sym h.way))

pub wrong_place : (S : Signals) (v : View) (x : Extent) (b : Bool) (o : Option ℕ) → AreDistinct (all_cells S) → IsExtent S v x
    → b ≡ (list_any (λ a. is_misaimed (way_of x.way) (sort_of a.sort)) (all_aims x) || list_any (λ s. is_misdriven (way_of x.way) (signal_at S s.signal).sort) x.drives)
    → o ≡ (if b then Some x.place else None) → IsPlace v (told_if (is_wrong_view (unclocked S) v) (aimed_at v)) o
wrong_place S v x b o distinct h e f =
    let g : b ≡ is_wrong_view (unclocked S) v =
    e ∙ (ap (λ c. c || list_any (λ s. is_misdriven (way_of x.way) (signal_at S s.signal).sort) x.drives) (sym (wrong-targets S v x h)) ∙
    ap (λ c. list_any (is_wrong_aim v.way) v.targets || c) (sym (wrong-drives S v x distinct h))) in
    told_place (is_wrong_view (unclocked S) v) v (aimed_at v) x.place o (f ∙ ap (λ c. if c then Some x.place else None) g) (at_itself S v x h (map (λ a. at_view v a.place) v.targets))

-- ---- NotConstant

some_not : (as' : List Aim) → list_any (λ (a : Aim). not a.sure) as' ≡ not (list_all (λ (a : Aim). a.sure) as')
some_not [] = refl
some_not (a ∷ as') = one_not a.sure (list_any (λ (a : Aim). not a.sure) as') (list_all (λ (a : Aim). a.sure) as') (some_not as')
  where
    one_not : (b c d : Bool) → c ≡ not d → (not b || c) ≡ not (b && d)
    one_not true c d e = e
    one_not false c d e = refl

unsure-targets : (S : Signals) (v : View) (x : Extent) → IsExtent S v x → not (list_all (λ (a : Aim). a.sure) v.targets) ≡ list_any is_unsure (all_aims x)
unsure-targets S v x h = sym (some_not v.targets) ∙ each_any (IsAim S) (λ a. not a.sure) is_unsure v.targets (all_aims x) h.aims (λ a b k. ap not (sym k.sure))

pub unfixed_place : (S : Signals) (v : View) (x : Extent) (b : Bool) (o : Option ℕ) → IsExtent S v x
    → b ≡ (is_continuous (way_of x.way) && list_any is_unsure (all_aims x)) → o ≡ (if b then Some x.place else None)
    → IsPlace v (told_if (is_continuous v.way && not (list_all (λ a. a.sure) v.targets)) (aimed_at v)) o
unfixed_place S v x b o h e f =
    let g : b ≡ (is_continuous v.way && not (list_all (λ (a : Aim). a.sure) v.targets)) =
    e ∙ (ap (λ w. is_continuous w && list_any is_unsure (all_aims x)) h.way ∙ ap (λ c. is_continuous v.way && c) (sym (unsure-targets S v x h))) in
    told_place (is_continuous v.way && not (list_all (λ a. a.sure) v.targets)) v (aimed_at v) x.place o (f ∙ ap (λ c. if c then Some x.place else None) g)
    (at_itself S v x h (map (λ a. at_view v a.place) v.targets))

-- ---- Latch and ReadFirst

pub latch_place : (S : Signals) (v : View) (x : Extent) (flag : Bool) (seen : Bool) (b : Bool) (o : Option ℕ) → IsExtent S v x → b ≡ (is_combinational (way_of x.way) && flag) → flag ≡ seen
    → o ≡ (if b then Some x.place else None) → IsPlace v (told_if (is_combinational v.way && seen) (v.at ∷ [])) o
latch_place S v x flag seen b o h e g f =
    told_place (is_combinational v.way && seen) v (v.at ∷ []) x.place o
    (f ∙ ap (λ c. if c then Some x.place else None) (e ∙ (ap (λ w. is_combinational w && flag) h.way ∙ ap (λ c. is_combinational v.way && c) g))) (at_itself S v x h [])

-- ---- Nonblocking

none_at : {X : Type 0} (p : X → Bool) (xs : List X) (k : ℕ) (x : X) → list_any p xs ≡ false → slice_get xs k ≡ Some x → p x ≡ false
none_at p xs k x h e = elim (cases_Bool (p x)) [ inl a ↦ absurd (both (any_of p xs k x e a) h) | inr b ↦ b ]

pub late_step_place : (S : Signals) (v : View) (x : Extent) (o : Option ℕ) → IsExtent S v x
    → IsFound (λ s. is_combinational (way_of x.way) && is_late_step s) step_place x.steps o
    → IsPlace v (flat_map (seen_places v) (filter (λ e. is_combinational v.way && not e.at_once) v.events)) o
late_step_place S v x None h f =
    ap (flat_map (seen_places v)) (filter_none (λ (e : Seen). is_combinational v.way && not e.at_once) v.events (λ k e q.
    let m : IsMatched (IsStep S) x.steps k e = each_back (IsStep S) v.events x.steps k e h.steps q in
    ap (λ w. is_combinational w && not e.at_once) (sym h.way) ∙ (ap (λ c. is_combinational (way_of x.way) && not c) (sym m.holds.at_once) ∙
    none_at (λ s. is_combinational (way_of x.way) && is_late_step s) x.steps k m.item f m.there)))
late_step_place S v x (Some n) h f =
    let r : IsSome (λ s. is_combinational (way_of x.way) && is_late_step s && (step_place s == n)) x.steps = some_of (λ s. is_combinational (way_of x.way)
    && is_late_step s && (step_place s == n)) x.steps f in
    let p : IsPair (IsStep S) v.events r.at r.item = each_get (IsStep S) v.events x.steps r.at r.item h.steps r.there in
    let a : (is_combinational (way_of x.way) && is_late_step r.item) ≡ true = and-left (is_combinational (way_of x.way) && is_late_step r.item) (step_place r.item == n) r.holds in
    let b : step_place r.item ≡ n = eqb-true (step_place r.item) n (and-right (is_combinational (way_of x.way) && is_late_step r.item) (step_place r.item == n) r.holds) in
    filter_has (seen_places v) (λ e. is_combinational v.way && not e.at_once) v.events r.at p.item (at_view v n) p.there
    (ap (λ w. is_combinational w && not p.item.at_once) (sym h.way) ∙ (ap (λ c. is_combinational (way_of x.way) && not c) (sym p.holds.at_once) ∙ a))
    (head_has (at_view v p.item.place) (at_view v n) (map (at_view v) (first_aim p.item.targets)) (ap (at_view v) (sym p.holds.place ∙ b)))

-- ---- clocks

head_place : (v : View) (ks : List ℕ) → IsPlace v (map (at_view v) ks) (slice_get ks 0)
head_place v [] = refl
head_place v (k ∷ ks) = head_has (at_view v k) (at_view v k) (map (at_view v) ks) refl

abbrev edge_by : Way → View → List At
edge_by w v = elim w [ Continuous ↦ [] | Combinational ↦ [] | Edge sort place ↦ told_if (not (is_clock_sort sort)) (v.at ∷ at_view v place ∷ []) ]

edge_has_by : (b : Bool) (v : View) (ats : List At) (n : ℕ) → b ≡ true → v.at ≡ at_view v n → Contains (told_if b (v.at ∷ ats)) (at_view v n)
edge_has_by true v ats n g e = head_has v.at (at_view v n) ats e
edge_has_by false v ats n g e = cc

edge_has : (w : Way) (v : View) (n : ℕ) → v.way ≡ w → is_other_edge w ≡ true → v.at ≡ at_view v n → Contains (edge_by w v) (at_view v n)
edge_has Continuous v n q g e = cc
edge_has Combinational v n q g e = cc
edge_has (Edge sort place) v n q g e = edge_has_by (not (is_clock_sort sort)) v (at_view v place ∷ []) n g e

edge_none : (w : Way) (v : View) → v.way ≡ w → is_other_edge w ≡ false → edge_by w v ≡ []
edge_none Continuous v q g = refl
edge_none Combinational v q g = refl
edge_none (Edge sort place) v q g = ap (λ b. told_if b (v.at ∷ at_view v place ∷ [])) g

pub named_clock_place : (S : Signals) (v : View) (x : Extent) (o : Option ℕ) → IsExtent S v x → o ≡ slice_get x.clocks 0 → IsPlace v (map (at_view v) v.clocks) o
named_clock_place S v x o h e = subst (λ z. IsPlace v (map (at_view v) v.clocks) z) (sym (e ∙ ap (λ z. slice_get z 0) h.clocks)) (head_place v v.clocks)

clock_place_is : (S : Signals) (v : View) (x : Extent) (b : Bool) (o : Option ℕ) → IsExtent S v x → is_other_edge (way_of x.way) ≡ b → clock_place_by b x o
    → IsPlace v (edge_places v ++ clock_aims v) o
clock_place_is S v x true o h e f =
    let g : is_other_edge v.way ≡ true = ap is_other_edge (sym h.way) ∙ e in
    subst (IsPlace v (edge_places v ++ clock_aims v)) (sym f)
    (Contains-append_left (edge_places v) (clock_aims v) (at_view v x.place) (edge_has v.way v x.place refl g (ap (at_view v) (sym h.place))))
clock_place_is S v x false None h e f =
    let g : is_other_edge v.way ≡ false = ap is_other_edge (sym h.way) ∙ e in
    ap (λ z. z ++ clock_aims v) (edge_none v.way v refl g) ∙
    ap (map (λ (a : Aim). at_view v a.place)) (filter_none (λ (a : Aim). is_clock_sort a.sort) v.targets (λ k a q.
    let m : IsMatched (IsAim S) (all_aims x) k a = each_back (IsAim S) v.targets (all_aims x) k a h.aims q in
    ap is_clock_sort (sym m.holds.sort) ∙ none_at is_clock_aim (all_aims x) k m.item f m.there))
clock_place_is S v x false (Some n) h e f =
    let r : IsSome (λ a. is_clock_aim a && (aim_place a == n)) (all_aims x) = some_of (λ a. is_clock_aim a && (aim_place a == n)) (all_aims x) f in
    let p : IsPair (IsAim S) v.targets r.at r.item = each_get (IsAim S) v.targets (all_aims x) r.at r.item h.aims r.there in
    let b : aim_place r.item ≡ n = eqb-true (aim_place r.item) n (and-right (is_clock_aim r.item) (aim_place r.item == n) r.holds) in
    Contains-append_right (edge_places v) (clock_aims v) (at_view v n)
    (subst (λ z. Contains (clock_aims v) (at_view v z)) (sym p.holds.place ∙ b)
    (mapped_has (λ a. at_view v a.place) (λ a. is_clock_sort a.sort) v.targets r.at p.item p.there
    (ap is_clock_sort (sym p.holds.sort) ∙ and-left (is_clock_aim r.item) (aim_place r.item == n) r.holds)))

pub clock_use_place : (S : Signals) (v : View) (x : Extent) (o : Option ℕ) → IsExtent S v x → IsClockPlace x o → IsPlace v (edge_places v ++ clock_aims v) o
clock_use_place S v x o h f = clock_place_is S v x (is_other_edge (way_of x.way)) o h refl f

-- ---- all of them

pub local-views : (rule : LocalRule) (ss : List Declared) (vs : List View) → local_views rule ss vs ≡ at_views vs (λ k v. local_at rule ss v)
local-views Unfixed ss vs = refl
local-views WrongKind ss vs = refl
local-views ClockUse ss vs = refl
local-views NamedClock ss vs = refl
local-views Nonblocking ss vs = refl
local-views Latch ss vs = refl
local-views ReadFirst ss vs = refl
