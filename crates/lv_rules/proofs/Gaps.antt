-- Undriven, by extents.
use Rattle.std.proofs.Common.{◌≡◌, ℕ, zero, suc, ◌+◌, ◌<◌, ◌≤◌, ◌%◌, min, Bool, true, false, not, ◌&&◌, ◌==◌, List, []}
use Rattle.std.proofs.Common.{◌∷◌, ◌++◌, length, get_or, slice_index, bit_and, refl, ap, sym, subst, ◌∙◌, inl, inr, arith, Option, Some, None}
use Rattle.std.specs.Prelude.{slice_get, filter, bit_xor, nat_lt}
use Rattle.std.specs.List.{list_any}
use Rattle.std.specs.Int.{bit_at}
use Rattle.std.proofs.lemmas.Bool.{cases_eq, cases_Bool, ltb-false, le-ltb, lt-ltb, eqb-true, eq-eqb, false_from_ne_true}
use Rattle.std.proofs.lemmas.Nat.Bits.{bit_at_and, bit_at_xor, bit_at-lt, bit_at-zero}
use Rattle.std.proofs.lemmas.List.{length_push, get_or_push, get_or_append_left, get_or-map}
use Rattle.std.proofs.lemmas.Option.{slice_get_within, get_or_from_slice_get, slice_get-get_or}
use Rattle.lv_source.specs.Names.{Bounds, Declared, no_declaration, width_of, low, high, is_signal_sort, is_variable_sort, is_input_sort}
use Rattle.lv_source.specs.Places.{Bit, has_bit, whole, within}
use Rattle.lv_source.specs.PartRules.{told_if, touches}
use Rattle.lv_source.specs.Views.{View, is_combinational, at_view, view_driven, is_wired_view, is_undriven_view, undriven_views}
use Rattle.lv_source.proofs.Tests.{and-both, and-left, and-right, not-true}
use Rattle.lv_source.proofs.Trees.{HasCell}
use Rattle.lv_source.proofs.Unique.{some_bit_with, bit_with}
use Rattle.lv_flat.specs.Cells.{AreDistinct, all_cells}
use Rattle.lv_flat.specs.declared.signal.Signal.{Signal}
use Rattle.lv_flat.specs.Signals.{Signals, signal_at, declared, declared_all, bounds_of}
use Rattle.lv_lower_exprs.proofs.Wholes.{signal_in}
use Rattle.lv_spans.specs.declared.span.Span.{Span}
use Rattle.lv_spans.specs.Sets.{Cell, Masks, has, mask_at, is_set, is_under, is_element}
use Rattle.lv_spans.specs.Domain.{is_element_in, is_cell, is_bit, bit_of, spans_have}
use Rattle.lv_extents.specs.declared.extent.Extent.{Extent}
use Rattle.lv_extents.specs.Extents.{IsExtent, AreExtents, way_of}
use Rattle.lv_rules.specs.declared.told.Told.{Told}
use Rattle.lv_rules.specs.declared.marks.Class.TheVariants.{Combinational}
use Rattle.lv_rules.specs.Rules.{unclocked, IsAnswer}
use Rattle.lv_rules.specs.Drives.{is_marked, names, is_of}
use Rattle.lv_rules.specs.Wires.{is_wired, IsLacking, IsCommon, AreCommon, IsCovered, LacksSpan, HasGap, IsUndriven}
use Rattle.lv_rules.proofs.Lists.{same_tests, not_both, IsSome, some_of, any_of, any_filter}
use Rattle.lv_rules.proofs.Answering.{IsMatched, each_back, each_any, views_none, told_one}
use Rattle.lv_rules.proofs.Parts.{at_itself}
use Rattle.lv_rules.proofs.Touches.{some_bit, set_below, under_signal, bit_cell, touches_by, bit_whole, bit_signal, signal_get}
use Rattle.lv_rules.proofs.Twice.{IsTable, told_has}

-- ---- masks

minus-bits : (x y : ℕ) → x < 2 → y < 2 → ((x + min x y) % 2 == 1) ≡ ((x == 1) && not (y == 1))
minus-bits zero zero p q = refl
minus-bits zero (suc zero) p q = refl
minus-bits (suc zero) zero p q = refl
minus-bits (suc zero) (suc zero) p q = refl
minus-bits (suc (suc x)) y p q = absurd (omega arith)
minus-bits x (suc (suc y)) p q = absurd (omega arith)

and-bits : (x y : ℕ) → x < 2 → y < 2 → (min x y == 1) ≡ ((x == 1) && (y == 1))
and-bits zero zero p q = refl
and-bits zero (suc zero) p q = refl
and-bits (suc zero) zero p q = refl
and-bits (suc zero) (suc zero) p q = refl
and-bits (suc (suc x)) y p q = absurd (omega arith)
and-bits x (suc (suc y)) p q = absurd (omega arith)

set-minus : (a b i : ℕ) → is_set (bit_xor a (bit_and a b)) i ≡ (is_set a i && not (is_set b i))
set-minus a b i = rw (bit_at_xor a (bit_and a b) i) (rw (bit_at_and a b i) (minus-bits (bit_at a i) (bit_at b i) (bit_at-lt a i) (bit_at-lt b i)))

set-and : (a b i : ℕ) → is_set (bit_and a b) i ≡ (is_set a i && is_set b i)
set-and a b i = rw (bit_at_and a b i) (and-bits (bit_at a i) (bit_at b i) (bit_at-lt a i) (bit_at-lt b i))

pub lacking-some : (a b : ℕ) → 0 < bit_xor a (bit_and a b) → IsLacking a b true
lacking-some a b h =
    let r : (i : ℕ) × (is_set (bit_xor a (bit_and a b)) i ≡ true) = some_bit (bit_xor a (bit_and a b)) (bit_xor a (bit_and a b)) (omega arith) h in
    let m : (is_set a r.0 && not (is_set b r.0)) ≡ true = sym (set-minus a b r.0) ∙ r.1 in
    (r.0, and-left (is_set a r.0) (not (is_set b r.0)) m, not-true (is_set b r.0) (and-right (is_set a r.0) (not (is_set b r.0)) m))

kept_by : (x y : Bool) → (x && not y) ≡ false → x ≡ true → y ≡ true
kept_by true true h e = refl
kept_by true false h e = cc
kept_by false y h e = cc

pub lacking-none : (a b : ℕ) → bit_xor a (bit_and a b) ≡ 0 → IsLacking a b false
lacking-none a b h i e = kept_by (is_set a i) (is_set b i) (sym (set-minus a b i) ∙ (ap (λ n. is_set n i) h ∙ ap (λ n. n == 1) (bit_at-zero i))) e

-- ---- elements

-- the bits that the elements from the lowest one to before n have
pub record AreElements (set : Masks) (s from n mask : ℕ) : Type 0 where
  pub every : (i e : ℕ) → is_set mask i ≡ true → from ≤ e → e < n → has set (s, Some e) i ≡ true
  pub one : (i : ℕ) → is_set mask i ≡ false → (e : ℕ) × (from ≤ e) × (e < n) × (has set (s, Some e) i ≡ false)

pub elements-one : (set : Masks) (s from mask : ℕ) → mask ≡ mask_at set (s, Some from) → AreElements set s from (from + 1) mask
elements-one set s from mask h = record {
  every = λ i e m l k. let f : e ≡ from = omega arith in ap (λ j. has set (s, Some j) i) f ∙ (ap (λ n. is_set n i) (sym h) ∙ m);
  one = λ i m. (from, omega arith, omega arith, ap (λ n. is_set n i) (sym h) ∙ m);
}

pub elements-more : (set : Masks) (s from n mask own new : ℕ) → from ≤ n → own ≡ mask_at set (s, Some n) → new ≡ bit_and mask own → AreElements set s from n mask
    → AreElements set s from (n + 1) new
elements-more set s from n mask own new f h k a =
    let bits : (i : ℕ) → is_set new i ≡ (is_set mask i && has set (s, Some n) i) =
    λ i. ap (λ z. is_set z i) k ∙ (set-and mask own i ∙ ap (λ z. is_set mask i && is_set z i) h) in
    record {
      every = λ i e m l j. elim (cases_eq e n) [
        | inl g ↦ ap (λ z. has set (s, Some z) i) g ∙ and-right (is_set mask i) (has set (s, Some n) i) (sym (bits i) ∙ m)
        | inr g ↦ a.every i e (and-left (is_set mask i) (has set (s, Some n) i) (sym (bits i) ∙ m)) l (omega arith)
      ];
      one = λ i m. elim (cases_Bool (is_set mask i)) [
        | inl g ↦ (n, f, omega arith, ap (λ z. z && has set (s, Some n) i) (sym g) ∙ (sym (bits i) ∙ m))
        | inr g ↦ let r : (e : ℕ) × (from ≤ e) × (e < n) × (has set (s, Some e) i ≡ false) = a.one i g in (r.0, r.1, (let l : r.0 < n = r.2 in omega arith), r.3)
      ];
    }

within-from : (a b i : ℕ) → a ≤ i → i ≤ b → within a b i ≡ true
within-from a b i l m = and-both (not (nat_lt i a)) (not (nat_lt b i)) (ap not (le-ltb i a l)) (ap not (le-ltb b i m))

common-every : (set : Masks) (s : ℕ) (b : Bounds) (mask n : ℕ) → n ≡ high b + 1 → AreElements set s (low b) n mask → (i : ℕ) (o : Option ℕ) → is_set mask i ≡ true
    → is_element_in (Some b) o ≡ true → has set (s, o) i ≡ true
common-every set s b mask n e a i None m h = cc
common-every set s b mask n e a i (Some j) m h =
    let p : low b ≤ j = ltb-false j (low b) (not-true (nat_lt j (low b)) (and-left (not (nat_lt j (low b))) (not (nat_lt (high b) j)) h)) in
    let q : j ≤ high b = ltb-false (high b) j (not-true (nat_lt (high b) j) (and-right (not (nat_lt j (low b))) (not (nat_lt (high b) j)) h)) in
    a.every i j m p (omega arith)

pub elements-common : (set : Masks) (s : ℕ) (b : Bounds) (mask n : ℕ) → n ≡ high b + 1 → AreElements set s (low b) n mask → IsCommon set s (Some b) mask
elements-common set s b mask n e a = record {
  every = λ i o m h. common-every set s b mask n e a i o m h;
  one = λ i m.
      let r : (j : ℕ) × (low b ≤ j) × (j < n) × (has set (s, Some j) i ≡ false) = a.one i m in
      let l : r.0 < n = r.2 in
      (Some r.0, within-from (low b) (high b) r.0 r.1 (omega arith), r.3);
}

common-alone : (set : Masks) (s : ℕ) (mask : ℕ) → mask ≡ mask_at set (s, None) → (i : ℕ) (o : Option ℕ) → is_set mask i ≡ true → is_element_in None o ≡ true → has set (s, o) i ≡ true
common-alone set s mask h i None m e = ap (λ n. is_set n i) (sym h) ∙ m
common-alone set s mask h i (Some j) m e = cc

pub signal-common : (set : Masks) (s : ℕ) (mask : ℕ) → mask ≡ mask_at set (s, None) → IsCommon set s None mask
signal-common set s mask h = record {
  every = λ i o m e. common-alone set s mask h i o m e;
  one = λ i m. (None, refl, ap (λ n. is_set n i) (sym h) ∙ m);
}

-- ---- spans

pub covered-unwired : (S : Signals) (comb : List Bool) (set : Masks) (s : Span) → is_wired S comb s.signal ≡ false → IsCovered S comb set s
covered-unwired S comb set s h q i b u m w =
    absurd (not_both (is_wired S comb q.0) w (ap (is_wired S comb) (under_signal s.signal s.element q u) ∙ h))

element-is : (k : ℕ) (o : Option ℕ) → is_element k o ≡ true → o ≡ Some k
element-is k None h = cc
element-is k (Some j) h = ap Some (eqb-true j k h)

-- of one element
pub lacks-element : (S : Signals) (comb : List Bool) (set : Masks) (s : Span) (e : ℕ) (r : Bool) → s.element ≡ Some e → is_wired S comb s.signal ≡ true
    → IsLacking s.mask (mask_at set (s.signal, Some e)) r → LacksSpan S comb set s r
lacks-element S comb set s e true f w l = λ h.
    let c : is_cell S (s.signal, Some e) ≡ true = h.element e f in
    record {
      cell = (s.signal, Some e);
      at = l.0;
      there = and-both (is_cell S (s.signal, Some e)) (nat_lt l.0 (width_of (signal_at S s.signal))) c
          (lt-ltb l.0 (width_of (signal_at S s.signal)) (set_below s.mask (width_of (signal_at S s.signal)) l.0 h.wide l.1));
      under = subst (λ o. is_under s.signal o (s.signal, Some e) ≡ true) (sym f) (and-both (s.signal == s.signal) (e == e) (eq-eqb s.signal s.signal refl) (eq-eqb e e refl));
      in_span = l.1;
      wired = w;
      lacking = l.2;
    }
lacks-element S comb set s e false f w l = λ q i b u m v.
    let t : is_under s.signal (Some e) q ≡ true = subst (λ o. is_under s.signal o q ≡ true) f u in
    let p : q.0 ≡ s.signal = eqb-true q.0 s.signal (and-left (q.0 == s.signal) (is_element e q.1) t) in
    let o : q.1 ≡ Some e = element-is e q.1 (and-right (q.0 == s.signal) (is_element e q.1) t) in
    ap (λ n. has set (n, q.1) i) p ∙ (ap (λ z. has set (s.signal, z) i) o ∙ l i m)

-- of all cells of a signal
pub lacks-common : (S : Signals) (comb : List Bool) (set : Masks) (masks : List ℕ) (s : Span) (r : Bool) → s.element ≡ None → is_wired S comb s.signal ≡ true
    → AreCommon S comb set masks → IsLacking s.mask (slice_index masks s.signal) r → LacksSpan S comb set s r
lacks-common S comb set masks s true f w a l = λ h.
    let c : IsCommon set s.signal (signal_at S s.signal).array (slice_index masks s.signal) = a.common s.signal (signal_in S s.signal h.signal) w in
    let e : (e : Option ℕ) × (is_element_in (signal_at S s.signal).array e ≡ true) × (has set (s.signal, e) l.0 ≡ false) = c.one l.0 l.2 in
    record {
      cell = (s.signal, e.0);
      at = l.0;
      there = and-both (is_cell S (s.signal, e.0)) (nat_lt l.0 (width_of (signal_at S s.signal)))
          (and-both (is_signal_sort (signal_at S s.signal).sort) (is_element_in (signal_at S s.signal).array e.0) h.signal e.1)
          (lt-ltb l.0 (width_of (signal_at S s.signal)) (set_below s.mask (width_of (signal_at S s.signal)) l.0 h.wide l.1));
      under = subst (λ o. is_under s.signal o (s.signal, e.0) ≡ true) (sym f) (eq-eqb s.signal s.signal refl);
      in_span = l.1;
      wired = w;
      lacking = e.2;
    }
lacks-common S comb set masks s false f w a l = λ q i b u m v.
    let p : q.0 ≡ s.signal = under_signal s.signal s.element q u in
    let c : is_cell S q ≡ true = and-left (is_cell S q) (nat_lt i (width_of (signal_at S q.0))) b in
    let g : is_signal_sort (signal_at S q.0).sort ≡ true = and-left (is_signal_sort (signal_at S q.0).sort) (is_element_in (signal_at S q.0).array q.1) c in
    let e : is_element_in (signal_at S q.0).array q.1 ≡ true = and-right (is_signal_sort (signal_at S q.0).sort) (is_element_in (signal_at S q.0).array q.1) c in
    let k : IsCommon set q.0 (signal_at S q.0).array (slice_index masks q.0) = a.common q.0 (signal_in S q.0 g) v in
    k.every i q.1 (ap (λ n. is_set (slice_index masks n) i) p ∙ l i m) e

-- ---- one signal more

pub record AreBefore (S : Signals) (comb : List Bool) (set : Masks) (masks : List ℕ) (n : ℕ) : Type 0 where
  pub size : length masks ≡ n
  pub common : (s : ℕ) → s < n → is_wired S comb s ≡ true → IsCommon set s (signal_at S s).array (slice_index masks s)

pub before-more : (S : Signals) (comb : List Bool) (set : Masks) (masks new : List ℕ) (n mask : ℕ) → new ≡ masks ++ mask ∷ []
    → (is_wired S comb n ≡ true → IsCommon set n (signal_at S n).array mask) → AreBefore S comb set masks n → AreBefore S comb set new (n + 1)
before-more S comb set masks new n mask e f h = record {
  size = ap length e ∙ (length_push masks mask ∙ ap (λ k. k + 1) h.size);
  common = λ s l w. elim (cases_eq s n) [
    | inl g ↦
        subst (λ z. IsCommon set z (signal_at S z).array (slice_index new z)) (sym g)
        (subst (IsCommon set n (signal_at S n).array) (sym (ap (λ z. slice_index z n) e ∙ get_or_push masks mask 0 n h.size)) (f (ap (is_wired S comb) (sym g) ∙ w)))
    | inr g ↦
        let m : s < n = omega arith in
        let k : s < length masks = let z : length masks ≡ n = h.size in omega arith in
        subst (IsCommon set s (signal_at S s).array) (sym (ap (λ z. slice_index z s) e ∙ get_or_append_left masks (mask ∷ []) 0 s k)) (h.common s m w)
  ];
}

pub signal-array : (signals : List Signal) (k : ℕ) (x : Signal) → k < length signals → x ≡ get_or signals k x → (signal_at (declared_all signals) k).array ≡ bounds_of x.array
signal-array signals k x l e = ap (λ (d : Declared). d.array) (get_or-map declared signals k x no_declaration l ∙ ap declared (sym e))

pub are-common : (S : Signals) (comb : List Bool) (set : Masks) (masks : List ℕ) (n : ℕ) → length S ≤ n → AreBefore S comb set masks n → AreCommon S comb set masks
are-common S comb set masks n l h = record { common = λ s m w. h.common s (omega arith) w }

-- each bit that a part reads of a wired signal is in the set
pub record ReadsCovered (S : Signals) (comb : List Bool) (set : Masks) (x : Extent) : Type 0 where
  pub each : (j : ℕ) (s : Span) → slice_get x.reads j ≡ Some s → IsCovered S comb set s

-- ---- the rule

swapped : (ws : List View) (d : Declared) → list_any (view_driven ws) (whole d) ≡ list_any (λ w. touches w.drives d) ws
swapped ws d = same_tests (list_any (view_driven ws) (whole d)) (list_any (λ w. touches w.drives d) ws)
    (λ h.
    let b : (b : Bit) × (has_bit (whole d) b ≡ true) × (view_driven ws b ≡ true) = some_bit_with (view_driven ws) (whole d) h in
    let r : IsSome (λ (w : View). has_bit w.drives b.0) ws = some_of (λ w. has_bit w.drives b.0) ws b.2 in
    any_of (λ w. touches w.drives d) ws r.at r.item r.there (bit_with (has_bit (whole d)) r.item.drives b.0 r.holds b.1))
    (λ h.
    let r : IsSome (λ (w : View). touches w.drives d) ws = some_of (λ w. touches w.drives d) ws h in
    let b : (b : Bit) × (has_bit r.item.drives b ≡ true) × (has_bit (whole d) b ≡ true) = some_bit_with (has_bit (whole d)) r.item.drives r.holds in
    bit_with (view_driven ws) (whole d) b.0 b.2 (any_of (λ w. has_bit w.drives b.0) ws r.at r.item r.there b.1))

pub combinational-is : (S : Signals) (vs : List View) (xs : List Extent) (comb : List Bool) (s : ℕ) → AreDistinct (all_cells S) → AreExtents S vs xs → IsTable S xs Combinational comb
    → is_signal_sort (signal_at S s).sort ≡ true → list_any (view_driven (filter (λ v. is_combinational v.way) vs)) (whole (signal_at S s)) ≡ is_marked comb s
combinational-is S vs xs comb s distinct h t a =
    swapped (filter (λ v. is_combinational v.way) vs) (signal_at S s) ∙
    (any_filter (λ (v : View). is_combinational v.way) (λ w. touches w.drives (signal_at S s)) vs ∙
    (each_any (IsExtent S) (λ w. is_combinational w.way && touches w.drives (signal_at S s)) (λ x. is_of Combinational (way_of x.way) && names s x.drives) vs xs h
    (λ v x k. ap (λ w. is_combinational w && touches v.drives (signal_at S s)) (sym k.way) ∙
    ap (λ b. is_combinational (way_of x.way) && b) (touches_by S v.drives x.drives s distinct k.drives a)) ∙
    sym (t.marked s (signal_in S s a))))

wired-is : (S : Signals) (vs : List View) (xs : List Extent) (comb : List Bool) (s : ℕ) → AreDistinct (all_cells S) → AreExtents S vs xs → IsTable S xs Combinational comb
    → is_signal_sort (signal_at S s).sort ≡ true → is_wired_view vs (signal_at S s) ≡ is_wired S comb s
wired-is S vs xs comb s distinct h t a =
    ap (λ b. not (is_input_sort (signal_at S s).sort) && not (is_variable_sort (signal_at S s).sort && not b)) (combinational-is S vs xs comb s distinct h t a)

-- the set has the bits that parts drive
pub record IsDriven (xs : List Extent) (set : Masks) : Type 0 where
  pub driven : (q : Cell) (i : ℕ) → has set q i ≡ list_any (λ x. spans_have x.drives q i) xs

driven-is : (S : Signals) (vs : List View) (xs : List Extent) (set : Masks) (q : Cell) (i : ℕ) → AreExtents S vs xs → IsDriven xs set → is_bit S q i ≡ true
    → view_driven vs (bit_of S q i) ≡ has set q i
driven-is S vs xs set q i h d b =
    each_any (IsExtent S) (λ v. has_bit v.drives (bit_of S q i)) (λ x. spans_have x.drives q i) vs xs h (λ v x k. sym (k.drives.set.same q i b)) ∙ sym (d.driven q i)

gap-undriven : (S : Signals) (vs : List View) (xs : List Extent) (comb : List Bool) (set : Masks) (v : View) (x : Extent) → AreDistinct (all_cells S) → AreExtents S vs xs
    → IsTable S xs Combinational comb → IsDriven xs set → IsExtent S v x → HasGap S comb set x.reads → is_undriven_view (unclocked S) vs v ≡ true
gap-undriven S vs xs comb set v x distinct h t d k g =
    let q : Cell = g.gap.cell in
    let i : ℕ = g.gap.at in
    let y : Declared = signal_at S q.0 in
    let c : (is_signal_sort y.sort ≡ true) × HasCell y (bit_of S q i).name × (i < width_of y) = bit_cell S q i g.gap.there in
    let w : is_wired_view vs y ≡ true = wired-is S vs xs comb q.0 distinct h t c.0 ∙ g.gap.wired in
    let m : spans_have x.reads q i ≡ true =
    any_of (λ s. is_under s.signal s.element q && is_set s.mask i) x.reads g.at g.span g.there (and-both (is_under g.span.signal g.span.element q) (is_set g.span.mask i) g.gap.under g.gap.in_span) in
    let r : has_bit v.reads (bit_of S q i) ≡ true = sym (k.reads.set.same q i g.gap.there) ∙ m in
    let n : not (view_driven vs (bit_of S q i)) ≡ true = ap not (driven-is S vs xs set q i h d g.gap.there ∙ g.gap.lacking) in
    let inner : list_any (λ b. has_bit (whole y) b && not (view_driven vs b)) v.reads ≡ true =
    bit_with (λ b. has_bit (whole y) b && not (view_driven vs b)) v.reads (bit_of S q i) r
    (and-both (has_bit (whole y) (bit_of S q i)) (not (view_driven vs (bit_of S q i))) (bit_whole S q i g.gap.there) n) in
    let p : Declared → Bool = λ z. is_wired_view vs z && list_any (λ b. has_bit (whole z) b && not (view_driven vs b)) v.reads in
    any_filter (λ (z : Declared). is_signal_sort z.sort) p S ∙
    any_of (λ (z : Declared). is_signal_sort z.sort && p z) S q.0 y (slice_get-get_or S q.0 _ (signal_in S q.0 c.0))
    (and-both (is_signal_sort y.sort) (p y) c.0 (and-both (is_wired_view vs y) (list_any (λ b. has_bit (whole y) b && not (view_driven vs b)) v.reads) w inner))

covered-driven : (S : Signals) (vs : List View) (xs : List Extent) (comb : List Bool) (set : Masks) (v : View) (x : Extent) → AreDistinct (all_cells S) → AreExtents S vs xs
    → IsTable S xs Combinational comb → IsDriven xs set → IsExtent S v x → ((j : ℕ) (s : Span) → slice_get x.reads j ≡ Some s → IsCovered S comb set s)
    → is_undriven_view (unclocked S) vs v ≡ true → ⊥
covered-driven S vs xs comb set v x distinct h t d k covered u =
    let p : Declared → Bool = λ z. is_wired_view vs z && list_any (λ b. has_bit (whole z) b && not (view_driven vs b)) v.reads in
    let r : IsSome (λ (z : Declared). is_signal_sort z.sort && p z) S =
    some_of (λ z. is_signal_sort z.sort && p z) S (sym (any_filter (λ (z : Declared). is_signal_sort z.sort) p S) ∙ u) in
    let e : signal_at S r.at ≡ r.item = signal_get S r.at r.item r.there in
    let a : is_signal_sort (signal_at S r.at).sort ≡ true = ap (λ (z : Declared). is_signal_sort z.sort) e ∙ and-left (is_signal_sort r.item.sort) (p r.item) r.holds in
    let o : p (signal_at S r.at) ≡ true = ap p e ∙ and-right (is_signal_sort r.item.sort) (p r.item) r.holds in
    let y : Declared = signal_at S r.at in
    let inner : Bit → Bool = λ b. has_bit (whole y) b && not (view_driven vs b) in
    let w : is_wired S comb r.at ≡ true = sym (wired-is S vs xs comb r.at distinct h t a) ∙ and-left (is_wired_view vs y) (list_any inner v.reads) o in
    let b : (b : Bit) × (has_bit v.reads b ≡ true) × (inner b ≡ true) = some_bit_with inner v.reads (and-right (is_wired_view vs y) (list_any inner v.reads) o) in
    let c : (q : Cell) × (i : ℕ) × (is_bit S q i ≡ true) × (bit_of S q i ≡ b.0) = k.reads.set.inside b.0 b.1 in
    let g : c.0.0 ≡ r.at = bit_signal S c.0 c.1 r.at distinct a c.2 (ap (has_bit (whole y)) c.3 ∙ and-left (has_bit (whole y) b.0) (not (view_driven vs b.0)) b.2) in
    let m : spans_have x.reads c.0 c.1 ≡ true = k.reads.set.same c.0 c.1 c.2 ∙ (ap (has_bit v.reads) c.3 ∙ b.1) in
    let s : IsSome (λ (s : Span). is_under s.signal s.element c.0 && is_set s.mask c.1) x.reads = some_of (λ s. is_under s.signal s.element c.0 && is_set s.mask c.1) x.reads m in
    let f : has set c.0 c.1 ≡ true =
    covered s.at s.item s.there c.0 c.1 c.2 (and-left (is_under s.item.signal s.item.element c.0) (is_set s.item.mask c.1) s.holds)
    (and-right (is_under s.item.signal s.item.element c.0) (is_set s.item.mask c.1) s.holds) (ap (is_wired S comb) g ∙ w) in
    let z : view_driven vs b.0 ≡ true = ap (view_driven vs) (sym c.3) ∙ (driven-is S vs xs set c.0 c.1 h d c.2 ∙ f) in
    not_both (view_driven vs b.0) z (not-true (view_driven vs b.0) (and-right (has_bit (whole y) b.0) (not (view_driven vs b.0)) b.2))

pub undriven_answer : (S : Signals) (vs : List View) (xs : List Extent) (comb : List Bool) (set : Masks) (o : Option Told) → AreDistinct (all_cells S) → AreExtents S vs xs
    → IsTable S xs Combinational comb → IsDriven xs set → IsUndriven S comb set xs o → IsAnswer vs (undriven_views (unclocked S) vs) o
undriven_answer S vs xs comb set None distinct h t d f = views_none (λ k v. told_if (is_undriven_view (unclocked S) vs v) (v.at ∷ [])) vs (λ k v e.
    let x : IsMatched (IsExtent S) xs k v = each_back (IsExtent S) vs xs k v h e in
    ap (λ b. told_if b (v.at ∷ [])) (false_from_ne_true (is_undriven_view (unclocked S) vs v) (covered-driven S vs xs comb set v x.item distinct h t d x.holds (f k x.item x.there))))
undriven_answer S vs xs comb set (Some o) distinct h t d f =
    subst (λ n. IsAnswer vs (undriven_views (unclocked S) vs) (Some (record { part = o.part; place = n }))) (sym f.place)
    (told_one S (λ k v. told_if (is_undriven_view (unclocked S) vs v) (v.at ∷ [])) vs xs o.part f.x f.x.place
    (slice_get_within xs o.part f.x f.there) (sym (get_or_from_slice_get xs o.part f.x f.x f.there)) h
    (λ v e m. told_has (is_undriven_view (unclocked S) vs v) (v.at ∷ []) (at_view v f.x.place)
    (gap-undriven S vs xs comb set v f.x distinct h t d m (f.holds m.reads.each)) (at_itself S v f.x m [])))
