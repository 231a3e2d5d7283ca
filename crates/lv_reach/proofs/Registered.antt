-- Which signals are registers, by the bits that combinational blocks drive.
use Rattle.std.proofs.Common.{◌≡◌, inl, inr, ℕ, ◌+◌, ◌<◌, ◌≤◌, Bool, true, false, ◌&&◌, ◌||◌, ◌==◌, not, List, [], ◌∷◌, length, map, refl, sym, ap, ◌∙◌, subst, Some, None, get_or}
use Rattle.std.specs.Prelude.{slice_get, filter, All}
use Rattle.std.proofs.lemmas.Option.{slice_get-get_or}
use Rattle.std.specs.List.{list_any}
use Rattle.lv_source.specs.Names.{Declared, width_of, is_signal_sort, is_variable_sort, Sort, Input, Net, Variable, Clock, Constant, Index, Other}
use Rattle.lv_source.specs.Places.{Bit, has_bit, whole}
use Rattle.lv_source.specs.Views.{View, Way, is_combinational, is_register_view, view_driven}
use Rattle.lv_source.proofs.Facts.{any_at, at_any}
use Rattle.lv_source.proofs.Tests.{decide, and-left, and-right, and-both}
use Rattle.lv_source.proofs.Unique.{clash, bit_with, some_bit_with}
use Rattle.lv_flat.specs.Cells.{all_cells, AreDistinct}
use Rattle.lv_flat.specs.Signals.{Signals, signal_at}
use Rattle.lv_spans.specs.declared.span.Span.{Span}
use Rattle.lv_spans.specs.Sets.{Cell, Masks, has, is_set, is_under}
use Rattle.lv_spans.specs.Domain.{IsSpan, IsWithin, Meets, is_bit, bit_of, spans_have}
use Rattle.lv_extents.specs.declared.extent.Extent.{Extent}
use Rattle.lv_extents.specs.Extents.{AreExtents, IsExtent, way_of}
use Rattle.lv_extents.proofs.Lists.{past}
use Rattle.lv_extents.proofs.Runs.{eq-true, of-eq}
use Rattle.lv_settles.proofs.Lists.{any_filtered, filtered_any}
use Rattle.lv_reach.specs.Spreading.{AllDrives, drives_at_once, IsDrivenBelow, IsDrivenSet, whole_mask}
use Rattle.lv_reach.proofs.Bits.{whole-cell, cell-whole, bit-below, mask-set}
use Rattle.lv_reach.proofs.Lists.{any_step}
use Rattle.lv_reach.proofs.Started.{whole-is-span}
use Rattle.lv_reach.proofs.Spreading.{FoundExtent, FoundView, found-extent, found-view}

variable-signal : (s : Sort) → is_variable_sort s ≡ true → is_signal_sort s ≡ true
variable-signal Input h = refl
variable-signal Net h = refl
variable-signal Variable h = refl
variable-signal Clock h = cc
variable-signal (Constant x) h = cc
variable-signal (Index g) h = cc
variable-signal Other h = cc

abbrev combs : List View → List View
combs vs = filter (λ v. is_combinational v.way) vs

all-drives : (S : Signals) (vs : List View) (xs : List Extent) → AreExtents S vs xs → AllDrives S xs
all-drives S vs xs h k x e = let v : FoundView S vs x k = found-view S vs xs h k x e in v.2.drives.each

none-of : (b : Bool) → (b ≡ true → ⊥) → b ≡ false
none-of true f = absurd (f refl)
none-of false f = refl

module _ (S : Signals) (vs : List View) (xs : List Extent) (set : Masks) (distinct : AreDistinct (all_cells S)) (h : AreExtents S vs xs) (d : IsDrivenSet xs set) (k : ℕ) (s : Span)
    (sig : s.signal ≡ k) (el : s.element ≡ None) (mask : s.mask ≡ whole_mask (signal_at S k)) (sort : is_signal_sort (signal_at S k).sort ≡ true) where
  span-of : IsSpan S s
  span-of = whole-is-span S k s distinct sig el mask sort

  -- a bit of the set is one that such a block drives
  set-driven : (q : Cell) (i : ℕ) → is_bit S q i ≡ true → has set q i ≡ true → view_driven (combs vs) (bit_of S q i) ≡ true
  set-driven q i b t =
      let x : (k : ℕ) × (x : Extent) × (slice_get xs k ≡ _) × (drives_at_once q i x ≡ true) =
      any_at (drives_at_once q i) xs (sym (d.are q i) ∙ t) in
      let v : FoundView S vs x.1 x.0 = found-view S vs xs h x.0 x.1 x.2 in
      any_filtered (λ (v : View). is_combinational v.way) (λ (v : View). has_bit v.drives (bit_of S q i)) vs x.0 v.0 v.1
      (ap is_combinational (sym v.2.way) ∙ and-left _ _ x.3) (sym (v.2.drives.set.same q i b) ∙ and-right _ _ x.3)

  met : Meets S set s → list_any (view_driven (combs vs)) (whole (signal_at S k)) ≡ true
  met m =
      let q : Cell = m.0 in
      let number : q.0 ≡ k = of-eq q.0 k (ap (λ j. q.0 == j) (sym sig) ∙ (ap (λ e. is_under s.signal e q) (sym el) ∙ m.3)) in
      let inside : has_bit (whole (signal_at S k)) (bit_of S q m.1) ≡ true = subst (λ (j : ℕ). has_bit (whole (signal_at S j)) (bit_of S q m.1) ≡ true) number (cell-whole S distinct q m.1 m.2) in
      bit_with (view_driven (combs vs)) (whole (signal_at S k)) (bit_of S q m.1) inside (set-driven q m.1 m.2 m.5)

  missed : ((q : Cell) (i : ℕ) → (is_under s.signal s.element q && (is_set s.mask i && has set q i)) ≡ false) → list_any (view_driven (combs vs)) (whole (signal_at S k)) ≡ true → ⊥
  missed none t =
      let b : (b : Bit) × (has_bit (whole (signal_at S k)) b ≡ true) × (view_driven (combs vs) b ≡ true) = some_bit_with (view_driven (combs vs)) (whole (signal_at S k)) t in
      let v : (j : ℕ) × (v : View) × (slice_get vs j ≡ _) × ((is_combinational v.way && has_bit v.drives b.0) ≡ true) =
      any_at (λ (v : View). is_combinational v.way && has_bit v.drives b.0) vs (filtered_any (λ (v : View). is_combinational v.way) (λ (v : View). has_bit v.drives b.0) vs b.2) in
      let x : FoundExtent S v.1 xs v.0 = found-extent S vs xs h v.0 v.1 v.2 in
      let z : (q : Cell) × (i : ℕ) × (is_bit S q i ≡ true) × (bit_of S q i ≡ b.0) = x.2.drives.set.inside b.0 (and-right _ _ v.3) in
      let number : z.0.0 ≡ k = whole-cell S distinct z.0 z.1 k sort z.2 (ap (has_bit (whole (signal_at S k))) z.3 ∙ b.1) in
      let there : has set z.0 z.1 ≡ true = d.are z.0 z.1 ∙
      at_any (drives_at_once z.0 z.1) xs v.0 x.0 x.1
      (and-both _ _ (ap is_combinational x.2.way ∙ and-left _ _ v.3) (x.2.drives.set.same z.0 z.1 z.2 ∙ (ap (has_bit v.1.drives) z.3 ∙ and-right _ _ v.3))) in
      let under : is_under s.signal s.element z.0 ≡ true =
      ap (λ e. is_under s.signal e z.0) el ∙ eq-true z.0.0 s.signal (number ∙ sym sig) in
      let inside : is_set s.mask z.1 ≡ true =
      ap (λ m. is_set m z.1) mask ∙ mask-set (signal_at S k) z.1 (subst (λ (j : ℕ). z.1 < width_of (signal_at S j)) number (bit-below S distinct z.0 z.1 z.2)) in
      clash (is_under s.signal s.element z.0 && (is_set s.mask z.1 && has set z.0 z.1)) (and-both _ _ under (and-both _ _ inside there)) (none z.0 z.1)

  register-by : (r : Bool) → (r ≡ true → (T : Signals) → IsWithin T set → IsSpan T s → Meets T set s) →
      (r ≡ false → (q : Cell) (i : ℕ) → (is_under s.signal s.element q && (is_set s.mask i && has set q i)) ≡ false) →
      not r ≡ not (list_any (view_driven (combs vs)) (whole (signal_at S k)))
  register-by true m n = ap not (sym (met (m refl S (d.within S (all-drives S vs xs h)) span-of)))
  register-by false m n = ap not (sym (none-of (list_any (view_driven (combs vs)) (whole (signal_at S k))) (missed (n refl))))

pub register-is : (S : Signals) (vs : List View) (xs : List Extent) (set : Masks) (k : ℕ) (x : Declared) (s : Span) → AreDistinct (all_cells S) → AreExtents S vs xs → IsDrivenSet xs set →
    signal_at S k ≡ x → s.signal ≡ k → s.element ≡ None → s.mask ≡ whole_mask x → is_variable_sort x.sort ≡ true → (r : Bool) →
    (r ≡ true → (T : Signals) → IsWithin T set → IsSpan T s → Meets T set s) →
    (r ≡ false → (q : Cell) (i : ℕ) → (is_under s.signal s.element q && (is_set s.mask i && has set q i)) ≡ false) → not r ≡ is_register_view vs x
register-is S vs xs set k x s distinct h d at sig el mask v r m n =
    let sort : is_signal_sort (signal_at S k).sort ≡ true = ap (λ (z : Declared). is_signal_sort z.sort) at ∙ variable-signal x.sort v in
    register-by S vs xs set distinct h d k s sig el (mask ∙ ap whole_mask (sym at)) sort r m n ∙
    (ap (λ (z : Declared). not (list_any (view_driven (combs vs)) (whole z))) at ∙
    ap (λ b. b && not (list_any (view_driven (combs vs)) (whole x))) (sym v))

-- ---- part by part

pub driven-none : (xs : List Extent) (set : Masks) → ((q : Cell) (i : ℕ) → has set q i ≡ false) → ((S : Signals) → IsWithin S set) → IsDrivenBelow xs 0 set
driven-none xs set n w = record { within = λ S a. w S; are = λ q i. n q i }

pub driven-more : (xs : List Extent) (n : ℕ) (x : Extent) (old new : Masks) → n < length xs → x ≡ get_or xs n x →
    ((q : Cell) (i : ℕ) → has new q i ≡ (has old q i || drives_at_once q i x)) → ((S : Signals) → IsWithin S old → All (IsSpan S) x.drives → IsWithin S new) →
    IsDrivenBelow xs n old → IsDrivenBelow xs (n + 1) new
driven-more xs n x old new l e a w h = record {
  within = λ S f. w S (h.within S f) (f n x (slice_get-get_or xs n x l ∙ ap (λ z. Some z) (sym e)));
  are = λ q i. any_step (drives_at_once q i) xs n x false (has old q i) (has new q i) l e (h.are q i) (a q i);
}

pub driven-all : (xs : List Extent) (n : ℕ) (set : Masks) → length xs ≤ n → IsDrivenBelow xs n set → IsDrivenSet xs set
driven-all xs n set l h = record { within = h.within; are = λ q i. h.are q i ∙ ap (list_any (drives_at_once q i)) (past xs n l) }
