-- A set of bits that grows part by part along an order has in the end just the bits of a fan-out.
use Rattle.std.proofs.Common.{◌≡◌, ◌⊎◌, inl, inr, ℕ, zero, suc, ◌+◌, ◌<◌, ◌≤◌, Bool, true, false, ◌&&◌, ◌||◌, not, List, [], ◌∷◌, length, map, refl, sym, ap, ◌∙◌, arith, subst, Option, Some, None}
use Rattle.std.specs.Prelude.{slice_get, Contains}
use Rattle.std.proofs.lemmas.Bool.{cases_lt, cases_eq}
use Rattle.lv_source.specs.Names.{Declared, is_signal_sort}
use Rattle.lv_source.specs.Places.{Bit, has_bit, whole}
use Rattle.lv_source.specs.Views.{View, is_edge, is_combinational}
use Rattle.lv_source.proofs.Refused.{in_contains, contains_in}
use Rattle.lv_source.proofs.Tests.{decide, and-left, and-both, or-left, or-right, or-split}
use Rattle.lv_source.proofs.Facts.{some_same, at_below}
use Rattle.lv_source.proofs.Unique.{clash}
use Rattle.lv_flat.specs.Cells.{all_cells, AreDistinct}
use Rattle.lv_flat.specs.Signals.{Signals, signal_at}
use Rattle.lv_lower_exprs.proofs.Wholes.{signal_in}
use Rattle.lv_spans.specs.declared.span.Span.{Span}
use Rattle.lv_spans.specs.Sets.{Cell, Masks, has}
use Rattle.lv_spans.specs.Domain.{IsWithin, is_bit, bit_of, spans_have, AreSpansOf}
use Rattle.lv_extents.specs.declared.extent.Extent.{Extent}
use Rattle.lv_extents.specs.Extents.{IsExtent, AreExtents}
use Rattle.lv_settles.specs.Lawful.{is_outside}
use Rattle.lv_settles.specs.Rules.{signals_in}
use Rattle.lv_settles.proofs.Carried.{OneDriver}
use Rattle.lv_settles.proofs.Rightness.{one_driver}
use Rattle.lv_reach.specs.Fanout.{Reaches, direct, through, DependsOn, InFanout, own, driven, IsFanout}
use Rattle.lv_reach.specs.Spreading.{is_marked, MeetsSome, HasDrives, Spreads, IsSpreadAt, IsStart, IsOrdered, IsPassed}
use Rattle.lv_reach.proofs.Bits.{IsListed, listed-signal, signal-listed, bit-signal, whole-cell, cell-whole}

-- ---- extents by number

abbrev pub FoundExtent : Signals → View → List Extent → ℕ → Type 0
FoundExtent S p xs k = (x : Extent) × (slice_get xs k ≡ Some x) × IsExtent S p x

pub found-extent : (S : Signals) (vs : List View) (xs : List Extent) → AreExtents S vs xs → (k : ℕ) (p : View) → slice_get vs k ≡ Some p → FoundExtent S p xs k
found-extent S [] [] h k p e = cc
found-extent S [] (x ∷ xs) h k p e = absurd h
found-extent S (v ∷ vs) [] h k p e = absurd h
found-extent S (v ∷ vs) (x ∷ xs) h zero p e = (x, refl, subst (λ (z : View). IsExtent S z x) (some_same v p e) h.0)
found-extent S (v ∷ vs) (x ∷ xs) h (suc k) p e = found-extent S vs xs h.1 k p e

abbrev pub FoundView : Signals → List View → Extent → ℕ → Type 0
FoundView S vs x k = (p : View) × (slice_get vs k ≡ Some p) × IsExtent S p x

pub found-view : (S : Signals) (vs : List View) (xs : List Extent) → AreExtents S vs xs → (k : ℕ) (x : Extent) → slice_get xs k ≡ Some x → FoundView S vs x k
found-view S [] [] h k x e = cc
found-view S [] (y ∷ xs) h k x e = absurd h
found-view S (v ∷ vs) [] h k x e = absurd h
found-view S (v ∷ vs) (y ∷ xs) h zero x e = (v, refl, subst (IsExtent S v) (some_same y x e) h.0)
found-view S (v ∷ vs) (y ∷ xs) h (suc k) x e = found-view S vs xs h.1 k x e

-- ---- one part

module _ (S : Signals) (vs : List View) (k : ℕ) (old : Masks) where
  -- no part has the number
  pub spread-none : (xs : List Extent) → AreExtents S vs xs → slice_get xs k ≡ None → IsWithin S old → IsSpreadAt S vs k old old
  spread-none xs h n w = record {
    within = w;
    kept = λ q i t. t;
    added = λ p e m. absurd (let x : FoundExtent S p xs k = found-extent S vs xs h k p e in let z : Some x.0 ≡ None = sym x.1 ∙ n in cc);
    only = λ q i b t. inl t;
  }

  pub spread-some : (xs : List Extent) (x : Extent) (new : Masks) → AreExtents S vs xs → slice_get xs k ≡ Some x → Spreads S old x.reads x.drives new → IsSpreadAt S vs k old new
  spread-some xs x new h e s =
      let f : FoundView S vs x k = found-view S vs xs h k x e in
      record {
        within = s.within;
        kept = s.kept;
        added = λ p g m.
            (let same : f.0 ≡ p = some_same f.0 p (sym f.1 ∙ g) in
            let is : IsExtent S p x = subst (λ (z : View). IsExtent S z x) same f.2 in
            record { has_all = λ q i b d. s.added (m.0, m.1, m.2, is.reads.set.same m.0 m.1 m.2 ∙ m.3, m.4) q i (is.drives.set.same q i b ∙ d) });
        only = λ q i b t. elim (s.only q i t) [
          | inl o ↦ inl o
          | inr r ↦ inr (f.0, f.1, sym (f.2.drives.set.same q i b) ∙ r.0, (r.1.0, r.1.1, r.1.2, sym (f.2.reads.set.same r.1.0 r.1.1 r.1.2) ∙ r.1.3, r.1.4))
        ];
      }

-- ---- all parts of an order

module _ (S : Signals) (vs : List View) (xs : List Extent) (order : List ℕ) (is : Declared → Bool) (distinct : AreDistinct (all_cells S)) (o : IsOrdered S vs xs order) where
  map-at : (T : Signals) (k : ℕ) → k < length T → is_marked (map is T) k ≡ is (signal_at T k)
  map-at [] k h = absurd (omega arith)
  map-at (x ∷ T) zero h = refl
  map-at (x ∷ T) (suc k) h = map-at T k (omega arith)

  module _ (marks : List Bool) (start : Masks) (same : marks ≡ map is S) (begun : IsStart S marks start) where
    marked : (k : ℕ) → k < length S → is_marked marks k ≡ is (signal_at S k)
    marked k h = ap (λ ms. is_marked ms k) same ∙ map-at S k h

    -- a bit of such a signal is there from the start
    own-start : (x : Declared) → Contains (signals_in S) x → is x ≡ true → (q : Cell) (i : ℕ) → is_bit S q i ≡ true → has_bit (whole x) (bit_of S q i) ≡ true → has start q i ≡ true
    own-start x c h q i b w =
        let l : IsListed S x = listed-signal S x (contains_in x (signals_in S) c) in
        let there : has_bit (whole (signal_at S l.number)) (bit_of S q i) ≡ true = ap (λ (z : Declared). has_bit (whole z) (bit_of S q i)) l.at ∙ w in
        let sort : is_signal_sort (signal_at S l.number).sort ≡ true = ap (λ (z : Declared). is_signal_sort z.sort) l.at ∙ l.signal in
        let number : q.0 ≡ l.number = whole-cell S distinct q i l.number sort b there in
        begun.are q i b ∙ (ap (is_marked marks) number ∙ (marked l.number l.below ∙ (ap is l.at ∙ h)))

    start-own : (q : Cell) (i : ℕ) → is_bit S q i ≡ true → has start q i ≡ true → InFanout (signals_in S) vs is (bit_of S q i)
    start-own q i b h =
        let x : Declared = signal_at S q.0 in
        let sort : is_signal_sort x.sort ≡ true = bit-signal S distinct q i b in
        let below : q.0 < length S = signal_in S q.0 sort in
        own x (in_contains x (signals_in S) (signal-listed S q.0 sort)) (sym (marked q.0 below) ∙ (sym (begun.are q i b) ∙ h)) (cell-whole S distinct q i b)

    pub passed-none : IsPassed S vs is order start start 0
    passed-none = record {
      within = begun.within;
      kept = λ q i h. h;
      only = λ q i b h. start-own q i b h;
      outside = λ j k p l. absurd (omega arith);
      started = λ j k p l. absurd (omega arith);
    }

    grown : (cur new : Masks) (p : View) → ((q : Cell) (i : ℕ) → has cur q i ≡ true → has new q i ≡ true) → HasDrives S cur p → HasDrives S new p
    grown cur new p more d = record { has_all = λ q i b h. more q i (d.has_all q i b h) }

    same-part : (k l : ℕ) (p : View) → k ≡ l → slice_get vs k ≡ Some p → slice_get vs l ≡ Some p
    same-part k l p e g = ap (slice_get vs) (sym e) ∙ g

    -- one part more
    pub passed-more : (cur new : Masks) (n k : ℕ) → slice_get order n ≡ Some k → IsPassed S vs is order start cur n → IsSpreadAt S vs k cur new → IsPassed S vs is order start new (n + 1)
    passed-more cur new n k at h s = record {
      within = s.within;
      kept = λ q i t. s.kept q i (h.kept q i t);
      only = λ q i b t. elim (s.only q i b t) [
        | inl old ↦ h.only q i b old
        | inr r ↦ (
            let way : is_edge r.0.way ≡ false =
            (let z : (q : View) × (slice_get vs k ≡ Some q) × (is_edge q.way ≡ false) = o.order_is.parts n k at in
            ap (λ (v : View). is_edge v.way) (some_same r.0 z.0 (sym r.1 ∙ z.1)) ∙ z.2) in
            driven k r.0 r.1 way (h.only r.3.0 r.3.1 r.3.2 r.3.4) r.3.3 r.2)
      ];
      outside = λ j l p below e g q i b out t. elim (cases_lt j n) [
        | inl before ↦ elim (s.only q i b t) [
          | inl old ↦ grown cur new p s.kept (h.outside j l p before e g q i b out old)
          | inr r ↦ clash (has_bit r.0.drives (bit_of S q i)) r.2 (o.order_is.apart j n l k p r.0 (omega arith) e at g r.1 (bit_of S q i) out)
        ]
        | inr after ↦ (
            let last : j ≡ n = omega arith in
            let number : l ≡ k = some_same l k (sym e ∙ (ap (slice_get order) last ∙ at)) in
            let here : slice_get vs k ≡ Some p = same-part l k p number g in
            elim (s.only q i b t) [
              | inl old ↦ s.added p here (q, i, b, and-left (has_bit p.reads (bit_of S q i)) _ out, old)
              | inr r ↦ clash (has_bit r.0.drives (bit_of S q i)) r.2 (o.order_is.apart n n k k p r.0 (omega arith) at at here r.1 (bit_of S q i) out)
            ])
      ];
      started = λ j l p below e g q i b r t. elim (cases_lt j n) [
        | inl before ↦ grown cur new p s.kept (h.started j l p before e g q i b r t)
        | inr after ↦ (
            let last : j ≡ n = omega arith in
            let number : l ≡ k = some_same l k (sym e ∙ (ap (slice_get order) last ∙ at)) in
            s.added p (same-part l k p number g) (q, i, b, r, h.kept q i t))
      ];
    }

    -- ---- in the end

    module _ (set : Masks) (h : IsPassed S vs is order start set (length order)) where
      one : OneDriver vs
      one = one_driver (signals_in S) vs o.right

      abbrev At : ℕ → Type 0
      At k = (j : ℕ) × (j < length order) × (slice_get order j ≡ Some k)

      in-order : (k : ℕ) (p : View) → slice_get vs k ≡ Some p → is_edge p.way ≡ false → At k
      in-order k p e way = let r : (i : ℕ) × (slice_get order i ≡ Some k) = o.order_is.all k p e way in (r.0, at_below order r.0 k r.1, r.1)

      not-outside : (p : View) (b : Bit) → has_bit p.reads b ≡ true → is_outside p b ≡ false → has_bit p.drives b ≡ true
      not-outside p b r n = elim (is_combinational p.way) as (λ c. (has_bit p.reads b && not (c && has_bit p.drives b)) ≡ false → has_bit p.drives b ≡ true) [
        | true ↦ λ e. elim (decide (has_bit p.drives b)) [
          | inl y ↦ y
          | inr z ↦ clash (has_bit p.reads b && not (has_bit p.drives b)) (and-both (has_bit p.reads b) (not (has_bit p.drives b)) r (ap not z)) e
        ]
        | false ↦ λ e. clash (has_bit p.reads b && true) (and-both (has_bit p.reads b) true r refl) e
      ] n

      abbrev Inside : View → Bit → Type 0
      Inside p b = (q : Cell) × (i : ℕ) × (is_bit S q i ≡ true) × (bit_of S q i ≡ b)

      read-inside : (k : ℕ) (p : View) → slice_get vs k ≡ Some p → (b : Bit) → has_bit p.reads b ≡ true → Inside p b
      read-inside k p e b r = let x : FoundExtent S p xs k = found-extent S vs xs o.extents k p e in x.2.reads.set.inside b r

      -- what a part drives that reads a bit of the fan-out
      fed : {b : Bit} → InFanout (signals_in S) vs is b → (k : ℕ) (p : View) → slice_get vs k ≡ Some p → is_edge p.way ≡ false → has_bit p.reads b ≡ true → HasDrives S set p
      fed {b = b} (own x c a w) k p e way r =
          let at : At k = in-order k p e way in
          let z : Inside p b = read-inside k p e b r in
          h.started at.0 k p at.1 at.2 e z.0 z.1 z.2 (ap (has_bit p.reads) z.3 ∙ r) (own-start x c a z.0 z.1 z.2 (ap (has_bit (whole x)) z.3 ∙ w))
      fed {b = b} (driven l p' e' way' from rc d) k p e way r =
          let before : HasDrives S set p' = fed from l p' e' way' rc in
          let at : At k = in-order k p e way in
          let z : Inside p b = read-inside k p e b r in
          let there : has set z.0 z.1 ≡ true = before.has_all z.0 z.1 z.2 (ap (has_bit p'.drives) z.3 ∙ d) in
          elim (decide (is_outside p b)) [
            | inl out ↦ h.outside at.0 k p at.1 at.2 e z.0 z.1 z.2 (ap (is_outside p) z.3 ∙ out) there
            | inr n ↦ elim (cases_eq l k) [
              | inl same' ↦ subst (λ (v : View). HasDrives S set v) (some_same p' p (sym (same-part l k p' same' e') ∙ e)) before
              | inr other ↦ clash (has_bit p.drives b) (not-outside p b r n) (one.one l k p' p e' e other b d)
            ]
          ]

      fan-has : {b : Bit} → InFanout (signals_in S) vs is b → (q : Cell) (i : ℕ) → is_bit S q i ≡ true → bit_of S q i ≡ b → has set q i ≡ true
      fan-has (own x c a w) q i t e = h.kept q i (own-start x c a q i t (ap (has_bit (whole x)) e ∙ w))
      fan-has (driven l p' e' way' from rc d) q i t e = (fed from l p' e' way' rc).has_all q i t (ap (has_bit p'.drives) e ∙ d)

      pub fans : IsFanout S vs is set
      fans = record { within = h.within; all = λ q i t f. fan-has f q i t refl; only = λ q i t m. h.only q i t m }

-- ---- what reads a fan-out

module _ (S : Signals) (vs : List View) (is : Declared → Bool) (bs : List Bit) where
  reach : {b : Bit} → InFanout (signals_in S) vs is b → Reaches vs bs b → DependsOn (signals_in S) vs is bs
  reach {b = b} (own x c a w) r = (x, b, c, a, w, r)
  reach (driven k p e way from rc d) r = reach from (through k p e way r d rc)

  abbrev FedBit : Type 0
  FedBit = (z : Bit) × (has_bit bs z ≡ true) × InFanout (signals_in S) vs is z

  fed-bit : {b : Bit} → Reaches vs bs b → InFanout (signals_in S) vs is b → FedBit
  fed-bit {b = b} (direct h) f = (b, h, f)
  fed-bit (through k p e way more d r) f = fed-bit more (driven k p e way f r d)

  module _ (spans : List Span) (set : Masks) (a : AreSpansOf S bs spans) (f : IsFanout S vs is set) where
    pub depends-yes : MeetsSome S set spans → DependsOn (signals_in S) vs is bs
    depends-yes m = reach (f.only m.0 m.1 m.2 m.4) (direct (sym (a.set.same m.0 m.1 m.2) ∙ m.3))

    pub depends-no : ((q : Cell) (i : ℕ) → (spans_have spans q i && has set q i) ≡ false) → DependsOn (signals_in S) vs is bs → ⊥
    depends-no none h =
        let z : FedBit = fed-bit h.5 (own h.0 h.2 h.3 h.4) in
        let b : (q : Cell) × (i : ℕ) × (is_bit S q i ≡ true) × (bit_of S q i ≡ z.0) = a.set.inside z.0 z.1 in
        let there : has set b.0 b.1 ≡ true = f.all b.0 b.1 b.2 (subst (InFanout (signals_in S) vs is) (sym b.3) z.2) in
        let read : spans_have spans b.0 b.1 ≡ true = a.set.same b.0 b.1 b.2 ∙ (ap (has_bit bs) b.3 ∙ z.1) in
        clash (spans_have spans b.0 b.1 && has set b.0 b.1) (and-both _ _ read there) (none b.0 b.1)

-- ---- one part's spans

module _ (S : Signals) (old : Masks) (reads drives : List Span) where
  pub spreads-not : IsWithin S old → ((q : Cell) (i : ℕ) → (spans_have reads q i && has old q i) ≡ false) → Spreads S old reads drives old
  spreads-not w none = record {
    within = w;
    kept = λ q i h. h;
    added = λ m. clash (spans_have reads m.0 m.1 && has old m.0 m.1) (and-both _ _ m.3 m.4) (none m.0 m.1);
    only = λ q i h. inl h;
  }

  pub spreads-all : (new : Masks) → IsWithin S new → MeetsSome S old reads → ((q : Cell) (i : ℕ) → has new q i ≡ (has old q i || spans_have drives q i)) → Spreads S old reads drives new
  spreads-all new w m a = record {
    within = w;
    kept = λ q i h. a q i ∙ or-left (has old q i) (spans_have drives q i) h;
    added = λ z q i h. a q i ∙ or-right (has old q i) (spans_have drives q i) h;
    only = λ q i h. elim (or-split (has old q i) (spans_have drives q i) (sym (a q i) ∙ h)) [ inl x ↦ inl x | inr y ↦ inr (y, m) ];
  }
