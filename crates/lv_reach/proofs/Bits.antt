-- The bits of signals, as cells and places.
use Rattle.std.proofs.Common.{◌≡◌, inl, inr, ℕ, zero, suc, ◌+◌, ◌-◌, ◌^◌, ◌<◌, true, false, not, ◌&&◌, ◌||◌, List, [], ◌∷◌, length, refl, sym, ap, ◌∙◌, arith, subst, None}
use Rattle.std.specs.Prelude.{filter, cond, nat_lt}
use Rattle.std.proofs.lemmas.Bool.{ltb-true}
use Rattle.lv_source.specs.Names.{Declared, width_of, is_signal_sort}
use Rattle.lv_source.specs.Places.{Bit, has_bit, whole}
use Rattle.lv_source.specs.Parts.{is_signal}
use Rattle.lv_source.proofs.Refused.{In}
use Rattle.lv_source.proofs.Tests.{and-left, and-right, and-both, or-left}
use Rattle.lv_flat.specs.Cells.{all_cells, AreDistinct}
use Rattle.lv_flat.specs.Signals.{Signals, signal_at}
use Rattle.lv_spans.specs.declared.span.Span.{Span}
use Rattle.lv_spans.specs.Sets.{Cell, is_set, is_under}
use Rattle.lv_spans.specs.Domain.{is_cell, is_bit, bit_of, spans_have, AreSpansOf}
use Rattle.lv_settles.specs.Rules.{signals_in}
use Rattle.lv_extents.proofs.Runs.{mask-has, in_run, lt-true, lt-false, eq-true, of-eq}
use Rattle.lv_extents.proofs.Spans.{whole-span}
use Rattle.lv_reach.specs.Spreading.{whole_mask}

-- ---- signals by number

pub signal-listed : (S : Signals) (k : ℕ) → is_signal (signal_at S k) ≡ true → In (signal_at S k) (signals_in S)
signal-listed [] k h = cc
signal-listed (x ∷ xs) zero h = subst (λ b. In x (cond b (x ∷ filter is_signal xs) (filter is_signal xs))) (sym h) (inl refl)
signal-listed (x ∷ xs) (suc k) h = elim (is_signal x) as (λ b. In (signal_at xs k) (cond b (x ∷ filter is_signal xs) (filter is_signal xs))) [
  | true ↦ inr (signal-listed xs k h)
  | false ↦ signal-listed xs k h
]

pub record IsListed (S : Signals) (x : Declared) : Type 0 where
  pub number : ℕ
  pub below : number < length S
  pub at : signal_at S number ≡ x
  pub signal : is_signal x ≡ true

listed-later : (x d : Declared) (S : Signals) → IsListed S x → IsListed (d ∷ S) x
listed-later x d S l = record { number = suc l.number; below = (let b : l.number < length S = l.below in omega arith); at = l.at; signal = l.signal }

pub listed-signal : (S : Signals) (x : Declared) → In x (signals_in S) → IsListed S x
listed-signal [] x h = absurd h
listed-signal (d ∷ S) x h = elim (is_signal d) as (λ b. is_signal d ≡ b → In x (cond b (d ∷ filter is_signal S) (filter is_signal S)) → IsListed (d ∷ S) x) [
  | true ↦ λ e i. elim i [
    | inl same ↦ record { number = 0; below = omega arith; at = same; signal = ap is_signal (sym same) ∙ e }
    | inr rest ↦ listed-later x d S (listed-signal S x rest)
  ]
  | false ↦ λ e i. listed-later x d S (listed-signal S x i)
] refl h

-- ---- whole signals

abbrev pub whole_of : Signals → ℕ → Span
whole_of S k = record { signal = k; element = None; mask = 2 ^ (0 + width_of (signal_at S k)) - 2 ^ 0 }

pub mask-is : (d : Declared) → 2 ^ (0 + width_of d) - 2 ^ 0 ≡ whole_mask d
mask-is d = let e : 0 + width_of d ≡ width_of d = omega arith in ap (λ n. 2 ^ n - 2 ^ 0) e

pub mask-set : (d : Declared) (i : ℕ) → i < width_of d → is_set (whole_mask d) i ≡ true
mask-set d i lt =
    ap (λ m. is_set m i) (sym (mask-is d)) ∙ (mask-has 0 (width_of d) i ∙
    in-run i (width_of d) lt)
  where
    in-run : (i w : ℕ) → i < w → in_run 0 w i ≡ true
    in-run i w lt = and-both (not (nat_lt i 0)) (nat_lt i (0 + w)) (ap not (lt-false i 0 (omega arith))) (lt-true i (0 + w) (omega arith))

module _ (S : Signals) (distinct : AreDistinct (all_cells S)) where
  pub bit-signal : (q : Cell) (i : ℕ) → is_bit S q i ≡ true → is_signal_sort (signal_at S q.0).sort ≡ true
  bit-signal q i h = and-left _ _ (and-left (is_cell S q) (nat_lt i (width_of (signal_at S q.0))) h)

  pub bit-below : (q : Cell) (i : ℕ) → is_bit S q i ≡ true → i < width_of (signal_at S q.0)
  bit-below q i h = ltb-true i (width_of (signal_at S q.0)) (and-right (is_cell S q) (nat_lt i (width_of (signal_at S q.0))) h)

  wholes : (k : ℕ) → is_signal_sort (signal_at S k).sort ≡ true → AreSpansOf S (whole (signal_at S k)) (whole_of S k ∷ [])
  wholes k h = whole-span S distinct k h

  under : (k : ℕ) (q : Cell) (i : ℕ) → spans_have (whole_of S k ∷ []) q i ≡ true → (is_under k None q && is_set (2 ^ (0 + width_of (signal_at S k)) - 2 ^ 0) i) ≡ true
  under k q i h = elim (is_under k None q && is_set (2 ^ (0 + width_of (signal_at S k)) - 2 ^ 0) i) as (λ b. (b || false) ≡ true → b ≡ true) [ true ↦ λ e. refl | false ↦ λ e. e ] h

  -- a bit of a signal is under its number
  pub whole-cell : (q : Cell) (i k : ℕ) → is_signal_sort (signal_at S k).sort ≡ true → is_bit S q i ≡ true → has_bit (whole (signal_at S k)) (bit_of S q i) ≡ true → q.0 ≡ k
  whole-cell q i k s b h = of-eq q.0 k (and-left _ _ (under k q i ((wholes k s).set.same q i b ∙ h)))

  pub cell-whole : (q : Cell) (i : ℕ) → is_bit S q i ≡ true → has_bit (whole (signal_at S q.0)) (bit_of S q i) ≡ true
  cell-whole q i b =
      let mask : is_set (2 ^ (0 + width_of (signal_at S q.0)) - 2 ^ 0) i ≡ true = ap (λ m. is_set m i) (mask-is (signal_at S q.0)) ∙ mask-set (signal_at S q.0) i (bit-below q i b) in
      sym ((wholes q.0 (bit-signal q i b)).set.same q i b) ∙
      or-left (is_under q.0 None q && is_set (2 ^ (0 + width_of (signal_at S q.0)) - 2 ^ 0) i) false (and-both _ _ (eq-true q.0 q.0 refl) mask)
