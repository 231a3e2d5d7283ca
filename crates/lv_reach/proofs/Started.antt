-- The bits of the signals that are marked, signal by signal.
use Rattle.std.proofs.Common.{◌≡◌, inl, inr, ℕ, ◌+◌, ◌-◌, ◌^◌, ◌<◌, ◌≤◌, Bool, true, false, ◌&&◌, ◌||◌, ◌==◌, List, [], length, refl, sym, ap, ◌∙◌, arith, subst, Option, None, get_or}
use Rattle.std.specs.Prelude.{nat_lt}
use Rattle.std.proofs.lemmas.Bool.{cases_order, eq-eqb, ne_eqb, lt-ltb, le-ltb}
use Rattle.std.proofs.lemmas.List.Elements.{All-head}
use Rattle.std.proofs.lemmas.List.{get_or-map}
use Rattle.lv_source.specs.Names.{width_of, is_signal_sort, no_declaration}
use Rattle.lv_flat.specs.Cells.{all_cells, AreDistinct}
use Rattle.lv_flat.specs.declared.signal.Signal.{Signal}
use Rattle.lv_flat.specs.Signals.{Signals, declared, declared_all, signal_at}
use Rattle.lv_lower_exprs.proofs.Wholes.{signal_in}
use Rattle.lv_spans.specs.declared.span.Span.{Span}
use Rattle.lv_spans.specs.Sets.{Cell, Masks, has, is_set, is_under}
use Rattle.lv_spans.specs.Domain.{IsSpan, IsWithin, is_bit}
use Rattle.lv_extents.proofs.Spans.{whole-span}
use Rattle.lv_reach.specs.Spreading.{is_marked, whole_mask, IsStart}
use Rattle.lv_reach.proofs.Bits.{whole_of, mask-is, mask-set, bit-signal, bit-below}

abbrev span_by : ℕ → Option ℕ → ℕ → Span
span_by k e m = record { signal = k; element = e; mask = m }

span-is : (s : Span) (k m : ℕ) → s.signal ≡ k → s.element ≡ None → s.mask ≡ m → s ≡ span_by k None m
span-is s k m a b c = ap (λ z. span_by z s.element s.mask) a ∙ (ap (λ z. span_by k z s.mask) b ∙ ap (λ z. span_by k None z) c)

-- the span of a whole signal
pub whole-is-span : (S : Signals) (k : ℕ) (s : Span) → AreDistinct (all_cells S) → s.signal ≡ k → s.element ≡ None → s.mask ≡ whole_mask (signal_at S k) →
    is_signal_sort (signal_at S k).sort ≡ true → IsSpan S s
whole-is-span S k s distinct a b m h =
    let t : IsSpan S (whole_of S k) = All-head (IsSpan S) (whole_of S k) [] (whole-span S distinct k h).each in
    subst (IsSpan S) (sym (span-is s k (2 ^ (0 + width_of (signal_at S k)) - 2 ^ 0) a b (m ∙ sym (mask-is (signal_at S k))))) t

pub signal-is : (signals : List Signal) (k : ℕ) (x : Signal) → k < length signals → x ≡ get_or signals k x → signal_at (declared_all signals) k ≡ declared x
signal-is signals k x l e = get_or-map declared signals k x no_declaration l ∙ ap declared (sym e)

-- ---- one signal more

-- those below n are there
pub record AreBelow (S : Signals) (marks : List Bool) (n : ℕ) (set : Masks) : Type 0 where
  pub within : IsWithin S set
  pub are : (q : Cell) (i : ℕ) → has set q i ≡ (nat_lt q.0 n && ((is_signal_sort (signal_at S q.0).sort && is_marked marks q.0) && is_set (whole_mask (signal_at S q.0)) i))

abbrev asked : Signals → List Bool → ℕ → ℕ → Bool
asked S marks k i = (is_signal_sort (signal_at S k).sort && is_marked marks k) && is_set (whole_mask (signal_at S k)) i

below-step : (p : ℕ → Bool) (s n : ℕ) → ((nat_lt s n && p s) || ((s == n) && p n)) ≡ (nat_lt s (n + 1) && p s)
below-step p s n = elim (cases_order s n) [
  | inl same ↦
      ap (λ b. (b && p s) || ((s == n) && p n)) (le-ltb s n (omega arith)) ∙ (ap (λ b. b && p n) (eq-eqb s n same) ∙
      (ap p (sym same) ∙ ap (λ b. b && p s) (sym (lt-ltb s (n + 1) (omega arith)))))
  | inr (inl less) ↦
      ap (λ b. (b && p s) || ((s == n) && p n)) (lt-ltb s n less) ∙ (ap (λ b. p s || (b && p n)) (ne_eqb s n (λ e. omega arith)) ∙
      (or-nothing (p s) ∙ ap (λ b. b && p s) (sym (lt-ltb s (n + 1) (omega arith)))))
  | inr (inr more) ↦
      ap (λ b. (b && p s) || ((s == n) && p n)) (le-ltb s n (omega arith)) ∙ (ap (λ b. b && p n) (ne_eqb s n (λ e. omega arith)) ∙
      ap (λ b. b && p s) (sym (le-ltb s (n + 1) (omega arith))))
]
  where
    or-nothing : (a : Bool) → (a || false) ≡ a
    or-nothing true = refl
    or-nothing false = refl

pub below-none : (S : Signals) (marks : List Bool) (set : Masks) → ((q : Cell) (i : ℕ) → has set q i ≡ false) → IsWithin S set → AreBelow S marks 0 set
below-none S marks set none w = record { within = w; are = λ q i. none q i ∙ sym (ap (λ b. b && asked S marks q.0 i) (le-ltb q.0 0 (omega arith))) }

pub below-more : (S : Signals) (marks : List Bool) (n : ℕ) (old new : Masks) (on : Bool) (mask : ℕ) → on ≡ (is_signal_sort (signal_at S n).sort && is_marked marks n) → mask ≡ whole_mask (signal_at S n) →
    AreBelow S marks n old → IsWithin S new → ((q : Cell) (i : ℕ) → has new q i ≡ (has old q i || (on && (is_under n None q && is_set mask i)))) → AreBelow S marks (n + 1) new
below-more S marks n old new on mask e m h w a = record {
  within = w;
  are = λ q i.
      a q i ∙ (ap (λ b. b || (on && ((q.0 == n) && is_set mask i))) (h.are q i) ∙
      (ap (λ b. (nat_lt q.0 n && asked S marks q.0 i) || b) (order on (q.0 == n) (is_set mask i) ∙
      ap (λ b. (q.0 == n) && b) (ap (λ b. b && is_set mask i) e ∙ ap (λ z. (is_signal_sort (signal_at S n).sort && is_marked marks n) && is_set z i) m)) ∙
      below-step (λ k. asked S marks k i) q.0 n));
}
  where
    order : (x y z : Bool) → (x && (y && z)) ≡ (y && (x && z))
    order true y z = refl
    order false true z = refl
    order false false z = refl

pub below-all : (S : Signals) (marks : List Bool) (n : ℕ) (set : Masks) → AreDistinct (all_cells S) → length S ≤ n → AreBelow S marks n set → IsStart S marks set
below-all S marks n set distinct l h = record {
  within = h.within;
  are = λ q i b.
      (let sort : is_signal_sort (signal_at S q.0).sort ≡ true = bit-signal S distinct q i b in
      let below : q.0 < length S = signal_in S q.0 sort in
      let inside : is_set (whole_mask (signal_at S q.0)) i ≡ true = mask-set (signal_at S q.0) i (bit-below S distinct q i b) in
      let lt : nat_lt q.0 n ≡ true = lt-ltb q.0 n (omega arith) in
      h.are q i ∙ rest (nat_lt q.0 n) (is_signal_sort (signal_at S q.0).sort) (is_marked marks q.0) (is_set (whole_mask (signal_at S q.0)) i) lt sort inside);
}
  where
    rest : (a b c d : Bool) → a ≡ true → b ≡ true → d ≡ true → (a && ((b && c) && d)) ≡ c
    rest true true true true e f g = refl
    rest true true false true e f g = refl
    rest false b c d e f g = cc
    rest true false c d e f g = cc
    rest true true c false e f g = cc
