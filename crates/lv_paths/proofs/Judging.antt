-- What is judged of a block, from a walk over all of it.
use Rattle.std.proofs.Common.{◌≡◌, ℕ, Bool, false, not, ◌||◌, List, [], ◌++◌, ◌∙◌, ap}
use Rattle.std.specs.List.{list_any}
use Rattle.lv_source.specs.Places.{Bit, has_bit}
use Rattle.lv_source.specs.Summary.{Summary, leaves_latch, exposes_own}
use Rattle.lv_flat.specs.Signals.{Signals}
use Rattle.lv_spans.specs.declared.span.Span.{Span}
use Rattle.lv_spans.specs.Sets.{Cell, Masks, has}
use Rattle.lv_spans.specs.Domain.{spans_have, IsSetOf, AreSpansOf}
use Rattle.lv_spans.proofs.Bits.{is_set-zero}
use Rattle.lv_paths.specs.Bits.{holds, IsExposed}
use Rattle.lv_paths.specs.Ways.{Walks}
use Rattle.lv_paths.proofs.Lists.{any-turn, any-own, filter-all}
use Rattle.lv_paths.proofs.Sequences.{set-same, set-more}

-- nothing is done
empty-set : (S : Signals) (m : Masks) → m ≡ [] → IsSetOf S [] (holds m)
empty-set S m e = record { same = λ q i t. ap (λ n. holds n q i) e ∙ is_set-zero i; inside = λ b t. cc }

-- a set made of spans
spans-set : (S : Signals) (bits : List Bit) (xs : List Span) (empty w : Masks) → AreSpansOf S bits xs → ((q : Cell) (i : ℕ) → has empty q i ≡ false) →
    ((q : Cell) (i : ℕ) → has w q i ≡ (has empty q i || spans_have xs q i)) → IsSetOf S bits (has w)
spans-set S bits xs empty w h none e = set-same S bits (spans_have xs) (has w) (λ q i t. e q i ∙ ap (λ u. u || spans_have xs q i) (none q i)) h.set

module _ (S : Signals) (p : Summary) (xs : List Span) (none w start after : Masks) (old new : List Span) (exposed latch : Bool) (h : AreSpansOf S p.written xs)
    (empty : (q : Cell) (i : ℕ) → has none q i ≡ false) (made : (q : Cell) (i : ℕ) → has w q i ≡ (has none q i || spans_have xs q i)) (first : start ≡ [])
    (g : Walks S w start after old new false exposed p) (f : IsExposed S w after false latch p.written) where
  W : IsSetOf S p.written (has w)
  W = spans-set S p.written xs none w h empty made

  D : IsSetOf S [] (holds start)
  D = empty-set S start first

  pub exposed-is : exposed ≡ exposes_own p
  exposed-is = g.exposed p.written [] W D ∙ (ap (list_any (has_bit p.written)) (filter-all p.exposed) ∙ any-turn p.written p.exposed)

  pub latch-is : latch ≡ leaves_latch p
  latch-is = f p.written ([] ++ p.sure) W (set-more S [] p.sure (holds start) (holds after) g.done g.inside D) ∙ any-own (λ b. not (has_bit p.sure b)) p.written
