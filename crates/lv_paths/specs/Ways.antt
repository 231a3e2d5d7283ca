-- What a walk over a statement knows of the ways through it.
use Rattle.std.specs.Prelude.{◌≡◌, ℕ, Bool, true, false, not, ◌&&◌, ◌||◌, List, [], Option, Some, None}
use Rattle.std.specs.List.{list_any, list_all}
use Rattle.lv_source.specs.Places.{Bit, has_bit}
use Rattle.lv_source.specs.Summary.{Summary}
use Rattle.lv_source.specs.Values.{nowhere}
use Rattle.lv_source.specs.Meaning.{Reading}
use Rattle.lv_source.specs.Effect.{is_met}
use Rattle.lv_flat.specs.declared.stmt.FlatArm.{FlatArm}
use Rattle.lv_flat.specs.Signals.{Signals}
use Rattle.lv_flat.specs.Flows.{summary}
use Rattle.lv_spans.specs.declared.span.Span.{Span}
use Rattle.lv_spans.specs.Sets.{Cell, Masks, has}
use Rattle.lv_spans.specs.Domain.{is_bit, bit_of, IsSetOf}
use Rattle.lv_paths.specs.Bits.{holds, cells_have, IsLogged, exposes, IsExposed}

-- the bit is one that there is
abbrev pub IsThere : Signals → Bit → Type 0
IsThere S b = (q : Cell) × (i : ℕ) × (is_bit S q i ≡ true) × (bit_of S q i ≡ b)

-- behind a statement: what is done, what is logged, and whether a bit that is written has been read first
pub record Walks (S : Signals) (written before after : Masks) (old new : List Span) (already answer : Bool) (p : Summary) : Type 0 where
  pub done : (q : Cell) (i : ℕ) → is_bit S q i ≡ true → holds after q i ≡ (holds before q i || has_bit p.sure (bit_of S q i))
  pub inside : (b : Bit) → has_bit p.sure b ≡ true → IsThere S b
  pub exposed : IsExposed S written before already answer p.exposed
  pub logged : IsLogged before after old new

abbrev pub arm_summary : Signals → FlatArm → Summary
arm_summary S a = summary S a.body

-- the spans have the bits that each of these ways does and that were not done before; there is a way that does nothing, or there isn't
abbrev pub AreShared : Signals → Masks → Option (List Span) → Bool → List Summary → Type 0
AreShared S before None can ps = (ps ≡ []) × (can ≡ false)
AreShared S before (Some xs) can ps =
    (ps ≡ [] → can ≡ true) × ((q : Cell) (i : ℕ) → is_bit S q i ≡ true →
    cells_have xs q i ≡ (not (holds before q i) && (not can && list_all (λ (p : Summary). has_bit p.sure (bit_of S q i)) ps)))

-- behind some ways, each of which has been undone
pub record IsFork (S : Signals) (written before now : Masks) (already answer : Bool) (common : Option (List Span)) (can : Bool) (ps : List Summary) : Type 0 where
  pub kept : (q : Cell) (i : ℕ) → holds now q i ≡ holds before q i
  pub exposed : (W D : List Bit) → IsSetOf S W (has written) → IsSetOf S D (holds before) →
      answer ≡ (already || list_any (λ (p : Summary). exposes W D p.exposed) ps)
  pub inside : (b : Bit) → list_any (λ (p : Summary). has_bit p.sure b) ps ≡ true → IsThere S b
  pub shared : AreShared S before common can ps

-- whether a constant condition is met; of another nothing is known
abbrev pub IsDecided : Reading → Option Bool → Type 0
IsDecided c None = c.constant ≡ false
IsDecided c (Some met) = (c.constant ≡ true) × (met ≡ is_met nowhere c)

-- what is shared before the first of some ways
abbrev pub first_shared : Bool → Option (List Span)
first_shared true = Some []
first_shared false = None
