-- Bits that are written for sure on the way so far, each in its own cell.
use Rattle.std.specs.Prelude.{◌≡◌, ℕ, ◌≤◌, ◌<◌, ◌==◌, Bool, true, false, not, ◌&&◌, ◌||◌, List, ◌++◌, Option, Some, None, bit_and, bit_xor, flat_map, [], ◌∷◌, if◌then◌else◌}
use Rattle.std.specs.List.{list_any}
use Rattle.std.specs.BTreeMap.{is_at}
use Rattle.lv_source.specs.Places.{Bit, has_bit}
use Rattle.lv_source.specs.Summary.{without}
use Rattle.lv_flat.specs.Signals.{Signals}
use Rattle.lv_spans.specs.declared.span.Span.{Span}
use Rattle.lv_spans.specs.Sets.{Cell, Masks, order, own_at, mask_at, has, is_set, is_under}
use Rattle.lv_spans.specs.Domain.{is_bit, spans_have, IsSetOf}
use Rattle.lv_extents.specs.declared.extent.Aim.{Aim}
use Rattle.lv_extents.specs.Extents.{Each, IsAim}
use Rattle.lv_source.specs.Views as views
use Rattle.lv_source.specs.PartRules.{has_twice}

-- whether the cell's own mask has the bit
abbrev pub holds : Masks → Cell → ℕ → Bool
holds m q i = is_set (own_at m q) i

-- whether the bit is one of the span, which stands for one cell
abbrev pub is_of : Span → Cell → ℕ → Bool
is_of s q i = is_at (order (s.signal, s.element)) q && is_set s.mask i

abbrev pub cells_have : List Span → Cell → ℕ → Bool
cells_have xs q i = list_any (λ (s : Span). is_of s q i) xs

-- the span, where it has a bit
abbrev pub some_span : Span → List Span
some_span s = if s.mask == 0 then [] else s ∷ []

-- whether the bit is one that a target writes for sure
abbrev pub surely_have : List Aim → Cell → ℕ → Bool
surely_have xs q i = list_any (λ (a : Aim). a.sure && cells_have a.bits q i) xs

-- the log has become longer by the bits that are new
pub record IsLogged (before after : Masks) (old new : List Span) : Type 0 where
  pub more : List Span
  pub same : new ≡ old ++ more
  pub all : (q : Cell) (i : ℕ) → holds after q i ≡ (holds before q i || cells_have more q i)
  pub apart : (q : Cell) (i : ℕ) → (holds before q i && cells_have more q i) ≡ false

-- what is left of the spans that the ways so far share, with one way more, of which the log is given; before the first way all is shared
abbrev pub remains : Masks → List Span → Option (List Span) → Cell → ℕ → Bool
remains m log None q i = cells_have log q i
remains m log (Some xs) q i = cells_have xs q i && holds m q i

-- those bits of a mask of a cell that are in the set and not done
abbrev pub open_mask : Masks → Masks → ℕ → Cell → ℕ
open_mask written done mask q = let bits : ℕ = bit_and (mask_at written q) mask in bit_xor bits (bit_and bits (own_at done q))

abbrev pub is_cell_open : Masks → Masks → ℕ → Cell → Bool
is_cell_open written done mask q = not (open_mask written done mask q == 0)

-- some element from one number to another, the last left out
abbrev pub IsElementOpen : Masks → Masks → ℕ → ℕ → ℕ → ℕ → Type 0
IsElementOpen written done mask k low end = (e : ℕ) × (low ≤ e) × (e < end) × (is_cell_open written done mask (k, Some e) ≡ true)

-- of a span, whether the bit is in the set and not done
abbrev pub is_open_bit : Masks → Masks → Span → Cell → ℕ → Bool
is_open_bit written done s q i = is_under s.signal s.element q && (is_set s.mask i && (has written q i && not (holds done q i)))

-- some bit that there is
abbrev pub IsOpen : Signals → Masks → Masks → Span → Type 0
IsOpen S written done s = (q : Cell) × (i : ℕ) × (is_bit S q i ≡ true) × (is_open_bit written done s q i ≡ true)

-- whether some of these bits, not done, is one of the first
abbrev pub exposes : List Bit → List Bit → List Bit → Bool
exposes W D bits = list_any (has_bit W) (without D bits)

-- the answer is yes where it was, and where a look at these bits shows one that is written in the block and not done
abbrev pub IsExposed : Signals → Masks → Masks → Bool → Bool → List Bit → Type 0
IsExposed S written done already exposed bits =
    (W D : List Bit) → IsSetOf S W (has written) → IsSetOf S D (holds done) → exposed ≡ (already || exposes W D bits)

-- some bit that there is, of a set and of some spans
pub record MeetsSome (S : Signals) (set : Masks) (xs : List Span) : Type 0 where
  pub cell : Cell
  pub at : ℕ
  pub there : is_bit S cell at ≡ true
  pub under : spans_have xs cell at ≡ true
  pub inside : has set cell at ≡ true

-- the answer is whether the targets of which these are the aims, which name no bit twice each, name one together
abbrev pub IsTwice : Signals → List Aim → Bool → Type 0
IsTwice S xs r = (as' : List views.Aim) → Each (IsAim S) as' xs → r ≡ has_twice (flat_map (λ (a : views.Aim). a.bits) as')
