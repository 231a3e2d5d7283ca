-- What parts drive together, by their extents.
use Rattle.std.specs.Prelude.{◌≡◌, ℕ, ◌<◌, Bool, true, false, not, ◌&&◌, ◌||◌, ◌==◌, if◌then◌else◌, List, Option, Some, None, length, slice_index_or, slice_get, All}
use Rattle.std.specs.List.{list_any}
use Rattle.lv_source.specs.Names.{is_variable_sort, is_input_sort}
use Rattle.lv_source.specs.Views.{Way, is_edge, is_continuous, is_combinational}
use Rattle.lv_flat.specs.Signals.{Signals, signal_at}
use Rattle.lv_spans.specs.declared.span.Span.{Span}
use Rattle.lv_spans.specs.Sets.{Cell, Masks, has}
use Rattle.lv_spans.specs.Domain.{is_bit, spans_have, IsSpan}
use Rattle.lv_extents.specs.declared.extent.Extent.{Extent}
use Rattle.lv_extents.specs.Extents.{way_of}
use Rattle.lv_rules.specs.declared.told.Told.{Told}
use Rattle.lv_rules.specs.declared.marks.Class.{Class}
use Rattle.lv_rules.specs.declared.marks.Class.TheVariants.{Clocked, Unclocked, Combinational}

-- ---- marks

abbrev pub is_marked : List Bool → ℕ → Bool
is_marked marks s = slice_index_or marks s false

-- some span is of the signal
abbrev pub names : ℕ → List Span → Bool
names s spans = list_any (λ x. x.signal == s) spans

-- of each signal whether it is a variable that isn't marked
pub record AreUnmarked (S : Signals) (marks flags : List Bool) : Type 0 where
  pub size : length flags ≡ length S
  pub each : (s : ℕ) → s < length S → is_marked flags s ≡ (is_variable_sort (signal_at S s).sort && not (is_marked marks s))

abbrev pub is_of : Class → Way → Bool
is_of Clocked way = is_edge way
is_of Unclocked way = not (is_edge way)
is_of Combinational way = is_combinational way

-- ---- sets

-- a bit that there is, of some span and in the set
pub record MeetsSome (S : Signals) (set : Masks) (spans : List Span) : Type 0 where
  pub cell : Cell
  pub at : ℕ
  pub there : is_bit S cell at ≡ true
  pub in_spans : spans_have spans cell at ≡ true
  pub in_set : has set cell at ≡ true

-- ---- two drivers

-- a continuous assignment that names one bit twice, or a part that drives an input
abbrev pub is_overdriven : Signals → Extent → Bool
is_overdriven S x = is_continuous (way_of x.way) && x.twice || list_any (λ s. is_input_sort (signal_at S s.signal).sort) x.drives

-- a variable that a clocked part and another one drive, by the signals that such parts drive
abbrev pub is_mixed : Signals → List Bool → List Bool → Extent → Bool
is_mixed S clocked unclocked x =
    list_any (λ s. is_variable_sort (signal_at S s.signal).sort && is_marked (if is_edge (way_of x.way) then unclocked else clocked) s.signal) x.drives

-- some bit that there is, of two parts
pub record SharesBit (S : Signals) (x y : Extent) : Type 0 where
  pub cell : Cell
  pub at : ℕ
  pub there : is_bit S cell at ≡ true
  pub first : spans_have x.drives cell at ≡ true
  pub second : spans_have y.drives cell at ≡ true

abbrev pub AreApart : Extent → Extent → Type 0
AreApart x y = (q : Cell) (i : ℕ) → (spans_have x.drives q i && spans_have y.drives q i) ≡ false

-- no part is overdriven or mixed, and no two share a bit
pub record HasNoneTwice (S : Signals) (clocked unclocked : List Bool) (xs : List Extent) : Type 0 where
  pub alone : (k : ℕ) (x : Extent) → slice_get xs k ≡ Some x → (is_overdriven S x || is_mixed S clocked unclocked x) ≡ false
  pub apart : (j k : ℕ) (x y : Extent) → j < k → slice_get xs j ≡ Some x → slice_get xs k ≡ Some y → AreApart x y

abbrev pub AllSpans : Signals → List Extent → Type 0
AllSpans S xs = (k : ℕ) (x : Extent) → slice_get xs k ≡ Some x → All (IsSpan S) x.drives

-- this part is overdriven or mixed, or shares a bit with an earlier one
pub record IsTwice (S : Signals) (clocked unclocked : List Bool) (xs : List Extent) (t : Told) : Type 0 where
  pub x : Extent
  pub there : slice_get xs t.part ≡ Some x
  pub place : t.place ≡ x.place
  pub holds : (is_overdriven S x || is_mixed S clocked unclocked x) ≡ false → AllSpans S xs → (j : ℕ) × (y : Extent) × (j < t.part) × (slice_get xs j ≡ Some y) × SharesBit S x y

abbrev pub IsShared : Signals → List Bool → List Bool → List Extent → Option Told → Type 0
IsShared S clocked unclocked xs None = HasNoneTwice S clocked unclocked xs
IsShared S clocked unclocked xs (Some t) = IsTwice S clocked unclocked xs t
