-- Bits of nets and combinational variables that parts read, by extents.
use Rattle.std.specs.Prelude.{◌≡◌, ℕ, ◌<◌, Bool, true, false, not, ◌&&◌, List, Option, Some, None, length, slice_index, slice_get, All}
use Rattle.lv_source.specs.Names.{Bounds, is_input_sort, is_variable_sort}
use Rattle.lv_flat.specs.Signals.{Signals, signal_at}
use Rattle.lv_spans.specs.declared.span.Span.{Span}
use Rattle.lv_spans.specs.Sets.{Cell, Masks, has, is_set, is_under}
use Rattle.lv_spans.specs.Domain.{is_element_in, is_bit, IsSpan}
use Rattle.lv_extents.specs.declared.extent.Extent.{Extent}
use Rattle.lv_rules.specs.declared.told.Told.{Told}
use Rattle.lv_rules.specs.Drives.{is_marked}

-- a net, or a variable of the table
abbrev pub is_wired : Signals → List Bool → ℕ → Bool
is_wired S comb s = not (is_input_sort (signal_at S s).sort) && not (is_variable_sort (signal_at S s).sort && not (is_marked comb s))

abbrev pub IsLacking : ℕ → ℕ → Bool → Type 0
IsLacking mask covered true = (i : ℕ) × (is_set mask i ≡ true) × (is_set covered i ≡ false)
IsLacking mask covered false = (i : ℕ) → is_set mask i ≡ true → is_set covered i ≡ true

-- the mask has the bits that all cells of a signal have
pub record IsCommon (set : Masks) (s : ℕ) (array : Option Bounds) (mask : ℕ) : Type 0 where
  pub every : (i : ℕ) (e : Option ℕ) → is_set mask i ≡ true → is_element_in array e ≡ true → has set (s, e) i ≡ true
  pub one : (i : ℕ) → is_set mask i ≡ false → (e : Option ℕ) × (is_element_in array e ≡ true) × (has set (s, e) i ≡ false)

pub record AreCommon (S : Signals) (comb : List Bool) (set : Masks) (masks : List ℕ) : Type 0 where
  pub common : (s : ℕ) → s < length S → is_wired S comb s ≡ true → IsCommon set s (signal_at S s).array (slice_index masks s)

-- a bit that there is, of the span and of a wired signal, and not in the set
pub record IsGap (S : Signals) (comb : List Bool) (set : Masks) (s : Span) : Type 0 where
  pub cell : Cell
  pub at : ℕ
  pub there : is_bit S cell at ≡ true
  pub under : is_under s.signal s.element cell ≡ true
  pub in_span : is_set s.mask at ≡ true
  pub wired : is_wired S comb cell.0 ≡ true
  pub lacking : has set cell at ≡ false

-- each such bit is in the set
abbrev pub IsCovered : Signals → List Bool → Masks → Span → Type 0
IsCovered S comb set s =
    (q : Cell) (i : ℕ) → is_bit S q i ≡ true → is_under s.signal s.element q ≡ true → is_set s.mask i ≡ true → is_wired S comb q.0 ≡ true → has set q i ≡ true

abbrev pub LacksSpan : Signals → List Bool → Masks → Span → Bool → Type 0
LacksSpan S comb set s true = IsSpan S s → IsGap S comb set s
LacksSpan S comb set s false = IsCovered S comb set s

pub record HasGap (S : Signals) (comb : List Bool) (set : Masks) (spans : List Span) : Type 0 where
  pub at : ℕ
  pub span : Span
  pub there : slice_get spans at ≡ Some span
  pub gap : IsGap S comb set span

abbrev pub LacksSome : Signals → List Bool → Masks → List Span → Bool → Type 0
LacksSome S comb set spans true = All (IsSpan S) spans → HasGap S comb set spans
LacksSome S comb set spans false = (k : ℕ) (s : Span) → slice_get spans k ≡ Some s → IsCovered S comb set s

-- this part reads such a bit
pub record LacksAt (S : Signals) (comb : List Bool) (set : Masks) (xs : List Extent) (t : Told) : Type 0 where
  pub x : Extent
  pub there : slice_get xs t.part ≡ Some x
  pub place : t.place ≡ x.place
  pub holds : All (IsSpan S) x.reads → HasGap S comb set x.reads

abbrev pub IsUndriven : Signals → List Bool → Masks → List Extent → Option Told → Type 0
IsUndriven S comb set xs None = (k : ℕ) (x : Extent) → slice_get xs k ≡ Some x → (j : ℕ) (s : Span) → slice_get x.reads j ≡ Some s → IsCovered S comb set s
IsUndriven S comb set xs (Some t) = LacksAt S comb set xs t
