-- For the proof: a set of bits that grows part by part.
use Rattle.std.specs.Prelude.{◌≡◌, ◌⊎◌, ◌<◌, ◌-◌, ◌^◌, ℕ, Bool, true, ◌&&◌, List, Some, All, slice_get, slice_index_or, take, false}
use Rattle.std.specs.List.{list_any}
use Rattle.lv_source.specs.Names.{Declared, width_of}
use Rattle.lv_source.specs.Views.{View, is_combinational}
use Rattle.lv_source.specs.Places.{Bit, has_bit}
use Rattle.lv_flat.specs.Signals.{Signals, signal_at}
use Rattle.lv_spans.specs.declared.span.Span.{Span}
use Rattle.lv_spans.specs.Sets.{Cell, Masks, has}
use Rattle.lv_spans.specs.Domain.{IsSpan, IsWithin, is_bit, bit_of, spans_have}
use Rattle.lv_extents.specs.declared.extent.Extent.{Extent}
use Rattle.lv_extents.specs.Extents.{AreExtents, way_of}
use Rattle.lv_settles.specs.Rules.{AreRight, signals_in}
use Rattle.lv_settles.specs.Orders.{IsOrder}
use Rattle.lv_settles.specs.Lawful.{is_outside}
use Rattle.lv_reach.specs.Fanout.{InFanout}

-- all bits of a signal
abbrev pub whole_mask : Declared → ℕ
whole_mask d = 2 ^ width_of d - 1

abbrev pub is_marked : List Bool → ℕ → Bool
is_marked marks k = slice_index_or marks k false

-- a bit that there is, of some span and in the set
abbrev pub MeetsSome : Signals → Masks → List Span → Type 0
MeetsSome S set spans = (q : Cell) × (i : ℕ) × (is_bit S q i ≡ true) × (spans_have spans q i ≡ true) × (has set q i ≡ true)

-- what the part drives is added where it reads a bit of the set, and nothing else
pub record Spreads (S : Signals) (old : Masks) (reads drives : List Span) (new : Masks) : Type 0 where
  pub within : IsWithin S new
  pub kept : (q : Cell) (i : ℕ) → has old q i ≡ true → has new q i ≡ true
  pub added : MeetsSome S old reads → (q : Cell) (i : ℕ) → spans_have drives q i ≡ true → has new q i ≡ true
  pub only : (q : Cell) (i : ℕ) → has new q i ≡ true → (has old q i ≡ true) ⊎ ((spans_have drives q i ≡ true) × MeetsSome S old reads)

-- the set has all that the part drives
pub record HasDrives (S : Signals) (set : Masks) (p : View) : Type 0 where
  pub has_all : (q : Cell) (i : ℕ) → is_bit S q i ≡ true → has_bit p.drives (bit_of S q i) ≡ true → has set q i ≡ true

abbrev pub MeetsBits : Signals → Masks → List Bit → Type 0
MeetsBits S set bits = (q : Cell) × (i : ℕ) × (is_bit S q i ≡ true) × (has_bit bits (bit_of S q i) ≡ true) × (has set q i ≡ true)

-- so for the view with a number, if there is one
pub record IsSpreadAt (S : Signals) (vs : List View) (k : ℕ) (old new : Masks) : Type 0 where
  pub within : IsWithin S new
  pub kept : (q : Cell) (i : ℕ) → has old q i ≡ true → has new q i ≡ true
  pub added : (p : View) → slice_get vs k ≡ Some p → MeetsBits S old p.reads → HasDrives S new p
  pub only : (q : Cell) (i : ℕ) → is_bit S q i ≡ true → has new q i ≡ true →
      (has old q i ≡ true) ⊎ ((p : View) × (slice_get vs k ≡ Some p) × (has_bit p.drives (bit_of S q i) ≡ true) × MeetsBits S old p.reads)

-- a set with the bits of the marked signals
pub record IsStart (S : Signals) (marks : List Bool) (set : Masks) : Type 0 where
  pub within : IsWithin S set
  pub are : (q : Cell) (i : ℕ) → is_bit S q i ≡ true → has set q i ≡ is_marked marks q.0

-- the design, with an order of its parts
pub record IsOrdered (S : Signals) (vs : List View) (xs : List Extent) (order : List ℕ) : Type 0 where
  pub extents : AreExtents S vs xs
  pub right : AreRight (signals_in S) vs
  pub order_is : IsOrder vs order

-- the first n parts of the order have been gone through
pub record IsPassed (S : Signals) (vs : List View) (is : Declared → Bool) (order : List ℕ) (start cur : Masks) (n : ℕ) : Type 0 where
  pub within : IsWithin S cur
  pub kept : (q : Cell) (i : ℕ) → has start q i ≡ true → has cur q i ≡ true
  pub only : (q : Cell) (i : ℕ) → is_bit S q i ≡ true → has cur q i ≡ true → InFanout (signals_in S) vs is (bit_of S q i)
  pub outside : (j k : ℕ) (p : View) → j < n → slice_get order j ≡ Some k → slice_get vs k ≡ Some p → (q : Cell) (i : ℕ) → is_bit S q i ≡ true →
      is_outside p (bit_of S q i) ≡ true → has cur q i ≡ true → HasDrives S cur p
  pub started : (j k : ℕ) (p : View) → j < n → slice_get order j ≡ Some k → slice_get vs k ≡ Some p → (q : Cell) (i : ℕ) → is_bit S q i ≡ true →
      has_bit p.reads (bit_of S q i) ≡ true → has start q i ≡ true → HasDrives S cur p

abbrev pub AllDrives : Signals → List Extent → Type 0
AllDrives S xs = (k : ℕ) (x : Extent) → slice_get xs k ≡ Some x → All (IsSpan S) x.drives

abbrev pub drives_at_once : Cell → ℕ → Extent → Bool
drives_at_once q i x = is_combinational (way_of x.way) && spans_have x.drives q i

-- a set with the bits that combinational blocks among the first n parts drive
pub record IsDrivenBelow (xs : List Extent) (n : ℕ) (set : Masks) : Type 0 where
  pub within : (S : Signals) → AllDrives S xs → IsWithin S set
  pub are : (q : Cell) (i : ℕ) → has set q i ≡ list_any (drives_at_once q i) (take n xs)

-- those of all
pub record IsDrivenSet (xs : List Extent) (set : Masks) : Type 0 where
  pub within : (S : Signals) → AllDrives S xs → IsWithin S set
  pub are : (q : Cell) (i : ℕ) → has set q i ≡ list_any (drives_at_once q i) xs
