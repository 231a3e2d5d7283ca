-- Which bits depend on which signals through parts without a clock.
use Rattle.std.specs.Prelude.{◌≡◌, ℕ, Bool, true, false, List, Some, Contains, slice_get, bytes_eq}
use Rattle.std.specs.List.{list_any}
use Rattle.lv_ast.specs.Names.{Name}
use Rattle.lv_source.specs.Names.{Declared, Valuation, is_input_sort}
use Rattle.lv_source.specs.Places.{Bit, has_bit, whole, cells}
use Rattle.lv_source.specs.Views.{View, is_edge, is_register_view}
use Rattle.lv_flat.specs.Signals.{Signals}
use Rattle.lv_spans.specs.Sets.{Cell, Masks, has}
use Rattle.lv_spans.specs.Domain.{IsWithin, is_bit, bit_of}
use Rattle.lv_settles.specs.Rules.{signals_in}

-- the bit is one of these, or some of these come from it through parts without a clock
pub data Reaches (vs : List View) (bs : List Bit) : Bit → Type 0 where
  direct : {b : Bit} → has_bit bs b ≡ true → Reaches vs bs b
  through : {b c : Bit} (k : ℕ) (p : View) → slice_get vs k ≡ Some p → is_edge p.way ≡ false → Reaches vs bs c → has_bit p.drives c ≡ true →
      has_bit p.reads b ≡ true → Reaches vs bs b

-- they depend on some signal of the list
abbrev pub DependsOn : List Declared → List View → (Declared → Bool) → List Bit → Type 0
DependsOn ds vs is bs = (x : Declared) × (b : Bit) × Contains ds x × (is x ≡ true) × (has_bit (whole x) b ≡ true) × Reaches vs bs b

-- ---- the bits that such signals fan out to

pub data InFanout (ds : List Declared) (vs : List View) (is : Declared → Bool) : Bit → Type 0 where
  own : {b : Bit} (x : Declared) → Contains ds x → is x ≡ true → has_bit (whole x) b ≡ true → InFanout ds vs is b
  driven : {b c : Bit} (k : ℕ) (p : View) → slice_get vs k ≡ Some p → is_edge p.way ≡ false → InFanout ds vs is c → has_bit p.reads c ≡ true →
      has_bit p.drives b ≡ true → InFanout ds vs is b

-- a set has just these bits
pub record IsFanout (S : Signals) (vs : List View) (is : Declared → Bool) (set : Masks) : Type 0 where
  pub within : IsWithin S set
  pub all : (q : Cell) (i : ℕ) → is_bit S q i ≡ true → InFanout (signals_in S) vs is (bit_of S q i) → has set q i ≡ true
  pub only : (q : Cell) (i : ℕ) → is_bit S q i ≡ true → has set q i ≡ true → InFanout (signals_in S) vs is (bit_of S q i)

-- ---- two valuations that differ in such signals alone

-- inputs and registers that are none of them have one value
pub record SameBut (ds : List Declared) (vs : List View) (is : Declared → Bool) (v w : Valuation) : Type 0 where
  pub inputs : (x : Declared) (name : Name) → Contains ds x → is x ≡ false → is_input_sort x.sort ≡ true → list_any (bytes_eq name) (cells x) ≡ true → v name ≡ w name
  pub registers : (x : Declared) (name : Name) → Contains ds x → is x ≡ false → is_register_view vs x ≡ true → list_any (bytes_eq name) (cells x) ≡ true → v name ≡ w name
