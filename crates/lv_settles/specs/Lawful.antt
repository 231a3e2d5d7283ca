-- What a part does to the bits of a valuation.
use Rattle.std.specs.Prelude.{◌≡◌, ℕ, ◌<◌, Bool, true, false, not, ◌&&◌, List, Some, slice_get}
use Rattle.lv_source.specs.Names.{Declared, Valuation}
use Rattle.lv_source.specs.Places.{Bit, bit_at, has_bit}
use Rattle.lv_source.specs.Parts.{width_from}
use Rattle.lv_source.specs.Views.{View, is_edge, is_combinational}

-- the bits that it reads and, if it is combinational, doesn't drive itself
abbrev pub is_outside : View → Bit → Bool
is_outside p b = has_bit p.reads b && not (is_combinational p.way && has_bit p.drives b)

abbrev pub AgreeOutside : View → Valuation → Valuation → Type 0
AgreeOutside p v w = (b : Bit) → is_outside p b ≡ true → bit_at v b ≡ bit_at w b

pub record IsLawful (ds : List Declared) (p : View) : Type 0 where
  -- without a clock, it leaves the bits that it doesn't drive
  pub keeps : is_edge p.way ≡ false → (v : Valuation) (b : Bit) → has_bit p.drives b ≡ false → bit_at (p.after v) b ≡ bit_at v b
  -- and those that it drives depend on the bits outside alone
  pub follows : is_edge p.way ≡ false → (v w : Valuation) → AgreeOutside p v w → (b : Bit) → has_bit p.drives b ≡ true →
      bit_at (p.after v) b ≡ bit_at (p.after w) b
  -- it drives bits of these signals
  pub within : (b : Bit) → has_bit p.drives b ≡ true → b.place < width_from ds b.name

pub record AreLawful (ds : List Declared) (vs : List View) : Type 0 where
  pub each : (k : ℕ) (p : View) → slice_get vs k ≡ Some p → IsLawful ds p
