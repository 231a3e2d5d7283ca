-- What the parts with a clock leave, one after another, where all read one valuation.
use Rattle.std.specs.Prelude.{◌≡◌, ℕ, true, false, if◌then◌else◌, List, [], ◌∷◌, map, Some, slice_get}
use Rattle.lv_source.specs.Names.{Valuation}
use Rattle.lv_source.specs.Places.{Bit, bit_at, has_bit}
use Rattle.lv_source.specs.Views.{View, is_edge}

-- what the writes of a part that reads v leave of any valuation
pub record IsOverlay (v : Valuation) (p : View) (f : Valuation → Valuation) : Type 0 where
  pub keeps : (u : Valuation) (b : Bit) → has_bit p.drives b ≡ false → bit_at (f u) b ≡ bit_at u b
  -- bit by bit
  pub bitwise : (u t : Valuation) (b : Bit) → bit_at u b ≡ bit_at t b → bit_at (f u) b ≡ bit_at (f t) b
  pub leaves : (b : Bit) → bit_at (f v) b ≡ bit_at (p.after v) b

-- a part, with what its writes leave
abbrev pub Overlay : Type 0
Overlay = View × (Valuation → Valuation)

abbrev pub views_in : List Overlay → List View
views_in ps = map (λ p. p.0) ps

-- the writes of all parts with a clock, one after another
abbrev pub overlaid : List Overlay → Valuation → Valuation
overlaid [] u = u
overlaid (p ∷ ps) u = overlaid ps (if is_edge p.0.way then p.1 u else u)

pub record AreOverlays (v : Valuation) (ps : List Overlay) : Type 0 where
  pub each : (k : ℕ) (p : Overlay) → slice_get ps k ≡ Some p → is_edge p.0.way ≡ true → IsOverlay v p.0 p.1
