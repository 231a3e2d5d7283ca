-- Parts without a clock, carried out one after another.
use Rattle.std.specs.Prelude.{◌≡◌, ℕ, ◌≤◌, true, false, List, [], ◌∷◌, Option, Some, None, slice_get}
use Rattle.lv_source.specs.Names.{Valuation}
use Rattle.lv_source.specs.Places.{Bit, has_bit}
use Rattle.lv_source.specs.Views.{View, is_edge}
use Rattle.lv_settles.specs.Lawful.{is_outside}

-- each part without a clock by its number once, and none reads a bit that a later one drives, or that it drives itself, but a
-- combinational block its own
pub record IsOrder (vs : List View) (order : List ℕ) : Type 0 where
  pub parts : (i k : ℕ) → slice_get order i ≡ Some k → (p : View) × (slice_get vs k ≡ Some p) × (is_edge p.way ≡ false)
  pub all : (k : ℕ) (p : View) → slice_get vs k ≡ Some p → is_edge p.way ≡ false → (i : ℕ) × (slice_get order i ≡ Some k)
  pub once : (i j k : ℕ) → slice_get order i ≡ Some k → slice_get order j ≡ Some k → i ≡ j
  pub apart : (i j k l : ℕ) (p q : View) → i ≤ j → slice_get order i ≡ Some k → slice_get order j ≡ Some l →
      slice_get vs k ≡ Some p → slice_get vs l ≡ Some q → (b : Bit) → is_outside p b ≡ true → has_bit q.drives b ≡ false

abbrev pub after_one : Option View → Valuation → Valuation
after_one None v = v
after_one (Some p) v = p.after v

-- what they leave of a valuation
abbrev pub carried : List View → List ℕ → Valuation → Valuation
carried vs [] v = v
carried vs (k ∷ ks) v = carried vs ks (after_one (slice_get vs k) v)
