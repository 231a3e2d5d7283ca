-- Bits that follow one another, by their places in a word: some below it, some inside, some above.
use Rattle.std.specs.Prelude.{◌≡◌, ℕ, zero, suc, ◌+◌, ◌*◌, ◌/◌, ◌%◌, ◌^◌, ◌≤◌, if◌then◌else◌, List, [], ◌∷◌, ◌++◌, map, Option, Some, None, ℤ, pos, negsuc}
use Rattle.lv_source.specs.Names.{Bounds, size}
use Rattle.lv_source.specs.Places.{within, rising, bits_from}
use Rattle.lv_values.specs.declared.window.Number.{Number}
use Rattle.lv_values.specs.declared.window.Number.TheVariants.{Above, Below}
use Rattle.lv_values.specs.declared.window.Inside.{Inside}
use Rattle.lv_values.specs.declared.window.Window.{Window}

-- so many bits that the declaration lacks
abbrev pub nones : ℕ → List (Option ℕ)
nones zero = []
nones (suc n) = None ∷ nones n

-- so many bits from a place on
abbrev pub somes : ℕ → ℕ → List (Option ℕ)
somes low zero = []
somes low (suc n) = Some low ∷ somes (low + 1) n

-- below, inside and above
abbrev pub run : ℕ → ℕ → ℕ → ℕ → List (Option ℕ)
run below low n above = nones below ++ (somes low n ++ nones above)

abbrev pub window_bits : Window → List (Option ℕ)
window_bits r = run r.below r.low r.count r.above

abbrev pub integer : Number → ℤ
integer (Above n) = pos n
integer (Below n) = negsuc n

-- a number, if a declaration from l to h has it
abbrev pub number_in : ℕ → ℕ → ℤ → Option ℕ
number_in l h (pos i) = if within l h i then Some i else None
number_in l h (negsuc i) = None

-- of n numbers from z on: so many before those of the declaration, so many of it, so many behind
pub record IsInside (l h : ℕ) (z : ℤ) (n : ℕ) (r : Inside) : Type 0 where
  pub numbers : map (number_in l h) (rising z n) ≡ run r.before r.first r.count r.after
  pub sum : r.before + (r.count + r.after) ≡ n
  pub least : l ≤ r.first
  pub top : r.first ≤ h
  pub most : r.first + r.count ≤ h + 1

-- the n bits from number z on
pub record IsWindow (b : Bounds) (z : ℤ) (n : ℕ) (r : Window) : Type 0 where
  pub bits : bits_from b z n ≡ window_bits r
  pub sum : r.below + (r.count + r.above) ≡ n
  pub most : r.low + r.count ≤ size b

-- the bits of a above, those of x, and those of a below
abbrev pub replaced : ℕ → ℕ → ℕ → ℕ → ℕ
replaced a low n x = a / 2 ^ (low + n) * 2 ^ (low + n) + (x % 2 ^ n * 2 ^ low + a % 2 ^ low)
