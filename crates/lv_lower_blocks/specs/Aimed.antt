-- A target whose indices are values of a graph.
use Rattle.std.specs.Prelude.{◌≡◌, ℕ, ◌+◌, ◌-◌, ◌≤◌, ◌==◌, Bool, true, false, if◌then◌else◌, List, [], ◌∷◌, ◌++◌, map, All, Option, Some, None, ℤ, pos, negsuc, ◌-ℤ◌, sum_by, drop, length}
use Rattle.std.specs.Prelude.{slice_index, flat_map, decimal}
use Rattle.lv_ast.specs.Names.{at_index}
use Rattle.lv_netlist.specs.Net.{Net}
use Rattle.lv_source.specs.Names.{Bounds, Declared, Valuation, low, high, size, width_of, is_signal_sort}
use Rattle.lv_source.specs.Values.{Chosen, nowhere}
use Rattle.lv_source.specs.Places.{Place, within, all_bits, bits_from, nowhere_place, place_of, bit_selects, lowest, count_of, write_bits, write}
use Rattle.lv_source.specs.Effect.{Piece, aimed, places, bits_in, write_all, assigned}
use Rattle.lv_source.specs.Parts.{is_declared_sort}
use Rattle.lv_flat.specs.declared.expr.FlatExpr.{FlatExpr}
use Rattle.lv_flat.specs.declared.stmt.FlatTarget.{FlatTarget}
use Rattle.lv_flat.specs.Signals.{Signals, signal_at}
use Rattle.lv_flat.specs.Cells.{Cell}
use Rattle.lv_flat.specs.Judged.{reading}
use Rattle.lv_flat.specs.Executing.{pieces}
use Rattle.lv_values.specs.declared.value.Value.{Value}
use Rattle.lv_values.specs.Worlds.{World, Obeys, Grows, IsIn, width_of as wide_of, number}
use Rattle.lv_values.specs.Picked.{code_number}
use Rattle.lv_lower_exprs.specs.Tables.{IsTable, Shows, value_at}
use Rattle.lv_lower_blocks.specs.Rewritten.{MayBeTable}
use Rattle.lv_lower_blocks.specs.declared.aims.Spot.{Spot}
use Rattle.lv_lower_blocks.specs.declared.aims.Aim.{Aim}

-- ---- selects as numbers

-- the lowest number of a select, and how many it names
abbrev pub Span : Type 0
Span = ℤ × ℕ

abbrev pub spot_number : World → Spot → ℤ
spot_number w s = code_number s.signed (wide_of s.index) (number w s.index) -ℤ pos s.down

abbrev pub span_of : World → Option Spot → Option Span
span_of w None = None
span_of w (Some s) = Some (spot_number w s, s.count)

-- that of the first select
abbrev pub first_span : Valuation → List Chosen → Option Span
first_span v [] = None
first_span v (x ∷ xs) = Some (lowest x v, count_of x)

abbrev pub bits_at : Declared → Option Span → List (Option ℕ)
bits_at d None = all_bits (width_of d)
bits_at d (Some s) = bits_from d.bounds s.0 s.1

abbrev pub element_at : Declared → Bounds → ℤ → List (Option ℕ) → Place
element_at d b (negsuc i) bits = nowhere_place bits
element_at d b (pos i) bits = if within (low b) (high b) i then record { name = at_index d.path (decimal i); bits = bits } else nowhere_place bits

-- the place of a name with a select of an element and one of bits
abbrev pub place_at : Option Bounds → Declared → Option Span → Option Span → Place
place_at None d element bits = record { name = d.path; bits = bits_at d bits }
place_at (Some b) d None bits = nowhere_place (bits_at d bits)
place_at (Some b) d (Some s) bits = element_at d b s.0 (bits_at d bits)

-- where an aim writes
abbrev pub aim_place : World → Signals → Aim → Place
aim_place w S a =
    let d : Declared = signal_at S a.signal in
    aimed (is_signal_sort d.sort) (place_at d.array d (span_of w a.element) (span_of w a.bits))

-- ---- widths

abbrev pub spot_width : ℕ → Option Spot → ℕ
spot_width width None = width
spot_width width (Some s) = s.count

-- the width of a word of which the first select chooses
abbrev pub chosen_width : ℕ → List Chosen → ℕ
chosen_width width [] = width
chosen_width width (x ∷ xs) = count_of x

abbrev pub aim_width : Signals → Aim → ℕ
aim_width S a = spot_width (width_of (signal_at S a.signal)) a.bits

abbrev pub aims_width : Signals → List Aim → ℕ
aims_width S as' = sum_by (aim_width S) as'

-- ---- aims of a graph

pub record IsSpotIn (net : Net) (s : Spot) : Type 0 where
  pub index_in : IsIn net s.index
  pub some : 1 ≤ wide_of s.index
  pub most : wide_of s.index ≤ 128
  pub near : s.down ≤ 128

abbrev pub IsSpot : Net → Option Spot → Type 0
IsSpot net None = Unit {0}
IsSpot net (Some s) = IsSpotIn net s

-- an array has the select of an element, and nothing else has one
abbrev pub IsElement : Option Bounds → Option Spot → Type 0
IsElement None None = Unit {0}
IsElement None (Some s) = ⊥
IsElement (Some b) None = ⊥
IsElement (Some b) (Some s) = s.down ≡ 0

pub record IsAim (net : Net) (S : Signals) (a : Aim) : Type 0 where
  pub sort : is_declared_sort (signal_at S a.signal).sort ≡ true
  pub array : IsElement (signal_at S a.signal).array a.element
  pub element : IsSpot net a.element
  pub bits : IsSpot net a.bits
  pub some : 1 ≤ aim_width S a
  pub most : aim_width S a ≤ 128

abbrev pub AreAims : Net → Signals → List Aim → Type 0
AreAims net S as' = All (IsAim net S) as'

-- each is a signal or a clock
abbrev pub AreNames : Signals → List Aim → Type 0
AreNames S as' = All (λ (a : Aim). is_declared_sort (signal_at S a.signal).sort ≡ true) as'

-- ---- what is said of calls

-- the graph has become longer, and the value names n numbers from z on
pub record Begins (old new : Net) (cells : List Cell) (table : List ℕ) (s : Spot) (z : Valuation → ℤ) (n : ℕ) : Type 0 where
  pub grows : Grows old new
  pub good : IsSpotIn new s
  pub many : s.count ≡ n
  pub is : (w : World) (v : Valuation) → Obeys new w → Shows w cells table v → spot_number w s ≡ z v

-- the value is the first select, or there is none
pub record Spots (old new : Net) (cells : List Cell) (table : List ℕ) (o : Option Spot) (xs : List Chosen) : Type 0 where
  pub grows : Grows old new
  pub good : IsSpot new o
  pub wide : (W : ℕ) → spot_width W o ≡ chosen_width W xs
  pub is : (w : World) (v : Valuation) → Obeys new w → Shows w cells table v → span_of w o ≡ first_span v xs

-- a name with selects
pub record Names (old new : Net) (S : Signals) (cells : List Cell) (table : List ℕ) (k : ℕ) (xs : List Chosen) (a : Aim) : Type 0 where
  pub grows : Grows old new
  pub good : IsAim new S a
  pub wide : aim_width S a ≡ chosen_width (width_of (signal_at S k)) (bit_selects (signal_at S k).array xs)
  pub is : (w : World) (v : Valuation) → Obeys new w → Shows w cells table v →
      aim_place w S a ≡ aimed (is_signal_sort (signal_at S k).sort) (place_of (signal_at S k) xs v)

abbrev pub target_bits : Signals → FlatTarget → ℕ
target_bits S target = bits_in (places nowhere (pieces S target))

-- the places of names are added
pub record Aims (old new : Net) (S : Signals) (cells : List Cell) (table : List ℕ) (ps : List Piece) (before after : List Aim) : Type 0 where
  pub grows : Grows old new
  pub good : AreAims new S after
  pub width : aims_width S after ≡ aims_width S before + bits_in (places nowhere ps)
  pub is : (w : World) (v : Valuation) → Obeys new w → Shows w cells table v → map (aim_place w S) after ≡ map (aim_place w S) before ++ places v ps

-- the value is 0 in each world
pub record IsZero (x : Value) : Type 0 where
  pub is : (w : World) → number w x ≡ 0

-- a number is this one
abbrev pub is_number : ℤ → ℕ → Bool
is_number (pos i) n = i == n
is_number (negsuc i) n = false

-- the element with this number is meant, or there are no elements
abbrev pub is_hit : World → Option Spot → ℕ → Bool
is_hit w None n = true
is_hit w (Some s) n = is_number (spot_number w s) n

-- the node of an element with a value written to it, where it is meant
abbrev pub put_value : World → Signals → Aim → ℕ → ℕ → ℕ → ℕ
put_value w S a n old x = if is_hit w a.element n then write_bits old (bits_at (signal_at S a.signal) (span_of w a.bits)) x else old

-- the names of targets that follow one another
abbrev pub pieces_all : Signals → List FlatTarget → List Piece
pieces_all S ts = flat_map (λ (ps : List Piece). ps) (map (pieces S) ts)

-- the number of the first element
abbrev pub first_number : Option Bounds → ℕ
first_number None = 0
first_number (Some b) = low b

-- what a node from `at` on has where a value is written to it
abbrev pub put_at : Signals → Aim → Value → List ℕ → ℕ → ℕ → World → ℕ → ℕ
put_at S a x t at from w i = put_value w S a (from + (i - at)) (value_at w (slice_index t i)) (number w x)

-- how many cells there are
abbrev pub cell_count : Option Bounds → ℕ
cell_count None = 1
cell_count (Some b) = size b

-- the value is written to one aim
pub record Puts (old new : Net) (S : Signals) (cells : List Cell) (before after : List ℕ) (a : Aim) (x : Value) : Type 0 where
  pub grows : Grows old new
  pub table : IsTable new cells after
  pub is : (w : World) (v : Valuation) → Obeys new w → Shows w cells before v → Shows w cells after (write v (aim_place w S a) (number w x))

-- the value is written to the aims, the leftmost gets its highest bits
pub record Writes (old new : Net) (S : Signals) (cells : List Cell) (before after : List ℕ) (as' : List Aim) (x : Value) : Type 0 where
  pub grows : Grows old new
  pub table : IsTable new cells after
  pub is : (w : World) (v : Valuation) → Obeys new w → Shows w cells before v → Shows w cells after (write_all v (map (aim_place w S) as') (number w x))

-- the same of a table that may not be there
pub record MayWrite (old new : Net) (S : Signals) (cells : List Cell) (before after : List ℕ) (as' : List Aim) (x : Value) : Type 0 where
  pub grows : Grows old new
  pub count : length after ≡ length before
  pub rest : MayBeTable new cells after
  pub is : (w : World) (v : Valuation) → Obeys new w → 1 ≤ length before → Shows w cells before v → Shows w cells after (write_all v (map (aim_place w S) as') (number w x))

-- the first i aims are written
pub record Written (old new : Net) (S : Signals) (cells : List Cell) (before after : List ℕ) (as' : List Aim) (i : ℕ) (x : Value) : Type 0 where
  pub grows : Grows old new
  pub table : IsTable new cells after
  pub is : (w : World) (v : Valuation) → Obeys new w → Shows w cells before v → (u : Valuation) × Shows w cells after u ×
      (write_all v (map (aim_place w S) as') (number w x) ≡ write_all u (map (aim_place w S) (drop i as')) (number w x))

-- the places of a target, and the value that is assigned to it
pub record Prepares (old new : Net) (S : Signals) (cells : List Cell) (table : List ℕ) (target : FlatTarget) (e : FlatExpr) (as' : List Aim) (x : Value) : Type 0 where
  pub grows : Grows old new
  pub good : AreAims new S as'
  pub x_in : IsIn new x
  pub width : wide_of x ≡ aims_width S as'
  pub aims : (w : World) (v : Valuation) → Obeys new w → Shows w cells table v → map (aim_place w S) as' ≡ places v (pieces S target)
  pub is : (w : World) (v : Valuation) → Obeys new w → Shows w cells table v → number w x ≡ assigned v (bits_in (places v (pieces S target))) (reading S e).meaning
