-- Names with selects: the word that they stand in, and their bits.
use Rattle.std.specs.Prelude.{◌≡◌, ℕ, Bool, if◌then◌else◌, List, [], ◌∷◌, Option, Some, None, ℤ, pos, negsuc, decimal}
use Rattle.std.specs.List.{list_all}
use Rattle.lv_ast.specs.Names.{at_index}
use Rattle.lv_source.specs.Names.{Bounds, Declared, Valuation, low, high, is_signal_sort}
use Rattle.lv_source.specs.Values.{Chosen}
use Rattle.lv_source.specs.Places.{within, lowest, count_of, bits_from, read_bits}
use Rattle.lv_source.specs.Meaning.{meant, parts_of}
use Rattle.lv_netlist.specs.Net.{Net}
use Rattle.lv_flat.specs.declared.expr.FlatSelect.{FlatSelect}
use Rattle.lv_flat.specs.Signals.{Signals, bounds_of}
use Rattle.lv_flat.specs.Judged.{judge_select}
use Rattle.lv_flat.specs.Cells.{Cell}
use Rattle.lv_values.specs.declared.value.Value.{Value}
use Rattle.lv_values.specs.declared.index.Choices.{Choices}
use Rattle.lv_values.specs.Picked.{item_value, item_width}
use Rattle.lv_values.specs.Worlds.{World, Obeys, Grows, IsIn, width_of, number}
use Rattle.lv_lower_exprs.specs.Tables.{Shows}

abbrev pub bounds_by : Option (ℕ × ℕ) → Option Bounds
bounds_by o = bounds_of o

-- the selects as the meaning of names has them
abbrev pub chosen_by : Signals → FlatSelect → Chosen
chosen_by S s = meant (judge_select S s).choice

-- the width of a name of so many bits, with these selects of bits
abbrev pub name_width : Signals → ℕ → List FlatSelect → ℕ
name_width S width [] = width
name_width S width (s ∷ ss) = count_of (chosen_by S s)

-- the value of an element
abbrev pub element_word : Declared → Bounds → ℤ → Valuation → ℕ
element_word d b (negsuc i) v = 0
element_word d b (pos i) v = if within (low b) (high b) i then v (at_index d.path (decimal i)) else 0

abbrev pub word_by : Option Bounds → Declared → List Chosen → Valuation → ℕ
word_by None d ss v = v d.path
word_by (Some b) d [] v = 0
word_by (Some b) d (s ∷ ss) v = element_word d b (lowest s v) v

-- the word in which a name with selects stands; that of a clock is 0
abbrev pub name_word : Declared → List Chosen → Valuation → ℕ
name_word d ss v = if is_signal_sort d.sort then word_by d.array d ss v else 0

-- the graph has become longer, and r has W bits and this value of a word and of what the table shows
pub record Selects (old new : Net) (word r : Value) (cells : List Cell) (table : List ℕ) (W : ℕ) (f : ℕ → Valuation → ℕ) : Type 0 where
  pub grows : Grows old new
  pub in_new : IsIn new r
  pub width : width_of r ≡ W
  pub is : (w : World) (v : Valuation) → Obeys new w → Shows w cells table v → number w r ≡ f (number w word) v

abbrev pub is_good_select : Signals → FlatSelect → Bool
is_good_select S s = (judge_select S s).good

abbrev pub are_good_selects : Signals → List FlatSelect → Bool
are_good_selects S ss = list_all (λ (s : FlatSelect). is_good_select S s) ss

abbrev pub is_constant_select : Signals → FlatSelect → Bool
is_constant_select S s = list_all (λ r. r.constant) (parts_of (judge_select S s).choice)

abbrev pub are_constant : Signals → List FlatSelect → Bool
are_constant S ss = list_all (λ (s : FlatSelect). is_constant_select S s) ss

-- what the first select reads of a word
abbrev pub bits_read : Bounds → List Chosen → ℕ → Valuation → ℕ
bits_read b [] x v = x
bits_read b (s ∷ ss) x v = read_bits x (bits_from b (lowest s v) (count_of s))

-- an element of an array is selected by one number
abbrev pub HasElement : Signals → Option Bounds → List FlatSelect → Type 0
HasElement S None ss = Unit {0}
HasElement S (Some b) [] = ⊥
HasElement S (Some b) (s ∷ ss) = count_of (chosen_by S s) ≡ 1

-- the graph has become longer, and r is what stands at a number
pub record Stands (old new : Net) (r : Value) (cells : List Cell) (table nodes : List ℕ) (choices : Choices) (z : Valuation → ℤ) : Type 0 where
  pub grows : Grows old new
  pub in_new : IsIn new r
  pub width : width_of r ≡ item_width choices
  pub is : (w : World) (v : Valuation) → Obeys new w → Shows w cells table v → number w r ≡ item_value w nodes choices (z v)
