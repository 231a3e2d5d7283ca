-- The names that have values of their own: a signal, or each element of an array.
use Rattle.std.specs.Prelude.{◌≡◌, ℕ, ◌<◌, if◌then◌else◌, List, [], map, flat_map, length, slice_index_or}
use Rattle.lv_ast.specs.Names.{Name}
use Rattle.lv_source.specs.Names.{Declared, width_of, is_signal_sort}
use Rattle.lv_source.specs.Places.{cells}

-- with its width
pub record Cell : Type 0 where
  pub name : Name
  pub width : ℕ

abbrev pub cell_of : ℕ → Name → Cell
cell_of width name = record { name = name; width = width }

-- those of a signal; a clock has none
abbrev pub cells_of : Declared → List Cell
cells_of d = if is_signal_sort d.sort then map (cell_of (width_of d)) (cells d) else []

abbrev pub all_cells : List Declared → List Cell
all_cells ds = flat_map cells_of ds

abbrev pub cell_at : List Cell → ℕ → Cell
cell_at cs i = slice_index_or cs i (record { name = []; width = 0 })

-- no two cells have one name
abbrev pub AreDistinct : List Cell → Type 0
AreDistinct cs = (i j : ℕ) → i < length cs → j < length cs → (cell_at cs i).name ≡ (cell_at cs j).name → i ≡ j
