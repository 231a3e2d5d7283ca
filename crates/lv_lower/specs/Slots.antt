-- The cells of a flat design, and what the nodes of each are before the parts are carried out.
use Rattle.std.specs.Prelude.{◌≡◌, ◌<◌, ℕ, Bool, List, length, take, slice_index, map, flat_map, decimal, if◌then◌else◌}
use Rattle.std.specs.List.{range_with_len}
use Rattle.lv_ast.specs.Names.{Name, at_index}
use Rattle.lv_source.specs.Names.{Bounds, Declared, low, size, is_input_sort}
use Rattle.lv_source.specs.Views.{View, is_register_view}
use Rattle.lv_flat.specs.declared.flat.Flat.{Flat}
use Rattle.lv_flat.specs.Cells.{Cell, cells_of, all_cells}
use Rattle.lv_flat.specs.Signals.{Signals, declared_all}
use Rattle.lv_flat.specs.FlatViews.{flat_views}
use Rattle.lv_lower.specs.declared.slot.Kind.{Kind}
use Rattle.lv_lower.specs.declared.slot.Kind.TheVariants.{Input, Register, Zero}
use Rattle.lv_lower.specs.declared.slot.Slot.{Slot}

abbrev pub names_of : Flat → Signals
names_of f = declared_all f.signals

abbrev pub views_of : Flat → List View
views_of f = flat_views (declared_all f.signals) f.parts

-- of each signal or clock whether it is a register
abbrev pub flags_of : Flat → List Bool
flags_of f = map (is_register_view (views_of f)) (names_of f)

abbrev pub kind_by : Bool → Bool → Kind
kind_by input register = if input then Input else if register then Register else Zero

abbrev pub slot_by : Kind → Cell → Slot
slot_by kind c = record { name = c.name; width = c.width; kind = kind }

abbrev pub element_slot : Name → ℕ → Kind → ℕ → Slot
element_slot path width kind i = record { name = at_index path (decimal i); width = width; kind = kind }

-- those of all elements
abbrev pub element_slots : Name → ℕ → Kind → Bounds → List Slot
element_slots path width kind b = map (element_slot path width kind) (range_with_len (low b) (size b))

abbrev pub slots_of : List View → Declared → List Slot
slots_of vs d = map (slot_by (kind_by (is_input_sort d.sort) (is_register_view vs d))) (cells_of d)

abbrev pub all_slots : List View → Signals → List Slot
all_slots vs S = flat_map (slots_of vs) S

-- the number of the first cell of each signal
pub record AreCounts (S : Signals) (first : List ℕ) : Type 0 where
  pub count : length first ≡ length S
  pub is : (k : ℕ) → k < length S → slice_index first k ≡ length (all_cells (take k S))
