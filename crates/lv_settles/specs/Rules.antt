-- The rules that no part may break, and where a cycle begins.
use Rattle.std.specs.Prelude.{◌≡◌, ℕ, ◌<◌, ◌^◌, true, false, List, [], Some, flat_map, filter, slice_get, bytes_eq, All}
use Rattle.std.specs.List.{list_any}
use Rattle.lv_ast.specs.Names.{Name}
use Rattle.lv_source.specs.Names.{Declared, Valuation, is_input_sort}
use Rattle.lv_source.specs.Places.{cells}
use Rattle.lv_source.specs.Parts.{width_from, is_signal}
use Rattle.lv_source.specs.Views.{View, unfixed_views, wrong_views, nonblocking_views, blocking_views, two_views, undriven_views, latch_views, first_views, view_registers}

-- the signals among what is declared
abbrev pub signals_in : List Declared → List Declared
signals_in ds = filter is_signal ds

-- nothing is told of any part
pub record AreRight (ds : List Declared) (vs : List View) : Type 0 where
  pub unfixed : unfixed_views vs ≡ []
  pub wrong : wrong_views ds vs ≡ []
  pub nonblocking : nonblocking_views vs ≡ []
  pub blocking : blocking_views ds vs ≡ []
  pub two : two_views ds vs ≡ []
  pub undriven : undriven_views ds vs ≡ []
  pub latch : latch_views vs ≡ []
  pub first : first_views vs ≡ []

-- no two signals have a cell of one name
pub record AreApart (ds : List Declared) : Type 0 where
  pub apart : (i j : ℕ) (x y : Declared) (name : Name) → slice_get ds i ≡ Some x → slice_get ds j ≡ Some y →
      list_any (bytes_eq name) (cells x) ≡ true → list_any (bytes_eq name) (cells y) ≡ true → x ≡ y

abbrev pub register_names : List Declared → List View → List Name
register_names ds vs = flat_map cells (view_registers ds vs)

abbrev pub input_names : List Declared → List Name
input_names ds = flat_map cells (filter (λ x. is_input_sort x.sort) ds)

-- registers and inputs have any values that fit, and all else is 0
pub record IsStart (ds : List Declared) (vs : List View) (v : Valuation) : Type 0 where
  pub fits : (name : Name) → v name < 2 ^ width_from ds name
  pub rest : (name : Name) → list_any (bytes_eq name) (register_names ds vs) ≡ false → list_any (bytes_eq name) (input_names ds) ≡ false → v name ≡ 0

pub record SameStart (ds : List Declared) (vs : List View) (v w : Valuation) : Type 0 where
  pub registers : All (λ name. v name ≡ w name) (register_names ds vs)
  pub inputs : All (λ name. v name ≡ w name) (input_names ds)
