-- The table of drivers: for each bit the numbers of the parts that drive it, and the rules that can be told by it.
use Rattle.std.specs.Prelude.{◌≡◌, ℕ, suc, Bool, true, false, not, ◌&&◌, ◌||◌, ◌==◌, List, [], ◌∷◌, Option, Some, None, filter, find, slice_get}
use Rattle.std.specs.List.{list_any}
use Rattle.lv_source.specs.Names.{Declared, Valuation, is_variable_sort, is_input_sort}
use Rattle.lv_source.specs.Places.{Bit, has_bit, whole}
use Rattle.lv_source.specs.Meaning.{is_nil}
use Rattle.lv_source.specs.Parts.{At}
use Rattle.lv_source.specs.PartRules.{told_if, touches, has_twice}
use Rattle.lv_source.specs.ScopeRules.{same_sign}
use Rattle.lv_source.specs.Views.{View, is_edge, is_combinational, is_continuous, at_views, aimed_at, two_views, undriven_views, view_registers, next_view_bit, left_view_bit}

abbrev pub Drivers : Type 0
Drivers = Bit → List ℕ

abbrev pub with_number : Bool → ℕ → List ℕ → List ℕ
with_number true k ks = k ∷ ks
with_number false k ks = ks

-- of parts that are numbered from k on
abbrev pub drivers_from : ℕ → List View → Drivers
drivers_from k [] b = []
drivers_from k (v ∷ vs) b = with_number (has_bit v.drives b) k (drivers_from (suc k) vs b)

abbrev pub drivers : List View → Drivers
drivers vs b = drivers_from 0 vs b

-- ---- the parts that stand in the table

abbrev pub holds_of : (View → Bool) → Option View → Bool
holds_of q None = false
holds_of q (Some v) = q v

-- of the part with this number
abbrev pub holds_at : List View → (View → Bool) → ℕ → Bool
holds_at vs q k = holds_of q (slice_get vs k)

abbrev pub has_other : Drivers → ℕ → Bit → Bool
has_other table k b = list_any (λ j. not (j == k)) (table b)

-- some bit of the signal has a driver of this kind
abbrev pub some_driver : List View → Drivers → (View → Bool) → Declared → Bool
some_driver vs table q x = list_any (λ b. list_any (holds_at vs q) (table b)) (whole x)

-- ---- TwoDrivers

abbrev pub is_mixed_by : List View → Drivers → View → Declared → Bool
is_mixed_by vs table v x = is_variable_sort x.sort && touches v.drives x && some_driver vs table (λ w. not (same_sign (is_edge v.way) (is_edge w.way))) x

abbrev pub is_two_by : List Declared → List View → Drivers → ℕ → View → Bool
is_two_by ss vs table k v =
    list_any (has_other table k) v.drives ||
    is_continuous v.way && has_twice v.drives ||
    list_any (λ x. is_input_sort x.sort && touches v.drives x) ss ||
    list_any (is_mixed_by vs table v) ss

abbrev pub two_by : List Declared → List View → Drivers → List At
two_by ss vs table = at_views vs (λ k v. told_if (is_two_by ss vs table k v) (aimed_at v))

-- ---- Undriven

abbrev pub is_register_by : List View → Drivers → Declared → Bool
is_register_by vs table x = is_variable_sort x.sort && not (some_driver vs table (λ w. is_combinational w.way) x)

abbrev pub is_wired_by : List View → Drivers → Declared → Bool
is_wired_by vs table x = not (is_input_sort x.sort) && not (is_register_by vs table x)

abbrev pub is_undriven_by : List Declared → List View → Drivers → View → Bool
is_undriven_by ss vs table v = list_any (λ x. is_wired_by vs table x && list_any (λ b. has_bit (whole x) b && is_nil (table b)) v.reads) ss

abbrev pub undriven_by : List Declared → List View → Drivers → List At
undriven_by ss vs table = at_views vs (λ k v. told_if (is_undriven_by ss vs table v) (v.at ∷ []))

-- ---- the next value of a bit

abbrev pub view_at : List View → Option ℕ → Option View
view_at vs None = None
view_at vs (Some k) = slice_get vs k

abbrev pub next_by : List View → Drivers → Valuation → Bit → ℕ
next_by vs table v b = left_view_bit v b (view_at vs (find (holds_at vs (λ w. is_edge w.way)) (table b)))

-- ---- what the table tells

pub record AreDriven (ss : List Declared) (vs : List View) (table : Drivers) : Type 0 where
  pub two : two_views ss vs ≡ two_by ss vs table
  pub undriven : undriven_views ss vs ≡ undriven_by ss vs table
  pub registers : view_registers ss vs ≡ filter (is_register_by vs table) ss
  pub next : (v : Valuation) (b : Bit) → next_view_bit vs v b ≡ next_by vs table v b
