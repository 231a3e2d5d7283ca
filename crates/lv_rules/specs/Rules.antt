-- What is asked of the parts of a flat design, and what is answered.
use Rattle.std.specs.Prelude.{◌≡◌, ℕ, ◌<◌, Bool, true, false, not, ◌&&◌, ◌==◌, List, [], ◌∷◌, ◌++◌, map, length, Option, Some, None, filter, flat_map, slice_get, Contains}
use Rattle.std.specs.List.{list_any, list_all}
use Rattle.lv_ast.specs.Names.{Name}
use Rattle.lv_source.specs.Names.{Declared, Sort, Other, is_signal_sort, is_variable_sort, is_input_sort, is_clock_sort}
use Rattle.lv_source.specs.Parts.{At}
use Rattle.lv_source.specs.PartRules.{told_if}
use Rattle.lv_source.specs.ScopeRules.{same_sign}
use Rattle.lv_source.specs.Summary.{leaves_latch, exposes_own}
use Rattle.lv_source.specs.Views.{Way, Continuous, Combinational, Edge, View, is_continuous, is_combinational, at_view, aimed_at}
use Rattle.lv_source.specs.Views.{is_wrong_view, edge_places, clock_aims, seen_places, unfixed_views, wrong_views, clock_views, named_clocks, nonblocking_views, latch_views, first_views}
use Rattle.lv_flat.specs.declared.sort.Sort as flat
use Rattle.lv_flat.specs.Signals.{Signals, sort_of}
use Rattle.lv_extents.specs.declared.extent.Aim.{Aim}
use Rattle.lv_extents.specs.declared.extent.Step.{Step}
use Rattle.lv_extents.specs.declared.extent.Extent.{Extent}
use Rattle.lv_extents.specs.Extents.{AreExtents, way_of, all_aims}
use Rattle.lv_rules.specs.declared.told.Told.{Told}
use Rattle.lv_rules.specs.declared.local.LocalRule.{LocalRule}
use Rattle.lv_rules.specs.declared.local.LocalRule.TheVariants.{Unfixed, WrongKind, ClockUse, NamedClock, Nonblocking, Latch, ReadFirst}

-- the signals of a flat design, without its clocks
abbrev pub unclocked : Signals → List Declared
unclocked S = filter (λ x. is_signal_sort x.sort) S

-- ---- answers

abbrev pub path_of : List View → ℕ → Name
path_of vs k = elim (slice_get vs k) [ None ↦ [] | Some v ↦ v.at.path ]

-- nothing is told, or this of a part
abbrev pub IsAnswer : List View → List At → Option Told → Type 0
IsAnswer vs ats None = ats ≡ []
IsAnswer vs ats (Some t) = (t.part < length vs) × Contains ats (record { path = path_of vs t.part; place = t.place })

-- of all views of the parts
abbrev pub IsToldBy : Signals → List Extent → (List View → List At) → Option Told → Type 0
IsToldBy S xs rule o = (vs : List View) → AreExtents S vs xs → IsAnswer vs (rule vs) o

-- ---- the rules that look at one part alone

abbrev pub local_views : LocalRule → List Declared → List View → List At
local_views Unfixed ss vs = unfixed_views vs
local_views WrongKind ss vs = wrong_views ss vs
local_views ClockUse ss vs = clock_views vs
local_views NamedClock ss vs = named_clocks vs
local_views Nonblocking ss vs = nonblocking_views vs
local_views Latch ss vs = latch_views vs
local_views ReadFirst ss vs = first_views vs

-- what is told of one
abbrev pub local_at : LocalRule → List Declared → View → List At
local_at Unfixed ss v = told_if (is_continuous v.way && not (list_all (λ a. a.sure) v.targets)) (aimed_at v)
local_at WrongKind ss v = told_if (is_wrong_view ss v) (aimed_at v)
local_at ClockUse ss v = edge_places v ++ clock_aims v
local_at NamedClock ss v = map (at_view v) v.clocks
local_at Nonblocking ss v = flat_map (seen_places v) (filter (λ e. is_combinational v.way && not e.at_once) v.events)
local_at Latch ss v = told_if (is_combinational v.way && leaves_latch v.paths) (v.at ∷ [])
local_at ReadFirst ss v = told_if (is_combinational v.way && exposes_own v.paths) (v.at ∷ [])

abbrev pub IsPlace : View → List At → Option ℕ → Type 0
IsPlace v ats None = ats ≡ []
IsPlace v ats (Some place) = Contains ats (at_view v place)

-- ---- ways and sorts

abbrev pub sort_or : Option flat.Sort → Sort
sort_or None = Other
sort_or (Some sort) = sort_of sort

abbrev pub is_other_edge : Way → Bool
is_other_edge Continuous = false
is_other_edge Combinational = false
is_other_edge (Edge sort place) = not (is_clock_sort sort)

abbrev pub is_misaimed : Way → Sort → Bool
is_misaimed Continuous sort = is_variable_sort sort
is_misaimed Combinational sort = is_signal_sort sort && not (is_variable_sort sort)
is_misaimed (Edge s place) sort = is_signal_sort sort && not (is_variable_sort sort)

abbrev pub is_misdriven : Way → Sort → Bool
is_misdriven way sort = not (same_sign (not (is_continuous way)) (is_variable_sort sort)) && not (is_input_sort sort)

-- ---- names in targets, and steps

-- an index of it isn't constant
abbrev pub is_unsure : Aim → Bool
is_unsure a = not a.sure

abbrev pub is_clock_aim : Aim → Bool
is_clock_aim a = is_clock_sort (sort_of a.sort)

abbrev pub aim_place : Aim → ℕ
aim_place a = a.place

abbrev pub is_late_step : Step → Bool
is_late_step s = not s.at_once

abbrev pub step_place : Step → ℕ
step_place s = s.place

abbrev pub step_aims : List Step → List Aim
step_aims steps = flat_map (λ s. s.aims) steps

-- none is so, or one with this place
abbrev pub IsFound : {X : Type 0} → (X → Bool) → (X → ℕ) → List X → Option ℕ → Type 0
IsFound p place xs None = list_any p xs ≡ false
IsFound p place xs (Some n) = list_any (λ x. p x && (place x == n)) xs ≡ true

abbrev pub clock_place_by : Bool → Extent → Option ℕ → Type 0
clock_place_by true x o = o ≡ Some x.place
clock_place_by false x o = IsFound is_clock_aim aim_place (all_aims x) o

abbrev pub IsClockPlace : Extent → Option ℕ → Type 0
IsClockPlace x o = clock_place_by (is_other_edge (way_of x.way)) x o
