-- What the rules on parts, settled valuations and the next state depend on: the signals, and a view of each part, without trees and names.
use Rattle.std.specs.Prelude.{◌≡◌, ◌↔◌, ℕ, ◌<◌, ◌^◌, Bool, true, false, not, ◌&&◌, ◌||◌, if◌then◌else◌, ◌==◌, List, [], ◌∷◌, ◌++◌, map, Option, Some, None, All, flat_map, filter, find, slice_get, bytes_eq}
use Rattle.std.specs.List.{list_any, list_all}
use Rattle.lv_ast.specs.Names.{Name, alone}
use Rattle.lv_source.specs.Names.{Sort, Declared, Valuation, known, is_variable_sort, is_input_sort, is_clock_sort, is_signal_sort}
use Rattle.lv_source.specs.Places.{Bit, has_bit, whole, cells, bits_below, bit_at}
use Rattle.lv_source.specs.Meaning.{all_constant, bits_named}
use Rattle.lv_source.specs.Effect.{Piece}
use Rattle.lv_source.specs.Flow.{Event}
use Rattle.lv_source.specs.Summary.{Summary, nothing_done, summary, leaves_latch, exposes_own}
use Rattle.lv_source.specs.Parts.{Design, Part, Body, At, Assign, Comb, Clocked, parts, signals_of, drives, reads, after, register_signals, width_from, numbered_from}
use Rattle.lv_source.specs.PartRules.{told_if, touches, others, has_twice, are_distinct, is_cycle, targets, events}
use Rattle.lv_source.specs.ScopeRules.{same_sign}
use Rattle.lv_source.specs.Settled.{IsSettled, Follows, next_bit, register_bits}
use Rattle.lv_source.specs.Legal.{WrongKind, NotConstant, ClockUse, Blocking, Nonblocking, TwoDrivers, Undriven, Latch, ReadFirst, places_of, at_parts}
use Rattle.lv_source.specs.Faults.{part_faults}

-- a name in a target
pub record Aim : Type 0 where
  -- what it is declared as
  pub sort : Sort
  -- the bits that it may write
  pub bits : List Bit
  -- no index of it depends on a signal
  pub sure : Bool
  pub place : ℕ

-- a step of a block
pub record Seen : Type 0 where
  pub reads : List Bit
  pub targets : List Aim
  pub at_once : Bool
  pub place : ℕ

pub data Way : Type 0 where
  Continuous : Way
  Combinational : Way
  -- with what the name behind `posedge` is declared as, and its place
  Edge : (sort : Sort) → (place : ℕ) → Way

pub record View : Type 0 where
  pub at : At
  pub way : Way
  -- the places of clock names in it
  pub clocks : List ℕ
  pub drives : List Bit
  pub reads : List Bit
  pub targets : List Aim
  -- of a block
  pub events : List Seen
  pub paths : Summary
  pub after : Valuation → Valuation

-- ---- the view of a part of a source

abbrev pub aim_of : Piece → Aim
aim_of q = record { sort = (known q.declared).sort; bits = bits_named (known q.declared) q.choices; sure = all_constant q.choices; place = q.path.place }

abbrev pub seen_of : Event → Seen
seen_of e = record { reads = e.reads; targets = map aim_of e.targets; at_once = e.at_once; place = e.place }

abbrev pub way_of : Body → Way
way_of (Assign ps value) = Continuous
way_of (Comb names s) = Combinational
way_of (Clocked names c s) = Edge (known (names (alone c.name))).sort c.place

abbrev pub paths_of : Body → Summary
paths_of (Assign ps value) = nothing_done
paths_of (Comb names s) = summary names s
paths_of (Clocked names c s) = summary names s

abbrev pub view_of : Part → View
view_of p = record {
  at = p.at;
  way = way_of p.body;
  clocks = p.clocks;
  drives = drives p;
  reads = reads p;
  targets = map aim_of (targets p);
  events = map seen_of (events p);
  paths = paths_of p.body;
  after = after p;
}

abbrev pub views_of : Design → List View
views_of d = map view_of (parts d)

-- ---- ways

abbrev pub is_edge : Way → Bool
is_edge (Edge sort place) = true
is_edge _ = false

abbrev pub is_combinational : Way → Bool
is_combinational Combinational = true
is_combinational _ = false

abbrev pub is_continuous : Way → Bool
is_continuous Continuous = true
is_continuous _ = false

-- ---- places

abbrev pub at_view : View → ℕ → At
at_view v place = record { path = v.at.path; place = place }

abbrev pub aimed_at : View → List At
aimed_at v = v.at ∷ map (λ a. at_view v a.place) v.targets

abbrev pub at_views : List View → (ℕ → View → List At) → List At
at_views vs f = flat_map (λ kv. f kv.0 kv.1) (numbered_from 0 vs)

-- ---- NotConstant, of targets

abbrev pub unfixed_views : List View → List At
unfixed_views vs = at_views vs (λ k v. told_if (is_continuous v.way && not (list_all (λ a. a.sure) v.targets)) (aimed_at v))

-- ---- WrongKind

-- a target that can't be of this way
abbrev pub is_wrong_aim : Way → Aim → Bool
is_wrong_aim way a = if is_continuous way then is_variable_sort a.sort else is_signal_sort a.sort && not (is_variable_sort a.sort)

abbrev pub is_wrong_view : List Declared → View → Bool
is_wrong_view ss v =
    list_any (is_wrong_aim v.way) v.targets ||
    list_any (λ x. touches v.drives x && not (same_sign (not (is_continuous v.way)) (is_variable_sort x.sort)) && not (is_input_sort x.sort)) ss

abbrev pub wrong_views : List Declared → List View → List At
wrong_views ss vs = at_views vs (λ k v. told_if (is_wrong_view ss v) (aimed_at v))

-- ---- ClockUse, of parts

abbrev pub edge_places : View → List At
edge_places v = elim v.way [ Continuous ↦ [] | Combinational ↦ [] | Edge sort place ↦ told_if (not (is_clock_sort sort)) (v.at ∷ at_view v place ∷ []) ]

abbrev pub clock_aims : View → List At
clock_aims v = map (λ a. at_view v a.place) (filter (λ a. is_clock_sort a.sort) v.targets)

abbrev pub clock_views : List View → List At
clock_views vs = at_views vs (λ k v. edge_places v ++ clock_aims v)

-- the clock of this path is among what is declared
abbrev pub lists_clock : Name → List Declared → Bool
lists_clock path ss = list_any (λ x. is_clock_sort x.sort && bytes_eq x.path path) ss

-- of the top, which has the name at this path
abbrev pub unlisted_clock : Name → List Declared → List At
unlisted_clock path ss = told_if (not (lists_clock path ss)) (record { path = []; place = 0 } ∷ [])

-- in expressions and targets
abbrev pub named_clocks : List View → List At
named_clocks vs = at_views vs (λ k v. map (at_view v) v.clocks)

-- ---- Nonblocking and Blocking

abbrev pub first_aim : List Aim → List ℕ
first_aim [] = []
first_aim (a ∷ as') = a.place ∷ []

abbrev pub seen_places : View → Seen → List At
seen_places v e = map (at_view v) (e.place ∷ first_aim e.targets)

abbrev pub nonblocking_views : List View → List At
nonblocking_views vs = at_views vs (λ k v. flat_map (seen_places v) (filter (λ e. is_combinational v.way && not e.at_once) v.events))

abbrev pub seen_writes : Seen → List Bit
seen_writes e = flat_map (λ a. a.bits) e.targets

abbrev pub is_shared_view : List View → ℕ → Declared → Bool
is_shared_view vs k x =
    list_any (λ w. is_edge w.way && list_any (λ e. not e.at_once && touches (seen_writes e) x) w.events) vs ||
    list_any (λ w. touches w.reads x) (others k vs)

abbrev pub is_blocking_seen : List Declared → List View → ℕ → Seen → Bool
is_blocking_seen ss vs k e = e.at_once && list_any (λ x. is_variable_sort x.sort && touches (seen_writes e) x && is_shared_view vs k x) ss

abbrev pub blocking_views : List Declared → List View → List At
blocking_views ss vs = at_views vs (λ k v. if is_edge v.way then flat_map (seen_places v) (filter (is_blocking_seen ss vs k) v.events) else [])

-- ---- TwoDrivers

abbrev pub view_driven : List View → Bit → Bool
view_driven vs b = list_any (λ v. has_bit v.drives b) vs

abbrev pub view_read : List View → Bit → Bool
view_read vs b = list_any (λ v. has_bit v.reads b) vs

abbrev pub is_mixed_view : List View → View → Declared → Bool
is_mixed_view vs v x = is_variable_sort x.sort && touches v.drives x && list_any (λ w. touches w.drives x && not (same_sign (is_edge v.way) (is_edge w.way))) vs

-- but for mixed variables
abbrev pub is_two_view_but : List Declared → List View → ℕ → View → Bool
is_two_view_but ss vs k v =
    list_any (view_driven (others k vs)) v.drives ||
    is_continuous v.way && has_twice v.drives ||
    list_any (λ x. is_input_sort x.sort && touches v.drives x) ss

abbrev pub is_two_view : List Declared → List View → ℕ → View → Bool
is_two_view ss vs k v = is_two_view_but ss vs k v || list_any (is_mixed_view vs v) ss

abbrev pub two_views : List Declared → List View → List At
two_views ss vs = at_views vs (λ k v. told_if (is_two_view ss vs k v) (aimed_at v))

-- ---- Undriven

-- a variable that no combinational block drives
abbrev pub is_register_view : List View → Declared → Bool
is_register_view vs x = is_variable_sort x.sort && not (list_any (view_driven (filter (λ v. is_combinational v.way) vs)) (whole x))

abbrev pub is_wired_view : List View → Declared → Bool
is_wired_view vs x = not (is_input_sort x.sort) && not (is_register_view vs x)

abbrev pub is_undriven_view : List Declared → List View → View → Bool
is_undriven_view ss vs v = list_any (λ x. is_wired_view vs x && list_any (λ b. has_bit (whole x) b && not (view_driven vs b)) v.reads) ss

abbrev pub undriven_views : List Declared → List View → List At
undriven_views ss vs = at_views vs (λ k v. told_if (is_undriven_view ss vs v) (v.at ∷ []))

-- ---- Latch and ReadFirst

abbrev pub latch_views : List View → List At
latch_views vs = at_views vs (λ k v. told_if (is_combinational v.way && leaves_latch v.paths) (v.at ∷ []))

abbrev pub first_views : List View → List At
first_views vs = at_views vs (λ k v. told_if (is_combinational v.way && exposes_own v.paths) (v.at ∷ []))

-- ---- Cycle

abbrev pub is_view_feeding : ℕ → ℕ → View → View → Bool
is_view_feeding j k v w = not (is_edge v.way) && not (is_edge w.way) && not ((j == k) && is_combinational v.way) && list_any (has_bit w.drives) v.reads

abbrev pub view_feeds : List View → ℕ → ℕ → Bool
view_feeds vs j k = elim (slice_get vs j) [ None ↦ false | Some v ↦ elim (slice_get vs k) [ None ↦ false | Some w ↦ is_view_feeding j k v w ] ]

abbrev pub is_view_chain : List View → ℕ → List ℕ → Bool
is_view_chain vs first [] = false
is_view_chain vs first (k ∷ []) = view_feeds vs k first
is_view_chain vs first (k ∷ j ∷ ks) = view_feeds vs k j && is_view_chain vs first (j ∷ ks)

abbrev pub is_view_cycle : List View → List ℕ → Bool
is_view_cycle vs [] = false
is_view_cycle vs (k ∷ ks) = are_distinct (k ∷ ks) && is_view_chain vs k (k ∷ ks)

-- ---- settled valuations and the next state

abbrev pub idle_view_bits : List Declared → List View → List Bit
idle_view_bits ss vs = filter (λ b. not (view_driven vs b) && not (view_read vs b)) (flat_map whole (filter (is_wired_view vs) ss))

pub record IsViewSettled (ss : List Declared) (vs : List View) (v : Valuation) : Type 0 where
  pub fits : (name : Name) → v name < 2 ^ width_from ss name
  pub holds : All (λ w. (name : Name) → w.after v name ≡ v name) (filter (λ w. not (is_edge w.way)) vs)
  pub idle : All (λ b. bit_at v b ≡ 0) (idle_view_bits ss vs)

abbrev pub left_view_bit : Valuation → Bit → Option View → ℕ
left_view_bit v b None = bit_at v b
left_view_bit v b (Some w) = bit_at (w.after v) b

abbrev pub next_view_bit : List View → Valuation → Bit → ℕ
next_view_bit vs v b = left_view_bit v b (find (λ w. is_edge w.way && has_bit w.drives b) vs)

abbrev pub view_registers : List Declared → List View → List Declared
view_registers ss vs = filter (is_register_view vs) ss

abbrev pub register_view_bits : List Declared → List View → List Bit
register_view_bits ss vs = flat_map (λ name. bits_below (width_from ss name) name) (flat_map cells (view_registers ss vs))

abbrev pub ViewFollows : List Declared → List View → Valuation → Valuation → Type 0
ViewFollows ss vs v w = All (λ b. bit_at w b ≡ next_view_bit vs v b) (register_view_bits ss vs)

-- ---- what is told of parts is told of their views

pub record AreViewed (d : Design) : Type 0 where
  pub wrong : places_of d WrongKind ≡ wrong_views (signals_of d) (views_of d)
  pub blocking : places_of d Blocking ≡ blocking_views (signals_of d) (views_of d)
  pub nonblocking : places_of d Nonblocking ≡ nonblocking_views (views_of d)
  pub two : places_of d TwoDrivers ≡ two_views (signals_of d) (views_of d)
  pub undriven : places_of d Undriven ≡ undriven_views (signals_of d) (views_of d)
  pub latch : places_of d Latch ≡ latch_views (views_of d)
  pub first : places_of d ReadFirst ≡ first_views (views_of d)
  -- what parts add to NotConstant and ClockUse
  pub unfixed : at_parts d (part_faults d NotConstant) ≡ unfixed_views (views_of d)
  pub clocks : at_parts d (part_faults d ClockUse) ≡ clock_views (views_of d)
  pub cycle : (ks : List ℕ) → is_cycle (parts d) ks ≡ is_view_cycle (views_of d) ks
  pub settled : (v : Valuation) → IsSettled d v ↔ IsViewSettled (signals_of d) (views_of d) v
  pub follows : (v w : Valuation) → Follows d v w ↔ ViewFollows (signals_of d) (views_of d) v w
  pub next : (v : Valuation) (b : Bit) → next_bit d v b ≡ next_view_bit (views_of d) v b
  pub registers : register_signals d ≡ view_registers (signals_of d) (views_of d)
  pub register_bits : register_bits d ≡ register_view_bits (signals_of d) (views_of d)
