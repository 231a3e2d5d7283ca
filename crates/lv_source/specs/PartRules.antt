-- The rules that the parts of a design can break, one by one, each with the places where it is told.
use Rattle.std.specs.Prelude.{ℕ, suc, Bool, true, false, not, ◌&&◌, ◌||◌, if◌then◌else◌, ◌==◌, List, [], ◌∷◌, ◌++◌, map, take, drop, Some, None, flat_map, filter, slice_get}
use Rattle.std.specs.List.{list_any, list_all}
use Rattle.lv_ast.specs.Names.{alone}
use Rattle.lv_source.specs.Names.{Declared, known, is_variable_sort, is_input_sort, is_clock_sort, is_signal_sort}
use Rattle.lv_source.specs.Places.{Bit, has_bit, whole}
use Rattle.lv_source.specs.Meaning.{all_constant}
use Rattle.lv_source.specs.Effect.{Piece}
use Rattle.lv_source.specs.Flow.{Event, event_writes, flow, writes_of, is_latch, is_read_first}
use Rattle.lv_source.specs.Parts.{Design, Part, At, Assign, Comb, Clocked, signals_of, drives, reads, is_clocked, is_comb, driven_by, is_wired}
use Rattle.lv_source.specs.ScopeRules.{same_sign}

-- the other parts
abbrev pub others : {A : Type 0} → ℕ → List A → List A
others k ps = take k ps ++ drop (suc k) ps

abbrev pub at_place : Part → ℕ → At
at_place p place = record { path = p.at.path; place = place }

-- told at the part, or at a name that one of its targets has
abbrev pub events : Part → List Event
events p = elim p.body [ Assign ps value ↦ [] | Comb names s ↦ (flow names s).events | Clocked names c s ↦ (flow names s).events ]

abbrev pub targets : Part → List Piece
targets p = elim p.body [ Assign ps value ↦ ps | Comb names s ↦ flat_map (λ e. e.targets) (flow names s).events | Clocked names c s ↦ flat_map (λ e. e.targets) (flow names s).events ]

abbrev pub target_places : Part → List At
target_places p = p.at ∷ map (λ q. at_place p q.path.place) (targets p)

abbrev pub told_if : Bool → List At → List At
told_if holds ats = if holds then ats else []

-- a variable or net with a bit of the list
abbrev pub touches : List Bit → Declared → Bool
touches bs d = list_any (has_bit (whole d)) bs

-- ---- NotConstant: an index in the target of a continuous assignment, or of an output's connection

abbrev pub is_unfixed : Part → Bool
is_unfixed p = elim p.body [ Assign ps value ↦ not (list_all (λ q. all_constant q.choices) ps) | Comb names s ↦ false | Clocked names c s ↦ false ]

abbrev pub unfixed_targets : Part → List At
unfixed_targets p = told_if (is_unfixed p) (target_places p)

-- ---- WrongKind: a continuous target that is a `reg`, or a block's that isn't

abbrev pub is_no_reg : Piece → Bool
is_no_reg q = is_signal_sort (known q.declared).sort && not (is_variable_sort (known q.declared).sort)

abbrev pub is_reg_piece : Piece → Bool
is_reg_piece q = is_variable_sort (known q.declared).sort

abbrev pub is_block : Part → Bool
is_block p = elim p.body [ Assign ps value ↦ false | Comb names s ↦ true | Clocked names c s ↦ true ]

-- by the target's own declaration, or by that of a signal of which it drives a bit
abbrev pub is_wrong_kind : Design → Part → Bool
is_wrong_kind d p =
    list_any (if is_block p then is_no_reg else is_reg_piece) (targets p) ||
    list_any (λ x. touches (drives p) x && not (same_sign (is_block p) (is_variable_sort x.sort)) && not (is_input_sort x.sort)) (signals_of d)

abbrev pub wrong_kinds : Design → Part → List At
wrong_kinds d p = told_if (is_wrong_kind d p) (target_places p)

-- ---- ClockUse: `posedge` before another name

abbrev pub is_other_clock : Part → Bool
is_other_clock p = elim p.body [ Assign ps value ↦ false | Comb names s ↦ false | Clocked names c s ↦ not (is_clock_sort (known (names (alone c.name))).sort) ]

abbrev pub clock_places : Part → List At
clock_places p = elim p.body [ Assign ps value ↦ [] | Comb names s ↦ [] | Clocked names c s ↦ p.at ∷ at_place p c.place ∷ [] ]

abbrev pub other_clocks : Part → List At
other_clocks p = told_if (is_other_clock p) (clock_places p)

-- ---- ClockUse: a clock name as a target, that of a `wire` with a value too

abbrev pub is_clock_piece : Piece → Bool
is_clock_piece q = is_clock_sort (known q.declared).sort

abbrev pub clock_targets : Part → List At
clock_targets p = map (λ q. at_place p q.path.place) (filter is_clock_piece (targets p))

-- ---- Nonblocking: `<=` in a combinational block

-- told at the first token of the target, or at its first name
abbrev pub first_name : List Piece → List ℕ
first_name [] = []
first_name (q ∷ qs) = q.path.place ∷ []

abbrev pub event_places : Part → Event → List At
event_places p e = map (at_place p) (e.place ∷ first_name e.targets)

abbrev pub nonblocking : Part → List At
nonblocking p = flat_map (event_places p) (filter (λ e. is_comb p && not e.at_once) (events p))

-- ---- Blocking: a clocked block writes a variable by `=`, and some bit of it is written by `<=` as well, or is read by another part

abbrev pub is_shared : List Part → ℕ → Declared → Bool
is_shared ps k x =
    list_any (λ q. is_clocked q && list_any (λ e. not e.at_once && touches (event_writes e) x) (events q)) ps ||
    list_any (λ q. touches (reads q) x) (others k ps)

abbrev pub is_blocking : Design → List Part → ℕ → Event → Bool
is_blocking d ps k e = e.at_once && list_any (λ x. is_variable_sort x.sort && touches (event_writes e) x && is_shared ps k x) (signals_of d)

abbrev pub blocking : Design → List Part → ℕ → Part → List At
blocking d ps k p = if is_clocked p then flat_map (event_places p) (filter (is_blocking d ps k) (events p)) else []

-- ---- TwoDrivers

abbrev pub has_twice : List Bit → Bool
has_twice [] = false
has_twice (b ∷ bs) = has_bit bs b || has_twice bs

-- the target of a part that is no block names one bit twice
abbrev pub is_twice_named : Part → Bool
is_twice_named p = elim p.body [ Assign ps value ↦ has_twice (writes_of ps) | Comb names s ↦ false | Clocked names c s ↦ false ]

-- a variable has bits of a clocked and of another part
abbrev pub is_mixed : List Part → Part → Declared → Bool
is_mixed ps p x = is_variable_sort x.sort && touches (drives p) x && list_any (λ q. touches (drives q) x && not (same_sign (is_clocked p) (is_clocked q))) ps

abbrev pub is_two_drivers : Design → List Part → ℕ → Part → Bool
is_two_drivers d ps k p =
    list_any (driven_by (others k ps)) (drives p) ||
    is_twice_named p ||
    list_any (λ x. is_input_sort x.sort && touches (drives p) x) (signals_of d) ||
    list_any (is_mixed ps p) (signals_of d)

abbrev pub two_drivers : Design → List Part → ℕ → Part → List At
two_drivers d ps k p = told_if (is_two_drivers d ps k p) (target_places p)

-- ---- Undriven: the part reads a bit of a net or combinational variable that no part drives

abbrev pub is_undriven : Design → List Part → Part → Bool
is_undriven d ps p = list_any (λ x. is_wired ps x && list_any (λ b. has_bit (whole x) b && not (driven_by ps b)) (reads p)) (signals_of d)

abbrev pub undriven : Design → List Part → Part → List At
undriven d ps p = told_if (is_undriven d ps p) (p.at ∷ [])

-- ---- Latch and ReadFirst

abbrev pub has_latch : Part → Bool
has_latch p = elim p.body [ Assign ps value ↦ false | Comb names s ↦ is_latch (flow names s) | Clocked names c s ↦ false ]

abbrev pub latches : Part → List At
latches p = told_if (has_latch p) (p.at ∷ [])

abbrev pub reads_itself_first : Part → Bool
reads_itself_first p = elim p.body [ Assign ps value ↦ false | Comb names s ↦ is_read_first (flow names s) | Clocked names c s ↦ false ]

abbrev pub read_first : Part → List At
read_first p = told_if (reads_itself_first p) (p.at ∷ [])

-- ---- Cycle

-- the first part reads a bit that the second drives; what a combinational block reads of itself doesn't count
abbrev pub is_feeding : ℕ → ℕ → Part → Part → Bool
is_feeding j k p q = not (is_clocked p) && not (is_clocked q) && not ((j == k) && is_comb p) && list_any (has_bit (drives q)) (reads p)

abbrev pub feeds : List Part → ℕ → ℕ → Bool
feeds ps j k = elim (slice_get ps j) [ None ↦ false | Some p ↦ elim (slice_get ps k) [ None ↦ false | Some q ↦ is_feeding j k p q ] ]

-- each reads a bit that the next drives, and the last one a bit of the first
abbrev pub is_chain : List Part → ℕ → List ℕ → Bool
is_chain ps first [] = false
is_chain ps first (k ∷ []) = feeds ps k first
is_chain ps first (k ∷ j ∷ ks) = feeds ps k j && is_chain ps first (j ∷ ks)

abbrev pub are_distinct : List ℕ → Bool
are_distinct [] = true
are_distinct (k ∷ ks) = not (list_any (λ j. j == k) ks) && are_distinct ks

abbrev pub is_cycle : List Part → List ℕ → Bool
is_cycle ps [] = false
is_cycle ps (k ∷ ks) = are_distinct (k ∷ ks) && is_chain ps k (k ∷ ks)
