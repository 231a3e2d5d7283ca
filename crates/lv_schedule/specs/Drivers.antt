-- What the parts without a clock drive, and which of it a part reads.
use Rattle.std.specs.Prelude.{ℕ, suc, Bool, true, false, not, ◌&&◌, ◌==◌, if◌then◌else◌, List, [], ◌∷◌, ◌++◌, map, Option, Some, None, bit_and, slice_get}
use Rattle.std.specs.List.{list_any}
use Rattle.lv_source.specs.Views.{is_edge, is_combinational}
use Rattle.lv_spans.specs.declared.span.Span.{Span}
use Rattle.lv_extents.specs.declared.extent.Extent.{Extent}
use Rattle.lv_extents.specs.Extents.{way_of}
use Rattle.lv_schedule.specs.declared.drivers.Driver.{Driver}

abbrev pub driver : ℕ → Span → Driver
driver k t = record { part = k; span = t }

abbrev pub part_drivers : ℕ → Extent → List Driver
part_drivers k x = if is_edge (way_of x.way) then [] else map (driver k) x.drives

-- those of parts from one number on
abbrev pub drivers_of : ℕ → List Extent → List Driver
drivers_of k [] = []
drivers_of k (x ∷ xs) = part_drivers k x ++ drivers_of (suc k) xs

-- ---- spans that share a bit

-- one element, or one and all
abbrev pub is_element_of_both : Option ℕ → Option ℕ → Bool
is_element_of_both None e = true
is_element_of_both (Some k) None = true
is_element_of_both (Some k) (Some j) = k == j

abbrev pub shares : Span → Span → Bool
shares r t = (r.signal == t.signal) && (is_element_of_both r.element t.element && not (bit_and r.mask t.mask == 0))

-- ---- what a part reads

-- the span is read of the driver; what a part drives itself counts unless it is `alone`
abbrev pub is_met : ℕ → Bool → Span → Driver → Bool
is_met part alone r d = shares r d.span && not (alone && (d.part == part))

-- the part reads a bit that part k drives
abbrev pub feeds_by : List Driver → ℕ → Extent → ℕ → Bool
feeds_by D part x k =
    not (is_edge (way_of x.way)) && list_any (λ r. list_any (λ d. is_met part (is_combinational (way_of x.way)) r d && (d.part == k)) D) x.reads

abbrev pub feeds : List Extent → ℕ → ℕ → Bool
feeds xs j k = elim (slice_get xs j) [ None ↦ false | Some x ↦ feeds_by (drivers_of 0 xs) j x k ]

-- the part is one without a clock
abbrev pub is_unclocked : List Extent → ℕ → Bool
is_unclocked xs k = elim (slice_get xs k) [ None ↦ false | Some x ↦ not (is_edge (way_of x.way)) ]
