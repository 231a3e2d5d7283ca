-- Drivers by what they drive: tables from cells, and from signals, to lists of drivers.
use Rattle.std.specs.Prelude.{◌≡◌, ℕ, ◌+◌, ◌<◌, ◌^◌, Bool, false, not, ◌&&◌, ◌||◌}
use Rattle.std.specs.Prelude.{◌==◌, List, [], Option, Some, None, Vec, nat_lt, length}
use Rattle.std.specs.List.{list_any}
use Rattle.std.specs.BTreeMap.{is_at}
use Rattle.std.specs.Map.{lookup}
use Rattle.lv_spans.specs.declared.span.Span.{Span}
use Rattle.lv_spans.specs.Sets.{Cell, Masks, order, has, is_set, is_under}
use Rattle.lv_extents.specs.declared.extent.Extent.{Extent}
use Rattle.lv_schedule.specs.declared.drivers.Driver.{Driver}
use Rattle.lv_schedule.specs.declared.tables.Tables.{Tables}
use Rattle.lv_order.specs.Graphs.{Graph, edges_of, goes}
use Rattle.lv_schedule.specs.Drivers.{drivers_of, is_met, feeds}
use Rattle.lv_schedule.specs.Hubs.{Hubs, reaches}

abbrev pub items_of : {Z : Type 0} → Option (Vec Driver Z) → List Driver
items_of None = []
items_of (Some v) = v.items

abbrev pub listed : {Z : Type 0} → List (Cell × Vec Driver Z) → Cell → List Driver
listed m q = items_of (lookup (is_at (order q)) m)

-- the table has each of these drivers under its key
abbrev pub AreUnder : {Z : Type 0} → (Driver → Cell) → List Driver → List (Cell × Vec Driver Z) → Type 0
AreUnder key D m = (q : Cell) (P : Driver → Bool) → list_any P (listed m q) ≡ list_any (λ d. is_at (order q) (key d) && P d) D

abbrev pub cell_of : Driver → Cell
cell_of d = (d.span.signal, d.span.element)

abbrev pub signal_of : Driver → Cell
signal_of d = (d.span.signal, None)

-- one more under a key
abbrev pub IsAdded : {Z : Type 0} → Cell → Driver → List (Cell × Vec Driver Z) → List (Cell × Vec Driver Z) → Type 0
IsAdded cell d old new = (q : Cell) (P : Driver → Bool) → list_any P (listed new q) ≡ (list_any P (listed old q) || (is_at (order q) cell && P d))

-- it drives some bit
abbrev pub is_live : Driver → Bool
is_live d = not (d.span.mask == 0)

-- its mask has a bit that no value has
abbrev pub is_wide : Driver → Bool
is_wide d = not (nat_lt d.span.mask (2 ^ 128))

abbrev pub drives_bit : Cell → ℕ → Driver → Bool
drives_bit q i d = is_under d.span.signal d.span.element q && is_set d.span.mask i

-- the tables have these drivers
pub record AreTables (D : List Driver) (t : Tables) : Type 0 where
  pub cells : AreUnder cell_of D t.cells.lists.entries
  pub signals : AreUnder signal_of D t.signals.lists.entries
  pub driven : (q : Cell) (i : ℕ) → has t.driven q i ≡ list_any (drives_bit q i) D
  pub narrow : list_any is_wide D ≡ false

-- the set has what the part drives, if this is asked for
abbrev pub IsOwn : List Driver → ℕ → Bool → Masks → Type 0
IsOwn D part alone own = (q : Cell) (i : ℕ) → has own q i ≡ (alone && list_any (λ d. (d.part == part) && drives_bit q i d) D)

-- each bit of the signal that is driven is at a place of the span
abbrev pub IsCovering : List Driver → Span → Type 0
IsCovering D r = (q : Cell) (i : ℕ) → q.0 ≡ r.signal → is_set r.mask i ≡ false → i < 128 → list_any (drives_bit q i) D ≡ false

-- the signal's hub leads to the part of this driver
abbrev pub is_live_at : ℕ → Driver → Bool
is_live_at s d = (d.span.signal == s) && is_live d

abbrev pub drives_signal : List Driver → ℕ → ℕ → Bool
drives_signal D s k = list_any (λ d. is_live_at s d && (d.part == k)) D

-- the span is read of just those parts to which its signal's hub leads
pub record IsWhole (D : List Driver) (count part : ℕ) (alone : Bool) (r : Span) : Type 0 where
  pub below : r.signal < count
  pub same : (k : ℕ) → list_any (λ d. is_met part alone r d && (d.part == k)) D ≡ drives_signal D r.signal k

-- ---- edges

-- with the parts of which the span is read, of these drivers
abbrev pub AddsMet : ℕ → Bool → Span → List Driver → List ℕ → List ℕ → Type 0
AddsMet part alone r D old new = (P : ℕ → Bool) → list_any P new ≡ (list_any P old || list_any (λ d. is_met part alone r d && P d.part) D)

-- with the parts of those that drive some bit
abbrev pub AddsLive : List Driver → List ℕ → List ℕ → Type 0
AddsLive D old new = (P : ℕ → Bool) → list_any P new ≡ (list_any P old || list_any (λ d. is_live d && P d.part) D)

abbrev pub AreLive : List Driver → List ℕ → Type 0
AreLive D row = (P : ℕ → Bool) → list_any P row ≡ list_any (λ d. is_live d && P d.part) D

-- the parts that drive some bit of the signal
abbrev pub AreLiveAt : ℕ → List Driver → List ℕ → Type 0
AreLiveAt s D row = (P : ℕ → Bool) → list_any P row ≡ list_any (λ d. is_live_at s d && P d.part) D

abbrev pub hubs_of : List Extent → ℕ → Hubs
hubs_of xs count = record { parts = length xs; count = count; feeds = feeds xs; drives = drives_signal (drivers_of 0 xs) }

-- some edge leads out of the graph
abbrev pub leads_out : List Extent → ℕ → List ℕ → Bool
leads_out xs count row = list_any (λ w. not (nat_lt w (length xs + count))) row

-- the new edges lead to the parts of which a span is read too
pub record AddsSpan (xs : List Extent) (count part : ℕ) (alone : Bool) (r : Span) (old new : List ℕ) : Type 0 where
  pub reach : (k : ℕ) → reaches (hubs_of xs count) new k
      ≡ (reaches (hubs_of xs count) old k || list_any (λ d. is_met part alone r d && (d.part == k)) (drivers_of 0 xs))
  pub within : leads_out xs count old ≡ false → leads_out xs count new ≡ false

-- to those of which some span is read
pub record AddsSpans (xs : List Extent) (count part : ℕ) (alone : Bool) (rs : List Span) (old new : List ℕ) : Type 0 where
  pub reach : (k : ℕ) → reaches (hubs_of xs count) new k
      ≡ (reaches (hubs_of xs count) old k || list_any (λ r. list_any (λ d. is_met part alone r d && (d.part == k)) (drivers_of 0 xs)) rs)
  pub within : leads_out xs count old ≡ false → leads_out xs count new ≡ false

-- the edges of a part
pub record IsRow (xs : List Extent) (count part : ℕ) (row : List ℕ) : Type 0 where
  pub reach : (k : ℕ) → reaches (hubs_of xs count) row k ≡ feeds xs part k
  pub within : leads_out xs count row ≡ false

-- those of the first n parts
pub record ArePartRows (xs : List Extent) (count n : ℕ) (E : Graph) : Type 0 where
  pub size : length E ≡ n
  pub each : (j : ℕ) → j < n → IsRow xs count j (edges_of E j)

-- and those of the first hubs
pub record AreRows (xs : List Extent) (count n : ℕ) (E : Graph) : Type 0 where
  pub size : length E ≡ length xs + n
  pub parts : (j : ℕ) → j < length xs → IsRow xs count j (edges_of E j)
  pub hubs : (s k : ℕ) → s < n → goes E (length xs + s) k ≡ drives_signal (drivers_of 0 xs) s k
