-- Variables that are written at once and are used elsewhere, by extents.
use Rattle.std.specs.Prelude.{◌≡◌, ℕ, Bool, true, false, not, ◌&&◌, ◌||◌, ◌==◌, if◌then◌else◌, List, Option, Some, None, slice_index_or, slice_get}
use Rattle.std.specs.List.{list_any}
use Rattle.lv_source.specs.Names.{is_variable_sort}
use Rattle.lv_source.specs.Views.{is_edge}
use Rattle.lv_flat.specs.Signals.{Signals, signal_at}
use Rattle.lv_spans.specs.declared.span.Span.{Span}
use Rattle.lv_extents.specs.declared.extent.Aim.{Aim}
use Rattle.lv_extents.specs.declared.extent.Step.{Step}
use Rattle.lv_extents.specs.declared.extent.Extent.{Extent}
use Rattle.lv_extents.specs.Extents.{way_of}
use Rattle.lv_rules.specs.declared.told.Told.{Told}
use Rattle.lv_rules.specs.declared.readers.Reader.{Reader}
use Rattle.lv_rules.specs.declared.readers.Reader.TheVariants as r
use Rattle.lv_rules.specs.Rules.{IsFound, step_place}
use Rattle.lv_rules.specs.Drives.{is_marked, names}

-- ---- what steps write

abbrev pub aims_name : ℕ → List Aim → Bool
aims_name s aims = list_any (λ a. names s a.bits) aims

-- by `<=`
abbrev pub steps_later : ℕ → List Step → Bool
steps_later s steps = list_any (λ st. not st.at_once && aims_name s st.aims) steps

-- ---- who reads

abbrev pub seen_by : Reader → ℕ → Reader
seen_by r.None part = r.One part
seen_by (r.One k) part = if k == part then r.One k else r.Many
seen_by r.Many part = r.Many

abbrev pub others_read : Reader → ℕ → Bool
others_read r.None part = false
others_read (r.One k) part = not (k == part)
others_read r.Many part = true

abbrev pub reader_at : List Reader → ℕ → Reader
reader_at readers s = slice_index_or readers s r.None

-- ---- what is told

abbrev pub is_sharing_span : Signals → List Bool → List Reader → ℕ → Span → Bool
is_sharing_span S late readers k s = is_variable_sort (signal_at S s.signal).sort && (is_marked late s.signal || others_read (reader_at readers s.signal) k)

abbrev pub is_sharing_aim : Signals → List Bool → List Reader → ℕ → Aim → Bool
is_sharing_aim S late readers k a = list_any (is_sharing_span S late readers k) a.bits

abbrev pub is_blocking_step : Signals → List Bool → List Reader → ℕ → Step → Bool
is_blocking_step S late readers k s = s.at_once && list_any (is_sharing_aim S late readers k) s.aims

abbrev pub is_blocking_part : Signals → List Bool → List Reader → ℕ → Extent → Step → Bool
is_blocking_part S late readers k x s = is_edge (way_of x.way) && is_blocking_step S late readers k s

-- of a step of this part
pub record IsBlockedAt (S : Signals) (late : List Bool) (readers : List Reader) (xs : List Extent) (t : Told) : Type 0 where
  pub x : Extent
  pub there : slice_get xs t.part ≡ Some x
  pub found : IsFound (is_blocking_part S late readers t.part x) step_place x.steps (Some t.place)

abbrev pub IsBlocked : Signals → List Bool → List Reader → List Extent → Option Told → Type 0
IsBlocked S late readers xs None = (k : ℕ) (x : Extent) → slice_get xs k ≡ Some x → list_any (is_blocking_part S late readers k x) x.steps ≡ false
IsBlocked S late readers xs (Some t) = IsBlockedAt S late readers xs t
