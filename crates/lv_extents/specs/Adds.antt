-- Spans that are added to a list.
use Rattle.std.specs.Prelude.{◌≡◌, ℕ, zero, suc, ◌+◌, ◌-◌, ◌^◌, ◌≤◌, true, List, [], ◌∷◌, ◌++◌, map, Option, Some}
use Rattle.lv_source.specs.Places.{Bit, count_of}
use Rattle.lv_source.specs.Meaning.{Choice}
use Rattle.lv_source.specs.Effect.{Piece}
use Rattle.lv_flat.specs.declared.stmt.FlatName.{FlatName}
use Rattle.lv_flat.specs.Executing.{path_at}
use Rattle.lv_flat.specs.declared.expr.FlatSelect.{FlatSelect}
use Rattle.lv_flat.specs.Signals.{Signals, signal_at}
use Rattle.lv_flat.specs.Judged.{judge_select, choices}
use Rattle.lv_values.specs.Windows.{run}
use Rattle.lv_spans.specs.declared.span.Span.{Span}
use Rattle.lv_lower_exprs.specs.Named.{chosen_by, is_good_select, is_constant_select}
use Rattle.lv_source.specs.Views as views
use Rattle.lv_source.specs.Views.{Seen}
use Rattle.lv_extents.specs.declared.extent.Aim.{Aim}
use Rattle.lv_extents.specs.declared.extent.Step.{Step}
use Rattle.lv_extents.specs.Extents.{Each, IsAim, IsStep}
use Rattle.lv_spans.specs.Domain.{AreSpansOf}

-- the new spans have the bits of the old ones and these
pub record Adds (S : Signals) (old new : List Span) (more : List Bit) : Type 0 where
  pub adds : (bits : List Bit) → AreSpansOf S bits old → AreSpansOf S (bits ++ more) new

-- some bits that the declaration lacks, then n places from one on, and again some that it lacks
pub record IsRun (bits : List (Option ℕ)) (width low n : ℕ) : Type 0 where
  pub before : ℕ
  pub after : ℕ
  pub is : bits ≡ run before low n after
  pub most : low + n ≤ width

-- the selects of a name, as its meaning has them
abbrev pub taken : Signals → List FlatSelect → List Choice
taken S ss = choices (map (judge_select S) ss)

-- a good select with constant indices, of 1 to 128 bits
pub record IsFixed (S : Signals) (s : FlatSelect) : Type 0 where
  pub good : is_good_select S s ≡ true
  pub constant : is_constant_select S s ≡ true
  pub some : 1 ≤ count_of (chosen_by S s)
  pub most : count_of (chosen_by S s) ≤ 128

-- of selects the first, which names bits
abbrev pub AreFixed : Signals → List FlatSelect → Type 0
AreFixed S [] = Unit {0}
AreFixed S (s ∷ ss) = IsFixed S s

-- n places of a cell from one on
abbrev pub spans_of : ℕ → Option ℕ → ℕ → ℕ → List Span
spans_of k element low zero = []
spans_of k element low (suc n) = record { signal = k; element = element; mask = 2 ^ (low + suc n) - 2 ^ low } ∷ []

-- what is new stands for what the old stood for, and for more
pub record AddsEach {A B : Type 0} (R : A → B → Type 0) (old new : List B) (more : List A) : Type 0 where
  pub adds : (xs : List A) → Each R xs old → Each R (xs ++ more) new

abbrev pub AddsAims : Signals → List Aim → List Aim → List views.Aim → Type 0
AddsAims S old new more = AddsEach (IsAim S) old new more

abbrev pub AddsSteps : Signals → List Step → List Step → List Seen → Type 0
AddsSteps S old new more = AddsEach (IsStep S) old new more

-- a name with selects in a target
abbrev pub piece_of : Signals → FlatName → List FlatSelect → Piece
piece_of S name ss = record { path = path_at name.place; declared = Some (signal_at S name.signal); choices = taken S ss }
