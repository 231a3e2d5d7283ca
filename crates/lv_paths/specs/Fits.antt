-- The labels of a `case` as numbers.
use Rattle.std.specs.Prelude.{◌≡◌, true, ℕ, ◌≤◌, ◌==◌, max, Bool, ◌&&◌, if◌then◌else◌, List, [], ◌∷◌, map, flat_map, bit_or, All}
use Rattle.std.specs.List.{list_all, list_any}
use Rattle.lv_source.specs.Values.{nowhere}
use Rattle.lv_source.specs.Effect.{Label, Width, free_of, is_default}
use Rattle.lv_flat.specs.declared.expr.FlatExpr.{FlatExpr}
use Rattle.lv_flat.specs.declared.stmt.FlatArm.{FlatArm}
use Rattle.lv_flat.specs.Signals.{Signals}
use Rattle.lv_flat.specs.Judged.{judge, reading, meaning, is_good}
use Rattle.lv_flat.specs.Executing.{label_of}
use Rattle.lv_paths.specs.declared.full.Common.{Common}
use Rattle.lv_paths.specs.declared.full.Fit.{Fit}

abbrev pub common_width : Common → Width
common_width c = record { width = c.width; signed = c.signed }

-- with labels before what has this width
abbrev pub common_more : List Label → Width → Width
common_more [] c = c
common_more (l ∷ ls) c = record { width = max l.reading.meaning.width (common_more ls c).width; signed = l.reading.meaning.signed && (common_more ls c).signed }

abbrev pub labels_of : Signals → FlatArm → List Label
labels_of S a = map (label_of S) a.labels

abbrev pub all_labels : Signals → List FlatArm → List Label
all_labels S arms = flat_map (labels_of S) arms

abbrev pub good_labels : Signals → FlatArm → Bool
good_labels S a = list_all (is_good S) a.labels

-- a label that is good, constant, and no wider
pub record IsFixedLabel (S : Signals) (width : ℕ) (e : FlatExpr) : Type 0 where
  pub good : is_good S e ≡ true
  pub constant : (reading S e).constant ≡ true
  pub wide : (meaning S e).width ≤ width

abbrev pub AreFixedLabels : Signals → ℕ → List FlatExpr → Type 0
AreFixedLabels S width labels = All (IsFixedLabel S width) labels

abbrev pub AreFixedArms : Signals → ℕ → List FlatArm → Type 0
AreFixedArms S width arms = All (λ (a : FlatArm). AreFixedLabels S width a.labels) arms

-- the number of a label, and its free bits
abbrev pub fit_of : Signals → Bool → Width → FlatExpr → Fit
fit_of S wild c e =
    record { value = (meaning S e).value c.width c.signed nowhere; free = if wild then free_of c.signed c.width (judge S e).literal else 0 }

abbrev pub fits_of : Signals → Bool → Width → FlatArm → List Fit
fits_of S wild c a = map (fit_of S wild c) a.labels

-- the number agrees with a label outside of its free bits
abbrev pub is_fit : ℕ → Fit → Bool
is_fit x f = bit_or x f.free == bit_or f.value f.free

abbrev pub has_default : List FlatArm → Bool
has_default arms = list_any (λ (a : FlatArm). is_default a.labels) arms
