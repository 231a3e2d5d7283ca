-- The labels of a `case` over a table.
use Rattle.std.specs.Prelude.{◌≡◌, ℕ, ◌+◌, ◌<◌, ◌≤◌, ◌==◌, max, Bool, not, ◌&&◌, if◌then◌else◌, List, [], ◌∷◌, map, length, drop, slice_index_or, All}
use Rattle.std.specs.List.{list_all, list_any}
use Rattle.lv_bits.specs.Values.{bit}
use Rattle.lv_netlist.specs.Net.{Net}
use Rattle.lv_source.specs.Names.{Valuation}
use Rattle.lv_source.specs.Effect.{State, Label, Arm, Width, is_default, applied, fits_label}
use Rattle.lv_flat.specs.declared.expr.FlatExpr.{FlatExpr}
use Rattle.lv_flat.specs.declared.stmt.FlatArm.{FlatArm}
use Rattle.lv_flat.specs.Signals.{Signals}
use Rattle.lv_flat.specs.Cells.{Cell}
use Rattle.lv_flat.specs.Judged.{meaning, is_good}
use Rattle.lv_flat.specs.Executing.{Effect, label_of}
use Rattle.lv_flat.specs.Good.{good_stmt}
use Rattle.lv_values.specs.declared.value.Value.{Value}
use Rattle.lv_values.specs.Worlds.{World, Obeys, Grows, IsIn, width_of, number}
use Rattle.lv_lower_exprs.specs.Tables.{IsTable, Shows}
use Rattle.lv_lower_blocks.specs.Rewritten.{MayBeTable}
use Rattle.lv_lower_blocks.specs.Running.{keeps_writes}
use Rattle.lv_lower_blocks.specs.declared.cases.Common.{Common}

abbrev pub common_width : Common → Width
common_width c = record { width = c.width; signed = c.signed }

-- with labels before what has this width
abbrev pub common_more : List Label → Width → Width
common_more [] c = c
common_more (l ∷ ls) c = record { width = max l.reading.meaning.width (common_more ls c).width; signed = l.reading.meaning.signed && (common_more ls c).signed }

abbrev pub labels_of : Signals → FlatArm → List Label
labels_of S a = map (label_of S) a.labels

abbrev pub good_labels : Signals → FlatArm → Bool
good_labels S a = list_all (is_good S) a.labels

-- no label is wider
abbrev pub AreWithin : Signals → List FlatExpr → ℕ → Type 0
AreWithin S labels width = All (λ (e : FlatExpr). (meaning S e).width ≤ width) labels

-- the graph has become longer, and r is 1 where this holds of the selector's value, else 0
pub record Fits (old new : Net) (cells : List Cell) (table : List ℕ) (r selector : Value) (f : ℕ → Valuation → Bool) : Type 0 where
  pub grows : Grows old new
  pub in_new : IsIn new r
  pub width : width_of r ≡ 1
  pub is : (w : World) (v : Valuation) → Obeys new w → Shows w cells table v → number w r ≡ bit (f (number w selector) v)

-- ---- arms

-- the first arm with a label that fits, or another
abbrev pub first_fit : {A : Type 0} → (Label → Bool) → List (Arm A) → A → A
first_fit fits [] other = other
first_fit fits (a ∷ as') other = if list_any fits a.labels then a.body else first_fit fits as' other

-- the last arm without labels, or another
abbrev pub last_default : {A : Type 0} → List (Arm A) → A → A
last_default [] other = other
last_default (a ∷ as') other = last_default as' (if is_default a.labels then a.body else other)

-- an arm, with its writes
abbrev pub arm_read : Signals → FlatArm → Arm Effect
arm_read S a = record { labels = map (label_of S) a.labels; body = keeps_writes S a.body }

abbrev pub arms_read : Signals → List FlatArm → List (Arm Effect)
arms_read S arms = map (arm_read S) arms

-- no arm is a default
abbrev pub AreLabelled : List FlatArm → Type 0
AreLabelled arms = All (λ (a : FlatArm). 1 ≤ length a.labels) arms

-- the last arm without labels stands there, or there is none
pub record IsDefault (arms : List FlatArm) (at : ℕ) : Type 0 where
  pub most : at ≤ length arms
  pub behind : AreLabelled (drop (at + 1) arms)
  pub here : (a : FlatArm) → at < length arms → a ≡ slice_index_or arms at a → length a.labels ≡ 0
  pub none : at ≡ length arms → AreLabelled arms

-- two tables, each as x where t isn't 0, else as y
pub record Chosen (old new : Net) (cells : List Cell) (x_now x_done y_now y_done now done : List ℕ) (t : Value) : Type 0 where
  pub grows : Grows old new
  pub table : IsTable new cells now
  pub count : length done ≡ length x_done
  pub rest : MayBeTable new cells done
  pub shows : (w : World) (p q : Valuation) → Obeys new w → Shows w cells x_now p → Shows w cells y_now q → Shows w cells now (if not (number w t == 0) then p else q)
  pub leaves : (w : World) (p q : Valuation) → Obeys new w → 1 ≤ length x_done → Shows w cells x_done p → Shows w cells y_done q → Shows w cells done (if not (number w t == 0) then p else q)

-- what the arms from one on do with the state s, where q is what is done without them
abbrev pub arms_do : Signals → Bool → Width → List FlatArm → ℕ → State → State → State
arms_do S wild c arms x s q = first_fit (fits_label s.valuation wild c x) (arms_read S arms) (λ st. q) s

-- tables of the arms from tables of what is done without them
pub record ArmsRun (old new : Net) (cells : List Cell) (now done base_now base_done now' done' : List ℕ) (selector : Value) (G : ℕ → State → State → State) : Type 0 where
  pub grows : Grows old new
  pub table : IsTable new cells now'
  pub count : length done' ≡ length done
  pub rest : MayBeTable new cells done'
  pub shows : (w : World) (s q : State) → Obeys new w → Shows w cells now s.valuation → Shows w cells base_now q.valuation → Shows w cells now' (G (number w selector) s q).valuation
  pub leaves : (w : World) (s q : State) (u : Valuation) → Obeys new w → Shows w cells now s.valuation → 1 ≤ length done → Shows w cells done (applied u s.pending) →
      Shows w cells base_done (applied u q.pending) →
      Shows w cells done' (applied u (G (number w selector) s q).pending)

-- no label of the arms is wider
abbrev pub ArmsWithin : Signals → List FlatArm → ℕ → Type 0
ArmsWithin S arms width = All (λ (a : FlatArm). AreWithin S a.labels width) arms

-- an arm of a good `case`
abbrev pub good_arm_of : Signals → FlatArm → Bool
good_arm_of S a = list_all (is_good S) a.labels && good_stmt S a.body
