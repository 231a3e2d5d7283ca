-- Flat parts with the views of parts of the source.
use Rattle.std.specs.Prelude.{◌≡◌, true, List, [], ◌∷◌, ◌++◌, map, Result, Ok, Err, IfOk, IfErr, Contains}
use Rattle.lv_source.specs.Parts.{Part}
use Rattle.lv_source.specs.Views.{view_of}
use Rattle.lv_flat.specs.declared.part.FlatPart.{FlatPart}
use Rattle.lv_flat.specs.Signals.{Signals}
use Rattle.lv_flat.specs.FlatViews.{flat_view}
use Rattle.lv_flat.specs.Good.{good_body, are_good}
use Rattle.lv_parts.specs.declared.error.PartsError.{PartsError}
use Rattle.lv_parts.specs.declared.error.PartsError.TheVariants as e

-- ---- parts that are added to a list: they have these views, and are good where this holds

pub record AreAdded (S : Signals) (ps : List Part) (Well : Type 0) (old new : List FlatPart) : Type 0 where
  pub more : List FlatPart
  pub kept : new ≡ old ++ more
  pub views : map (flat_view S) more ≡ map view_of ps
  pub good : Well → are_good S more ≡ true

-- they are added where nothing is told; an error is something told
pub record HasAdded (S : Signals) (ps : List Part) (Well Clean : Type 0) (old new : List FlatPart) : Type 0 where
  pub added : AreAdded S ps Well old new
  pub clean : Clean

pub record AddAnswer (S : Signals) (ps : List Part) (Well Clean : Type 0) (IsTold : PartsError → Type 0) (old new : List FlatPart) (r : Result (Unit {0}) PartsError) : Type 0 where
  pub right : IfOk r (λ u. HasAdded S ps Well Clean old new)
  pub wrong : IfErr r IsTold

-- ---- one part

pub record IsMade (S : Signals) (p : Part) (Well Clean : Type 0) (r : FlatPart) : Type 0 where
  pub view : flat_view S r ≡ view_of p
  pub good : Well → good_body S r.body ≡ true
  pub clean : Clean

pub record MadeAnswer (S : Signals) (p : Part) (Well Clean : Type 0) (IsTold : PartsError → Type 0) (r : Result FlatPart PartsError) : Type 0 where
  pub right : IfOk r (IsMade S p Well Clean)
  pub wrong : IfErr r IsTold

-- what is made stands behind the others
abbrev pub IsPut : Result FlatPart PartsError → List FlatPart → List FlatPart → Result (Unit {0}) PartsError → Type 0
IsPut (Ok p) old new (Ok u) = new ≡ old ++ p ∷ []
IsPut (Ok p) old new (Err x) = x ≡ e.NoMemory
IsPut (Err x) old new r = r ≡ Err x

-- ---- element by element

pub record AreAll {A : Type 0} (Holds : A → Type 0) (xs : List A) : Type 0 where
  pub each : (x : A) → Contains xs x → Holds x

pub record HasOne {A : Type 0} (Holds : A → Type 0) (xs : List A) : Type 0 where
  pub one : A
  pub among : Contains xs one
  pub holds : Holds one
