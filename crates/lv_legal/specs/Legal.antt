-- All rules on parts: where each is told, and what is answered.
use Rattle.std.specs.Prelude.{◌≡◌, ℕ, Bool, true, false, not, List, [], ◌∷◌, ◌++◌, Option, Some, None, Result, Ok, Err, Vec, slice_get, Contains}
use Rattle.lv_ast.specs.Names.{Name}
use Rattle.lv_source.specs.Parts.{At}
use Rattle.lv_source.specs.PartRules.{told_if}
use Rattle.lv_source.specs.Views.{View, unfixed_views, wrong_views, clock_views, named_clocks, lists_clock}
use Rattle.lv_source.specs.Views.{blocking_views, nonblocking_views, two_views, undriven_views, latch_views, first_views}
use Rattle.lv_flat.specs.Signals.{Signals}
use Rattle.lv_extents.specs.declared.extent.Extent.{Extent}
use Rattle.lv_extents.specs.Extents.{AreExtents}
use Rattle.lv_rules.specs.Rules.{unclocked}
use Rattle.lv_settles.specs.Rules.{AreRight, signals_in}
use Rattle.lv_schedule.specs.Plans.{IsPlanned, IsCircle}
use Rattle.lv_legal.specs.declared.rule.Rule.{Rule}
use Rattle.lv_legal.specs.declared.rule.Rule.TheVariants.{NotConstant, WrongKind, ClockUse, Blocking, Nonblocking, TwoDrivers, Undriven, Latch, ReadFirst}
use Rattle.lv_legal.specs.declared.spot.Spot.{Spot}
use Rattle.lv_legal.specs.declared.judging.Refused.{Refused}
use Rattle.lv_legal.specs.declared.judging.Refused.TheVariants.{Broken, Cycle}

-- of parts
abbrev pub clock_uses : List View → List At
clock_uses vs = clock_views vs ++ named_clocks vs

-- where a rule is told of parts
abbrev pub told_parts : Rule → Signals → List View → List At
told_parts NotConstant S vs = unfixed_views vs
told_parts WrongKind S vs = wrong_views (unclocked S) vs
told_parts ClockUse S vs = clock_uses vs
told_parts Blocking S vs = blocking_views (unclocked S) vs
told_parts Nonblocking S vs = nonblocking_views vs
told_parts TwoDrivers S vs = two_views (unclocked S) vs
told_parts Undriven S vs = undriven_views (unclocked S) vs
told_parts Latch S vs = latch_views vs
told_parts ReadFirst S vs = first_views vs

-- it is told of the top, which has no clock of this path
abbrev pub lacks_clock : Rule → Name → Signals → Bool
lacks_clock ClockUse clock S = not (lists_clock clock S)
lacks_clock _ clock S = false

-- where a rule is told
abbrev pub told_of : Rule → Name → Signals → List View → List At
told_of rule clock S vs = told_if (lacks_clock rule clock S) (record { path = []; place = 0 } ∷ []) ++ told_parts rule S vs

abbrev pub extent_path : List Extent → ℕ → Name
extent_path xs k = elim (slice_get xs k) [ None ↦ [] | Some x ↦ x.path ]

-- nothing is told, or this
abbrev pub IsSpotAt : List At → Option Spot → Type 0
IsSpotAt ats None = ats ≡ []
IsSpotAt ats (Some s) = Contains ats (record { path = s.path; place = s.place })

abbrev pub IsSpotOf : Signals → List Extent → (List View → List At) → Option Spot → Type 0
IsSpotOf S xs rule o = (vs : List View) → AreExtents S vs xs → IsSpotAt (rule vs) o

-- no rule is told of anything
abbrev pub AreKept : Name → Signals → List View → Type 0
AreKept clock S vs = (rule : Rule) → told_of rule clock S vs ≡ []

-- a rule is told here, or the parts are a cycle
abbrev pub IsRefused : Name → Signals → List View → Refused → Type 0
IsRefused clock S vs (Broken rule path place) = Contains (told_of rule clock S vs) (record { path = path; place = place })
IsRefused clock S vs (Cycle ks) = IsCircle vs ks.items

abbrev pub AreBroken : Name → Signals → List View → Option Refused → Type 0
AreBroken clock S vs None = AreKept clock S vs
AreBroken clock S vs (Some r) = IsRefused clock S vs r

-- no rule is told of anything, the top's clock is one, and the parts without a clock are in order
pub record IsLegal (clock : Name) (S : Signals) (vs : List View) (order : List ℕ) : Type 0 where
  pub right : AreRight (signals_in S) vs
  pub edges : clock_views vs ≡ []
  pub named : named_clocks vs ≡ []
  pub top : lists_clock clock S ≡ true
  pub planned : IsPlanned vs order

abbrev pub IsJudged : {Z : Type 0} → Name → Signals → List View → Result (Vec ℕ Z) Refused → Type 0
IsJudged clock S vs (Ok order) = IsLegal clock S vs order.items
IsJudged clock S vs (Err r) = IsRefused clock S vs r
