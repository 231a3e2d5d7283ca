-- What is answered of continuous assignments.
use Rattle.std.specs.Prelude.{◌≡◌, ℕ, Bool, true, ◌&&◌, List, [], ◌∷◌, ◌++◌, Result, IfOk, IfErr, flat_map}
use Rattle.lv_ast.specs.declared.item.Continuous.{Continuous}
use Rattle.lv_ast.specs.Names.{Name}
use Rattle.lv_source.specs.Names.{Names, Here}
use Rattle.lv_source.specs.Effect.{pieces}
use Rattle.lv_source.specs.Meaning.{read_expr}
use Rattle.lv_source.specs.Legal.{Kind, Range}
use Rattle.lv_source.specs.Sites.{spots}
use Rattle.lv_source.specs.ScopeRules.{target_fault}
use Rattle.lv_source.specs.PartSites.{assign_sites}
use Rattle.lv_source.specs.Parts.{Part, Assign}
use Rattle.lv_flat.specs.declared.part.FlatBody.TheVariants as b
use Rattle.lv_flat.specs.declared.part.FlatPart.{FlatPart}
use Rattle.lv_flat.specs.Signals.{Signals}
use Rattle.lv_resolve.specs.declared.goal.ResolvedTarget.{ResolvedTarget}
use Rattle.lv_resolve.specs.declared.resolved.Resolved.{Resolved}
use Rattle.lv_resolve.specs.Forms.{has_operands}
use Rattle.lv_resolve.specs.Targets.{has_target_operands}
use Rattle.lv_resolve.specs.Resolved.{AreFaultless}
use Rattle.lv_parts.specs.declared.error.PartsError.{PartsError}
use Rattle.lv_parts.specs.declared.error.PartsError.TheVariants as e
use Rattle.lv_parts.specs.Errors.{IsToldBy}
use Rattle.lv_parts.specs.Made.{AddAnswer, MadeAnswer, AreAll, HasOne}
use Rattle.lv_parts.specs.Nets.{part_of, node_faults}

-- each operator has its number of operands
abbrev pub has_assign_operands : Continuous → Bool
has_assign_operands a = has_target_operands a.target && has_operands a.value

-- ---- for the proof

-- from its sides
pub record IsJoined (path : Name) (at : ℕ) (to : ResolvedTarget) (from : Resolved) (p : FlatPart) : Type 0 where
  pub same : p ≡ record { path = path; place = at; clocks = to.clocks ++ from.clocks; body = b.Assign to.target from.expr }

pub record JoinedAnswer (path : Name) (at : ℕ) (to : ResolvedTarget) (from : Resolved) (r : Result FlatPart PartsError) : Type 0 where
  pub right : IfOk r (IsJoined path at to from)
  pub wrong : IfErr r (λ x. x ≡ e.NoMemory)

-- ---- one

abbrev pub assign_part : Names → Name → Continuous → Part
assign_part names path a = part_of path a.place (assign_sites names a) (Assign (pieces names a.target) (read_expr names a.value))

abbrev pub assign_parts : Names → Name → Continuous → List Part
assign_parts names path a = assign_part names path a ∷ []

-- but for those of its nodes
abbrev pub assign_rules : Names → Continuous → Kind → List ℕ
assign_rules names a Range = target_fault names a.target
assign_rules names a _ = []

abbrev pub assign_faults : Here → Continuous → Kind → List ℕ
assign_faults here a kind = node_faults here (assign_sites here.names a) kind ++ assign_rules here.names a kind

pub record IsCleanAssign (here : Here) (a : Continuous) : Type 0 where
  pub nodes : AreFaultless (spots here (assign_sites here.names a))
  pub fits : target_fault here.names a.target ≡ []

abbrev pub IsToldAssign : Here → PartsError → Continuous → Type 0
IsToldAssign here e a = IsToldBy (assign_faults here a) ⊥ e

abbrev pub IsWellAssign : Continuous → Type 0
IsWellAssign a = has_assign_operands a ≡ true

abbrev pub AssignedAnswer : Signals → Here → Name → Continuous → Result FlatPart PartsError → Type 0
AssignedAnswer S here path a r = MadeAnswer S (assign_part here.names path a) (IsWellAssign a) (IsCleanAssign here a) (λ e. IsToldAssign here e a) r

abbrev pub AssignAnswer : Signals → Here → Name → Continuous → List FlatPart → List FlatPart → Result (Unit {0}) PartsError → Type 0
AssignAnswer S here path a old new r = AddAnswer S (assign_parts here.names path a) (IsWellAssign a) (IsCleanAssign here a) (λ e. IsToldAssign here e a) old new r

-- ---- all of an item

abbrev pub AssignsAnswer : Signals → Here → Name → List Continuous → List FlatPart → List FlatPart → Result (Unit {0}) PartsError → Type 0
AssignsAnswer S here path list old new r =
    AddAnswer S (flat_map (assign_parts here.names path) list) (AreAll IsWellAssign list) (AreAll (IsCleanAssign here) list)
    (λ e. HasOne (IsToldAssign here e) list) old new r
