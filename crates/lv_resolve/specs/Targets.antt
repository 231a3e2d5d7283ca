-- What is answered of a target, of its names and of the nodes of its selects where they stand.
use Rattle.std.specs.Prelude.{◌≡◌, ◌⊎◌, ℕ, min, Bool, true, None, List, [], ◌∷◌, ◌++◌, Result, IfOk, IfErr, flat_map}
use Rattle.std.specs.List.{list_all}
use Rattle.lv_ast.specs.declared.stmt.Target.{Target}
use Rattle.lv_ast.specs.declared.stmt.Target.TheOpen.{Target-F}
use Rattle.lv_ast.specs.Trees.{fold_target}
use Rattle.lv_source.specs.Names.{Here}
use Rattle.lv_source.specs.Values.{nowhere}
use Rattle.lv_source.specs.Effect.{Piece, pieces, places, bits_in}
use Rattle.lv_source.specs.Sites.{Site, WalkStep, step_sites, fixed_sites, Walk, target_sites, spots}
use Rattle.lv_source.specs.NodeRules.{zero_divisor, clock_use}
use Rattle.lv_source.specs.Faults.{site_faults}
use Rattle.lv_source.specs.Legal.{ClockUse}
use Rattle.lv_source.specs.ScopeRules.{target_fault}
use Rattle.lv_source.specs.Standing.{target_width}
use Rattle.lv_flat.specs.Signals.{Signals}
use Rattle.lv_flat.specs.Executing as flat
use Rattle.lv_flat.specs.Good.{are_targets, good_target}
use Rattle.lv_flat.proofs.Doings.{goal_of}
use Rattle.lv_resolve.specs.declared.error.ResolveError.{ResolveError}
use Rattle.lv_resolve.specs.declared.error.ResolveError.TheVariants as x
use Rattle.lv_resolve.specs.declared.goal.TargetForm.{TargetForm}
use Rattle.lv_resolve.specs.declared.goal.TargetForms.{TargetForms}
use Rattle.lv_resolve.specs.declared.goal.ResolvedTarget.{ResolvedTarget}
use Rattle.lv_resolve.specs.Forms.{flaws, Told, Covered, has_select_operands}
use Rattle.lv_resolve.specs.TargetJoins.{target_role}
use Rattle.lv_resolve.specs.Resolved.{AreFaultless, IsToldOf}

-- each operator in its selects has its number of operands
abbrev pub target_operands_step : Target-F Bool → Bool
target_operands_step (Target-F.Name path ss) = list_all has_select_operands ss
target_operands_step (Target-F.Cat parts) = list_all (λ b. b) parts

unfoldable pub has_target_operands : Target → Bool
has_target_operands t = fold_target Bool target_operands_step t

-- ---- below a target

-- a width as far as it matters
abbrev pub capped : ℕ → ℕ
capped n = min 129 n

abbrev pub bits_of_pieces : List Piece → ℕ
bits_of_pieces ps = bits_in (places nowhere ps)

pub record HasGoal (S : Signals) (here : Here) (ss : List Site) (ps : List Piece) (ok : Bool) (f : TargetForm) : Type 0 where
  pub goal : goal_of (flat.pieces S f.target) ≡ goal_of ps
  pub good : ok ≡ true → are_targets S f.target ≡ true
  pub width : f.width ≡ capped (bits_of_pieces ps)
  pub clean : flat_map (flaws here) ss ≡ []
  pub zero : flat_map zero_divisor ss ≡ []
  pub clocks : flat_map clock_use ss ≡ f.clocks

pub record GoalAnswer (S : Signals) (here : Here) (ss : List Site) (ps : List Piece) (ok : Bool) (r : Result TargetForm ResolveError) : Type 0 where
  pub right : IfOk r (HasGoal S here ss ps ok)
  pub wrong : IfErr r (Told here ss)

-- of a concatenation
pub record HasGoals (S : Signals) (here : Here) (ss : List Site) (ps : List Piece) (ok : Bool) (f : TargetForms) : Type 0 where
  pub goal : goal_of (flat_map (flat.pieces S) f.targets) ≡ goal_of ps
  pub good : ok ≡ true → list_all (are_targets S) f.targets ≡ true
  pub width : f.width ≡ capped (bits_of_pieces ps)
  pub clean : flat_map (flaws here) ss ≡ []
  pub zero : flat_map zero_divisor ss ≡ []
  pub clocks : flat_map clock_use ss ≡ f.clocks

pub record GoalsAnswer (S : Signals) (here : Here) (ss : List Site) (ps : List Piece) (ok : Bool) (r : Result TargetForms ResolveError) : Type 0 where
  pub right : IfOk r (HasGoals S here ss ps ok)
  pub wrong : IfErr r (Told here ss)

-- ---- indices that are constant

pub record FixedStep (here : Here) (w : WalkStep) (r : Result (Unit {0}) ResolveError) : Type 0 where
  pub right : IfOk r (λ u. Covered here (λ W T. step_sites true None w) 0 [] [])
  pub wrong : IfErr r (Told here (step_sites true None w))

pub record FixedPair (here : Here) (a b : Walk) (r : Result (Unit {0}) ResolveError) : Type 0 where
  pub right : IfOk r (λ u. Covered here (λ W T. fixed_sites a ++ fixed_sites b) 0 [] [])
  pub wrong : IfErr r (Told here (fixed_sites a ++ fixed_sites b))

pub record IndicesAnswer (here : Here) (driven : Bool) (ws : List WalkStep) (r : Result (Unit {0}) ResolveError) : Type 0 where
  pub right : IfOk r (λ u. driven ≡ true → Covered here (λ W T. flat_map (step_sites true None) ws) 0 [] [])
  pub wrong : IfErr r (Told here (flat_map (step_sites driven None) ws))

-- ---- a target

-- a flat target that tells what the target tells, good where the operators in it have their operands; no node has a fault, its bits together are 1 to 128;
-- and the places of the clock names
pub record IsTarget (S : Signals) (here : Here) (driven : Bool) (t : Target) (r : ResolvedTarget) : Type 0 where
  pub goal : goal_of (flat.pieces S r.target) ≡ goal_of (pieces here.names t)
  pub good : has_target_operands t ≡ true → good_target S r.target ≡ true
  pub width : r.width ≡ target_width here.names t
  pub fits : target_fault here.names t ≡ []
  pub faultless : AreFaultless (spots here (target_sites here.names (target_role driven) t))
  pub clocks : flat_map (site_faults ClockUse) (spots here (target_sites here.names (target_role driven) t)) ≡ r.clocks

-- a fault of a node, or of its bits together
abbrev pub IsNoTarget : Here → Bool → Target → ResolveError → Type 0
IsNoTarget here driven t y =
    IsToldOf (spots here (target_sites here.names (target_role driven) t)) y ⊎ ((p : ℕ) × (target_fault here.names t ≡ p ∷ []) × (y ≡ x.Range p))

pub record TargetAnswer (S : Signals) (here : Here) (driven : Bool) (t : Target) (r : Result ResolvedTarget ResolveError) : Type 0 where
  pub right : IfOk r (IsTarget S here driven t)
  pub wrong : IfErr r (IsNoTarget here driven t)
