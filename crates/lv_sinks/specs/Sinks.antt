-- What is answered of an expression that an output drives, and of its nodes where they stand.
use Rattle.std.specs.Prelude.{◌≡◌, Bool, true, false, if◌then◌else◌, List, [], ◌∷◌, ◌++◌, map, Option, Some, None, Result, IfOk, IfErr, flat_map}
use Rattle.std.specs.List.{list_all}
use Rattle.lv_ast.specs.declared.expr.Expr.{Expr}
use Rattle.lv_source.specs.Names.{Names, Here}
use Rattle.lv_source.specs.Meaning.{own_width}
use Rattle.lv_source.specs.NodeRules.{is_width}
use Rattle.lv_source.specs.Effect.{Piece}
use Rattle.lv_source.specs.Parts.{as_target}
use Rattle.lv_source.specs.ScopeRules.{is_none}
use Rattle.lv_source.specs.Sites.{Site, Role, Driven, DrivenJoined, Walk, walk, own_sites, spots, sink_sites}
use Rattle.lv_source.specs.Faults.{site_faults}
use Rattle.lv_source.specs.Legal.{ClockUse}
use Rattle.lv_const.specs.Answers.{total_width}
use Rattle.lv_flat.specs.Signals.{Signals}
use Rattle.lv_flat.specs.Executing as flat
use Rattle.lv_flat.specs.Good.{good_target}
use Rattle.lv_flat.specs.declared.stmt.FlatTarget.TheVariants as t
use Rattle.lv_flat.proofs.Doings.{goal_of}
use Rattle.lv_resolve.specs.declared.error.ResolveError.{ResolveError}
use Rattle.lv_resolve.specs.declared.goal.TargetForm.{TargetForm}
use Rattle.lv_resolve.specs.declared.goal.TargetForms.{TargetForms}
use Rattle.lv_resolve.specs.declared.goal.ResolvedTarget.{ResolvedTarget}
use Rattle.lv_resolve.specs.Forms.{Told, has_operands, wide}
use Rattle.lv_resolve.specs.Targets.{HasGoal, HasGoals, bits_of_pieces}
use Rattle.lv_resolve.specs.Resolved.{AreFaultless, IsToldOf}

-- ---- a target

-- a flat target that tells what the expression tells as one, good where its operators have their operands, with the width of the expression, 1 to 128;
-- no node has a fault; and the places of the clock names
pub record IsSunk (S : Signals) (here : Here) (e : Expr) (r : ResolvedTarget) : Type 0 where
  pub target : (ps : List Piece) × (as_target here.names e ≡ Some ps) × (goal_of (flat.pieces S r.target) ≡ goal_of ps)
  pub good : has_operands e ≡ true → good_target S r.target ≡ true
  pub width : r.width ≡ own_width here.names e
  pub fits : is_width r.width ≡ true
  pub faultless : AreFaultless (spots here (sink_sites here.names e))
  pub clocks : flat_map (site_faults ClockUse) (spots here (sink_sites here.names e)) ≡ r.clocks

-- none where it is no target
abbrev pub IsSunkOrNone : Signals → Here → Expr → Option ResolvedTarget → Type 0
IsSunkOrNone S here e None = as_target here.names e ≡ None
IsSunkOrNone S here e (Some r) = IsSunk S here e r

pub record SunkAnswer (S : Signals) (here : Here) (e : Expr) (r : Result (Option ResolvedTarget) ResolveError) : Type 0 where
  pub right : IfOk r (IsSunkOrNone S here e)
  pub wrong : IfErr r (IsToldOf (spots here (sink_sites here.names e)))
  -- so there is none exactly where it is no target
  pub target : IfErr r (λ y. is_none (as_target here.names e) ≡ false)

-- ---- for the proof: below a target

-- the nodes of a whole, or of an operand of a concatenation
abbrev pub sink_role : Bool → Role
sink_role joined = if joined then DrivenJoined else Driven

abbrev pub sink_nodes : Bool → Walk → List Site
sink_nodes joined w = own_sites (sink_role joined) None w

pub record HasSink (S : Signals) (here : Here) (e : Expr) (ps : List Piece) (f : TargetForm) : Type 0 where
  pub target : as_target here.names e ≡ Some ps
  pub width : bits_of_pieces ps ≡ wide (walk here.names e)
  pub fits : is_width (wide (walk here.names e)) ≡ true
  pub goal : (joined : Bool) → HasGoal S here (sink_nodes joined (walk here.names e)) ps (has_operands e) f

abbrev pub HasSinkOrNone : Signals → Here → Expr → Option TargetForm → Type 0
HasSinkOrNone S here e None = as_target here.names e ≡ None
HasSinkOrNone S here e (Some f) = (ps : List Piece) × HasSink S here e ps f

pub record SinkAnswer (S : Signals) (here : Here) (e : Expr) (r : Result (Option TargetForm) ResolveError) : Type 0 where
  pub right : IfOk r (HasSinkOrNone S here e)
  pub wrong : IfErr r (λ y. (joined : Bool) → Told here (sink_nodes joined (walk here.names e)) y)

-- ---- operands of a concatenation

abbrev pub join_two : Option (List Piece) → Option (List Piece) → Option (List Piece)
join_two o q = elim o [ None ↦ None | Some ps ↦ elim q [ None ↦ None | Some qs ↦ Some (ps ++ qs) ] ]

abbrev pub all_targets : Names → List Expr → Option (List Piece)
all_targets names [] = Some []
all_targets names (e ∷ es) = join_two (as_target names e) (all_targets names es)

abbrev pub all_nodes : Names → List Expr → List Site
all_nodes names es = flat_map (own_sites DrivenJoined None) (map (walk names) es)

pub record HasSinks (S : Signals) (here : Here) (es : List Expr) (ps : List Piece) (f : TargetForms) : Type 0 where
  pub targets : all_targets here.names es ≡ Some ps
  pub width : bits_of_pieces ps ≡ total_width (map (walk here.names) es)
  pub goals : HasGoals S here (all_nodes here.names es) ps (list_all has_operands es) f

abbrev pub HasSinksOrNone : Signals → Here → List Expr → Option TargetForms → Type 0
HasSinksOrNone S here es None = all_targets here.names es ≡ None
HasSinksOrNone S here es (Some f) = (ps : List Piece) × HasSinks S here es ps f

pub record SinksAnswer (S : Signals) (here : Here) (es : List Expr) (r : Result (Option TargetForms) ResolveError) : Type 0 where
  pub right : IfOk r (HasSinksOrNone S here es)
  pub wrong : IfErr r (Told here (all_nodes here.names es))

-- these together, 1 to 128 bits
abbrev pub IsJoined : TargetForms → Option TargetForm → Type 0
IsJoined g None = ⊥
IsJoined g (Some f) = (f.target ≡ t.Cat g.targets) × (f.width ≡ g.width) × (f.clocks ≡ g.clocks) × (is_width g.width ≡ true)
