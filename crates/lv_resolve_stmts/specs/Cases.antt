-- A `case` from its parts.
use Rattle.std.specs.Prelude.{◌≡◌, ℕ, Bool, true, ◌&&◌, max, List, [], ◌∷◌, ◌++◌, map, Result, IfOk, IfErr, flat_map, length, filter}
use Rattle.std.specs.List.{list_all}
use Rattle.lv_ast.specs.declared.expr.Expr.{Expr}
use Rattle.lv_ast.specs.declared.stmt.Arm.{Arm}
use Rattle.lv_source.specs.Names.{Names, Here}
use Rattle.lv_source.specs.Meaning.{read_expr, own_width, own_signed}
use Rattle.lv_source.specs.Effect.{Width, Label, common}
use Rattle.lv_source.specs.Effect as source
use Rattle.lv_source.specs.Faults.{site_faults}
use Rattle.lv_source.specs.Flow.{is_extended}
use Rattle.lv_source.specs.Legal.{ClockUse}
use Rattle.lv_source.specs.ScopeRules.{is_nil, two_defaults}
use Rattle.lv_source.specs.Sites.{Spot}
use Rattle.lv_source.specs.Standing.{Standing, Choose, standing}
use Rattle.lv_flat.specs.declared.stmt.FlatArm.{FlatArm}
use Rattle.lv_flat.specs.declared.stmt.FlatStmt.TheVariants as b
use Rattle.lv_flat.specs.Signals.{Signals}
use Rattle.lv_flat.specs.Judged.{is_good}
use Rattle.lv_flat.specs.Executing as flat
use Rattle.lv_flat.specs.Good.{good_stmt}
use Rattle.lv_flat.proofs.Doings.{Done, done_case, arm_with}
use Rattle.lv_flat.proofs.FlatDoings.{flat_done}
use Rattle.lv_flat.proofs.SourceDoings.{source_done}
use Rattle.lv_resolve.specs.declared.error.ResolveError.{ResolveError}
use Rattle.lv_resolve.specs.declared.resolved.Resolved.{Resolved}
use Rattle.lv_resolve.specs.declared.typed.OwnType.{OwnType}
use Rattle.lv_resolve.specs.Forms.{has_operands}
use Rattle.lv_resolve.specs.Resolved.{AreFaultless, IsToldOf, IsResolved, reached_spots}
use Rattle.lv_resolve_stmts.specs.declared.error.StmtError.{StmtError}
use Rattle.lv_resolve_stmts.specs.declared.resolved.ResolvedStmt.{ResolvedStmt}
use Rattle.lv_resolve_stmts.specs.declared.cases.Labels.{Labels}
use Rattle.lv_resolve_stmts.specs.declared.cases.Arms.{Arms}
use Rattle.lv_resolve_stmts.specs.declared.cases.Head.{Head}
use Rattle.lv_resolve_stmts.specs.Statements.{AreSound, IsFaultOf, clocks_at, of_node, has_stmt_operands}

-- the labels of arms
abbrev pub labels_in : List Arm → List Expr
labels_in arms = flat_map (λ a. a.labels) arms

-- the labels of each arm
abbrev pub label_lists : List Arm → List (List Expr)
label_lists arms = map (λ a. a.labels) arms

-- the statements in arms
abbrev pub bodies : Here → List Arm → List Standing
bodies here arms = flat_map (λ a. standing here a.body) arms

-- how many are defaults
abbrev pub defaults_in : List (List Expr) → ℕ
defaults_in lists = length (filter is_nil lists)

-- ---- widths and signs

abbrev pub width_of : OwnType → Width
width_of c = record { width = c.width; signed = c.signed }

abbrev pub own_of : Names → Expr → Width
own_of names x = record { width = own_width names x; signed = own_signed names x }

-- with a label beside
abbrev pub wider : Names → Width → Expr → Width
wider names c l = record { width = max (own_width names l) c.width; signed = own_signed names l && c.signed }

-- with each of these labels beside
abbrev pub widths : Names → Width → List Expr → Width
widths names c [] = c
widths names c (l ∷ ls) = widths names (wider names c l) ls

-- the nodes of labels, each at the greater of this width and its own, and at this sign
abbrev pub label_spots : Here → ℕ → Bool → List Expr → List Spot
label_spots here W T ls = flat_map (λ l. reached_spots here (max W (own_width here.names l)) T l) ls

-- a fault of a node, whatever width and sign reach it
pub record AreAlwaysTold (here : Here) (ls : List Expr) (y : ResolveError) : Type 0 where
  pub told : (W : ℕ) (T : Bool) → IsToldOf (label_spots here W T ls) y

pub record WidthsAnswer (here : Here) (c : OwnType) (ls : List Expr) (r : Result OwnType ResolveError) : Type 0 where
  pub right : IfOk r (λ t. width_of t ≡ widths here.names (width_of c) ls)
  pub wrong : IfErr r (AreAlwaysTold here ls)

pub record CommonAnswer (here : Here) (x : Expr) (ls : List Expr) (r : Result OwnType ResolveError) : Type 0 where
  pub right : IfOk r (λ t. width_of t ≡ common here.names x ls)
  pub wrong : IfErr r (AreAlwaysTold here (x ∷ ls))

-- ---- labels

pub record AreMoreLabels (f : Labels) (r : Resolved) (g : Labels) : Type 0 where
  pub labels : g.labels ≡ f.labels ++ r.expr ∷ []
  pub clocks : g.clocks ≡ f.clocks ++ r.clocks

pub record HasLabels (S : Signals) (here : Here) (W : ℕ) (T : Bool) (ls : List Expr) (f : Labels) : Type 0 where
  pub same : map (flat.label_of S) f.labels ≡ map (source.label_of here.names) ls
  pub good : list_all has_operands ls ≡ true → list_all (is_good S) f.labels ≡ true
  pub faultless : AreFaultless (label_spots here W T ls)
  pub clocks : flat_map (site_faults ClockUse) (label_spots here W T ls) ≡ f.clocks

pub record LabelsAnswer (S : Signals) (here : Here) (W : ℕ) (T : Bool) (ls : List Expr) (r : Result Labels ResolveError) : Type 0 where
  pub right : IfOk r (HasLabels S here W T ls)
  pub wrong : IfErr r (IsToldOf (label_spots here W T ls))

-- ---- the selector

abbrev pub choose_at : Here → Expr → List Arm → Standing
choose_at here x arms = record { here = here; form = Choose x (label_lists arms) }

pub record HasHead (S : Signals) (here : Here) (x : Expr) (arms : List Arm) (h : Head) : Type 0 where
  pub kind : width_of h.kind ≡ common here.names x (labels_in arms)
  pub selector : IsResolved S here (reached_spots here (max h.kind.width (own_width here.names x)) h.kind.signed x) x h.selector
  pub defaults : two_defaults (choose_at here x arms) ≡ []

pub record HeadAnswer (S : Signals) (here : Here) (x : Expr) (arms : List Arm) (r : Result Head StmtError) : Type 0 where
  pub right : IfOk r (HasHead S here x arms)
  pub wrong : IfErr r (IsFaultOf (choose_at here x arms ∷ []))

-- ---- arms

abbrev pub flat_labels : Signals → FlatArm → List Label
flat_labels S a = map (flat.label_of S) a.labels

abbrev pub source_labels : Names → Arm → List Label
source_labels names a = map (source.label_of names) a.labels

abbrev pub good_arm : Signals → FlatArm → Bool
good_arm S a = list_all (is_good S) a.labels && good_stmt S a.body

abbrev pub has_arm_operands : Arm → Bool
has_arm_operands a = list_all has_operands a.labels && has_stmt_operands a.body

pub record AreMoreArms (f : Arms) (l : Labels) (r : ResolvedStmt) (g : Arms) : Type 0 where
  pub arms : g.arms ≡ f.arms ++ (let a : FlatArm = record { labels = l.labels; body = r.stmt } in a) ∷ []
  pub heads : g.heads ≡ f.heads ++ l.clocks
  pub clocks : g.clocks ≡ f.clocks ++ r.clocks

pub record HasArms (S : Signals) (here : Here) (W : ℕ) (T : Bool) (arms : List Arm) (f : Arms) : Type 0 where
  pub same : map (arm_with (flat_labels S) (λ a. flat_done S a.body)) f.arms ≡ map (arm_with (source_labels here.names) (λ a. source_done here.names a.body)) arms
  pub good : list_all has_arm_operands arms ≡ true → list_all (good_arm S) f.arms ≡ true
  pub faultless : AreFaultless (label_spots here W T (labels_in arms))
  pub heads : flat_map (site_faults ClockUse) (label_spots here W T (labels_in arms)) ≡ f.heads
  pub sound : AreSound (bodies here arms)
  pub clocks : flat_map clocks_at (bodies here arms) ≡ f.clocks

-- a fault of a label, or one in a statement
pub data IsArmsFault (here : Here) (W : ℕ) (T : Bool) (arms : List Arm) (e : StmtError) : Type 0 where
  in_label : (y : ResolveError) → e ≡ of_node y → IsToldOf (label_spots here W T (labels_in arms)) y → IsArmsFault here W T arms e
  in_body : IsFaultOf (bodies here arms) e → IsArmsFault here W T arms e

pub record ArmsAnswer (S : Signals) (here : Here) (W : ℕ) (T : Bool) (arms : List Arm) (r : Result Arms StmtError) : Type 0 where
  pub right : IfOk r (HasArms S here W T arms)
  pub wrong : IfErr r (IsArmsFault here W T arms)

-- ---- the statement

abbrev pub case_standing : Here → Expr → List Arm → List Standing
case_standing here x arms = choose_at here x arms ∷ bodies here arms

abbrev pub case_done : Bool → Names → Expr → List Arm → Done
case_done wild names x arms = done_case wild (is_extended x) (read_expr names x) (map (arm_with (source_labels names) (λ a. source_done names a.body)) arms)

pub record IsCase (wild : Bool) (h : Head) (f : Arms) (r : ResolvedStmt) : Type 0 where
  pub stmt : r.stmt ≡ b.Case wild h.selector.expr f.arms
  pub clocks : r.clocks ≡ (h.selector.clocks ++ f.heads) ++ f.clocks
