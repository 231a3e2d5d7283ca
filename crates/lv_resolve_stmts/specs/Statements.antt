-- What is answered of a statement where it stands.
use Rattle.std.specs.Prelude.{◌≡◌, ℕ, Bool, true, false, ◌&&◌, nat_lt, List, [], ◌++◌, length, Result, IfOk, IfErr, Contains, flat_map, ⊤}
use Rattle.std.specs.List.{list_all}
use Rattle.lv_ast.specs.declared.stmt.Stmt.{Stmt}
use Rattle.lv_ast.specs.declared.stmt.Stmt.TheOpen.{Stmt-F, Arm-F}
use Rattle.lv_ast.specs.Trees.{fold_stmt}
use Rattle.lv_source.specs.Effect.{turns}
use Rattle.lv_source.specs.Standing.{Standing, Empty, Test, Choose, Repeat, Assign, form_spots}
use Rattle.lv_source.specs.ScopeRules.{unknown_in_form, range_in_form, two_defaults}
use Rattle.lv_source.specs.Faults.{site_faults}
use Rattle.lv_source.specs.Legal.{UnknownName, NotConstant, ZeroDivisor, Range, ClockUse}
use Rattle.lv_flat.specs.Signals.{Signals}
use Rattle.lv_flat.specs.Good.{good_or, good_stmt}
use Rattle.lv_flat.proofs.Doings.{Done}
use Rattle.lv_flat.proofs.FlatDoings.{flat_done}
use Rattle.lv_headers.specs.declared.error.HeaderError.{HeaderError}
use Rattle.lv_headers.specs.declared.error.HeaderError.TheVariants as h
use Rattle.lv_resolve.specs.declared.error.ResolveError.{ResolveError}
use Rattle.lv_resolve.specs.declared.error.ResolveError.TheVariants as y
use Rattle.lv_resolve.specs.Forms.{has_operands}
use Rattle.lv_resolve.specs.Targets.{has_target_operands}
use Rattle.lv_resolve.specs.Resolved.{AreFaultless}
use Rattle.lv_resolve_stmts.specs.declared.error.StmtError.{StmtError}
use Rattle.lv_resolve_stmts.specs.declared.error.StmtError.TheVariants as x
use Rattle.lv_resolve_stmts.specs.declared.resolved.ResolvedStmt.{ResolvedStmt}

-- ---- each operator has its number of operands, as the grammar gives it

abbrev pub arm_operands : Arm-F Bool Bool → Bool
arm_operands a = list_all has_operands a.labels && a.body

abbrev pub operands_step : Stmt-F Bool Bool → Bool
operands_step Stmt-F.Null = true
operands_step (Stmt-F.Block name body) = list_all (λ b. b) body
operands_step (Stmt-F.If x a b) = has_operands x && (a && good_or b)
operands_step (Stmt-F.Case wild x arms) = has_operands x && list_all (λ b. b) arms
operands_step (Stmt-F.Loop index start test again next body) = body
operands_step (Stmt-F.Now t x place) = has_target_operands t && has_operands x
operands_step (Stmt-F.Later t x place) = has_target_operands t && has_operands x

unfoldable pub has_stmt_operands : Stmt → Bool
has_stmt_operands s = fold_stmt Bool Bool operands_step arm_operands s

-- ---- errors

abbrev pub of_node : ResolveError → StmtError
of_node (y.UnknownName p) = x.UnknownName p
of_node (y.NotConstant p) = x.NotConstant p
of_node (y.ZeroDivisor p) = x.ZeroDivisor p
of_node (y.Range p) = x.Range p
of_node y.NoMemory = x.NoMemory

abbrev pub of_header : HeaderError → StmtError
of_header (h.Fault e) = of_node e
of_header h.Limit = x.Limit

-- ---- statements where they stand

-- none of the faults at a statement
pub record IsSound (k : Standing) : Type 0 where
  pub nodes : AreFaultless (form_spots k.here k.form)
  pub names : unknown_in_form k ≡ []
  pub ranges : range_in_form k ≡ []
  pub defaults : two_defaults k ≡ []

pub record AreSound (ks : List Standing) : Type 0 where
  pub each : (k : Standing) → Contains ks k → IsSound k

-- a loop of more turns than are allowed
abbrev pub is_endless : Standing → Bool
is_endless k = elim k.form [
  | Empty ↦ false
  | Test x ↦ false
  | Choose x arms ↦ false
  | Repeat index start test again next ↦ nat_lt 1000000 (length (turns k.here.names index.name start test next))
  | Assign at_once t x ↦ false
]

abbrev pub IsToldAt : Standing → StmtError → Type 0
IsToldAt k (x.UnknownName p) = Contains (flat_map (site_faults UnknownName) (form_spots k.here k.form) ++ unknown_in_form k) p
IsToldAt k (x.NotConstant p) = Contains (flat_map (site_faults NotConstant) (form_spots k.here k.form)) p
IsToldAt k (x.ZeroDivisor p) = Contains (flat_map (site_faults ZeroDivisor) (form_spots k.here k.form)) p
IsToldAt k (x.Range p) = Contains (flat_map (site_faults Range) (form_spots k.here k.form) ++ range_in_form k) p
IsToldAt k (x.Duplicate p) = Contains (two_defaults k) p
IsToldAt k x.Limit = is_endless k ≡ true
IsToldAt k x.NoMemory = ⊤

-- a fault at one of these statements, or want of memory
pub data IsFaultOf (ks : List Standing) (e : StmtError) : Type 0 where
  memory : e ≡ x.NoMemory → IsFaultOf ks e
  found : (k : Standing) → Contains ks k → IsToldAt k e → IsFaultOf ks e

-- the places of clock names at a statement
abbrev pub clocks_at : Standing → List ℕ
clocks_at k = flat_map (site_faults ClockUse) (form_spots k.here k.form)

-- a flat statement that does this, good where the operators have their operands; no fault at any of these statements, and the places of their clock names
pub record HasStmt (S : Signals) (ks : List Standing) (d : Done) (ok : Bool) (r : ResolvedStmt) : Type 0 where
  pub same : flat_done S r.stmt ≡ d
  pub good : ok ≡ true → good_stmt S r.stmt ≡ true
  pub sound : AreSound ks
  pub clocks : flat_map clocks_at ks ≡ r.clocks

pub record StmtAnswer (S : Signals) (ks : List Standing) (d : Done) (ok : Bool) (r : Result ResolvedStmt StmtError) : Type 0 where
  pub right : IfOk r (HasStmt S ks d ok)
  pub wrong : IfErr r (IsFaultOf ks)
