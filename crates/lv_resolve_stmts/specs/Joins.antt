-- Statements from their parts.
use Rattle.std.specs.Prelude.{◌≡◌, ℕ, Bool, true, if◌then◌else◌, List, [], ◌∷◌, ◌++◌, map, None, Some, Result, IfOk, IfErr, flat_map}
use Rattle.std.specs.List.{list_all}
use Rattle.lv_ast.specs.declared.expr.Expr.{Expr}
use Rattle.lv_ast.specs.declared.stmt.Ident.{Ident}
use Rattle.lv_ast.specs.declared.stmt.Stmt.{Stmt}
use Rattle.lv_source.specs.Names.{Names, Here}
use Rattle.lv_source.specs.Meaning.{Reading}
use Rattle.lv_source.specs.Effect.{with_index, turns}
use Rattle.lv_source.specs.Standing.{Standing, standing, at_turn, one, Repeat}
use Rattle.lv_flat.specs.declared.expr.FlatExpr.{FlatExpr}
use Rattle.lv_flat.specs.declared.stmt.FlatTarget.{FlatTarget}
use Rattle.lv_flat.specs.declared.stmt.FlatStmt.{FlatStmt}
use Rattle.lv_flat.specs.declared.stmt.FlatStmt.TheVariants as b
use Rattle.lv_flat.specs.Signals.{Signals}
use Rattle.lv_flat.specs.Good.{good_stmt}
use Rattle.lv_flat.proofs.Doings.{Done, Goal, done_all, done_now, done_later}
use Rattle.lv_flat.proofs.FlatDoings.{flat_done}
use Rattle.lv_flat.proofs.SourceDoings.{source_done}
use Rattle.lv_resolve.specs.declared.goal.ResolvedTarget.{ResolvedTarget}
use Rattle.lv_resolve.specs.declared.resolved.Resolved.{Resolved}
use Rattle.lv_resolve_stmts.specs.declared.error.StmtError.{StmtError}
use Rattle.lv_resolve_stmts.specs.declared.resolved.ResolvedStmt.{ResolvedStmt}
use Rattle.lv_resolve_stmts.specs.declared.resolved.Stmts.{Stmts}
use Rattle.lv_resolve_stmts.specs.Statements.{AreSound, IsFaultOf, clocks_at}

pub record AreMore (f : Stmts) (r : ResolvedStmt) (g : Stmts) : Type 0 where
  pub stmts : g.stmts ≡ f.stmts ++ r.stmt ∷ []
  pub clocks : g.clocks ≡ f.clocks ++ r.clocks

abbrev pub flat_assignment : Bool → FlatTarget → FlatExpr → ℕ → FlatStmt
flat_assignment now t x at = if now then b.Now t x at else b.Later t x at

abbrev pub done_write : Bool → Goal → Reading → ℕ → Done
done_write now g x at = if now then done_now g x at else done_later g x at

pub record IsWritten (now : Bool) (t : ResolvedTarget) (x : Resolved) (at : ℕ) (r : ResolvedStmt) : Type 0 where
  pub stmt : r.stmt ≡ flat_assignment now t.target x.expr at
  pub clocks : r.clocks ≡ t.clocks ++ x.clocks

pub record IsIf (x : Resolved) (a r : ResolvedStmt) : Type 0 where
  pub stmt : r.stmt ≡ b.If x.expr a.stmt None
  pub clocks : r.clocks ≡ x.clocks ++ a.clocks

pub record IsIfElse (x : Resolved) (a c r : ResolvedStmt) : Type 0 where
  pub stmt : r.stmt ≡ b.If x.expr a.stmt (Some c.stmt)
  pub clocks : r.clocks ≡ (x.clocks ++ a.clocks) ++ c.clocks

-- ---- one after another

pub record HasStmts (S : Signals) (ks : List Standing) (ds : List Done) (ok : Bool) (f : Stmts) : Type 0 where
  pub same : map (flat_done S) f.stmts ≡ ds
  pub good : ok ≡ true → list_all (good_stmt S) f.stmts ≡ true
  pub sound : AreSound ks
  pub clocks : flat_map clocks_at ks ≡ f.clocks

pub record StmtsAnswer (S : Signals) (ks : List Standing) (ds : List Done) (ok : Bool) (r : Result Stmts StmtError) : Type 0 where
  pub right : IfOk r (HasStmts S ks ds ok)
  pub wrong : IfErr r (IsFaultOf ks)

-- ---- the parts of a statement

abbrev pub loop_standing : Here → Ident → Expr → Expr → Ident → Expr → Stmt → List Standing
loop_standing here index start test again next s =
    one here (Repeat index start test again next) ++ flat_map (λ k. standing (at_turn here index.name k) s) (turns here.names index.name start test next)

abbrev pub loop_done : Names → Ident → Expr → Expr → Expr → Stmt → Done
loop_done names index start test next s = done_all (map (λ k. source_done (with_index names index.name k) s) (turns names index.name start test next))
