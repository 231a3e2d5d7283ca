-- Where the statements in a statement stand, and whether its operators have their operands, by the form of the tree.
use Rattle.std.proofs.Common.{◌≡◌, ℕ, Bool, true, false, ◌&&◌, List, ◌∷◌, ◌++◌, flat_map, refl, Option, Some, None, ap, ◌∙◌}
use Rattle.std.specs.List.{list_all}
use Rattle.lv_ast.specs.declared.expr.Expr.{Expr}
use Rattle.lv_ast.specs.declared.stmt.Ident.{Ident}
use Rattle.lv_ast.specs.declared.stmt.Target.{Target}
use Rattle.lv_ast.specs.declared.stmt.Arm.{Arm}
use Rattle.lv_ast.specs.declared.stmt.Stmt.{Stmt}
use Rattle.lv_ast.specs.declared.stmt.Stmt.TheVariants as b
use Rattle.lv_ast.proofs.StmtFolds as fold
use Rattle.lv_source.specs.Names.{Here}
use Rattle.lv_source.specs.Effect.{ArmOf, arm_step}
use Rattle.lv_source.specs.Standing.{Standing, Standings, Empty, Test, Choose, Assign, one, standing, standing_step}
use Rattle.lv_source.proofs.CaseTrees.{flat-map}
use Rattle.lv_source.proofs.Bridges.{two, map-map}
use Rattle.lv_resolve.specs.Forms.{has_operands}
use Rattle.lv_resolve.specs.Targets.{has_target_operands}
use Rattle.lv_resolve_stmts.specs.Statements.{has_stmt_operands, operands_step, arm_operands}
use Rattle.lv_resolve_stmts.specs.Cases.{case_standing, has_arm_operands}
use Rattle.lv_resolve_stmts.specs.Joins.{loop_standing}
use Rattle.lv_resolve_stmts.proofs.Lists.{all-mapped, append-nil}

module _ (here : Here) where
  pub stands-Null : standing here b.Null ≡ one here Empty
  unfolding standing
  stands-Null = refl

  pub stands-Block : (name : Option Ident) (body : List Stmt) → standing here (b.Block name body) ≡ one here Empty ++ flat_map (standing here) body
  unfolding standing
  stands-Block name body =
      ap (λ (f : Standings). f here) (fold.fold_stmt-Block Standings (ArmOf Standings) standing_step arm_step name body) ∙
      ap (λ (ks : List Standing). one here Empty ++ ks) (flat-map (λ (f : Standings). f here) _ body)

  pub stands-If : (c : Expr) (s : Stmt) → standing here (b.If c s None) ≡ one here (Test c) ++ standing here s
  unfolding standing
  stands-If c s =
      ap (λ (f : Standings). f here) (fold.fold_stmt-If Standings (ArmOf Standings) standing_step arm_step c s) ∙
      ap (λ (ks : List Standing). one here (Test c) ++ ks) (append-nil (standing here s))

  pub stands-If_else : (c : Expr) (s t : Stmt) → standing here (b.If c s (Some t)) ≡ one here (Test c) ++ (standing here s ++ standing here t)
  unfolding standing
  stands-If_else c s t = ap (λ (f : Standings). f here) (fold.fold_stmt-If_else Standings (ArmOf Standings) standing_step arm_step c s t)

  pub stands-Case : (wild : Bool) (c : Expr) (arms : List Arm) → standing here (b.Case wild c arms) ≡ case_standing here c arms
  unfolding standing
  stands-Case wild c arms =
      ap (λ (f : Standings). f here) (fold.fold_stmt-Case Standings (ArmOf Standings) standing_step arm_step wild c arms) ∙
      two (λ (ls : List (List Expr)) (ks : List Standing). (let k : Standing = record { here = here; form = Choose c ls } in k) ∷ ks) _ _ _ _
      (map-map (λ (a : ArmOf Standings). a.labels) _ arms) (flat-map (λ (a : ArmOf Standings). a.body here) _ arms)

  pub stands-Loop : (index : Ident) (start test : Expr) (again : Ident) (next : Expr) (s : Stmt) →
      standing here (b.Loop index start test again next s) ≡ loop_standing here index start test again next s
  unfolding standing
  stands-Loop index start test again next s = ap (λ (f : Standings). f here) (fold.fold_stmt-Loop Standings (ArmOf Standings) standing_step arm_step index start test again next s)

  pub stands-Now : (t : Target) (x : Expr) (place : ℕ) → standing here (b.Now t x place) ≡ one here (Assign true t x)
  unfolding standing
  stands-Now t x place = refl

  pub stands-Later : (t : Target) (x : Expr) (place : ℕ) → standing here (b.Later t x place) ≡ one here (Assign false t x)
  unfolding standing
  stands-Later t x place = refl

pub ok-Null : has_stmt_operands b.Null ≡ true
unfolding has_stmt_operands
ok-Null = refl

pub ok-Block : (name : Option Ident) (body : List Stmt) → has_stmt_operands (b.Block name body) ≡ list_all has_stmt_operands body
unfolding has_stmt_operands
ok-Block name body = fold.fold_stmt-Block Bool Bool operands_step arm_operands name body ∙ all-mapped has_stmt_operands body

and-true : (b : Bool) → b && true ≡ b
and-true true = refl
and-true false = refl

pub ok-If : (c : Expr) (s : Stmt) → has_stmt_operands (b.If c s None) ≡ (has_operands c && has_stmt_operands s)
unfolding has_stmt_operands
ok-If c s = fold.fold_stmt-If Bool Bool operands_step arm_operands c s ∙ ap (λ (k : Bool). has_operands c && k) (and-true (has_stmt_operands s))

pub ok-If_else : (c : Expr) (s t : Stmt) → has_stmt_operands (b.If c s (Some t)) ≡ (has_operands c && (has_stmt_operands s && has_stmt_operands t))
unfolding has_stmt_operands
ok-If_else c s t = fold.fold_stmt-If_else Bool Bool operands_step arm_operands c s t

pub ok-Case : (wild : Bool) (c : Expr) (arms : List Arm) → has_stmt_operands (b.Case wild c arms) ≡ (has_operands c && list_all has_arm_operands arms)
unfolding has_stmt_operands
ok-Case wild c arms = fold.fold_stmt-Case Bool Bool operands_step arm_operands wild c arms ∙ ap (λ (k : Bool). has_operands c && k) (all-mapped has_arm_operands arms)

pub ok-Loop : (index : Ident) (start test : Expr) (again : Ident) (next : Expr) (s : Stmt) → has_stmt_operands (b.Loop index start test again next s) ≡ has_stmt_operands s
unfolding has_stmt_operands
ok-Loop index start test again next s = fold.fold_stmt-Loop Bool Bool operands_step arm_operands index start test again next s

pub ok-Now : (t : Target) (x : Expr) (place : ℕ) → has_stmt_operands (b.Now t x place) ≡ (has_target_operands t && has_operands x)
unfolding has_stmt_operands
ok-Now t x place = refl

pub ok-Later : (t : Target) (x : Expr) (place : ℕ) → has_stmt_operands (b.Later t x place) ≡ (has_target_operands t && has_operands x)
unfolding has_stmt_operands
ok-Later t x place = refl
