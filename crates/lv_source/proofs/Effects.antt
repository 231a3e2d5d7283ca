-- What a target names and what a statement does, by the form of the tree, as rewriting rules.
use Rattle.std.proofs.Common.{◌≡◌, ◌++◌, ℕ, zero, suc, Bool, true, false, List, [], ◌∷◌, map, refl, Option, Some, None, ap, ◌∙◌, ◌==◌}
use Rattle.std.specs.Prelude.{flat_map}
use Rattle.lv_ast.specs.declared.expr.Expr.{Expr}
use Rattle.lv_ast.specs.declared.expr.Path.{Path}
use Rattle.lv_ast.specs.declared.expr.Select.{Select}
use Rattle.lv_ast.specs.declared.stmt.Ident.{Ident}
use Rattle.lv_ast.specs.declared.stmt.Target.{Target}
use Rattle.lv_ast.specs.declared.stmt.Target.TheVariants as t
use Rattle.lv_ast.specs.declared.stmt.Arm.{Arm}
use Rattle.lv_ast.specs.declared.stmt.Stmt.{Stmt}
use Rattle.lv_ast.specs.declared.stmt.Stmt.TheVariants as b
use Rattle.lv_ast.specs.Trees.{fold_stmt}
use Rattle.lv_ast.specs.Names.{Name}
use Rattle.lv_source.specs.Names.{Names}
use Rattle.lv_source.specs.Places.{Place}
use Rattle.lv_source.specs.Meaning.{read_select, meaning, constant_value}
use Rattle.lv_source.specs.Effect.{Piece, piece_step, pieces, Effect, State, ArmOf, is_set, case_effect, each_turn, with_index, index_value, turns, turns_from, in_order, effect_step, arm_step, executes, places, bits_in, write_all, assigned}
use Rattle.lv_ast.proofs.StmtFolds as fold

-- ---- targets

pub pieces-Name : (names : Names) (path : Path) (ss : List Select) →
    pieces names (t.Name path ss) ≡ record { path = path; declared = names path; choices = map (read_select names) ss } ∷ []
unfolding pieces
pieces-Name names path ss = fold.fold_target-Name (List Piece) (piece_step names) path ss

pub pieces-Cat : (names : Names) (ts : List Target) → pieces names (t.Cat ts) ≡ flat_map (λ ps. ps) (map (pieces names) ts)
unfolding pieces
pieces-Cat names ts = fold.fold_target-Cat (List Piece) (piece_step names) ts

pub ruleset piece_rules = (
  pieces-Name,
  pieces-Cat,
)

-- ---- statements

-- the statements of a block, one after another
abbrev pub run_all : Names → List Stmt → State → State
run_all names [] st = st
run_all names (x ∷ xs) st = run_all names xs (executes names x st)

abbrev effect : Stmt → Effect
effect s = fold_stmt Effect (ArmOf Effect) effect_step arm_step s

abbrev pub arm_effect : Arm → ArmOf Effect
arm_effect a = record { labels = a.labels; body = λ names st. executes names a.body st }

module _ (names : Names) (st : State) where
  pub executes-Null : executes names b.Null st ≡ st
  unfolding executes
  executes-Null = refl

  pub executes-If : (c : Expr) (s : Stmt) → is_set names st.valuation c ≡ true → executes names (b.If c s None) st ≡ executes names s st
  unfolding executes
  executes-If c s h = ap (λ (f : Effect). f names st) (fold.fold_stmt-If Effect (ArmOf Effect) effect_step arm_step c s) ∙ rw h

  pub executes-If_not : (c : Expr) (s : Stmt) → is_set names st.valuation c ≡ false → executes names (b.If c s None) st ≡ st
  unfolding executes
  executes-If_not c s h = ap (λ (f : Effect). f names st) (fold.fold_stmt-If Effect (ArmOf Effect) effect_step arm_step c s) ∙ rw h

  pub executes-If_else : (c : Expr) (s t : Stmt) → is_set names st.valuation c ≡ true → executes names (b.If c s (Some t)) st ≡ executes names s st
  unfolding executes
  executes-If_else c s t h = ap (λ (f : Effect). f names st) (fold.fold_stmt-If_else Effect (ArmOf Effect) effect_step arm_step c s t) ∙ rw h

  pub executes-If_else_not : (c : Expr) (s t : Stmt) → is_set names st.valuation c ≡ false → executes names (b.If c s (Some t)) st ≡ executes names t st
  unfolding executes
  executes-If_else_not c s t h = ap (λ (f : Effect). f names st) (fold.fold_stmt-If_else Effect (ArmOf Effect) effect_step arm_step c s t) ∙ rw h

  pub executes-Case : (wild : Bool) (x : Expr) (arms : List Arm) → executes names (b.Case wild x arms) st ≡ case_effect wild x (map arm_effect arms) names st
  unfolding executes
  executes-Case wild x arms = ap (λ (f : Effect). f names st) (fold.fold_stmt-Case Effect (ArmOf Effect) effect_step arm_step wild x arms)

  pub executes-Loop : (index : Ident) (start test : Expr) (again : Ident) (next : Expr) (s : Stmt) →
      executes names (b.Loop index start test again next s) st ≡
      each_turn (with_index names index.name) (λ here st. executes here s st) (turns names index.name start test next) st
  unfolding executes
  executes-Loop index start test again next s =
      ap (λ (f : Effect). f names st) (fold.fold_stmt-Loop Effect (ArmOf Effect) effect_step arm_step index start test again next s)

  pub executes-Now : (target : Target) (x : Expr) (place : ℕ) →
      executes names (b.Now target x place) st ≡
      (let ps : List Place = places st.valuation (pieces names target) in
      record st { valuation = write_all st.valuation ps (assigned st.valuation (bits_in ps) (meaning names x)) })
  unfolding executes
  executes-Now target x place = refl

  pub executes-Later : (target : Target) (x : Expr) (place : ℕ) →
      executes names (b.Later target x place) st ≡
      (let ps : List Place = places st.valuation (pieces names target) in
      record st { pending = st.pending ++ record { places = ps; value = assigned st.valuation (bits_in ps) (meaning names x) } ∷ [] })
  unfolding executes
  executes-Later target x place = refl

in_order-run_all : (body : List Stmt) (names : Names) (st : State) → in_order (map effect body) names st ≡ run_all names body st
unfolding executes
in_order-run_all [] names st = refl
in_order-run_all (x ∷ xs) names st = in_order-run_all xs names (effect x names st)

pub executes-Block : (names : Names) (st : State) (name : Option Ident) (body : List Stmt) → executes names (b.Block name body) st ≡ run_all names body st
unfolding executes
executes-Block names st name body =
    ap (λ (f : Effect). f names st) (fold.fold_stmt-Block Effect (ArmOf Effect) effect_step arm_step name body) ∙ in_order-run_all body names st

-- ---- loops

pub turns_from-none : (names : Names) (index : Name) (test next : Expr) (value : ℕ) → turns_from zero names index test next value ≡ []
unfolding turns_from
turns_from-none names index test next value = refl

pub turns_from-stop : (n : ℕ) (names : Names) (index : Name) (test next : Expr) (value : ℕ) →
    (constant_value (with_index names index value) test == 0) ≡ true → turns_from (suc n) names index test next value ≡ []
unfolding turns_from
turns_from-stop n names index test next value h = rw (h, turns_from)

pub turns_from-turn : (n : ℕ) (names : Names) (index : Name) (test next : Expr) (value : ℕ) →
    (constant_value (with_index names index value) test == 0) ≡ false →
    turns_from (suc n) names index test next value ≡
    value ∷ turns_from n names index test next (index_value (with_index names index value) next)
unfolding turns_from
turns_from-turn n names index test next value h =
    let here : Names = with_index names index value in
    ap (λ (c : Bool). elim c as (λ _. List ℕ) [ true ↦ [] | false ↦ value ∷ turns_from n names index test next (index_value here next) ]) h

pub turns_are : (names : Names) (index : Name) (place : ℕ) (start test next : Expr) →
    turns names index start test next ≡ turns_from 1000001 names index test next (index_value names start)
unfolding turns
turns_are names index place start test next = refl

pub ruleset effect_rules = (
  executes-Null,
  executes-Block,
  executes-If,
  executes-If_not,
  executes-If_else,
  executes-If_else_not,
  executes-Case,
  executes-Loop,
  executes-Now,
  executes-Later,
)
