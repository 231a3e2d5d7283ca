-- The header of a loop: its turns, and the nodes of its three expressions where they stand.
use Rattle.std.specs.Prelude.{◌≡◌, ◌⊎◌, ℕ, ◌-◌, ◌<◌, ◌≤◌, Bool, true, false, ◌==◌, List, [], ◌∷◌, ◌++◌, map, length, Option, Some, None, Result, IfOk, IfErr, flat_map, ⊤}
use Rattle.lv_ast.specs.declared.expr.Expr.{Expr}
use Rattle.lv_ast.specs.Names.{Name}
use Rattle.lv_source.specs.Names.{Names, Here, with_early}
use Rattle.lv_source.specs.Meaning.{constant_value}
use Rattle.lv_source.specs.Effect.{with_index, index_value, turns, turns_from}
use Rattle.lv_source.specs.Sites.{Site, expr_sites}
use Rattle.lv_const.specs.declared.error.ConstError.{ConstError}
use Rattle.lv_const.specs.Answers.{Told}
use Rattle.lv_scopes.specs.Numbers.{AreClean}
use Rattle.lv_scopes.specs.declared.turns.TurnsError.{TurnsError}
use Rattle.lv_scopes.specs.declared.turns.TurnsError.TheVariants as t

-- ---- one turn

abbrev pub test_sites : Names → Expr → List Site
test_sites names test = expr_sites true names 0 test

abbrev pub next_sites : Names → Expr → List Site
next_sites names next = expr_sites true names 32 next

pub record IsIndex (here : Here) (x : Expr) (n : ℕ) : Type 0 where
  pub is : n ≡ index_value here.names x
  pub clean : AreClean here.early (next_sites here.names x)

pub record IsIndexAnswer (here : Here) (x : Expr) (r : Result ℕ ConstError) : Type 0 where
  pub right : IfOk r (IsIndex here x)
  pub wrong : IfErr r (Told here.early (next_sites here.names x))

pub record IsZero (here : Here) (x : Expr) (b : Bool) : Type 0 where
  pub is : b ≡ (constant_value here.names x == 0)
  pub clean : AreClean here.early (test_sites here.names x)

pub record IsZeroAnswer (here : Here) (x : Expr) (r : Result Bool ConstError) : Type 0 where
  pub right : IfOk r (IsZero here x)
  pub wrong : IfErr r (Told here.early (test_sites here.names x))

-- the next value, where the test is not 0
pub record IsStep (here : Here) (test next : Expr) (n : Option ℕ) : Type 0 where
  pub ends : n ≡ None → (constant_value here.names test == 0) ≡ true
  pub goes : (k : ℕ) → n ≡ Some k → ((constant_value here.names test == 0) ≡ false) × IsIndex here next k
  pub clean : AreClean here.early (test_sites here.names test)

-- a fault of the test, or of the next value where the test is not 0
abbrev pub IsStepFault : Here → Expr → Expr → ConstError → Type 0
IsStepFault here test next y =
    Told here.early (test_sites here.names test) y ⊎ (((constant_value here.names test == 0) ≡ false) × Told here.early (next_sites here.names next) y)

pub record IsStepAnswer (here : Here) (test next : Expr) (r : Result (Option ℕ) ConstError) : Type 0 where
  pub right : IfOk r (IsStep here test next)
  pub wrong : IfErr r (IsStepFault here test next)

abbrev pub IsTurnFault : Here → Expr → Expr → TurnsError → Type 0
IsTurnFault here test next (t.Const y) = IsStepFault here test next y
IsTurnFault here test next t.Limit = ⊥
IsTurnFault here test next t.NoMemory = ⊤

pub record IsTurnAnswer (here : Here) (test next : Expr) (r : Result (Option ℕ) TurnsError) : Type 0 where
  pub right : IfOk r (IsStep here test next)
  pub wrong : IfErr r (IsTurnFault here test next)

-- ---- all turns

-- after the first value the test at each value that it is put to, the last one too, and the next value once per turn
abbrev pub turn_sites : Names → Name → Expr → Expr → Expr → List Site
turn_sites names index start test next =
    let ks : List ℕ = turns names index start test next in
    let at : ℕ → Names = with_index names index in
    flat_map (λ k. test_sites (at k) test) (index_value names start ∷ map (λ k. index_value (at k) next) ks) ++
    flat_map (λ k. next_sites (at k) next) ks

pub record AreTurns (here : Here) (index : Name) (start test next : Expr) (most : ℕ) (ks : List ℕ) : Type 0 where
  pub are : ks ≡ turns here.names index start test next
  pub few : length ks ≤ most
  pub first : AreClean here.early (next_sites here.names start)
  pub clean : AreClean (with_early here.early index) (turn_sites here.names index start test next)

abbrev pub AreNoTurns : Here → Name → Expr → Expr → Expr → ℕ → TurnsError → Type 0
AreNoTurns here index start test next most (t.Const y) =
    Told here.early (next_sites here.names start) y ⊎ Told (with_early here.early index) (turn_sites here.names index start test next) y
AreNoTurns here index start test next most t.Limit = most < length (turns here.names index start test next)
AreNoTurns here index start test next most t.NoMemory = ⊤

pub record IsTurnsAnswer (here : Here) (index : Name) (start test next : Expr) (most : ℕ) (r : Result (List ℕ) TurnsError) : Type 0 where
  pub right : IfOk r (AreTurns here index start test next most)
  pub wrong : IfErr r (AreNoTurns here index start test next most)

-- ---- the turns that have been made

pub record IsSoFar (here : Here) (index : Name) (start test next : Expr) (done : List ℕ) (value : ℕ) : Type 0 where
  pub rest : turns here.names index start test next ≡ done ++ turns_from (1000001 - length done) here.names index test next value
  pub chain : index_value here.names start ∷ map (λ k. index_value (with_index here.names index k) next) done ≡ done ++ value ∷ []
  pub first : AreClean here.early (next_sites here.names start)
  pub tests : AreClean (with_early here.early index) (flat_map (λ k. test_sites (with_index here.names index k) test) done)
  pub nexts : AreClean (with_early here.early index) (flat_map (λ k. next_sites (with_index here.names index k) next) done)
