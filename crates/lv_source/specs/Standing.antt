-- The statements of a block where they stand: a statement in a loop once per turn, with the value of the index.
use Rattle.std.specs.Prelude.{ℕ, Bool, true, false, List, [], ◌∷◌, ◌++◌, map, Option, Some, None, flat_map}
use Rattle.lv_ast.specs.declared.expr.Expr.{Expr}
use Rattle.lv_ast.specs.declared.stmt.Ident.{Ident}
use Rattle.lv_ast.specs.declared.stmt.Target.{Target}
use Rattle.lv_ast.specs.declared.stmt.Stmt.{Stmt}
use Rattle.lv_ast.specs.declared.stmt.Stmt.TheOpen.{Stmt-F}
use Rattle.lv_ast.specs.Trees.{fold_stmt}
use Rattle.lv_ast.specs.Names.{Name}
use Rattle.lv_source.specs.Names.{Names, Here, with_early}
use Rattle.lv_source.specs.Values.{nowhere}
use Rattle.lv_source.specs.Effect.{ArmOf, arm_step, common, Width, pieces, places, bits_in, with_index, index_value, turns}
use Rattle.lv_source.specs.Sites.{Value, Written, Site, Spot, spots, walk, expr_sites, target_sites}

-- a statement without what stands in it
pub data Form : Type 0 where
  Empty : Form
  Test : (condition : Expr) → Form
  -- a selector, and the labels of each arm
  Choose : (selector : Expr) → (arms : List (List Expr)) → Form
  Repeat : (index : Ident) → (start : Expr) → (test : Expr) → (again : Ident) → (next : Expr) → Form
  Assign : (at_once : Bool) → (target : Target) → (value : Expr) → Form

pub record Standing : Type 0 where
  pub here : Here
  pub form : Form

abbrev pub Standings : Type 0
Standings = Here → List Standing

abbrev pub one : Here → Form → List Standing
one here form = record { here = here; form = form } ∷ []

abbrev pub standing_or : Option Standings → Standings
standing_or None here = []
standing_or (Some f) here = f here

-- in a loop, at a value of its index
abbrev pub at_turn : Here → Name → ℕ → Here
at_turn here index k = record { names = with_index here.names index k; early = with_early here.early index }

abbrev pub standing_step : Stmt-F Standings (ArmOf Standings) → Standings
standing_step Stmt-F.Null here = one here Empty
standing_step (Stmt-F.Block name body) here = one here Empty ++ flat_map (λ f. f here) body
standing_step (Stmt-F.If x a b) here = one here (Test x) ++ a here ++ standing_or b here
standing_step (Stmt-F.Case wild x arms) here = one here (Choose x (map (λ a. a.labels) arms)) ++ flat_map (λ a. a.body here) arms
standing_step (Stmt-F.Loop index start test again next body) here =
    one here (Repeat index start test again next) ++ flat_map (λ k. body (at_turn here index.name k)) (turns here.names index.name start test next)
standing_step (Stmt-F.Now target x place) here = one here (Assign true target x)
standing_step (Stmt-F.Later target x place) here = one here (Assign false target x)

unfoldable pub standing : Here → Stmt → List Standing
standing here s = fold_stmt Standings (ArmOf Standings) standing_step arm_step s here

-- ---- expressions

abbrev pub target_width : Names → Target → ℕ
target_width names t = bits_in (places nowhere (pieces names t))

-- the test stands there for each value that it is put to, the last one too, and the next value once per turn
abbrev pub header_spots : Here → Ident → Expr → Expr → Expr → List Spot
header_spots here index start test next =
    let ks : List ℕ = turns here.names index.name start test next in
    let at : ℕ → Here = at_turn here index.name in
    spots here (expr_sites true here.names 32 start) ++
    flat_map (λ k. spots (at k) (expr_sites true (at k).names 0 test)) (index_value here.names start ∷ map (λ k. index_value (at k).names next) ks) ++
    flat_map (λ k. spots (at k) (expr_sites true (at k).names 32 next)) ks

-- the selector and the labels at the width and sign of the `case`
abbrev pub case_sites : Names → Expr → List Expr → List Site
case_sites names x labels =
    let c : Width = common names x labels in
    flat_map (λ l. (walk names l).sites Value None c.width c.signed) (x ∷ labels)

abbrev pub form_spots : Here → Form → List Spot
form_spots here Empty = []
form_spots here (Test x) = spots here (expr_sites false here.names 0 x)
form_spots here (Choose x arms) = spots here (case_sites here.names x (flat_map (λ ls. ls) arms))
form_spots here (Repeat index start test again next) = header_spots here index start test next
form_spots here (Assign at_once t x) = spots here (target_sites here.names Written t ++ expr_sites false here.names (target_width here.names t) x)

abbrev pub stmt_spots : Here → Stmt → List Spot
stmt_spots here s = flat_map (λ k. form_spots k.here k.form) (standing here s)
