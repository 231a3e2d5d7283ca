-- What a flat statement does.
use Rattle.std.specs.Prelude.{ℕ, List, [], ◌∷◌, map, flat_map, Option, Some, None}
use Rattle.lv_ast.specs.declared.expr.Path.{Path}
use Rattle.lv_source.specs.Effect.{Piece, State, Label, Arm, case_of, one_by_one, if_of, now_of, later_of}
use Rattle.lv_flat.specs.declared.expr.FlatExpr.{FlatExpr}
use Rattle.lv_flat.specs.declared.stmt.FlatTarget.{FlatTarget}
use Rattle.lv_flat.specs.declared.stmt.FlatTarget.TheOpen.{FlatTarget-F}
use Rattle.lv_flat.specs.declared.stmt.FlatStmt.{FlatStmt}
use Rattle.lv_flat.specs.declared.stmt.FlatStmt.TheOpen.{FlatStmt-F, FlatArm-F}
use Rattle.lv_flat.specs.Signals.{Signals, signal_at}
use Rattle.lv_flat.specs.Judged.{judge_select, judge, reading, choices}
use Rattle.lv_flat.specs.Trees.{fold_target, fold_stmt}

-- ---- targets

abbrev pub path_at : ℕ → Path
path_at place = record { steps = []; name = []; place = place }

abbrev pub piece_step : Signals → FlatTarget-F (List Piece) → List Piece
piece_step S (FlatTarget-F.Signal name ss) =
    record { path = path_at name.place; declared = Some (signal_at S name.signal); choices = choices (map (judge_select S) ss) } ∷ []
piece_step S (FlatTarget-F.Cat parts) = flat_map (λ ps. ps) parts

-- the names of a target, from left to right
unfoldable pub pieces : Signals → FlatTarget → List Piece
pieces S t = fold_target (List Piece) (piece_step S) t

-- ---- statements

abbrev pub label_of : Signals → FlatExpr → Label
label_of S e = record { reading = reading S e; literal = (judge S e).literal }

abbrev pub arm_step : {A : Type 0} → Signals → FlatArm-F A (Arm A) → Arm A
arm_step S a = record { labels = map (label_of S) a.labels; body = a.body }

abbrev pub Effect : Type 0
Effect = State → State

abbrev pub otherwise : Option Effect → Effect
otherwise None s = s
otherwise (Some f) s = f s

abbrev pub effect_step : Signals → FlatStmt-F Effect (Arm Effect) → Effect
effect_step S FlatStmt-F.Null s = s
effect_step S (FlatStmt-F.Block body) s = one_by_one body s
effect_step S (FlatStmt-F.If x then_ else_) s = if_of (reading S x) then_ (otherwise else_) s
effect_step S (FlatStmt-F.Case wild x arms) s = case_of wild (reading S x) arms s
effect_step S (FlatStmt-F.Now target x place) s = now_of (pieces S target) (reading S x) s
effect_step S (FlatStmt-F.Later target x place) s = later_of (pieces S target) (reading S x) s

-- `=` changes the valuation at once, `<=` adds an update
unfoldable pub executes : Signals → FlatStmt → State → State
executes S stmt s = fold_stmt Effect (Arm Effect) (effect_step S) (arm_step S) stmt s
