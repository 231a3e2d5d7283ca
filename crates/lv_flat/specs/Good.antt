-- Statements and parts whose expressions and targets are good.
use Rattle.std.specs.Prelude.{Bool, true, ◌&&◌, List, map, Option, Some, None}
use Rattle.std.specs.List.{list_all}
use Rattle.lv_source.specs.Values.{nowhere}
use Rattle.lv_source.specs.Effect.{places, bits_in}
use Rattle.lv_source.specs.NodeRules.{is_width}
use Rattle.lv_source.specs.Parts.{is_declared_sort}
use Rattle.lv_flat.specs.declared.stmt.FlatTarget.{FlatTarget}
use Rattle.lv_flat.specs.declared.stmt.FlatTarget.TheOpen.{FlatTarget-F}
use Rattle.lv_flat.specs.declared.stmt.FlatStmt.{FlatStmt}
use Rattle.lv_flat.specs.declared.stmt.FlatStmt.TheOpen.{FlatStmt-F, FlatArm-F}
use Rattle.lv_flat.specs.declared.part.FlatBody.{FlatBody}
use Rattle.lv_flat.specs.declared.part.FlatBody.TheVariants as b
use Rattle.lv_flat.specs.declared.part.FlatPart.{FlatPart}
use Rattle.lv_flat.specs.Signals.{Signals, signal_at}
use Rattle.lv_flat.specs.Judged.{judge_select, good_selects, is_good}
use Rattle.lv_flat.specs.Executing.{pieces}
use Rattle.lv_flat.specs.Trees.{fold_target, fold_stmt}

abbrev pub good_target_step : Signals → FlatTarget-F Bool → Bool
good_target_step S (FlatTarget-F.Signal name ss) =
    is_declared_sort (signal_at S name.signal).sort && good_selects (signal_at S name.signal) (map (judge_select S) ss)
good_target_step S (FlatTarget-F.Cat ts) = list_all (λ b. b) ts

-- each name is that of a signal or clock, with selects that it takes
unfoldable pub are_targets : Signals → FlatTarget → Bool
are_targets S t = fold_target Bool (good_target_step S) t

-- all bits together are 1 to 128
unfoldable pub good_target : Signals → FlatTarget → Bool
good_target S t = is_width (bits_in (places nowhere (pieces S t))) && are_targets S t

abbrev pub good_or : Option Bool → Bool
good_or None = true
good_or (Some b) = b

abbrev pub good_arm : Signals → FlatArm-F Bool Bool → Bool
good_arm S a = list_all (is_good S) a.labels && a.body

abbrev pub good_step : Signals → FlatStmt-F Bool Bool → Bool
good_step S FlatStmt-F.Null = true
good_step S (FlatStmt-F.Block body) = list_all (λ b. b) body
good_step S (FlatStmt-F.If x a b) = is_good S x && (a && good_or b)
good_step S (FlatStmt-F.Case wild x arms) = is_good S x && list_all (λ b. b) arms
good_step S (FlatStmt-F.Now target x place) = good_target S target && is_good S x
good_step S (FlatStmt-F.Later target x place) = good_target S target && is_good S x

unfoldable pub good_stmt : Signals → FlatStmt → Bool
good_stmt S s = fold_stmt Bool Bool (good_step S) (good_arm S) s

abbrev pub good_body : Signals → FlatBody → Bool
good_body S (b.Assign t x) = good_target S t && is_good S x
good_body S (b.Combinational s) = good_stmt S s
good_body S (b.Clocked e s) = is_declared_sort (signal_at S e.signal).sort && good_stmt S s

abbrev pub are_good : Signals → List FlatPart → Bool
are_good S ps = list_all (λ p. good_body S p.body) ps
