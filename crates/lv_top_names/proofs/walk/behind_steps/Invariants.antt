use Rattle.std.proofs.Common.{◌≡◌, take}
use Rattle.std.specs.Option.{option_map}
use Rattle.lv_ast.specs.Names.{steps_text}
use Rattle.lv_top_names.specs.Walking.{behind}
use Rattle.lv_top_names.proofs.walk.behind_steps.Given as goal

abbrev pub invariant-loop-step : goal.invariant-loop-step
invariant-loop-step l = option_map (λ x. x.now) l.rest ≡ behind (steps_text (take l.step-index l.steps)) l.fn.text
