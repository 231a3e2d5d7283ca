use Rattle.std.proofs.Common.{ℕ, List, ap, sym, ◌∙◌, arith, Bor, ◌≤◌, length}
use Rattle.std.specs.Option.{option_map}
use Rattle.lv_ast.specs.Names.{steps_text}
use Rattle.lv_top_names.specs.Walking.{behind}
use Rattle.lv_ast.specs.declared.expr.PathStep.{PathStep}
use Rattle.lv_top_names.proofs.Pieces.{steps-more, take-all}
use Rattle.lv_top_names.proofs.walk.behind_steps.Goals as goal

pub loop-step-preserved : goal.loop-step-preserved
loop-step-preserved c =
    let now = λ (x : Bor (List ℕ)). x.now in
    steps-more c.args.steps.now c.loop-step.step-index c.step-item.result c.args.text.now (option_map now c.loop-step.rest) (option_map now c.then_step.result) (option_map now c.then-rest.result)
    c.loop-step-test.true c.step-item.is c.loop-step.invariant c.then_step.ensures c.then-rest.ensures

pub returns : goal.returns
returns c =
    let l : length c.args.steps.now ≤ c.loop-step.step-index = omega arith in
    c.loop-step.invariant ∙ ap (λ (xs : List PathStep). behind (steps_text xs) c.args.text.now) (take-all c.args.steps.now c.loop-step.step-index l)
