use Rattle.lv_flat.specs.Signals.{declared_all}
use Rattle.lv_settles.specs.Rules.{signals_in}
use Rattle.lv_top_names.specs.TopNames.{here_in}
use Rattle.lv_top_names.proofs.Numbers.{are-names-of, in-top, told-top}
use Rattle.lv_top_names.proofs.expr.resolve.Goals as goal

pub returns-clause-right : goal.returns-clause-right
returns-clause-right c =
    let S = declared_all c.args.signals.now in
    in-top S c.args.expr.now c.resolve_expr-answer.result (c.resolve_expr-answer.ensures.at (here_in (signals_in S)) (are-names-of S c.new-none.result c.new-none.ensures))

pub returns-clause-wrong : goal.returns-clause-wrong
returns-clause-wrong c =
    let S = declared_all c.args.signals.now in
    told-top S c.args.expr.now c.resolve_expr-answer.result (c.resolve_expr-answer.ensures.at (here_in (signals_in S)) (are-names-of S c.new-none.result c.new-none.ensures))
