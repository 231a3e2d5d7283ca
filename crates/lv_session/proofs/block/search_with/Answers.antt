use Rattle.std.proofs.Common.{subst}
use Rattle.std.specs.Prelude.{IfOk}
use Rattle.lv_solver.specs.Solving.{IsEnd}
use Rattle.lv_session.proofs.block.search_with.Goals as goal

pub returns-clause-end : goal.returns-clause-end
returns-clause-end c = subst (λ z. IfOk c.search.result (IsEnd z c.args.budget 18446744073709551615 c.search.new.log)) c.in_ok-add_units.ensures.units c.search.ensures
