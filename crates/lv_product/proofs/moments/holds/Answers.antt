use Rattle.std.proofs.Common.{sym, subst}
use Rattle.lv_model.specs.Design.{holds_test}
use Rattle.lv_unroll.specs.Wires.{is_on}
use Rattle.lv_product.specs.declared.task.Candidate.{Candidate}
use Rattle.lv_product.specs.Queries.{candidate_by}
use Rattle.lv_product.specs.Values.{value_at, values_in, GivesTruth}
use Rattle.lv_product.proofs.Holding.{guarded_gives}
use Rattle.lv_product.proofs.moments.holds.Goals as goal

pub returns-in_ok-at-in-When : goal.returns-in_ok-at-in-When
returns-in_ok-at-in-When c =
    subst (λ (x : Candidate). GivesTruth c.args.b.now c.either-in-When.new.b c.in_ok-at-in-When.at (λ ws.
    holds_test (candidate_by value_at x) (values_in c.args.b.now c.args.left.now ws) (values_in c.args.b.now c.args.right.now ws)
    (is_on c.args.b.now ws c.args.aligned))) (sym c.in-When.is)
    (guarded_gives c.args.b.now c.same-in-When.new.b c.off.new.b c.off-in-When.new.b c.either.new.b c.either-in-When.new.b c.args.graph.now
    c.in_ok-same-in-When.same c.in_ok-first-in-When.first c.in_ok-second-in-When.second c.in_ok-some-in-When.some c.in_ok-at-in-When.at c.in-When.e
    c.in-When.guard c.args.left.now c.args.right.now
    c.requires.left c.requires.right c.in_ok-same-in-When.ensures c.in_ok-first-in-When.ensures c.in_ok-second-in-When.ensures c.in_ok-some-in-When.ensures
    c.in_ok-at-in-When.ensures)
