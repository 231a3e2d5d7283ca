use Rattle.std.proofs.Common.{ℕ, ◌<◌, length, sym, subst, arith}
use Rattle.std.proofs.lemmas.Option.{slice_get-get_or}
use Rattle.lv_product.proofs.Holding.{hold_step}
use Rattle.lv_product.proofs.moments.all_hold.Goals as goal

pub loop-k-preserved : goal.loop-k-preserved
loop-k-preserved c =
    hold_step c.args.b.now c.loop-k.b c.holds.new.b c.both.new.b c.args.graph.now c.loop-k.k c.loop-k.all c.in_ok-one.one c.in_ok-all-2.all
    c.at-number.result c.args.aligned c.args.candidates.now _ c.args.numbers.now c.args.left.now c.args.right.now
    c.requires.left c.requires.right c.requires.aligned (omega arith) c.at-number.ensures
    (subst (λ (j : ℕ). j < length c.args.candidates.now) (sym c.at-number.ensures) (c.requires.numbers c.loop-k.k 0 (omega arith)))
    (slice_get-get_or c.args.candidates.now c.at-number.result _
    (subst (λ (j : ℕ). j < length c.args.candidates.now) (sym c.at-number.ensures)
    (c.requires.numbers c.loop-k.k 0 (omega arith)))) c.loop-k.invariant c.in_ok-one.ensures c.in_ok-all-2.ensures
