use Rattle.std.proofs.Common.{◌≡◌, ◌≤◌, ◌<◌, ◌+◌, ℕ, List, length, sym, subst, arith, Some}
use Rattle.std.specs.Prelude.{slice_get, slice_index_or}
use Rattle.std.proofs.lemmas.Option.{slice_get-get_or}
use Rattle.lv_reach.specs.Spreading.{IsPassed}
use Rattle.lv_reach.proofs.Spreading.{passed-none, passed-more}
use Rattle.lv_reach.proofs.spread.pass.Goals as goal

pub loop-k-init : goal.loop-k-init
loop-k-init c = λ S vs is marks distinct o begun same. passed-none S vs c.args.extents.now c.args.order.now is distinct o marks c.args.start same begun

pub loop-k-preserved : goal.loop-k-preserved
loop-k-preserved c = λ S vs is marks distinct o begun same.
    let n : ℕ = c.loop-k.k-index in
    let k : ℕ = slice_index_or c.args.order.now n 0 in
    let at : slice_get c.args.order.now n ≡ Some k = slice_get-get_or c.args.order.now n 0 c.loop-k-test.true in
    let h : IsPassed S vs is c.args.order.now c.args.start c.loop-k.set n = c.loop-k.invariant S vs is marks distinct o begun same in
    passed-more S vs c.args.extents.now c.args.order.now is distinct o marks c.args.start same begun c.loop-k.set c.in_ok-set.set n k at h (c.in_ok-set.ensures S vs o.extents h.within)

pub returns : goal.returns
returns c = λ S vs is marks distinct o begun same.
    let n : c.loop-k.k-index ≡ length c.args.order.now = omega arith in
    subst (IsPassed S vs is c.args.order.now c.args.start c.loop-k.set) n (c.loop-k.invariant S vs is marks distinct o begun same)
