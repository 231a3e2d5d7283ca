use Rattle.std.proofs.Common.{◌≡◌, length, arith}
use Rattle.std.proofs.lemmas.Option.{slice_get-get_or}
use Rattle.lv_switched.proofs.Guarding.{guard_step, guard_all, held}
use Rattle.lv_switched.proofs.guards.all_guarded.Goals as goal

pub overflow_add-from : goal.overflow_add-from
overflow_add-from c = omega (arith, c.requires.switches.within)

pub guarded-requires-clause-switch : goal.guarded-requires-clause-switch
guarded-requires-clause-switch c = omega (arith, c.requires.switches.within, c.loop-k.invariant.extends.more)

pub loop-k-preserved : goal.loop-k-preserved
loop-k-preserved c =
    let cs = c.args.candidates.now in
    guard_step c.args.b.now c.loop-k.b c.guarded.new.b c.both.new.b c.args.graph.now c.loop-k.k c.loop-k.all c.in_ok-one.one c.in_ok-all-2.all
    c.args.from (length cs) c.args.aligned cs _ c.args.left.now c.args.right.now c.requires.left c.requires.right c.requires.aligned (omega arith)
    c.requires.switches (slice_get-get_or cs c.loop-k.k _ (omega arith)) c.loop-k.invariant c.in_ok-one.ensures c.in_ok-all-2.ensures

pub returns : goal.returns
returns c =
    let cs = c.args.candidates.now in
    let done : c.loop-k.k ≡ length cs = omega arith in
    guard_all c.args.b.now c.loop-k.b c.loop-k.all c.args.from (length cs) c.loop-k.k (held cs c.args.b.now c.args.left.now c.args.right.now c.args.aligned) done
    c.loop-k.invariant
