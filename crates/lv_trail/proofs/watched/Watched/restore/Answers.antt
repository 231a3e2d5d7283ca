use Rattle.std.proofs.Common.{◌≤◌, get_or, refl, arith}
use Rattle.lv_trail.specs.declared.lists.Slot.{Slot}
use Rattle.lv_trail.specs.declared.watched.Watched.{Watched}
use Rattle.lv_trail.proofs.Visiting.{apart-of, back, all-back, apart-slot}
use Rattle.lv_trail.proofs.watched.Watched.restore.Goals as goal

pub loop-self-init : goal.loop-self-init
loop-self-init c = record { apart = apart-of c.args.self.now c.args.list c.requires; store = refl; checked = refl }

pub next-self-requires : goal.next-self-requires
next-self-requires c =
    let one : 1 ≤ c.loop-self.self.apart = omega (arith, c.loop-self-test.true) in
    (one, apart-slot c.loop-self.self c.args.list c.loop-self.invariant.apart one)

pub put-requires-clause-slot : goal.put-requires-clause-slot
put-requires-clause-slot c =
    let one : 1 ≤ c.loop-self.self.apart = omega (arith, c.loop-self-test.true) in
    (one, apart-slot c.loop-self.self c.args.list c.loop-self.invariant.apart one)

pub loop-self-smaller : goal.loop-self-smaller
loop-self-smaller c =
    let t = c.loop-self.self in
    let u : Watched = record t { lists = c.put.new.self; apart = c.next-self.result } in
    let new : Slot = record { list = c.args.list; next = get_or t.lists.heads.items c.args.list 0 } in
    let b = back t u c.args.list c.loop-self.invariant.apart (omega (arith, c.loop-self-test.true)) new refl refl refl refl refl refl c.next-self.ensures c.put.ensures.heads c.put.ensures.slots in
    omega (arith, b.less)

pub loop-self-preserved : goal.loop-self-preserved
loop-self-preserved c =
    let t = c.loop-self.self in
    let u : Watched = record t { lists = c.put.new.self; apart = c.next-self.result } in
    let new : Slot = record { list = c.args.list; next = get_or t.lists.heads.items c.args.list 0 } in
    let b = back t u c.args.list c.loop-self.invariant.apart (omega (arith, c.loop-self-test.true)) new refl refl refl refl refl refl c.next-self.ensures c.put.ensures.heads c.put.ensures.slots in
    record { apart = b.apart; store = c.loop-self.invariant.store; checked = c.loop-self.invariant.checked }

pub returns-clause-watched : goal.returns-clause-watched
returns-clause-watched c = all-back c.loop-self.self c.args.list c.loop-self.invariant.apart c.loop-self-test.false
