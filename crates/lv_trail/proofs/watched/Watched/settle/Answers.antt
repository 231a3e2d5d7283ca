use Rattle.std.proofs.Common.{get_or, refl, arith}
use Rattle.lv_trail.specs.declared.lists.Slot.{Slot}
use Rattle.lv_trail.proofs.Watching.{code-most}
use Rattle.lv_trail.proofs.Nexting.{inside-within}
use Rattle.lv_trail.proofs.Visiting.{first-of, change-of, settled, settled-less}
use Rattle.lv_trail.proofs.watched.Watched.settle.Goals as goal

pub next-self-requires : goal.next-self-requires
next-self-requires c = (first-of c.args.self.now c.args.list c.requires.visit c.requires.some).turn.slot

pub put-requires-clause-slot : goal.put-requires-clause-slot
put-requires-clause-slot c = (first-of c.args.self.now c.args.list c.requires.visit c.requires.some).turn.slot

pub put-requires-clause-list : goal.put-requires-clause-list
put-requires-clause-list c =
    let t = c.args.self.now in
    let ch = change-of t c.args.list c.args.to c.requires.visit (first-of t c.args.list c.requires.visit c.requires.some) c.requires.settled in
    let i = inside-within t.store c.requires.visit.watched.sound _ ch.clause ch.own ch.at ch.inside_own in
    omega (arith, ch.list_own, code-most ch.own t.store.vars i.1, c.requires.visit.watched.heads)

pub returns-clause-visit : goal.returns-clause-visit
returns-clause-visit c =
    let t = c.args.self.now in
    let f = first-of t c.args.list c.requires.visit c.requires.some in
    let ch = change-of t c.args.list c.args.to c.requires.visit f c.requires.settled in
    let new : Slot = record { list = c.args.to; next = get_or t.lists.heads.items c.args.to 0 } in
    settled t _ c.args.list c.args.to c.requires.visit f ch new refl refl refl refl refl refl c.next-self.ensures c.put.ensures.heads c.put.ensures.slots

pub returns-clause-less : goal.returns-clause-less
returns-clause-less c =
    let t = c.args.self.now in
    let f = first-of t c.args.list c.requires.visit c.requires.some in
    let ch = change-of t c.args.list c.args.to c.requires.visit f c.requires.settled in
    let new : Slot = record { list = c.args.to; next = get_or t.lists.heads.items c.args.to 0 } in
    settled-less t (record t { lists = c.put.new.self; apart = c.next-self.result }) c.args.list c.args.to c.requires.visit f ch new refl refl refl refl refl refl c.next-self.ensures c.put.ensures.heads c.put.ensures.slots
