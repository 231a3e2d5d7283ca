use Rattle.std.proofs.Common.{◌≡◌, ℕ, ◌+◌, ◌-◌, ◌*◌, length, set, get_or, refl, ◌∙◌, ap, arith, length-set}
use Rattle.std.proofs.lemmas.Option.{slice_get_within}
use Rattle.lv_trail.specs.declared.lists.Slot.{Slot}
use Rattle.lv_trail.specs.Chains.{code}
use Rattle.lv_trail.proofs.Watching.{code-most}
use Rattle.lv_trail.proofs.Nexting.{inside-within, pair-watched}
use Rattle.lv_trail.proofs.watched.Watched.watch.Goals as goal

pub list_of-requires : goal.list_of-requires
list_of-requires c =
    let t = c.args.self.now in
    let p = c.requires.pair in
    let i = inside-within t.store c.requires.watched.sound t.checked p.clause c.args.first p.at p.inside_first in
    omega (arith, i.1, c.requires.watched.few)

pub list_of-requires-2 : goal.list_of-requires-2
list_of-requires-2 c =
    let t = c.args.self.now in
    let p = c.requires.pair in
    let i = inside-within t.store c.requires.watched.sound t.checked p.clause c.args.second p.at p.inside_second in
    omega (arith, i.1, c.requires.watched.few)

pub put-requires-clause-slot : goal.put-requires-clause-slot
put-requires-clause-slot c =
    let t = c.args.self.now in
    let b = slice_get_within t.store.clauses t.checked c.requires.pair.clause c.requires.pair.at in
    (omega arith, omega (arith, b, c.requires.watched.slots))

pub put-requires-clause-list : goal.put-requires-clause-list
put-requires-clause-list c =
    let t = c.args.self.now in
    let p = c.requires.pair in
    let i = inside-within t.store c.requires.watched.sound t.checked p.clause c.args.first p.at p.inside_first in
    omega (arith, c.list_of.ensures, code-most c.args.first t.store.vars i.1, c.requires.watched.heads)

pub put-requires-2-clause-slot : goal.put-requires-2-clause-slot
put-requires-2-clause-slot c =
    let t = c.args.self.now in
    let b = slice_get_within t.store.clauses t.checked c.requires.pair.clause c.requires.pair.at in
    (omega arith, omega (arith, b, c.requires.watched.slots, ap length c.put.ensures.slots, length-set t.lists.slots.items (2 * t.checked + 1 - 1) (let v : Slot = record { list = c.list_of.result; next = get_or t.lists.heads.items c.list_of.result 0 } in v)))

pub put-requires-2-clause-list : goal.put-requires-2-clause-list
put-requires-2-clause-list c =
    let t = c.args.self.now in
    let p = c.requires.pair in
    let i = inside-within t.store c.requires.watched.sound t.checked p.clause c.args.second p.at p.inside_second in
    omega (arith, c.list_of-2.ensures, code-most c.args.second t.store.vars i.1, c.requires.watched.heads, ap length c.put.ensures.heads, length-set t.lists.heads.items c.list_of.result (2 * t.checked + 1))

pub returns-clause-watched : goal.returns-clause-watched
returns-clause-watched c =
    let t = c.args.self.now in
    let n : ℕ = t.checked in
    let h0 = t.lists.heads.items in
    let r1 : ℕ = c.list_of.result in
    let r2 : ℕ = c.list_of-2.result in
    let v1 : Slot = record { list = r1; next = get_or h0 r1 0 } in
    let v2 : Slot = record { list = r2; next = get_or c.put.new.self.heads.items r2 0 } in
    let is1 : r1 ≡ code c.args.first = c.list_of.ensures in
    let is2 : r2 ≡ code c.args.second = c.list_of-2.ensures in
    let two : 2 * n + 1 + 1 ≡ 2 * n + 2 = omega arith in
    let h1 : c.put.new.self.heads.items ≡ set h0 (code c.args.first) (2 * n + 1) = c.put.ensures.heads ∙ ap (λ z. set h0 z (2 * n + 1)) is1 in
    pair-watched t _ c.args.first c.args.second c.requires.watched c.requires.pair v1 v2
    (record { list_first = is1; next_first = ap (λ z. get_or h0 z 0) is1; list_second = is2; next_second = ap (λ z. get_or z r2 0) h1 ∙ ap (λ z. get_or (set h0 (code c.args.first) (2 * n + 1)) z 0) is2 })
    refl refl refl refl
    (c.put-2.ensures.heads ∙ (ap (λ z. set z r2 (2 * n + 1 + 1)) h1 ∙ (ap (λ z. set (set h0 (code c.args.first) (2 * n + 1)) z (2 * n + 1 + 1)) is2 ∙ ap (set (set h0 (code c.args.first) (2 * n + 1)) (code c.args.second)) two)))
    (c.put-2.ensures.slots ∙ (ap (λ z. set z (2 * n + 1 + 1 - 1) v2) c.put.ensures.slots ∙ ap (λ z. set (set t.lists.slots.items (2 * n + 1 - 1) v1) (z - 1) v2) two))
