use Rattle.std.proofs.Common.{◌≡◌, ◌∙◌, ℕ, List, ap, subst, get_or, Some}
use Rattle.std.specs.Prelude.{slice_get, slice_index_or}
use Rattle.std.proofs.lemmas.List.{get_or_default}
use Rattle.lv_flat.specs.declared.signal.Signal.{Signal}
use Rattle.lv_flat.specs.declared.part.FlatPart.{FlatPart}
use Rattle.lv_flat.specs.Signals.{Signals, declared_all}
use Rattle.lv_flat.specs.Good.{good_body}
use Rattle.lv_lower.specs.Slots.{names_of}
use Rattle.lv_lower.specs.Carrying.{is_plain, Leaves}
use Rattle.lv_lower.proofs.Carrying.{get-at, good-at, order-below, order-plain, carries-more}
use Rattle.lv_lower.proofs.parts.carry.Goals as goal

pub carry_one-requires-clause-good : goal.carry_one-requires-clause-good
carry_one-requires-clause-good c =
    let S : Signals = names_of c.args.flat.now in
    let ps : List FlatPart = c.args.flat.now.parts in
    let order : List ℕ = c.args.order.now in
    let i : ℕ = c.loop-k.k-index in
    let k : ℕ = slice_index_or order i 0 in
    let p : FlatPart = c.index-as_slice-k.result in
    let e : k ≡ get_or order i k = get_or_default order i 0 k c.loop-k-test.true in
    let g : slice_get ps k ≡ Some p = get-at ps k p (order-below S ps order c.requires.right c.requires.order i k c.loop-k-test.true e)
    (subst (λ (xs : List FlatPart). p ≡ get_or xs k p) c.as_slice.ensures c.index-as_slice-k.is) in
    ap (λ (ss : List Signal). good_body (declared_all ss) p.body) c.as_slice-in-loop-k.ensures ∙ good-at S ps k p c.args.flat.now.good g

pub carry_one-requires-clause-plain : goal.carry_one-requires-clause-plain
carry_one-requires-clause-plain c =
    let S : Signals = names_of c.args.flat.now in
    let ps : List FlatPart = c.args.flat.now.parts in
    let order : List ℕ = c.args.order.now in
    let i : ℕ = c.loop-k.k-index in
    let k : ℕ = slice_index_or order i 0 in
    let p : FlatPart = c.index-as_slice-k.result in
    let e : k ≡ get_or order i k = get_or_default order i 0 k c.loop-k-test.true in
    let g : slice_get ps k ≡ Some p = get-at ps k p (order-below S ps order c.requires.right c.requires.order i k c.loop-k-test.true e)
    (subst (λ (xs : List FlatPart). p ≡ get_or xs k p) c.as_slice.ensures c.index-as_slice-k.is) in
    ap (λ (ss : List Signal). is_plain (declared_all ss) p.body) c.as_slice-in-loop-k.ensures ∙ order-plain S ps order c.requires.right c.requires.order i k p c.loop-k-test.true e g

pub loop-k-preserved : goal.loop-k-preserved
loop-k-preserved c =
    let S : Signals = names_of c.args.flat.now in
    let ps : List FlatPart = c.args.flat.now.parts in
    let order : List ℕ = c.args.order.now in
    let i : ℕ = c.loop-k.k-index in
    let k : ℕ = slice_index_or order i 0 in
    let p : FlatPart = c.index-as_slice-k.result in
    let e : k ≡ get_or order i k = get_or_default order i 0 k c.loop-k-test.true in
    let g : slice_get ps k ≡ Some p = get-at ps k p (order-below S ps order c.requires.right c.requires.order i k c.loop-k-test.true e)
    (subst (λ (xs : List FlatPart). p ≡ get_or xs k p) c.as_slice.ensures c.index-as_slice-k.is) in
    carries-more S ps order i k p c.args.b.now c.loop-k.b c.carry_one.new.b c.args.table.now c.loop-k.table c.carry_one.new.table c.loop-k-test.true e g c.loop-k.invariant
    (subst (λ (ss : List Signal). Leaves c.loop-k.b c.carry_one.new.b (declared_all ss) c.loop-k.table c.carry_one.new.table p.body) c.as_slice-in-loop-k.ensures c.in_ok-carry_one.ensures)
