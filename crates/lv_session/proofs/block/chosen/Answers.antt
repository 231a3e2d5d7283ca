use Rattle.std.proofs.Common.{◌≡◌, refl, arith, sym, ◌∙◌}
use Rattle.std.specs.Prelude.{slice_get, length, Some}
use Rattle.std.proofs.lemmas.Option.{slice_get_read, slice_get_within}
use Rattle.lv_clauses.specs.Literals.{Lit}
use Rattle.lv_session.proofs.Keeping.{get-has}
use Rattle.lv_session.proofs.Blocking.{chosen-used, chosen-unused}
use Rattle.lv_session.proofs.block.chosen.Goals as goal
use Rattle.lv_session.proofs.block.chosen.Goals.{then-has+in_ok-reserve, else-has}

pub loop-k-preserved : goal.loop-k-preserved
loop-k-preserved c =
    let lits = c.args.assumed.now in
    let row = c.args.row.now in
    let inv = c.loop-k.invariant in
    let x : Lit = c.index-assumed-k.result in
    let at : slice_get lits c.loop-k.k ≡ Some x = slice_get_read lits (length lits) c.loop-k.k x refl (omega arith) c.index-assumed-k.is in
    elim c.if-has.branch [
      | then-has+in_ok-reserve w ↦
          let r = chosen-used lits row c.loop-k.k c.loop-k.lits.items x at c.requires.apart (record { part = inv.part; apart = inv.apart; used = inv.used }) in
          rw (w.lits-is, w.push_reserved.ensures.items, w.reserve.ensures.items) (record { part = r.part; apart = r.apart; used = r.used })
      | else-has w ↦
          let r = chosen-unused lits row c.loop-k.k c.loop-k.lits.items (sym c.has.ensures ∙ w.if-has.false) (record { part = inv.part; apart = inv.apart; used = inv.used }) in
          rw w.lits-is (record { part = r.part; apart = r.apart; used = r.used })
    ]

pub returns : goal.returns
returns c =
    let lits = c.args.assumed.now in
    let inv = c.loop-k.invariant in
    record {
      part = λ l i. let (j, below, at) = inv.part l i in get-has lits j l at;
      apart = inv.apart;
      used = λ i a at u. inv.used i a (omega (arith, slice_get_within lits i a at)) at u;
    }
