use Rattle.std.proofs.Common.{◌≡◌, refl, arith, sym, ◌∙◌}
use Rattle.std.specs.Prelude.{slice_get, length, Some}
use Rattle.std.proofs.lemmas.Option.{slice_get_read}
use Rattle.lv_clauses.specs.Literals.{Lit}
use Rattle.lv_session.proofs.Keeping.{lifted-used, lifted-unused}
use Rattle.lv_session.proofs.keep.lifted.Goals as goal
use Rattle.lv_session.proofs.keep.lifted.Goals.{then-has+in_ok-reserve, else-has}

pub loop-k-preserved : goal.loop-k-preserved
loop-k-preserved c =
    let lits = c.args.assumed.now in
    let inv = c.loop-k.invariant in
    let x : Lit = c.index-assumed-k.result in
    let at : slice_get lits c.loop-k.k ≡ Some x = slice_get_read lits (length lits) c.loop-k.k x refl (omega arith) c.index-assumed-k.is in
    elim c.if-has.branch [
      | then-has+in_ok-reserve w ↦
          let r = lifted-used lits c.args.line.now c.args.row.now c.loop-k.k c.loop-k.lits.items x at (record { own = inv.own; used = inv.used; only = inv.only }) in
          rw (w.lits-is, w.push_reserved.ensures.items, w.reserve.ensures.items, w.negated.ensures) (record { own = r.own; used = r.used; only = r.only })
      | else-has w ↦
          let r = lifted-unused lits c.args.line.now c.args.row.now c.loop-k.k c.loop-k.lits.items (sym c.has.ensures ∙ w.if-has.false) (record { own = inv.own; used = inv.used; only = inv.only }) in
          rw w.lits-is (record { own = r.own; used = r.used; only = r.only })
    ]
