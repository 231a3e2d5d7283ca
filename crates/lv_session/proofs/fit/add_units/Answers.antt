use Rattle.std.proofs.Common.{[], arith, ap, inl, inr}
use Rattle.lv_clauses.specs.Literals.{Lit}
use Rattle.lv_clauses.proofs.Literals.{has-cases, has-item}
use Rattle.lv_session.proofs.Keeping.{unit-added, units-more}
use Rattle.lv_session.proofs.fit.add_units.Goals as goal

pub add-requires : goal.add-requires
add-requires c = λ l i.
    let lits = c.args.lits.now in
    let x : Lit = c.lit-item.result in
    let w = c.requires x (has-item lits c.loop-lit.lit-index x c.loop-lit-test.true c.lit-item.is) in
    elim (has-cases x l [] i) [
      | inl e ↦ (omega (arith, w.0, ap (λ z. z.var) e), omega (arith, w.1, ap (λ z. z.var) e, ap (λ z. z.vars) c.loop-lit.invariant))
      | inr none ↦ cc
    ]

pub loop-lit-preserved : goal.loop-lit-preserved
loop-lit-preserved c =
    let lits = c.args.lits.now in
    let x : Lit = c.lit-item.result in
    let w = c.requires x (has-item lits c.loop-lit.lit-index x c.loop-lit-test.true c.lit-item.is) in
    units-more c.args.made.now lits c.loop-lit.lit-index x c.loop-lit.made c.add.new.self c.loop-lit-test.true c.lit-item.is c.loop-lit.invariant
    (unit-added c.loop-lit.made c.add.new.self x c.in_ok-add.field-0 w.0 c.in_ok-add.ensures.ok)
