use Rattle.std.proofs.Common.{[], ◌∷◌, ◌++◌, refl, sym, subst, arith}
use Rattle.std.proofs.lemmas.Grind.{common_steps}
use Rattle.std.proofs.lemmas.Result.{err_from_is_err_and}
use Rattle.lv_cert.specs.Parts.{over}
use Rattle.lv_cert.specs.Sections.{next_var, literals}
use Rattle.lv_cert.proofs.Leading.{Leads, fails_on}
use Rattle.lv_cert.proofs.Loops.{until_on, until_end, as_vec, turn_some, turn_none}
use Rattle.lv_cert.proofs.Facts.{unique_over, apart_over}
use Rattle.lv_cert.proofs.queries.read_literals.Goals as goal

pub returns-in_err-lit : goal.returns-in_err-lit
returns-in_err-lit c =
    let p = err_from_is_err_and c.from_residual.result c.from_residual.ensures.1 in
    rw (p.1, p.2) (fails_on c.loop-lits.invariant c.in_err-lit.field-0.0 c.in_err-lit.ensures)

pub loop-lits-preserved : goal.loop-lits-preserved
loop-lits-preserved c =
    let h = turn_some (literals c.args.vars c.args.last c.loop-lits.low) (over c.loop-lits.low c.args.vars) c.args.last c.loop-lits.input c.read_literal.new.input c.in_ok-lit.field-0 c.in-Some.lit c.in-Some.is c.in_ok-lit.ensures in
    as_vec (literals c.args.vars c.args.last 0) (literals c.args.vars c.args.last c.var-low.result) (c.loop-lits.lits.items ++ c.in-Some.lit ∷ []) _ c.args.input.now c.read_literal.new.input (grind (arith, common_steps))
    (subst (λ v. Leads (literals c.args.vars c.args.last 0) (literals c.args.vars c.args.last v) (λ xs. (c.loop-lits.lits.items ++ c.in-Some.lit ∷ []) ++ xs) c.args.input.now c.read_literal.new.input) (sym c.var-low.ensures.is)
    (until_on (literals c.args.vars c.args.last 0) (λ s. over s c.args.vars) next_var c.args.last c.loop-lits.low c.loop-lits.lits.items c.args.input.now c.loop-lits.input c.loop-lits.invariant c.in-Some.lit c.read_literal.new.input
    (unique_over c.loop-lits.low c.args.vars (omega arith)) (apart_over c.loop-lits.low c.args.vars c.args.last (omega arith)) h.0 h.1))

pub returns : goal.returns
returns c =
    let m = turn_none (literals c.args.vars c.args.last c.loop-lits.low) (over c.loop-lits.low c.args.vars) c.args.last c.loop-lits.input c.read_literal.new.input c.in_ok-lit.field-0 c.in_default.is c.in_ok-lit.ensures in
    let k = until_end (literals c.args.vars c.args.last 0) (λ s. over s c.args.vars) next_var c.args.last c.loop-lits.low c.loop-lits.lits.items c.args.input.now c.loop-lits.input c.loop-lits.invariant c.read_literal.new.input m in
    (c.loop-lits.lits.items, refl, k.0, k.1)
