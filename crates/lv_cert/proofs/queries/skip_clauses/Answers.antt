use Rattle.std.proofs.Common.{◌+◌, ◌-◌, true, [], ◌∷◌, ◌++◌, refl, arith}
use Rattle.std.proofs.lemmas.Result.{err_from_is_err_and}
use Rattle.lv_cert.specs.Sections.{same, clause_part, clauses}
use Rattle.lv_cert.proofs.Facts.{unique_literals, has_clauses}
use Rattle.lv_cert.proofs.Loops.{turns_on, turns_fail, turns_end, turns_start}
use Rattle.lv_cert.proofs.queries.skip_clauses.Goals as goal

pub loop-i-init : goal.loop-i-init
loop-i-init c = ([], turns_start (clause_part c.args.vars) same c.args.count (c.args.count - 0) 0 [] c.args.input.now (omega arith) refl)

pub returns-in_err-skip_clause : goal.returns-in_err-skip_clause
returns-in_err-skip_clause c =
    let p = err_from_is_err_and c.from_residual.result c.from_residual.ensures.1 in
    rw (p.1, p.2) (turns_fail (clauses c.args.vars c.args.count) (clause_part c.args.vars) same (c.args.count - c.loop-i.i) 0 c.loop-i.invariant.0 c.args.input.now c.loop-i.input c.loop-i.invariant.1 c.in_err-skip_clause.field-0.0 (omega arith) (unique_literals c.args.vars true 0 (omega arith))
    (λ a f. has_clauses c.args.vars (c.args.count - c.loop-i.i - 1)) c.in_err-skip_clause.ensures)

pub loop-i-preserved : goal.loop-i-preserved
loop-i-preserved c =
    let h = c.in_ok-skip_clause.ensures in (
      c.loop-i.invariant.0 ++ h.0 ∷ [],
      turns_on (clauses c.args.vars c.args.count) (clause_part c.args.vars) same (c.args.count - c.loop-i.i) 0 c.loop-i.invariant.0 c.args.input.now c.loop-i.input c.loop-i.invariant.1 (c.args.count - (c.loop-i.i + 1)) h.0 c.skip_clause.new.input (omega arith) (unique_literals c.args.vars true 0 (omega arith)) h.2 h.3 (omega arith),
    )

pub returns : goal.returns
returns c = let k = turns_end (clauses c.args.vars c.args.count) (clause_part c.args.vars) same (c.args.count - c.loop-i.i) 0 c.loop-i.invariant.0 c.args.input.now c.loop-i.input c.loop-i.invariant.1 (omega arith) in (c.loop-i.invariant.0, tt, k.0, k.1)
