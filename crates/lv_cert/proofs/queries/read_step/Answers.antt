use Rattle.std.proofs.Common.{◌≡◌, false, ◌∙◌, subst, arith}
use Rattle.std.proofs.lemmas.Result.{err_from_is_err_and}
use Rattle.lv_cert.specs.Parts.{numeral}
use Rattle.lv_cert.specs.Sections.{literals, hints, step_rest}
use Rattle.lv_cert.proofs.Leading.{leads_trans, fails_on, fails_head}
use Rattle.lv_cert.proofs.Combining.{heads_both, lead_both}
use Rattle.lv_cert.proofs.Facts.{unique_numeral, unique_literals, has_hints, has_behind}
use Rattle.std.specs.Option.{MatchOption}
use Rattle.lv_clauses.specs.Literals.{HasPair, IsClauseOf}
use Rattle.lv_cert.proofs.Leading.{moves_trans}
use Rattle.lv_cert.proofs.Orders.{clause_is, clause_unpaired}
use Rattle.lv_cert.proofs.Sectioning.{literals_out}
use Rattle.lv_cert.proofs.queries.read_step.Goals as goal

pub returns-in_err-number : goal.returns-in_err-number
returns-in_err-number c =
    let p = err_from_is_err_and c.from_residual.result c.from_residual.ensures.1 in
    rw (p.1, p.2) (fails_head c.args.input.now (heads_both (numeral c.args.id c.args.id false) (λ n. step_rest c.args.vars c.args.id) (λ a f. has_behind c.args.vars c.args.id))
    (unique_numeral c.args.id c.args.id false (omega arith)) c.in_err-number.field-0.0 c.in_err-number.ensures)

pub returns-in_err-lits : goal.returns-in_err-lits
returns-in_err-lits c =
    let p = err_from_is_err_and c.from_residual-in_err-lits.result c.from_residual-in_err-lits.ensures.1 in
    let h = c.in_ok-number.ensures in
    let l = lead_both (numeral c.args.id c.args.id false) (λ n. step_rest c.args.vars c.args.id) (unique_numeral c.args.id c.args.id false (omega arith)) h.0 h.2 h.3 in
    rw (p.1, p.2) (fails_on l c.in_err-lits.field-0.0 (fails_head c.number.new.self (heads_both (literals c.args.vars false 0) (λ k. hints c.args.id) (λ a f. has_hints c.args.id))
    (unique_literals c.args.vars false 0 (omega arith)) c.in_err-lits.field-0.0 c.in_err-lits.ensures))

pub returns-in_err-hints : goal.returns-in_err-hints
returns-in_err-hints c =
    let p = err_from_is_err_and c.from_residual-in_err-hints.result c.from_residual-in_err-hints.ensures.1 in
    let h = c.in_ok-number.ensures in
    let l = lead_both (numeral c.args.id c.args.id false) (λ n. step_rest c.args.vars c.args.id) (unique_numeral c.args.id c.args.id false (omega arith)) h.0 h.2 h.3 in
    let k = c.in_ok-lits.ensures in
    let m = leads_trans l (lead_both (literals c.args.vars false 0) (λ x. hints c.args.id) (unique_literals c.args.vars false 0 (omega arith)) k.0 k.2 k.3) in
    rw (p.1, p.2) (fails_on m c.in_err-hints.field-0.0 c.in_err-hints.ensures)

pub returns-in-Ok-Some : goal.returns-in-Ok-Some
returns-in-Ok-Some c =
    let n = c.in_ok-number.ensures in
    let l = c.in_ok-lits.ensures in
    let h = c.in_ok-hints.ensures in
    let d : c.deref.result.now ≡ l.0 = c.deref.ensures.value ∙ l.1 in
    let k : IsClauseOf l.0 c.in-Ok-Some.clause = subst (λ x. IsClauseOf x c.in-Ok-Some.clause) d
    (subst (λ o. MatchOption o (HasPair c.deref.result.now) (IsClauseOf c.deref.result.now)) c.in-Ok-Some.field-0-is c.in-Ok-Some.ensures) in
    let e : c.in-Ok-Some.clause ≡ l.0 = clause_is c.args.vars l.0 c.in-Ok-Some.clause (literals_out c.args.vars 0 l.0 l.2) k in
    ((n.0, (l.0, h.0)), c.new.ensures ∙ (λ i. record { clause = e i; hints = h.1 i }), (n.2, (l.2, h.2)), moves_trans n.3 (moves_trans l.3 h.3))

pub unreachable-requires : goal.unreachable-requires
unreachable-requires c =
    let l = c.in_ok-lits.ensures in
    let d : c.deref.result.now ≡ l.0 = c.deref.ensures.value ∙ l.1 in
    clause_unpaired c.args.vars l.0 (literals_out c.args.vars 0 l.0 l.2)
    (subst HasPair d (subst (λ o. MatchOption o (HasPair c.deref.result.now) (IsClauseOf c.deref.result.now)) c.in-Ok-None.field-0-is c.in-Ok-None.ensures))
