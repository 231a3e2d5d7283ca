use Rattle.std.proofs.Common.{ap, subst}
use Rattle.lv_clauses.specs.Derivations.{IsDerivation}
use Rattle.lv_solver.specs.Solving.{answer_of}
use Rattle.lv_session.specs.Session.{SessionValue, with_units, IsAsked}
use Rattle.lv_session.proofs.Asking.{asked, ended, ends, blocked}
use Rattle.lv_session.proofs.session.Session.ask.Goals as goal

pub keep_all-requires-clause-derivation : goal.keep_all-requires-clause-derivation
keep_all-requires-clause-derivation c =
    subst (λ z. IsDerivation z c.search.new.log) c.in_ok-fit_with.ensures
    (ended c.fit_with.new.made c.args.budget 18446744073709551615 c.search.new.log c.in_ok-end.end c.in_ok-end.ensures)

pub keep_all-requires-clause-ends : goal.keep_all-requires-clause-ends
keep_all-requires-clause-ends c = ends c.fit_with.new.made c.args.budget 18446744073709551615 c.search.new.log c.in_ok-end.end c.in_ok-end.ensures

pub returns-clause-answer : goal.returns-clause-answer
returns-clause-answer c =
    let log = c.search.new.log in
    let end = c.in_ok-end.end in
    let is = subst (λ z. IsAsked z c.args.budget (answer_of end log)) c.in_ok-fit_with.ensures (asked c.fit_with.new.made c.args.budget 18446744073709551615 log end c.in_ok-end.ensures) in
    rw c.into_answer.ensures (subst (λ z. IsAsked (with_units z c.args.assumed.now) c.args.budget (answer_of end log)) (ap (λ (z : SessionValue). z.clauses) c.self.view_is) is)

pub returns-clause-blocked : goal.returns-clause-blocked
returns-clause-blocked c = rw c.into_answer.ensures (blocked c.keep_all.new.set c.args.assumed.now c.search.new.log c.in_ok-end.end c.in_ok-keep_all.ensures.blocked)
