use Rattle.std.proofs.Common.{◌≡◌, sym, subst}
use Rattle.lv_clauses.specs.Derivations.{IsDerivation}
use Rattle.lv_session.specs.Session.{with_units}
use Rattle.lv_session.proofs.Asking.{ended}
use Rattle.lv_session.proofs.Blocking.{cut-back}
use Rattle.lv_session.proofs.block.less.Goals as goal

pub learn-requires-clause-derivation : goal.learn-requires-clause-derivation
learn-requires-clause-derivation c =
    let set = c.args.set.now in
    let lits = c.args.lits.now in
    let log = c.search_with-end.new.log in
    let back : c.cut.new.self ≡ set = cut-back set c.search_with-end.new.set c.cut.new.self c.len-len.result c.len-len.ensures c.search_with-end.ensures.behind c.cut.ensures in
    subst (λ z. IsDerivation (with_units z lits) log) (sym back) (ended (with_units set lits) c.args.budget 18446744073709551615 log c.in_ok-end.field-0 c.in_ok-end.ensures.end)
