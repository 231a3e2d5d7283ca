use Rattle.std.proofs.Common.{◌≡◌, map, sym, ◌∙◌, ap, subst}
use Rattle.lv_clauses.specs.Literals.{negated, IsWithin}
use Rattle.lv_clauses.specs.Added.{IsAdded}
use Rattle.lv_session.proofs.Blocking.{blocked-part, blocked-added, wider-blocked, within-part, negations-within}
use Rattle.lv_session.proofs.block.block.Goals as goal

pub returns-then-branch-clause-blocked : goal.returns-then-branch-clause-blocked
returns-then-branch-clause-blocked c = blocked-part c.args.assumed.now c.args.core.now.lits.items c.args.set.now c.requires.core.part (c.in_ok-is_blocked.ensures c.if-branch.true)

pub add-requires : goal.add-requires
add-requires c =
    let core = c.args.core.now.lits.items in
    let vars = c.args.set.now.vars in
    let is : c.deref-2.result.now ≡ map negated core = c.deref-2.ensures.value ∙ (c.in_ok-all.ensures ∙ ap (map negated) c.deref.ensures.value) in
    subst (λ z. IsWithin z vars) (sym is) (negations-within core vars (within-part c.args.assumed.now core vars c.requires.core.part c.requires.within))

pub returns-clause-wider : goal.returns-clause-wider
returns-clause-wider c =
    let core = c.args.core.now.lits.items in
    let is : c.deref-2.result.now ≡ map negated core = c.deref-2.ensures.value ∙ (c.in_ok-all.ensures ∙ ap (map negated) c.deref.ensures.value) in
    wider-blocked c.args.assumed.now core c.args.set.now c.add.new.self c.in_ok-add.field-0 c.requires.core
    (subst (λ z. IsAdded c.args.set.now z c.in_ok-add.field-0 c.add.new.self) is c.in_ok-add.ensures.ok)

pub returns-clause-blocked : goal.returns-clause-blocked
returns-clause-blocked c =
    let core = c.args.core.now.lits.items in
    let is : c.deref-2.result.now ≡ map negated core = c.deref-2.ensures.value ∙ (c.in_ok-all.ensures ∙ ap (map negated) c.deref.ensures.value) in
    blocked-added c.args.assumed.now core c.args.set.now c.add.new.self c.in_ok-add.field-0 c.requires.core
    (subst (λ z. IsAdded c.args.set.now z c.in_ok-add.field-0 c.add.new.self) is c.in_ok-add.ensures.ok)
