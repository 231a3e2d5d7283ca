use Rattle.std.proofs.Common.{◌≡◌, List, take, true, sym, ◌∙◌, subst, refl, arith}
use Rattle.std.proofs.lemmas.Grind.{common_steps}
use Rattle.std.specs.Prelude.{IsTrue}
use Rattle.lv_clauses.specs.Literals.{Lit, has, negated}
use Rattle.lv_clauses.proofs.Literals.{has-item}
use Rattle.lv_trail.specs.Trail.{entry}
use Rattle.lv_solver.proofs.Learning.{lit-within}
use Rattle.lv_solver.proofs.Marking.{kept-in}
use Rattle.lv_solver.proofs.marked.are_decisions.Goals as goal

pub has-requires : goal.has-requires
has-requires c =
    let x : Lit = c.x-item.result in
    let i : has c.lits-x-items.result.now x ≡ true = has-item c.lits-x-items.result.now c.loop-x.x-index x c.loop-x-test.true c.x-item.is in
    let j : has c.args.seen.now.lits x ≡ true = subst (λ z. has z x ≡ true) c.lits-x-items.ensures i in
    (c.var.ensures.numbered, omega (arith, c.var.ensures.is, c.requires.sized, (lit-within c.args.trail.now c.requires.sound x (c.requires.false_all x j)).1))

pub reason-requires : goal.reason-requires
reason-requires c =
    let x : Lit = c.x-item.result in
    let i : has c.lits-x-items.result.now x ≡ true = has-item c.lits-x-items.result.now c.loop-x.x-index x c.loop-x-test.true c.x-item.is in
    let j : has c.args.seen.now.lits x ≡ true = subst (λ z. has z x ≡ true) c.lits-x-items.ensures i in
    (c.var-then-has.ensures.numbered, omega (arith, c.var-then-has.ensures.is, (lit-within c.args.trail.now c.requires.sound x (c.requires.false_all x j)).1))

pub returns : goal.returns
returns c = λ _ k below i.
    let t = c.args.trail.now in
    let s = c.args.seen.now in
    let items : List Lit = c.lits-x-items.result.now in
    let m : Lit = negated (entry t k).lit in
    let e : take c.loop-x.x-index items ≡ items = grind (arith, common_steps) in
    let is = kept-in s m i in
    c.loop-x.invariant m (subst (λ z. IsTrue (has z m)) (sym (e ∙ c.lits-x-items.ensures)) is.0) is.1 k below refl
