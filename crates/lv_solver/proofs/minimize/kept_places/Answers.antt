use Rattle.std.proofs.Common.{◌≡◌, true, subst, arith}
use Rattle.lv_clauses.specs.Literals.{Lit, has}
use Rattle.lv_clauses.proofs.Literals.{has-item}
use Rattle.lv_solver.proofs.Learning.{lit-within}
use Rattle.lv_solver.proofs.minimize.kept_places.Goals as goal

pub has-requires : goal.has-requires
has-requires c =
    let x : Lit = c.x-item.result in
    let i : has c.lits-x-items.result.now x ≡ true = has-item c.lits-x-items.result.now c.loop-x.x-index x c.loop-x-test.true c.x-item.is in
    let j : has c.args.seen.now.lits x ≡ true = subst (λ z. has z x ≡ true) c.lits-x-items.ensures i in
    (c.var.ensures.numbered, omega (arith, c.var.ensures.is, c.requires.sized, (lit-within c.args.trail.now c.requires.sound x (c.requires.false_all x j)).1))

pub place-requires : goal.place-requires
place-requires c =
    let x : Lit = c.x-item.result in
    let i : has c.lits-x-items.result.now x ≡ true = has-item c.lits-x-items.result.now c.loop-x.x-index x c.loop-x-test.true c.x-item.is in
    let j : has c.args.seen.now.lits x ≡ true = subst (λ z. has z x ≡ true) c.lits-x-items.ensures i in
    (c.var-then-has.ensures.numbered, omega (arith, c.var-then-has.ensures.is, (lit-within c.args.trail.now c.requires.sound x (c.requires.false_all x j)).1))
