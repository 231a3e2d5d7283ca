use Rattle.std.proofs.Common.{◌≡◌, List, true, subst, arith}
use Rattle.lv_clauses.specs.Literals.{Lit, has}
use Rattle.lv_clauses.proofs.Literals.{has-item}
use Rattle.lv_solver.proofs.Learning.{lit-within}
use Rattle.lv_solver.proofs.marked.add_places.Goals as goal

pub place-requires : goal.place-requires
place-requires c =
    let lits : List Lit = c.lits-lits.result.now in
    let x : Lit = c.index-lits-k.result in
    let j : has c.args.seen.now.lits x ≡ true = subst (λ z. has z x ≡ true) c.lits-lits.ensures (has-item lits c.loop-k.k x c.loop-k-test.true c.index-lits-k.is) in
    (c.var.ensures.numbered, omega (arith, c.var.ensures.is, (lit-within c.args.trail.now c.requires.sound x (c.requires.false_all x j)).1))
