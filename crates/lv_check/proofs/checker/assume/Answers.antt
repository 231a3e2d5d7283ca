use Rattle.std.proofs.Common.{◌≡◌, ℕ, ◌+◌, ◌-◌, ◌≤◌, ◌++◌, ◌∷◌, [], List, map, take, length, arith, ap, false, ◌∙◌}
use Rattle.std.proofs.lemmas.List.{length-set}
use Rattle.lv_clauses.specs.Literals.{Lit, has, negated}
use Rattle.lv_check.specs.Marks.{mark_of}
use Rattle.lv_clauses.proofs.Literals.{has-item, take-item, IsWithin-more}
use Rattle.lv_check.proofs.Telling.{Tells-made, AreBelow-set, not-before, negated-push}
use Rattle.lv_check.proofs.checker.assume.Goals as goal

pub returns-then-var-marks-clause-told : goal.returns-then-var-marks-clause-told
returns-then-var-marks-clause-told c = λ within.
    let w = within c.x-item.result (has-item c.args.lits.now c.loop-x.x-index c.x-item.result c.loop-x-test.true c.x-item.is) in
    omega (arith, w.1)

pub loop-x-preserved : goal.loop-x-preserved
loop-x-preserved c =
    let lits : List Lit = c.args.lits.now in
    let i : ℕ = c.loop-x.x-index in
    let x : Lit = c.x-item.result in
    let ms = c.loop-x.marks in
    let n : ℕ = c.args.line in
    let e : take (i + 1) lits ≡ take i lits ++ x ∷ [] = take-item lits i x c.loop-x-test.true c.x-item.is in
    let low : 1 ≤ x.var = omega arith in
    let high : x.var ≤ length ms = omega arith in
    let t = map negated (take i lits) in
    let new : has t (negated (negated x)) ≡ false = ap (λ z. has t (negated (negated z))) c.x-item.is ∙ not-before 0 lits i x c.requires.sorted c.loop-x-test.true in
    let told = Tells-made ms n t (negated x) low high c.loop-x.invariant.told new in
    rw (c.make_true.ensures, c.negated.ensures, e) (record {
      told = λ l a b. told l a b ∙ negated-push (take i lits) x l;
      within = IsWithin-more (take i lits) x _ (λ l h. let w = c.loop-x.invariant.within l h in (w.0, omega (arith, w.1, length-set ms (x.var - 1) (mark_of n (negated x))))) low (omega (arith, length-set ms (x.var - 1) (mark_of n (negated x))));
      fresh = AreBelow-set ms (n + 1) (x.var - 1) (mark_of n (negated x)) (omega arith) (omega arith) c.loop-x.invariant.fresh;
    })
