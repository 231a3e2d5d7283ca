use Rattle.std.proofs.Common.{◌≡◌, ℕ, suc, ◌+◌, ◌-◌, ◌∷◌, [], List, true, drop, get_or, subst, sym, arith, ap, ◌∙◌, add-one}
use Rattle.std.proofs.Math.Seq.{drop-cons}
use Rattle.lv_clauses.specs.Literals.{Lit, has}
use Rattle.lv_clauses.specs.Derivations.{known_at, walks}
use Rattle.lv_clauses.specs.Units.{remaining}
use Rattle.lv_clauses.proofs.Literals.{has-head}
use Rattle.lv_check.specs.Marks.{mark_of}
use Rattle.lv_check.proofs.Telling.{Tells-made, AreBelow-set, One-rest, Nothing-rest, More-rest}
use Rattle.lv_clauses.proofs.Steps.{left-inside}
use Rattle.lv_check.proofs.Walking.{walks-nothing, walks-one, walks-more, is_nil-drop}
use Rattle.lv_check.proofs.checker.walk.Goals as goal

pub returns-in-Nothing-clause-walked : goal.returns-in-Nothing-clause-walked
returns-in-Nothing-clause-walked c = λ t told.
    let known : List (List Lit) = known_at c.args.set.now.clauses c.args.derivation.now c.args.k in
    let hs : List ℕ = c.args.hints.now in
    let i : ℕ = c.loop-i.i in
    let cl : List Lit = c.in-Some.clause.now in
    let (u, now, same) = c.loop-i.invariant.told t told in
    let dc : drop i hs ≡ get_or hs i 0 ∷ drop (suc i) hs = drop-cons hs i 0 (omega arith) in
    let none : remaining u cl ≡ [] = Nothing-rest (remaining u cl) (c.in-Nothing.ensures.rest u now) in
    let step = walks-nothing known (get_or hs i 0) (drop (suc i) hs) u cl c.in-Some.ensures.0 none in
    rw add-one (sym (same ∙ (ap (λ z. walks known z u) dc ∙ (step ∙ is_nil-drop hs i (omega arith)))))

pub returns-in-More-clause-walked : goal.returns-in-More-clause-walked
returns-in-More-clause-walked c = λ t told.
    let known : List (List Lit) = known_at c.args.set.now.clauses c.args.derivation.now c.args.k in
    let hs : List ℕ = c.args.hints.now in
    let i : ℕ = c.loop-i.i in
    let cl : List Lit = c.in-Some.clause.now in
    let (u, now, same) = c.loop-i.invariant.told t told in
    let dc : drop i hs ≡ get_or hs i 0 ∷ drop (suc i) hs = drop-cons hs i 0 (omega arith) in
    let (x, y, d, more) = More-rest (remaining u cl) (c.in-More.ensures.rest u now) in
    let step = walks-more known (get_or hs i 0) (drop (suc i) hs) u cl d x y c.in-Some.ensures.0 more in
    sym (same ∙ (ap (λ z. walks known z u) dc ∙ step))

pub loop-i-preserved : goal.loop-i-preserved
loop-i-preserved c =
    let known : List (List Lit) = known_at c.args.set.now.clauses c.args.derivation.now c.args.k in
    let hs : List ℕ = c.args.hints.now in
    let i : ℕ = c.loop-i.i in
    let cl : List Lit = c.in-Some.clause.now in
    let x : Lit = c.in-One.x in
    let n : ℕ = c.args.k + 1 in
    let ms = c.loop-i.marks in
    let w = c.in-One.ensures.within in
    let dc : drop i hs ≡ get_or hs i 0 ∷ drop (suc i) hs = drop-cons hs i 0 (omega arith) in
    rw (c.make_true.ensures, add-one i) (record {
      told = λ t told.
          let (u, now, same) = c.loop-i.invariant.told t told in
          let one : remaining u cl ≡ x ∷ [] = One-rest (remaining u cl) x (c.in-One.ensures.rest u now) in
          let free = (left-inside u cl x (subst (λ z. has z x ≡ true) (sym one) (has-head x []))).1 in
          let step = walks-one known (get_or hs i 0) (drop (suc i) hs) u cl x c.in-Some.ensures.0 one in
          (x ∷ u, Tells-made ms n u x w.0 w.1 now free, same ∙ (ap (λ z. walks known z u) dc ∙ step));
      upto = AreBelow-set ms (c.args.k + 2) (x.var - 1) (mark_of n x) (omega arith) (omega arith) c.loop-i.invariant.upto;
    })
