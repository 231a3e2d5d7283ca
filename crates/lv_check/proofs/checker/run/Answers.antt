use Rattle.std.proofs.Common.{◌≡◌, ℕ, ◌<◌, ◌∷◌, [], List, length, subst, sym, refl, arith, ap, ◌∙◌, inl, inr, below_more}
use Rattle.std.specs.Prelude.{Some, slice_get}
use Rattle.std.proofs.lemmas.Option.{slice_get_within}
use Rattle.std.proofs.lemmas.Bool.{cases_eq, eqb-true, eqb-false}
use Rattle.lv_clauses.specs.Literals.{Lit, IsWithin}
use Rattle.lv_clauses.specs.Derivations.{Step, Follows, known_at}
use Rattle.lv_check.specs.Answer.{FollowsAt}
use Rattle.lv_check.proofs.checker.run.Goals as goal
use Rattle.lv_check.proofs.checker.run.Goals.{then-is_empty, else-is_empty}

some_same : (a b : Step) → Some a ≡ Some b → a ≡ b
some_same a b e = cc

pub follows-requires-clause-earlier : goal.follows-requires-clause-earlier
follows-requires-clause-earlier c = λ j s below e.
    let (s', e', f) = c.loop-k.invariant.before j below in
    let same : s' ≡ s = some_same s' s (sym e' ∙ e) in
    subst (λ z. IsWithin z.clause c.args.set.now.vars) same f.within

nil : (c : List Lit) → length c ≡ 0 → c ≡ []
nil [] e = refl
nil (x ∷ c) e = absurd (omega arith)

pub loop-k-preserved : goal.loop-k-preserved
loop-k-preserved c =
    let inv = c.loop-k.invariant in
    let lines : List Step = c.args.derivation.now in
    let k : ℕ = c.loop-k.k in
    let s : Step = c.line.result.now in
    let at : slice_get lines k ≡ Some s = c.line.ensures in
    let is : c.lits.result.now ≡ s.clause = c.lits.ensures.value ∙ c.clause.ensures in
    let here : FollowsAt c.args.set.now lines k = c.follows.ensures.answer.0 c.if-not-follows.false in
    let before = below_more (λ j. FollowsAt c.args.set.now lines j) k inv.before here in
    elim c.if-is_empty.branch [
      | then-is_empty w ↦
          let e : length c.lits.result.now ≡ 0 = eqb-true (length c.lits.result.now) 0 (sym c.is_empty.ensures ∙ w.if-is_empty.true) in
          rw w.empty-is (record {
            before = before;
            found = λ _. (k, s, at, sym is ∙ nil c.lits.result.now e);
            none = λ e. cc;
            fresh = λ i l. omega (arith, c.follows.ensures.fresh i l);
          })
      | else-is_empty w ↦
          rw w.empty-is (record {
            before = before;
            found = inv.found;
            none = λ e j s' below at' empty.
                elim (cases_eq j k) [
                  | inr ne ↦ inv.none e j s' (omega arith) at' empty
                  | inl same ↦
                      let one : s ≡ s' = some_same s s' (sym at ∙ (ap (slice_get lines) (sym same) ∙ at')) in
                      let none : c.lits.result.now ≡ [] = is ∙ (ap (λ z. z.clause) one ∙ empty) in
                      let f = sym c.is_empty.ensures ∙ w.if-is_empty.false in
                      eqb-false (length c.lits.result.now) 0 f (ap length none)
                ];
            fresh = λ i l. omega (arith, c.follows.ensures.fresh i l);
          })
    ]

pub returns-then-empty : goal.returns-then-empty
returns-then-empty c =
    let lines : List Step = c.args.derivation.now in
    record {
      derivation = λ k s at.
          let below : k < length lines = slice_get_within lines k s at in
          let (s', e', f) = c.loop-k.invariant.before k (omega (arith, c.len-k-end.ensures)) in
          let same : s' ≡ s = some_same s' s (sym e' ∙ at) in
          subst (λ z. Follows c.args.set.now.vars (known_at c.args.set.now.clauses lines k) z) same f;
      empty = c.loop-k.invariant.found c.if-empty.true;
    }

pub returns-else-empty : goal.returns-else-empty
returns-else-empty c =
    let lines : List Step = c.args.derivation.now in
    record {
      before = λ j below. c.loop-k.invariant.before j (omega (arith, c.len-k-end.ensures, c.len.ensures));
      here = inr (c.len.ensures, λ (j, s, at, empty). c.loop-k.invariant.none c.if-empty.false j s (omega (arith, slice_get_within lines j s at, c.len-k-end.ensures)) at empty);
    }
