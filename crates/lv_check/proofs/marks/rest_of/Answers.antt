use Rattle.std.proofs.Common.{◌≡◌, ℕ, suc, ◌≤◌, ◌++◌, ◌∷◌, List, true, false, drop, length, subst, sym, ap, refl, ◌∙◌, add-one}
use Rattle.lv_clauses.specs.Literals.{Lit, has, negated}
use Rattle.lv_clauses.specs.Units.{remaining}
use Rattle.lv_check.specs.declared.marks.Mark.{Mark}
use Rattle.lv_check.specs.declared.marks.Rest.{Rest}
use Rattle.lv_check.specs.declared.marks.Rest.TheVariants.{Nothing, One, More}
use Rattle.lv_check.specs.Marks.{Tells, so_far, IsRest, marked}
use Rattle.lv_clauses.proofs.Literals.{has-item, drop-item}
use Rattle.lv_check.proofs.Telling.{remaining-false, remaining-free}
use Rattle.lv_check.proofs.marks.rest_of.Goals as goal
use Rattle.lv_check.proofs.marks.rest_of.Goals.{then-not-is_true+in-Nothing, else-not-is_true}

pub is_true-requires : goal.is_true-requires
is_true-requires c =
    let x : Lit = c.x-item.result in
    rw c.negated.ensures (c.requires x (has-item c.args.clause.now c.loop-x.x-index x c.loop-x-test.true c.x-item.is))

more : (r : Rest) (x : Lit) (d : List Lit) → (r ≡ Nothing → ⊥) → (r ≡ More → ⊥) → (c : List Lit) → so_far r ++ (x ∷ d) ≡ c → IsRest c More
more Nothing x d a b c e = absurd (a refl)
more (One y) x d a b c e = subst (λ z. IsRest z More) e refl
more More x d a b c e = absurd (b refl)

-- the flag of a literal, as a told list has it
free : (ms : List Mark) (n : ℕ) (t : List Lit) (l : Lit) → Tells ms n t → 1 ≤ l.var → l.var ≤ length ms → has t l ≡ marked ms n l
free ms n t l h low high = sym (h l low high)

pub returns-in_default : goal.returns-in_default
returns-in_default c =
    let cl : List Lit = c.args.clause.now in
    let i : ℕ = c.loop-x.x-index in
    let x : Lit = c.x-item.result in
    let dc : drop i cl ≡ x ∷ drop (suc i) cl = drop-item cl i x c.loop-x-test.true c.x-item.is in
    let w = c.requires x (has-item cl i x c.loop-x-test.true c.x-item.is) in
    record {
      rest = λ t told.
          let f : has t (negated x) ≡ false = free c.args.marks.now c.args.line t (negated x) told w.0 w.1 ∙ (ap (marked c.args.marks.now c.args.line) (sym c.negated.ensures) ∙ (sym c.is_true.ensures ∙ c.if-not-is_true.true)) in
          let e = c.loop-x.invariant.rest t told in
          more c.loop-x.found x (remaining t (drop (suc i) cl)) c.in_default.not-Nothing c.loop-x.invariant.few (remaining t cl)
          (ap (λ z. so_far c.loop-x.found ++ z) (sym (remaining-free t (drop (suc i) cl) x f) ∙ ap (remaining t) (sym dc)) ∙ e);
      within = tt;
    }

pub loop-x-preserved : goal.loop-x-preserved
loop-x-preserved c =
    let cl : List Lit = c.args.clause.now in
    let i : ℕ = c.loop-x.x-index in
    let x : Lit = c.x-item.result in
    let dc : drop i cl ≡ x ∷ drop (suc i) cl = drop-item cl i x c.loop-x-test.true c.x-item.is in
    let w = c.requires x (has-item cl i x c.loop-x-test.true c.x-item.is) in
    let inv = c.loop-x.invariant in
    elim c.if-not-is_true.branch [
      | then-not-is_true+in-Nothing w' ↦
          rw (w'.found-is, add-one) (record {
            rest = λ t told.
                let f : has t (negated x) ≡ false = free c.args.marks.now c.args.line t (negated x) told w.0 w.1 ∙ (ap (marked c.args.marks.now c.args.line) (sym c.negated.ensures) ∙ (sym c.is_true.ensures ∙ w'.if-not-is_true.true)) in
                let e : so_far c.loop-x.found ++ remaining t (drop i cl) ≡ remaining t cl = inv.rest t told in
                sym (ap (λ z. so_far z ++ remaining t (drop i cl)) w'.in-Nothing.is ∙ (ap (remaining t) dc ∙ remaining-free t (drop (suc i) cl) x f)) ∙ e;
            within = w;
            few = λ e. cc;
          })
      | else-not-is_true w' ↦
          rw (w'.found-is, add-one) (record {
            rest = λ t told.
                let f : has t (negated x) ≡ true = free c.args.marks.now c.args.line t (negated x) told w.0 w.1 ∙ (ap (marked c.args.marks.now c.args.line) (sym c.negated.ensures) ∙ (sym c.is_true.ensures ∙ w'.if-not-is_true.false)) in
                let e = inv.rest t told in
                ap (λ z. so_far c.loop-x.found ++ z) (sym (remaining-false t (drop (suc i) cl) x f) ∙ ap (remaining t) (sym dc)) ∙ e;
            within = inv.within;
            few = inv.few;
          })
    ]
