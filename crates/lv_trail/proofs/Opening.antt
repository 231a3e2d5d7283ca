-- No literal is true with both signs.
use Rattle.std.proofs.Common.{◌≡◌, Bool, true, false, not, get_or, sym, ◌∙◌, ap, subst, arith, ◌⊎◌, inl, inr}
use Rattle.std.proofs.lemmas.Bool.{true≢false, cases_Bool}
use Rattle.lv_clauses.specs.Literals.{Lit, negated, has}
use Rattle.lv_clauses.proofs.Literals.{same-true, same-refl}
use Rattle.lv_clauses.specs.Literals.{same}
use Rattle.lv_trail.specs.declared.store.Store.{Store}
use Rattle.lv_trail.specs.Store.{entries, IsSound}
use Rattle.lv_trail.specs.Trail.{no_entry, truths}
use Rattle.lv_trail.proofs.Placing.{place-of}

differ : (b : Bool) → b ≡ not b → ⊥
differ true e = cc
differ false e = cc

-- no literal and its negation are both true
pub consistent : (t : Store) → IsSound t → (l : Lit) → has (truths (entries t)) l ≡ true → has (truths (entries t)) (negated l) ≡ true → ⊥
consistent t s l a b =
    let (k, below, e, p) = place-of t s l a in
    let (j, below', f, q) = place-of t s (negated l) b in
    let same_place : k ≡ j = omega (arith, p, q) in
    let same_lit : l ≡ negated l = sym e ∙ (ap (λ z. (get_or t.slots.items z no_entry).lit) same_place ∙ f) in
    differ l.neg (ap (λ z. z.neg) same_lit)

pub same_or : (a b : Lit) → (a ≡ b) ⊎ (a ≡ b → ⊥)
same_or a b = elim (cases_Bool (same a b)) [ inl e ↦ inl (same-true a b e) | inr e ↦ inr (λ p. true≢false (sym (subst (λ z. same a z ≡ true) p (same-refl a)) ∙ e)) ]
