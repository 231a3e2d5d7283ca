-- A clause whose variables rise is added as it stands.
use Rattle.std.proofs.Common.{◌≡◌, ℕ, ◌≤◌, Bool, true, false, ◌&&◌, ◌||◌, List, [], ◌∷◌, ◌++◌, refl, ◌∙◌, ap, arith, eqb}
use Rattle.std.proofs.lemmas.Bool.{eqb-true}
use Rattle.std.proofs.Math.Bool.{beq}
use Rattle.lv_clauses.specs.Literals.{Lit, same, has, IsWithin, IsClause, IsClauseOf}
use Rattle.lv_clauses.specs.Sets.{SetValue}
use Rattle.lv_gates.specs.Lists.{AreBelow}

left_of : (a b : Bool) → (a && b) ≡ true → a ≡ true
left_of true b h = refl
left_of false b h = h

pub within_from : (n : ℕ) (ls : List Lit) → AreBelow n ls → IsWithin ls n
within_from n [] h l m = absurd (let f : false ≡ true = m in cc)
within_from n (x ∷ ls) h l m =
    elim (same x l) as (λ t. same x l ≡ t → (t || has ls l) ≡ true → (1 ≤ l.var) × (l.var ≤ n)) [
      | true ↦ λ s u.
          let e : x.var ≡ l.var = eqb-true x.var l.var (left_of (eqb x.var l.var) (beq x.neg l.neg) s) in
          (omega (arith, e, h.0), omega (arith, e, h.1))
      | false ↦ λ s u. within_from n ls h.2 l u
    ] refl m

pub added_is : (old new : SetValue) (lits d : List Lit) → IsClause lits → IsClauseOf lits d → ((c d : List Lit) → IsClause c → IsClause d → ((l : Lit) → has c l ≡ has d l) → c ≡ d) → new ≡ record { vars = old.vars; clauses = old.clauses ++ d ∷ [] } → new ≡ record { vars = old.vars; clauses = old.clauses ++ lits ∷ [] }
added_is old new lits d sorted of law e = let p : d ≡ lits = law d lits of.sorted sorted of.members in e ∙ ap (λ (x : List Lit). let s : SetValue = record { vars = old.vars; clauses = old.clauses ++ x ∷ [] } in s) p
