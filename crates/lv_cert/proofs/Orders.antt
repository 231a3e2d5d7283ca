-- Clauses whose variables rise.
use Rattle.std.proofs.Common.{◌≡◌, ℕ, suc, ◌^◌, ◌≤◌, ◌<◌, true, List, [], ◌∷◌, length, get_or, refl, sym, arith}
use Rattle.lv_clauses.specs.Literals.{Lit, has, Rises, IsClauseOf, HasPair}
use Rattle.lv_clauses.specs.Sets.{SetValue, AreClauses}
use Rattle.lv_clauses.specs.Derivations.{Step}
use Rattle.lv_clauses.proofs.Literals.{has-head, has-later}
use Rattle.lv_clauses.proofs.Sorted.{same-members, unpaired}
use Rattle.lv_cert.specs.Values.{Values, sets_of}
use Rattle.lv_cert.specs.Grammar.{IsOver, AreOver, AreWide, IsQuery, IsWritable, CanBeWritten, IsFor, AreRising, shape_of}

pub over_rises : (low vars : ℕ) (c : List Lit) → IsOver low vars c → Rises low c
over_rises low vars [] h = tt
over_rises low vars (l ∷ c) h = (h.0, over_rises l.var vars c h.2)

over_from : (low vars : ℕ) (c : List Lit) → Rises low c → ((l : Lit) → has c l ≡ true → l.var ≤ vars) → IsOver low vars c
over_from low vars [] r h = tt
over_from low vars (x ∷ c) r h = (r.0, h x (has-head x c), over_from x.var vars c r.1 (λ l k. h l (has-later x l c k)))

pub over_clauses : (vars : ℕ) (cs : List (List Lit)) → AreClauses vars cs → AreOver vars cs
over_clauses vars [] h = tt
over_clauses vars (c ∷ cs) h =
    let k = h 0 c refl in
    (over_from 0 vars c k.0 (λ l e. (k.1 l e).1), over_clauses vars cs (λ n d e. h (suc n) d e))

-- the clause of literals whose variables rise has just these
pub clause_is : (vars : ℕ) (c d : List Lit) → IsOver 0 vars c → IsClauseOf c d → d ≡ c
clause_is vars c d h k = same-members 0 0 d c k.sorted (over_rises 0 vars c h) k.members

pub clause_unpaired : (vars : ℕ) (c : List Lit) → IsOver 0 vars c → HasPair c → ⊥
clause_unpaired vars c h p = unpaired c (over_rises 0 vars c h) p

pub wide_from : (xs : List ℕ) → ((k : ℕ) → k < length xs → get_or xs k 0 < 2 ^ 128) → AreWide xs
wide_from [] h = tt
wide_from (x ∷ xs) h = (h 0 (omega arith), wide_from xs (λ k l. h (suc k) (omega arith)))

query_from : (set : SetValue) (lines : List Step) → IsWritable set lines → AreClauses set.vars set.clauses → length set.clauses < 2 ^ 63 → IsQuery set lines
query_from set lines w k n = record { vars = w.vars; count = n; clauses = over_clauses set.vars set.clauses k; total = w.total; steps = w.steps }

pub for_written : (candidates : ℕ) (v : Values) (base step imply : SetValue) → CanBeWritten v (sets_of base step imply) → AreRising 0 candidates v.kept → AreWide v.left → AreWide v.right → AreWide v.input →
    AreClauses base.vars base.clauses → AreClauses step.vars step.clauses → AreClauses imply.vars imply.clauses →
    length base.clauses < 2 ^ 63 → length step.clauses < 2 ^ 63 → length imply.clauses < 2 ^ 63 → IsFor (shape_of candidates v) v (sets_of base step imply)
for_written candidates v base step imply w r a b i x y z n m o = record {
  kept = r;
  left_count = refl;
  left = a;
  right_count = sym w.states;
  right = b;
  input_count = refl;
  input = i;
  base = query_from base v.base w.base x n;
  step = query_from step v.step w.step y m;
  imply = query_from imply v.imply w.imply z o;
}
