-- What a refutation has that its lines can be written.
use Rattle.std.proofs.Common.{◌≡◌, ℕ, zero, suc, ◌+◌, ◌<◌, ◌≤◌, Bool, true, List, [], ◌∷◌, length, map, take, slice_get, Option, Some, None, refl, subst, arith, length-append}
use Rattle.std.proofs.lemmas.List.{length-map}
use Rattle.std.proofs.lemmas.Option.{slice_get_within}
use Rattle.lv_cert.specs.Grammar.{IsOver, AreHints, AreSteps}
use Rattle.lv_clauses.specs.Literals.{Lit, negated, Rises, IsClause, IsWithin}
use Rattle.lv_clauses.specs.Sets.{SetValue, numbered}
use Rattle.lv_clauses.specs.Units.{remaining}
use Rattle.lv_clauses.specs.Derivations.{Step, is_nil, by_rest, by_hint, walks, Follows, known_at, IsDerivation}
use Rattle.lv_clauses.proofs.Literals.{has-head, has-later}

-- ---- clauses

over : (low vars : ℕ) (c : List Lit) → Rises low c → IsWithin c vars → IsOver low vars c
over low vars [] rises within = tt
over low vars (l ∷ c) rises within = (rises.0, (within l (has-head l c)).1, over l.var vars c rises.1 (λ x i. within x (has-later l x c i)))

-- ---- hints

all_hints : (id : ℕ) (hs : List ℕ) → is_nil hs ≡ true → AreHints id hs
all_hints id [] e = tt
all_hints id (h ∷ hs) e = cc

number_within : (known : List (List Lit)) (h : ℕ) (c : List Lit) → numbered known h ≡ Some c → (1 ≤ h) × (h < length known + 1)
number_within known zero c e = cc
number_within known (suc k) c e = (omega arith, omega (arith, slice_get_within known k c e))

by_rest_hints : (id : ℕ) (t r : List Lit) (hs : List ℕ) (next : List Lit → Bool) → ((u : List Lit) → next u ≡ true → AreHints id hs) → by_rest t r hs next ≡ true → AreHints id hs
by_rest_hints id t [] hs next more e = all_hints id hs e
by_rest_hints id t (l ∷ []) hs next more e = more (l ∷ t) e
by_rest_hints id t (l ∷ k ∷ r) hs next more e = cc

by_hint_hints : (known : List (List Lit)) (t : List Lit) (h : ℕ) (o : Option (List Lit)) (hs : List ℕ) (next : List Lit → Bool) → numbered known h ≡ o →
    ((u : List Lit) → next u ≡ true → AreHints (length known + 1) hs) → by_hint t o hs next ≡ true → AreHints (length known + 1) (h ∷ hs)
by_hint_hints known t h None hs next is more e = cc
by_hint_hints known t h (Some c) hs next is more e =
    let at = number_within known h c is in
    (at.0, at.1, by_rest_hints (length known + 1) t (remaining t c) hs next more e)

walk_hints : (known : List (List Lit)) (hs : List ℕ) (t : List Lit) → walks known hs t ≡ true → AreHints (length known + 1) hs
walk_hints known [] t e = tt
walk_hints known (h ∷ hs) t e = by_hint_hints known t h (numbered known h) hs (walks known hs) refl (λ u more. walk_hints known hs u more) e

-- ---- lines

take_count : (lines : List Step) (k : ℕ) → k < length lines → length (take k lines) ≡ k
take_count [] k lt = absurd (omega arith)
take_count (s ∷ lines) zero lt = refl
take_count (s ∷ lines) (suc k) lt = omega (arith, take_count lines k (omega arith))

known_count : (cs : List (List Lit)) (lines : List Step) (k : ℕ) → k < length lines → length (known_at cs lines k) ≡ length cs + k
known_count cs lines k lt =
    omega (arith, length-append cs (map (λ (s : Step). s.clause) (take k lines)), length-map (take k lines) (λ (s : Step). s.clause), take_count lines k lt)

steps_are : (vars id : ℕ) (lines : List Step) → ((k : ℕ) (s : Step) → slice_get lines k ≡ Some s → IsOver 0 vars s.clause × AreHints (id + k) s.hints) → AreSteps vars id lines
steps_are vars id [] each = tt
steps_are vars id (s ∷ lines) each =
    let first = each zero s refl in
    let e : id + 0 ≡ id = omega arith in (
      first.0,
      subst (λ (n : ℕ). AreHints n s.hints) e first.1,
      steps_are vars (id + 1) lines (λ k x at.
          let later = each (suc k) x at in
          let f : id + suc k ≡ id + 1 + k = omega arith in
          (later.0, subst (λ (n : ℕ). AreHints n x.hints) f later.1)),
    )

-- the lines of a derivation can be written
pub steps_of : (set : SetValue) (lines : List Step) → IsDerivation set lines → ((k : ℕ) (s : Step) → slice_get lines k ≡ Some s → IsClause s.clause) →
    AreSteps set.vars (length set.clauses + 1) lines
steps_of set lines derivation sorted =
    steps_are set.vars (length set.clauses + 1) lines (λ k s at.
    let f : Follows set.vars (known_at set.clauses lines k) s = derivation k s at in
    let n : length (known_at set.clauses lines k) + 1 ≡ length set.clauses + 1 + k = omega (arith, known_count set.clauses lines k (slice_get_within lines k s at)) in (
      over 0 set.vars s.clause (sorted k s at) f.within,
      subst (λ (id : ℕ). AreHints id s.hints) n (walk_hints (known_at set.clauses lines k) s.hints (map negated s.clause) f.walked),
    ))
