-- Assumed literals that can't all be true, and the clause that says so.
use Rattle.std.proofs.Common.{◌≡◌, ℕ, suc, zero, ◌+◌, ◌-◌, ◌<◌, Bool, true, false, not, List, [], ◌∷◌, ◌++◌, map, take, length, get_or, refl, sym, ◌∙◌, ap, subst, arith, inl, inr}
use Rattle.std.specs.Prelude.{Some, slice_get}
use Rattle.std.proofs.Math.Seq.{take-append_seam}
use Rattle.std.proofs.lemmas.List.{map-append}
use Rattle.std.proofs.lemmas.Bool.{cases_Bool, cases_eq, true≢false}
use Rattle.lv_clauses.specs.Literals.{Lit, negated, has, HasPair, IsClauseOf, IsWithin}
use Rattle.lv_clauses.specs.Sets.{SetValue}
use Rattle.lv_clauses.specs.Values.{literal_value, is_satisfied, Satisfies}
use Rattle.lv_clauses.specs.Derivations.{Step, IsPart}
use Rattle.lv_clauses.specs.Added.{IsAdded}
use Rattle.lv_clauses.specs.declared.clause.Added.{Added}
use Rattle.lv_clauses.specs.declared.clause.Added.TheVariants.{Tautology, Clause}
use Rattle.lv_clauses.proofs.Literals.{negated-negated, has-cases, has-negated, push-old, push-new, push-cases, take-item}
use Rattle.lv_clauses.proofs.Lists.{some-same}
use Rattle.lv_clauses.proofs.Sets.{get-push, get-pushed}
use Rattle.lv_clauses.proofs.Soundness.{none-true, value-negated}
use Rattle.lv_solver.proofs.Walking.{negated-in}
use Rattle.lv_session.specs.Keeping.{is_used, RestsOn, HasRows}
use Rattle.lv_session.specs.Session.{with_units, AreApart, IsWider, IsBlocked}
use Rattle.lv_session.specs.Blocking.{AreRefuted, IsChosen, IsCore, EndsEmpty, IsBehind}
use Rattle.lv_session.proofs.Keeping.{get-has, not-own, satisfies-old, wider-added}

has-get : (c : List Lit) (l : Lit) → has c l ≡ true → (i : ℕ) × (slice_get c i ≡ Some l)
has-get [] l e = cc
has-get (x ∷ c) l e = elim (has-cases x l c e) [ inl is ↦ (zero, ap Some is) | inr later ↦ let (i, at) = has-get c l later in (suc i, at) ]

-- the literals that were chosen of the first k
pub record IsChosenOf (lits : List Lit) (row : List Bool) (k : ℕ) (new : List Lit) : Type 0 where
  pub part : (l : Lit) → has new l ≡ true → (i : ℕ) × (i < k) × (slice_get lits i ≡ Some l)
  pub apart : AreApart new
  pub used : (i : ℕ) (a : Lit) → i < k → slice_get lits i ≡ Some a → is_used row i ≡ true → has new a ≡ true

same-place : (lits : List Lit) (k i : ℕ) (x a : Lit) → slice_get lits k ≡ Some x → slice_get lits i ≡ Some a → i ≡ k → x ≡ a
same-place lits k i x a e f is = some-same x a (sym e ∙ (ap (slice_get lits) (sym is) ∙ f))

-- no literal that was chosen before has the variable of a later one
not-before : (lits : List Lit) (row : List Bool) (k : ℕ) (new : List Lit) (x a : Lit) → slice_get lits k ≡ Some x → AreApart lits → IsChosenOf lits row k new → has new a ≡ true → a.var ≡ x.var → ⊥
not-before lits row k new x a at apart is in_new e =
    let (i, below, at_a) = is.part a in_new in
    let place : i ≡ k = apart i k a x at_a at e in
    omega (arith, below, place)

pub chosen-used : (lits : List Lit) (row : List Bool) (k : ℕ) (new : List Lit) (x : Lit) → slice_get lits k ≡ Some x → AreApart lits → IsChosenOf lits row k new →
    IsChosenOf lits row (k + 1) (new ++ x ∷ [])
chosen-used lits row k new x at apart is = record {
  part = λ l i. elim (push-cases new x l i) [
    | inl old ↦ let (j, below, at_l) = is.part l old in (j, omega (arith, below), at_l)
    | inr here ↦ (k, omega arith, at ∙ ap Some here)
  ];
  apart = λ i j a b at_a at_b e. elim (get-push new x a i at_a) [
    | inl old ↦ elim (get-push new x b j at_b) [
      | inl old' ↦ is.apart i j a b old old' e
      | inr here' ↦ absurd (not-before lits row k new x a at apart is (get-has new i a old) (e ∙ ap (λ z. z.var) (sym here'.0)))
    ]
    | inr here ↦ elim (get-push new x b j at_b) [
      | inl old' ↦ absurd (not-before lits row k new x b at apart is (get-has new j b old') (sym e ∙ ap (λ z. z.var) (sym here.0)))
      | inr here' ↦ here.1 ∙ sym here'.1
    ]
  ];
  used = λ i a below at_a u. elim (cases_eq i k) [
    | inl here ↦ subst (λ z. has (new ++ x ∷ []) z ≡ true) (same-place lits k i x a at at_a here) (push-new new x)
    | inr ne ↦ push-old new x a (is.used i a (omega (arith, ne, below)) at_a u)
  ];
}

pub chosen-unused : (lits : List Lit) (row : List Bool) (k : ℕ) (new : List Lit) → is_used row k ≡ false → IsChosenOf lits row k new → IsChosenOf lits row (k + 1) new
chosen-unused lits row k new not_used is = record {
  part = λ l i. let (j, below, at_l) = is.part l i in (j, omega (arith, below), at_l);
  apart = is.apart;
  used = λ i a below at_a u. elim (cases_eq i k) [
    | inl here ↦ absurd (true≢false (sym u ∙ (ap (is_used row) here ∙ not_used)))
    | inr ne ↦ is.used i a (omega (arith, ne, below)) at_a u
  ];
}

-- a list of negations with one more
pub negations-more : (lits : List Lit) (k : ℕ) (x : Lit) (made new : List Lit) → k < length lits → x ≡ get_or lits k x → made ≡ map negated (take k lits) → new ≡ made ++ negated x ∷ [] →
    new ≡ map negated (take (k + 1) lits)
negations-more lits k x made new below is e f =
    f ∙ (ap (λ z. z ++ negated x ∷ []) e ∙ (sym (map-append negated (take k lits) (x ∷ [])) ∙ ap (map negated) (sym (take-item lits k x below is))))

-- what an empty line rests on can't all be true
pub core-of : (set : SetValue) (lits : List Lit) (row : List Bool) (new : List Lit) → RestsOn set lits [] row → IsChosen lits row new → IsCore lits set new
core-of set lits row new rests is = record {
  part = is.part;
  apart = is.apart;
  refuted = λ values sat all. true≢false (sym (rests values sat (λ i a at u. all a (is.used i a at u))));
}

-- the last line rests on the units of its row
pub last-rests : (set : SetValue) (lits : List Lit) (log : List Step) (rows : List (List Bool)) (row : List Bool) → HasRows set lits log rows → EndsEmpty log →
    slice_get rows (length log - 1) ≡ Some row → RestsOn set lits [] row
last-rests set lits log rows row is (s, some, at, nil) at_row = subst (λ z. RestsOn set lits z row) nil (is.resting (length log - 1) row s at_row at)

pub core-wider : (lits : List Lit) (old new : SetValue) (core : List Lit) → IsWider old new → IsCore lits old core → IsCore lits new core
core-wider lits old new core w is = record { part = is.part; apart = is.apart; refuted = λ values sat all. is.refuted values (satisfies-old values old new w sat) all }

-- literals with different variables have no negations that are a pair
no-pair : (lits : List Lit) → AreApart lits → HasPair (map negated lits) → ⊥
no-pair lits apart (l, a, b) =
    let (i, at) = has-get lits (negated l) (has-negated lits l a) in
    let (j, at') = has-get lits (negated (negated l)) (has-negated lits (negated l) b) in
    let is : negated l ≡ negated (negated l) = some-same (negated l) (negated (negated l)) (sym at ∙ (ap (slice_get lits) (apart i j (negated l) (negated (negated l)) at at' refl) ∙ at')) in
    not-own l.neg (ap (λ z. z.neg) (is ∙ negated-negated l))

-- a clause of the negations is satisfied
negations-satisfied : (set : SetValue) (lits d : List Lit) → AreRefuted set lits → IsClauseOf (map negated lits) d → (values : ℕ → Bool) → Satisfies values set.clauses → is_satisfied values d ≡ true
negations-satisfied set lits d refuted of values sat =
    elim (cases_Bool (is_satisfied values d)) [
      | inl y ↦ y
      | inr n ↦ absurd (refuted values sat (λ l i. elim (cases_Bool (literal_value values l)) [
        | inl y ↦ y
        | inr f ↦ absurd (none-true values d (negated l) n (of.members (negated l) ∙ negated-in lits l i) (value-negated values l ∙ ap not f))
      ]))
    ]

pub blocked-part : (lits new : List Lit) (set : SetValue) → IsPart new lits → IsBlocked new set → IsBlocked lits set
blocked-part lits new set part (k, c, at, is) = (
  k,
  c,
  at,
  λ l i. subst (λ z. has (map negated lits) z ≡ true) (negated-negated l) (negated-in lits (negated l) (part (negated l) (has-negated new l (is l i)))),
)

-- the clause of the negations is added
pub wider-blocked : (lits core : List Lit) (old new : SetValue) (added : Added) → IsCore lits old core → IsAdded old (map negated core) added new → IsWider old new
wider-blocked lits core old new added is add = wider-added old new (map negated core) added add (λ d of. negations-satisfied old core d is.refuted of)

pub blocked-added : (lits core : List Lit) (old new : SetValue) (added : Added) → IsCore lits old core → IsAdded old (map negated core) added new → IsBlocked lits new
blocked-added lits core old new Tautology is (pair, e) = absurd (no-pair core is.apart pair)
blocked-added lits core old new Clause is (d, of, e) =
    blocked-part lits core new is.part (
      length old.clauses,
      d,
      ap (λ z. slice_get z.clauses (length old.clauses)) e ∙ get-pushed old.clauses d,
      λ l i. sym (of.members l) ∙ i,
    )

pub within-part : (lits new : List Lit) (n : ℕ) → IsPart new lits → IsWithin lits n → IsWithin new n
within-part lits new n part within l i = within l (part l i)

pub within-wider : (lits : List Lit) (old new : SetValue) → IsWider old new → IsWithin lits old.vars → IsWithin lits new.vars
within-wider lits old new w within l i = let h = within l i in (h.0, omega (arith, h.1, w.vars))

-- the negations of literals are within
pub negations-within : (lits : List Lit) (n : ℕ) → IsWithin lits n → IsWithin (map negated lits) n
negations-within lits n within l i = within (negated l) (has-negated lits l i)

pub units-behind : (set made : SetValue) (lits : List Lit) → made ≡ with_units set lits → IsBehind set made
units-behind set made lits e = record {
  vars = ap (λ z. z.vars) e;
  before = ap (λ z. take (length set.clauses) z.clauses) e ∙ take-append_seam set.clauses (map (λ (l : Lit). l ∷ []) lits);
}

-- what was there is what stands before the others
pub cut-back : (set made new : SetValue) (n : ℕ) → n ≡ length set.clauses → IsBehind set made → new ≡ record { vars = made.vars; clauses = take n made.clauses } → new ≡ set
cut-back set made new n e is cut =
    cut ∙ (ap (λ z. record { vars = z; clauses = take n made.clauses }) is.vars ∙ ap (λ z. record { vars = set.vars; clauses = z }) (ap (λ z. take z made.clauses) e ∙ is.before))
