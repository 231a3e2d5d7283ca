-- What is kept of the lines of a derivation.
use Rattle.std.proofs.Common.{◌≡◌, ℕ, suc, zero, ◌+◌, ◌-◌, ◌<◌, ◌≤◌, Bool, true, false, not, List, [], ◌∷◌}
use Rattle.std.proofs.Common.{◌++◌, map, take, length, get_or, refl, sym, ◌∙◌, ap, subst, arith, ◌⊎◌, inl, inr, length-append, append_assoc}
use Rattle.std.specs.Prelude.{Option, Some, None, slice_get}
use Rattle.std.specs.List.{list_all}
use Rattle.std.proofs.lemmas.Bool.{cases_Bool, cases_eq, or_cases, and_from, and_parts, true≢false}
use Rattle.std.proofs.lemmas.Option.{slice_get_within}
use Rattle.std.proofs.lemmas.List.{append-nil, length-map, map-append}
use Rattle.std.proofs.lemmas.List.Folds.{list_all-append}
use Rattle.lv_clauses.specs.Literals.{Lit, negated, has, IsClauseOf, IsWithin}
use Rattle.lv_clauses.specs.Sets.{SetValue, numbered}
use Rattle.lv_clauses.specs.Values.{literal_value, is_satisfied, Satisfies}
use Rattle.lv_clauses.specs.Units.{remaining}
use Rattle.lv_clauses.specs.Derivations.{Step, by_hint, walks, known_at, IsDerivation}
use Rattle.lv_clauses.specs.Added.{IsAdded}
use Rattle.lv_clauses.specs.declared.clause.Added.{Added}
use Rattle.lv_clauses.specs.declared.clause.Added.TheVariants.{Tautology, Clause}
use Rattle.lv_clauses.proofs.Literals.{has-head, has-later, has-cases, push-old, push-new, push-cases, take-item}
use Rattle.lv_clauses.proofs.Lists.{all-at, or_left}
use Rattle.lv_clauses.proofs.Sets.{get-push, get-older}
use Rattle.lv_clauses.proofs.Sorted.{same-members}
use Rattle.lv_clauses.proofs.Soundness.{AreTrue, left_true, by_rest-false, none-true, negations-true, value-negated}
use Rattle.lv_session.specs.Keeping.{is_used, AreHeld, RestsOn, AreResting, AreRows, IsMore, IsUse, AreUses, IsLifted}
use Rattle.lv_session.specs.Session.{with_units, IsWider, IsBlocked}

get-split : {X : Type 0} (xs ys : List X) (k : ℕ) (x : X) → slice_get (xs ++ ys) k ≡ Some x → (slice_get xs k ≡ Some x) ⊎ ((length xs ≤ k) × (slice_get ys (k - length xs) ≡ Some x))
get-split [] ys k x e = let z : k - 0 ≡ k = omega arith in inr (omega arith, ap (slice_get ys) z ∙ e)
get-split (y ∷ xs) ys zero x e = inl e
get-split (y ∷ xs) ys (suc k) x e =
    elim (get-split xs ys k x e) [
      | inl a ↦ inl a
      | inr b ↦ let z : suc k - suc (length xs) ≡ k - length xs = omega arith in inr (omega (arith, b.0), ap (slice_get ys) z ∙ b.1)
    ]

get-map : {X Y : Type 0} (f : X → Y) (xs : List X) (k : ℕ) (y : Y) → slice_get (map f xs) k ≡ Some y → (x : X) × (slice_get xs k ≡ Some x) × (f x ≡ y)
get-map f [] k y e = cc
get-map f (x ∷ xs) zero y e = (x, refl, cc)
get-map f (x ∷ xs) (suc k) y e = get-map f xs k y e

take-get : {X : Type 0} (n : ℕ) (xs : List X) (k : ℕ) (x : X) → slice_get (take n xs) k ≡ Some x → (k < n) × (slice_get xs k ≡ Some x)
take-get zero xs k x e = cc
take-get (suc n) [] k x e = cc
take-get (suc n) (y ∷ xs) zero x e = (omega arith, e)
take-get (suc n) (y ∷ xs) (suc k) x e = let r = take-get n xs k x e in (omega (arith, r.0), r.1)

pub get-some : {X : Type 0} (xs : List X) (k : ℕ) → k < length xs → (x : X) × (slice_get xs k ≡ Some x)
get-some [] k h = absurd (omega arith)
get-some (x ∷ xs) zero h = (x, refl)
get-some (x ∷ xs) (suc k) h = get-some xs k (omega arith)

pub not-own : (b : Bool) → not b ≡ b → ⊥
not-own true e = cc
not-own false e = cc

-- the clauses that hints name are satisfied
abbrev AreMet : (ℕ → Bool) → List (List Lit) → List ℕ → Type 0
AreMet values known hs = (p h : ℕ) (c : List Lit) → slice_get hs p ≡ Some h → numbered known h ≡ Some c → is_satisfied values c ≡ true

by_hint-met : (values : ℕ → Bool) (o : Option (List Lit)) (t : List Lit) (hs : List ℕ) (next : List Lit → Bool) →
    ((c : List Lit) → o ≡ Some c → is_satisfied values c ≡ true) → AreTrue values t → ((u : List Lit) → AreTrue values u → next u ≡ true → ⊥) → by_hint t o hs next ≡ true → ⊥
by_hint-met values None t hs next met are go e = cc
by_hint-met values (Some c) t hs next met are go e = by_rest-false values t (remaining t c) hs next are (left_true values t c are (met c refl)) go e

-- no walk over satisfied clauses leads from true literals to a falsified clause
walks-met : (values : ℕ → Bool) (known : List (List Lit)) (hs : List ℕ) (t : List Lit) → AreMet values known hs → AreTrue values t → walks known hs t ≡ true → ⊥
walks-met values known [] t met are e = cc
walks-met values known (h ∷ hs) t met are e =
    by_hint-met values (numbered known h) t hs (walks known hs) (λ c is. met zero h c refl is) are
    (λ u au eu. walks-met values known hs u (λ p k c. met (suc p) k c) au eu) e

unit-true : (values : ℕ → Bool) (a : Lit) (c : List Lit) → a ∷ [] ≡ c → literal_value values a ≡ true → is_satisfied values c ≡ true
unit-true values a c e i = subst (λ z. is_satisfied values z ≡ true) e (or_left (literal_value values a) false i)

-- what a hint names is satisfied
pub hint-met : (set : SetValue) (lits : List Lit) (log : List Step) (rows : List (List Bool)) (k : ℕ) (row : List Bool) → length rows ≡ k → AreResting set lits log rows →
    (values : ℕ → Bool) → Satisfies values set.clauses → AreHeld values lits row →
    (h : ℕ) (c : List Lit) → IsUse (length set.clauses) (length lits) rows h row → numbered (known_at (set.clauses ++ map (λ l. l ∷ []) lits) log k) h ≡ Some c → is_satisfied values c ≡ true
hint-met set lits log rows k row count rest values sat held zero c use_h e = cc
hint-met set lits log rows k row count rest values sat held (suc j) c use_h e =
    let cs : List (List Lit) = set.clauses in
    let units : List (List Lit) = map (λ l. l ∷ []) lits in
    let size : length (cs ++ units) ≡ length cs + length lits = length-append cs units ∙ ap (λ z. length cs + z) (length-map lits (λ (l : Lit). l ∷ [])) in
    elim (get-split (cs ++ units) (map (λ (s : Step). s.clause) (take k log)) j c e) [
      | inl a ↦ elim (get-split cs units j c a) [
        | inl b ↦ all-at (is_satisfied values) cs j c sat b
        | inr b ↦
            let (l, at, is) = get-map (λ (l : Lit). l ∷ []) lits (j - length cs) c b.1 in
            let low : length cs ≤ j = b.0 in
            let below = slice_get_within lits (j - length cs) l at in
            let place : suc j - length cs - 1 ≡ j - length cs = omega arith in
            let used : is_used row (j - length cs) ≡ true = subst (λ z. is_used row z ≡ true) place (use_h.unit (omega arith) (omega (arith, below))) in
            unit-true values l c is (held (j - length cs) l at used)
      ]
      | inr b ↦
          let q : ℕ = j - length (cs ++ units) in
          let (s, at, is) = get-map (λ (s : Step). s.clause) (take k log) q c b.1 in
          let t = take-get k log q s at in
          let (r, in_rows) = get-some rows q (omega (arith, t.0, count)) in
          let place : suc j ≡ length cs + length lits + q + 1 = omega (arith, b.0, size) in
          let more = use_h.line q r place in_rows in
          subst (λ z. is_satisfied values z ≡ true) is (rest q r s in_rows t.1 values sat (λ i a g u. held i a g (more i u)))
    ]

-- a line rests on the units that its hints use
pub line-rests : (set : SetValue) (lits : List Lit) (log : List Step) (rows : List (List Bool)) (k : ℕ) (s : Step) (row : List Bool) → length rows ≡ k → slice_get log k ≡ Some s →
    IsDerivation (with_units set lits) log → AreResting set lits log rows →
    AreUses (length set.clauses) (length lits) rows s.hints row → RestsOn set lits s.clause row
line-rests set lits log rows k s row count at der rest uses values sat held =
    elim (cases_Bool (is_satisfied values s.clause)) [
      | inl y ↦ y
      | inr n ↦ absurd (walks-met values (known_at (set.clauses ++ map (λ l. l ∷ []) lits) log k) s.hints (map negated s.clause)
          (λ p h c i is. hint-met set lits log rows k row count rest values sat held h c (uses p h i) is)
          (negations-true values s.clause n) (der k s at).walked)
    ]

pub rows-push : (m : ℕ) (rows : List (List Bool)) (row : List Bool) → AreRows m rows → length row ≡ m → AreRows m (rows ++ row ∷ [])
rows-push m rows row are is q r e = elim (get-push rows row r q e) [ inl a ↦ are q r a | inr b ↦ subst (λ z. length z ≡ m) b.0 is ]

pub resting-push : (set : SetValue) (lits : List Lit) (log : List Step) (rows : List (List Bool)) (k : ℕ) (s : Step) (row : List Bool) → length rows ≡ k → slice_get log k ≡ Some s →
    AreResting set lits log rows → RestsOn set lits s.clause row → AreResting set lits log (rows ++ row ∷ [])
resting-push set lits log rows k s row count at rest is q r x e f =
    elim (get-push rows row r q e) [
      | inl a ↦ rest q r x a f
      | inr b ↦
          let place : q ≡ k = b.1 ∙ count in
          let same_step : Some s ≡ Some x = sym at ∙ (ap (slice_get log) (sym place) ∙ f) in
          let y : s ≡ x = cc in
          subst (λ z. RestsOn set lits x.clause z) b.0 (subst (λ z. RestsOn set lits z.clause row) y is)
    ]

some-literal : (values : ℕ → Bool) (c : List Lit) → is_satisfied values c ≡ true → (l : Lit) × (has c l ≡ true) × (literal_value values l ≡ true)
some-literal values [] e = cc
some-literal values (x ∷ c) e =
    elim (or_cases (literal_value values x) (is_satisfied values c) e) [
      | inl a ↦ (x, has-head x c, a)
      | inr b ↦ let (l, i, v) = some-literal values c b in (l, has-later x l c i, v)
    ]

-- the clause of a line and the negations of its units is satisfied
pub lifted-true : (set : SetValue) (lits c new d : List Lit) (row : List Bool) → RestsOn set lits c row → IsLifted lits c row new → IsClauseOf new d → (values : ℕ → Bool) →
    Satisfies values set.clauses → is_satisfied values d ≡ true
lifted-true set lits c new d row rests is of values sat =
    elim (cases_Bool (is_satisfied values d)) [
      | inl y ↦ y
      | inr n ↦
          let no : (l : Lit) → has new l ≡ true → literal_value values l ≡ true → ⊥ = λ l i v. none-true values d l n (of.members l ∙ i) v in
          let held : AreHeld values lits row = λ i a g u. elim (cases_Bool (literal_value values a)) [
            | inl y ↦ y
            | inr f ↦ absurd (no (negated a) (is.used i a g u) (value-negated values a ∙ ap not f))
          ] in
          let (l, i, v) = some-literal values c (rests values sat held) in
          absurd (no l (is.own l i) v)
    ]

pub wider-refl : (set : SetValue) → IsWider set set
wider-refl set = record { vars = refl; more = []; clauses = sym (append-nil set.clauses); keeps = λ values sat. sat }

pub wider-both : (a b c : SetValue) → IsWider a b → IsWider b c → IsWider a c
wider-both a b c v w = record {
  vars = w.vars ∙ v.vars;
  more = v.more ++ w.more;
  clauses = w.clauses ∙ (ap (λ z. z ++ w.more) v.clauses ∙ append_assoc a.clauses v.more w.more);
  keeps = λ values sat. w.keeps values (v.keeps values sat);
}

pub satisfies-push : (values : ℕ → Bool) (cs : List (List Lit)) (d : List Lit) → Satisfies values cs → is_satisfied values d ≡ true → Satisfies values (cs ++ d ∷ [])
satisfies-push values cs d sat is =
    list_all-append (is_satisfied values) cs (d ∷ []) ∙ and_from (list_all (is_satisfied values) cs) (list_all (is_satisfied values) (d ∷ [])) sat (and_from (is_satisfied values d) true is refl)

-- what satisfies more satisfies what was there before
pub satisfies-old : (values : ℕ → Bool) (old new : SetValue) → IsWider old new → Satisfies values new.clauses → Satisfies values old.clauses
satisfies-old values old new w sat =
    (and_parts (list_all (is_satisfied values) old.clauses) (list_all (is_satisfied values) w.more)
    (sym (list_all-append (is_satisfied values) old.clauses w.more) ∙ subst (λ z. Satisfies values z) w.clauses sat)).0

pub rests-wider : (old new : SetValue) (lits c : List Lit) (row : List Bool) → IsWider old new → RestsOn old lits c row → RestsOn new lits c row
rests-wider old new lits c row w rests values sat held = rests values (satisfies-old values old new w sat) held

pub blocked-wider : (lits : List Lit) (old new : SetValue) → IsWider old new → IsBlocked lits old → IsBlocked lits new
blocked-wider lits old new w (k, c, e, part) = (k, c, ap (λ z. slice_get z k) w.clauses ∙ get-older old.clauses w.more c k e, part)

-- a clause that is satisfied where the set is makes it wider
pub wider-added : (old new : SetValue) (lits : List Lit) (added : Added) → IsAdded old lits added new →
    ((d : List Lit) → IsClauseOf lits d → (values : ℕ → Bool) → Satisfies values old.clauses → is_satisfied values d ≡ true) → IsWider old new
wider-added old new lits Tautology (pair, e) is = subst (λ z. IsWider old z) (sym e) (wider-refl old)
wider-added old new lits Clause (d, of, e) is =
    let w : IsWider old (record { vars = old.vars; clauses = old.clauses ++ d ∷ [] }) = record {
      vars = refl;
      more = d ∷ [];
      clauses = refl;
      keeps = λ values sat. satisfies-push values old.clauses d sat (is d of values sat);
    } in
    subst (λ z. IsWider old z) (sym e) w

pub get-has : (c : List Lit) (i : ℕ) (a : Lit) → slice_get c i ≡ Some a → has c a ≡ true
get-has [] i a e = cc
get-has (x ∷ c) zero a e = let s : x ≡ a = cc in subst (λ z. has (x ∷ c) z ≡ true) s (has-head x c)
get-has (x ∷ c) (suc i) a e = has-later x a c (get-has c i a e)

pub used-within : (row : List Bool) (i : ℕ) → is_used row i ≡ true → i < length row
used-within [] i e = cc
used-within (b ∷ row) zero e = omega arith
used-within (b ∷ row) (suc i) e = omega (arith, used-within row i e)

-- a hint that names a clause before the units uses none
pub use-clause : (n m : ℕ) (rows : List (List Bool)) (h : ℕ) (row : List Bool) → h ≤ n → IsUse n m rows h row
use-clause n m rows h row low = record { unit = λ a b. absurd (omega arith); line = λ q r e at. absurd (omega (arith, e)) }

pub use-unit : (n m : ℕ) (rows : List (List Bool)) (h : ℕ) (row : List Bool) → h ≤ n + m → (n < h → is_used row (h - n - 1) ≡ true) → IsUse n m rows h row
use-unit n m rows h row low is = record { unit = λ a b. is a; line = λ q r e at. absurd (omega (arith, e)) }

pub use-line : (n m : ℕ) (rows : List (List Bool)) (h q : ℕ) (r row : List Bool) → h ≡ n + m + q + 1 → slice_get rows q ≡ Some r → IsMore r row → IsUse n m rows h row
use-line n m rows h q r row is at more = record {
  unit = λ a b. absurd (omega (arith, is));
  line = λ j x e f.
      let place : q ≡ j = omega (arith, is, e) in
      let both : Some r ≡ Some x = sym at ∙ (ap (slice_get rows) place ∙ f) in
      let s : r ≡ x = cc in
      subst (λ z. IsMore z row) s more;
}

-- a hint past all lines uses nothing
pub use-none : (n m : ℕ) (rows : List (List Bool)) (h : ℕ) (row : List Bool) → n + m + length rows < h → IsUse n m rows h row
use-none n m rows h row past = record {
  unit = λ a b. absurd (omega arith);
  line = λ q r e at. absurd (omega (arith, e, slice_get_within rows q r at));
}

pub use-more : (n m : ℕ) (rows : List (List Bool)) (h : ℕ) (old new : List Bool) → IsMore old new → IsUse n m rows h old → IsUse n m rows h new
use-more n m rows h old new more is = record { unit = λ a b. more (h - n - 1) (is.unit a b); line = λ q r e at i u. more i (is.line q r e at i u) }

-- as above, where the numbers and lists are told by equations
pub line-rests-by : (set : SetValue) (lits : List Lit) (log : List Step) (rows rows' : List (List Bool)) (k n : ℕ) (s : Step) (hints : List ℕ) (row : List Bool) → length rows ≡ k →
    slice_get log k ≡ Some s → IsDerivation (with_units set lits) log → AreResting set lits log rows →
    n ≡ length set.clauses → rows' ≡ rows → hints ≡ s.hints → AreUses n (length lits) rows' hints row → RestsOn set lits s.clause row
line-rests-by set lits log rows rows' k n s hints row count at der rest en er eh uses =
    line-rests set lits log rows k s row count at der rest
    (subst (λ z. AreUses (length set.clauses) (length lits) rows z row) eh
    (subst (λ z. AreUses (length set.clauses) (length lits) z hints row) er
    (subst (λ z. AreUses z (length lits) rows' hints row) en uses)))

pub lifted-within : (lits c new : List Lit) (row : List Bool) (n : ℕ) → IsWithin lits n → IsWithin c n → IsLifted lits c row new → IsWithin new n
lifted-within lits c new row n in_lits in_c is l i =
    elim (is.only l i) [
      | inl own ↦ in_c l own
      | inr (j, a, at, e) ↦ let w = in_lits a (get-has lits j a at) in (omega (arith, w.0, ap (λ z. z.var) e), omega (arith, w.1, ap (λ z. z.var) e))
    ]

-- the negations of the first k units that a line rests on
pub record IsLiftedTo (lits c : List Lit) (row : List Bool) (k : ℕ) (new : List Lit) : Type 0 where
  pub own : (x : Lit) → has c x ≡ true → has new x ≡ true
  pub used : (i : ℕ) (a : Lit) → i < k → slice_get lits i ≡ Some a → is_used row i ≡ true → has new (negated a) ≡ true
  pub only : (x : Lit) → has new x ≡ true → (has c x ≡ true) ⊎ ((i : ℕ) × (a : Lit) × (slice_get lits i ≡ Some a) × (negated a ≡ x))

same-at : (lits : List Lit) (k i : ℕ) (x a : Lit) → slice_get lits k ≡ Some x → slice_get lits i ≡ Some a → i ≡ k → x ≡ a
same-at lits k i x a e f is = let both : Some x ≡ Some a = sym e ∙ (ap (slice_get lits) (sym is) ∙ f) in cc

pub lifted-used : (lits c : List Lit) (row : List Bool) (k : ℕ) (new : List Lit) (x : Lit) → slice_get lits k ≡ Some x → IsLiftedTo lits c row k new →
    IsLiftedTo lits c row (k + 1) (new ++ negated x ∷ [])
lifted-used lits c row k new x e is = record {
  own = λ y i. push-old new (negated x) y (is.own y i);
  used = λ i a below at u. elim (cases_eq i k) [
    | inl here ↦ subst (λ z. has (new ++ negated x ∷ []) (negated z) ≡ true) (same-at lits k i x a e at here) (push-new new (negated x))
    | inr ne ↦ push-old new (negated x) (negated a) (is.used i a (omega (arith, ne)) at u)
  ];
  only = λ y i. elim (push-cases new (negated x) y i) [ inl old ↦ is.only y old | inr here ↦ inr (k, x, e, here) ];
}

pub lifted-unused : (lits c : List Lit) (row : List Bool) (k : ℕ) (new : List Lit) → is_used row k ≡ false → IsLiftedTo lits c row k new → IsLiftedTo lits c row (k + 1) new
lifted-unused lits c row k new not_used is = record {
  own = is.own;
  used = λ i a below at u. elim (cases_eq i k) [
    | inl here ↦ absurd (true≢false (sym u ∙ (ap (is_used row) here ∙ not_used)))
    | inr ne ↦ is.used i a (omega (arith, ne)) at u
  ];
  only = is.only;
}

-- one unit clause is added
pub unit-added : (old new : SetValue) (x : Lit) (added : Added) → 1 ≤ x.var → IsAdded old (x ∷ []) added new → new ≡ record { vars = old.vars; clauses = old.clauses ++ (x ∷ []) ∷ [] }
unit-added old new x Tautology one ((l, a, b), e) =
    elim (has-cases x l [] a) [
      | inr none ↦ cc
      | inl s ↦ elim (has-cases x (negated l) [] b) [
        | inr none ↦ cc
        | inl t ↦ absurd (not-own l.neg (ap (λ z. z.neg) (sym t ∙ s)))
      ]
    ]
unit-added old new x Clause one (d, of, e) =
    let is : d ≡ x ∷ [] = same-members 0 0 d (x ∷ []) of.sorted (omega arith, tt) of.members in
    e ∙ ap (λ z. record { vars = old.vars; clauses = old.clauses ++ z ∷ [] }) is

pub units-more : (set : SetValue) (lits : List Lit) (k : ℕ) (x : Lit) (made new : SetValue) → k < length lits → x ≡ get_or lits k x → made ≡ with_units set (take k lits) →
    new ≡ record { vars = made.vars; clauses = made.clauses ++ (x ∷ []) ∷ [] } → new ≡ with_units set (take (k + 1) lits)
units-more set lits k x made new below is e f =
    let one : Lit → List Lit = λ l. l ∷ [] in
    let more : map one (take (k + 1) lits) ≡ map one (take k lits) ++ (x ∷ []) ∷ [] = ap (map one) (take-item lits k x below is) ∙ map-append one (take k lits) (x ∷ []) in
    let cs : set.clauses ++ map one (take k lits) ++ (x ∷ []) ∷ [] ≡ set.clauses ++ map one (take (k + 1) lits) =
    append_assoc set.clauses (map one (take k lits)) ((x ∷ []) ∷ []) ∙ ap (λ z. set.clauses ++ z) (sym more) in
    f ∙ (ap (λ z. record { vars = z.vars; clauses = z.clauses ++ (x ∷ []) ∷ [] }) e ∙ ap (λ z. record { vars = set.vars; clauses = z }) cs)

-- one literal more that has another variable
pub apart-step : (lits : List Lit) (k : ℕ) (x : Lit) → slice_get lits k ≡ Some x → ((i : ℕ) (a : Lit) → i < k → slice_get lits i ≡ Some a → a.var ≡ x.var → ⊥) →
    ((i j : ℕ) (a b : Lit) → i < k → j < k → slice_get lits i ≡ Some a → slice_get lits j ≡ Some b → a.var ≡ b.var → i ≡ j) →
    (i j : ℕ) (a b : Lit) → i < k + 1 → j < k + 1 → slice_get lits i ≡ Some a → slice_get lits j ≡ Some b → a.var ≡ b.var → i ≡ j
apart-step lits k x at none before i j a b low low' at_a at_b e =
    elim (cases_eq i k) [
      | inl is ↦ elim (cases_eq j k) [
        | inl is' ↦ is ∙ sym is'
        | inr ne' ↦ absurd (none j b (omega (arith, ne')) at_b (sym e ∙ ap (λ z. z.var) (sym (same-at lits k i x a at at_a is))))
      ]
      | inr ne ↦ elim (cases_eq j k) [
        | inl is' ↦ absurd (none i a (omega (arith, ne)) at_a (e ∙ ap (λ z. z.var) (sym (same-at lits k j x b at at_b is'))))
        | inr ne' ↦ before i j a b (omega (arith, ne)) (omega (arith, ne')) at_a at_b e
      ]
    ]
