-- Lists of numbers: what they have, and that they have nothing twice.
use Rattle.std.proofs.Common.{◌≡◌, ℕ, zero, suc, ◌<◌, Bool, true, false, not, ◌&&◌, ◌||◌, ◌==◌, List, [], ◌∷◌, ◌++◌, take, length, get_or, refl, ap, sym, ◌∙◌, inl, inr, arith}
use Rattle.std.proofs.lemmas.Bool.{true≢false, eqb-true, eq-eqb, ne_eqb, or_cases, or_parts, or_from, or_left, or_right, and_parts, and_from, not-true, not_from_false}
use Rattle.std.proofs.lemmas.List.{append-nil}
use Rattle.lv_order.specs.Graphs.{has, are_distinct}

pub or_assoc : (x y z : Bool) → ((x || y) || z) ≡ (x || (y || z))
or_assoc true y z = refl
or_assoc false y z = refl

pub or_comm : (x y : Bool) → (x || y) ≡ (y || x)
or_comm true true = refl
or_comm true false = refl
or_comm false true = refl
or_comm false false = refl

pub and_assoc : (x y z : Bool) → ((x && y) && z) ≡ (x && (y && z))
and_assoc true y z = refl
and_assoc false y z = refl

-- ---- membership

pub has_at : (xs : List ℕ) (w : ℕ) → has xs w ≡ true → (k : ℕ) × (k < length xs) × (get_or xs k 0 ≡ w)
has_at [] w h = absurd (true≢false (sym h))
has_at (x ∷ xs) w h = elim (or_cases (x == w) (has xs w) h) [
  | inl e ↦ (0, omega arith, eqb-true x w e)
  | inr r ↦ let t : (k : ℕ) × (k < length xs) × (get_or xs k 0 ≡ w) = has_at xs w r in (suc t.0, (let p : t.0 < length xs = t.1 in omega arith), t.2)
]

pub has_get : (xs : List ℕ) (k d : ℕ) → k < length xs → has xs (get_or xs k d) ≡ true
has_get [] k d h = absurd (omega arith)
has_get (x ∷ xs) zero d h = or_left (x == x) (has xs x) (eq-eqb x x refl)
has_get (x ∷ xs) (suc k) d h = or_right (x == get_or xs k d) (has xs (get_or xs k d)) (has_get xs k d (omega arith))

pub has-append : (xs ys : List ℕ) (v : ℕ) → has (xs ++ ys) v ≡ (has xs v || has ys v)
has-append [] ys v = refl
has-append (x ∷ xs) ys v = ap (λ b. (x == v) || b) (has-append xs ys v) ∙ sym (or_assoc (x == v) (has xs v) (has ys v))

pub has-append_comm : (xs ys : List ℕ) (v : ℕ) → has (xs ++ ys) v ≡ has (ys ++ xs) v
has-append_comm xs ys v = has-append xs ys v ∙ (or_comm (has xs v) (has ys v) ∙ sym (has-append ys xs v))

pub has_pushed : (xs : List ℕ) (w : ℕ) → has (xs ++ w ∷ []) w ≡ true
has_pushed xs w = has-append xs (w ∷ []) w ∙ or_right (has xs w) ((w == w) || false) (or_left (w == w) false (eq-eqb w w refl))

pub has_other : (xs : List ℕ) (w v : ℕ) → (v ≡ w → ⊥) → has (xs ++ w ∷ []) v ≡ has xs v
has_other [] w v ne = ap (λ b. b || false) (ne_eqb w v (λ e. ne (sym e)))
has_other (x ∷ xs) w v ne = ap (λ b. (x == v) || b) (has_other xs w v ne)

pub has_more : (xs ys : List ℕ) (v : ℕ) → has xs v ≡ true → has (xs ++ ys) v ≡ true
has_more xs ys v h = has-append xs ys v ∙ or_left (has xs v) (has ys v) h

pub differ : (xs : List ℕ) (w v : ℕ) → has xs w ≡ true → has xs v ≡ false → v ≡ w → ⊥
differ xs w v h k e = true≢false (sym h ∙ (ap (has xs) (sym e) ∙ k))

-- ---- the last one

pub last_is : (xs : List ℕ) (n d : ℕ) → length xs ≡ suc n → xs ≡ take n xs ++ get_or xs n d ∷ []
last_is [] n d h = absurd (omega arith)
last_is (x ∷ []) zero d h = refl
last_is (x ∷ []) (suc n) d h = absurd (omega arith)
last_is (x ∷ y ∷ xs) zero d h = absurd (omega arith)
last_is (x ∷ y ∷ xs) (suc n) d h = ap (λ z. x ∷ z) (last_is (y ∷ xs) n d (omega arith))

-- ---- nothing twice

pub distinct_push : (xs : List ℕ) (v : ℕ) → are_distinct xs ≡ true → has xs v ≡ false → are_distinct (xs ++ v ∷ []) ≡ true
distinct_push [] v h k = refl
distinct_push (x ∷ xs) v h k =
    let p = and_parts (not (has xs x)) (are_distinct xs) h in
    let q = or_parts (x == v) (has xs v) k in
    and_from (not (has (xs ++ v ∷ []) x)) (are_distinct (xs ++ v ∷ []))
    (not_from_false (has (xs ++ v ∷ []) x) (has_other xs v x (λ e. true≢false (sym (eq-eqb x v e) ∙ q.0)) ∙ not-true (has xs x) p.0))
    (distinct_push xs v p.1 q.1)

pub distinct_front : (xs ys : List ℕ) → are_distinct (xs ++ ys) ≡ true → are_distinct xs ≡ true
distinct_front [] ys h = refl
distinct_front (x ∷ xs) ys h =
    let p = and_parts (not (has (xs ++ ys) x)) (are_distinct (xs ++ ys)) h in
    and_from (not (has xs x)) (are_distinct xs)
    (not_from_false (has xs x) ((or_parts (has xs x) (has ys x) (sym (has-append xs ys x) ∙ not-true (has (xs ++ ys) x) p.0)).0))
    (distinct_front xs ys p.1)

pub distinct_back : (xs ys : List ℕ) → are_distinct (xs ++ ys) ≡ true → are_distinct ys ≡ true
distinct_back [] ys h = h
distinct_back (x ∷ xs) ys h = distinct_back xs ys ((and_parts (not (has (xs ++ ys) x)) (are_distinct (xs ++ ys)) h).1)

pub last_apart : (xs : List ℕ) (v : ℕ) → are_distinct (xs ++ v ∷ []) ≡ true → has xs v ≡ false
last_apart [] v h = refl
last_apart (x ∷ xs) v h =
    let p = and_parts (not (has (xs ++ v ∷ []) x)) (are_distinct (xs ++ v ∷ [])) h in
    or_from (x == v) (has xs v)
    (ne_eqb x v (λ e. true≢false (sym (has_pushed xs v) ∙ (ap (has (xs ++ v ∷ [])) (sym e) ∙ not-true (has (xs ++ v ∷ []) x) p.0))))
    (last_apart xs v p.1)

distinct_insert : (xs ys : List ℕ) (v : ℕ) → has (xs ++ ys) v ≡ false → are_distinct (xs ++ ys) ≡ true → are_distinct (xs ++ v ∷ ys) ≡ true
distinct_insert [] ys v h k = and_from (not (has ys v)) (are_distinct ys) (not_from_false (has ys v) h) k
distinct_insert (x ∷ xs) ys v h k =
    let p = and_parts (not (has (xs ++ ys) x)) (are_distinct (xs ++ ys)) k in
    let q = or_parts (x == v) (has (xs ++ ys) v) h in
    let r = or_parts (has xs x) (has ys x) (sym (has-append xs ys x) ∙ not-true (has (xs ++ ys) x) p.0) in
    and_from (not (has (xs ++ v ∷ ys) x)) (are_distinct (xs ++ v ∷ ys))
    (not_from_false (has (xs ++ v ∷ ys) x) (has-append xs (v ∷ ys) x ∙
    or_from (has xs x) ((v == x) || has ys x) r.0
    (or_from (v == x) (has ys x) (ne_eqb v x (λ e. true≢false (sym (eq-eqb x v (sym e)) ∙ q.0))) r.1)))
    (distinct_insert xs ys v q.1 p.1)

pub distinct_turned : (xs ys : List ℕ) → are_distinct (xs ++ ys) ≡ true → are_distinct (ys ++ xs) ≡ true
distinct_turned [] ys h = ap are_distinct (append-nil ys) ∙ h
distinct_turned (x ∷ xs) ys h =
    let p = and_parts (not (has (xs ++ ys) x)) (are_distinct (xs ++ ys)) h in
    distinct_insert ys xs x (has-append_comm ys xs x ∙ not-true (has (xs ++ ys) x) p.0) (distinct_turned xs ys p.1)
