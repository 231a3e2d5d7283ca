-- Where a trail keeps its literals.
use Rattle.std.proofs.Common.{◌≡◌, ℕ, suc, zero, ◌+◌, ◌-◌, ◌<◌, ◌≤◌, true, false, not, List, [], ◌∷◌, length, take, get_or, refl, sym, ◌∙◌, ap, subst, arith, inl, inr, length-take}
use Rattle.std.proofs.Math.Bool.{beq}
use Rattle.std.proofs.lemmas.Bool.{cases_eq, cases_Bool, true≢false}
use Rattle.lv_clauses.specs.Literals.{Lit, negated, has}
use Rattle.lv_clauses.proofs.Literals.{same_lit, either, has-head, has-later, has-cases, both_true, beq-true, beq-refl}
use Rattle.lv_trail.specs.declared.store.Entry.{Entry}
use Rattle.lv_trail.specs.declared.store.Store.{Store}
use Rattle.lv_trail.specs.Store.{entries, IsSound, IsFree}
use Rattle.lv_trail.specs.Trail.{no_entry, truths, value_by, value_in, IsLevelOf, IsReasonOf, IsPlaceOf}
use Rattle.std.specs.Prelude.{Bool, Some, None}

pub has-truths : (es : List Entry) (l : Lit) → has (truths es) l ≡ true → (k : ℕ) × (k < length es) × ((get_or es k no_entry).lit ≡ l)
has-truths [] l i = cc
has-truths (e ∷ es) l i =
    elim (has-cases e.lit l (truths es) i) [
      | inl s ↦ (zero, omega arith, s)
      | inr later ↦ let (k, b, s) = has-truths es l later in (suc k, omega arith, s)
    ]

pub truths-has : (es : List Entry) (k : ℕ) → k < length es → has (truths es) (get_or es k no_entry).lit ≡ true
truths-has [] k h = absurd (omega arith)
truths-has (e ∷ es) zero h = has-head e.lit (truths es)
truths-has (e ∷ es) (suc k) h = has-later e.lit (get_or es k no_entry).lit (truths es) (truths-has es k (omega arith))

pub get-take : (n : ℕ) (es : List Entry) (k : ℕ) → k < n → get_or (take n es) k no_entry ≡ get_or es k no_entry
get-take zero es k h = absurd (omega arith)
get-take (suc n) [] k h = refl
get-take (suc n) (e ∷ es) zero h = refl
get-take (suc n) (e ∷ es) (suc k) h = get-take n es k (omega arith)

pub len-le : (t : Store) → IsSound t → t.len ≤ length t.slots.items
len-le t s = omega (arith, s.slots, s.free)

pub entry-at : (t : Store) → IsSound t → (l : Lit) → has (truths (entries t)) l ≡ true → (k : ℕ) × (k < t.len) × ((get_or t.slots.items k no_entry).lit ≡ l)
entry-at t s l i =
    let (k, b, e) = has-truths (entries t) l i in
    let below : k < t.len = omega (arith, b, length-take t.len t.slots.items, len-le t s) in
    (k, below, ap (λ z. z.lit) (sym (get-take t.len t.slots.items k below)) ∙ e)

pub at-entry : (t : Store) → IsSound t → (k : ℕ) → k < t.len → has (truths (entries t)) (get_or t.slots.items k no_entry).lit ≡ true
at-entry t s k below =
    let within : k < length (entries t) = omega (arith, length-take t.len t.slots.items, len-le t s) in
    subst (λ z. has (truths (entries t)) z.lit ≡ true) (get-take t.len t.slots.items k below) (truths-has (entries t) k within)

pub place-of : (t : Store) → IsSound t → (l : Lit) → has (truths (entries t)) l ≡ true → (k : ℕ) × (k < t.len) × ((get_or t.slots.items k no_entry).lit ≡ l) × (get_or t.places.items (l.var - 1) 0 ≡ k + 1)
place-of t s l i =
    let (k, below, e) = entry-at t s l i in
    (k, below, e, ap (λ z. get_or t.places.items (z.var - 1) 0) (sym e) ∙ (s.placed k below).place)

-- no place, no value
pub none-placed : (t : Store) → IsSound t → (l : Lit) → get_or t.places.items (l.var - 1) 0 ≡ 0 → false ≡ has (truths (entries t)) l
none-placed t s l p =
    elim (cases_Bool (has (truths (entries t)) l)) [
      | inr f ↦ sym f
      | inl i ↦ let (k, below, e, q) = place-of t s l i in absurd (omega (arith, p, q))
    ]

-- the sign at a variable's place
pub sign-placed : (t : Store) → IsSound t → (l : Lit) → 1 ≤ l.var → l.var ≤ t.vars → (p : ℕ) → get_or t.places.items (l.var - 1) 0 ≡ p → 1 ≤ p → beq (get_or t.slots.items (p - 1) no_entry).lit.neg l.neg ≡ has (truths (entries t)) l
sign-placed t s l low high p is one =
    let f = s.found (l.var - 1) (omega arith) (omega (arith, is)) in
    let at : p - 1 < t.len = omega (arith, f.0, is) in
    let same_var : (get_or t.slots.items (p - 1) no_entry).lit.var ≡ l.var = ap (λ z. (get_or t.slots.items (z - 1) no_entry).lit.var) (sym is) ∙ (f.1 ∙ omega arith) in
    both_true (beq (get_or t.slots.items (p - 1) no_entry).lit.neg l.neg) (has (truths (entries t)) l)
    (λ b. subst (λ z. has (truths (entries t)) z ≡ true) (same_lit (get_or t.slots.items (p - 1) no_entry).lit l same_var (beq-true _ _ b)) (at-entry t s (p - 1) at))
    (λ i.
    let (k, below, e, q) = place-of t s l i in
    let k_is : p - 1 ≡ k = omega (arith, is, q) in
    subst (λ z. beq z l.neg ≡ true) (sym (ap (λ z. (get_or t.slots.items z no_entry).lit.neg) k_is ∙ ap (λ z. z.neg) e)) (beq-refl l.neg))

pub entries-length : (t : Store) → IsSound t → length (entries t) ≡ t.len
entries-length t s = omega (arith, length-take t.len t.slots.items, len-le t s)

pub level-of : (t : Store) → IsSound t → (v n : ℕ) → ((k : ℕ) → k < t.len → (get_or t.slots.items k no_entry).lit.var ≡ v → (get_or t.slots.items k no_entry).level ≡ n) → IsLevelOf (entries t) v n
level-of t s v n h k b e =
    let below : k < t.len = omega (arith, entries-length t s, b) in
    let is = get-take t.len t.slots.items k below in
    ap (λ z. z.level) is ∙ h k below (sym (ap (λ z. z.lit.var) is) ∙ e)

pub no-reason-of : (t : Store) → IsSound t → (v : ℕ) → ((k : ℕ) → k < t.len → (get_or t.slots.items k no_entry).lit.var ≡ v → (get_or t.slots.items k no_entry).reason ≡ 0) → IsReasonOf (entries t) v None
no-reason-of t s v h k b e =
    let below : k < t.len = omega (arith, entries-length t s, b) in
    let is = get-take t.len t.slots.items k below in
    ap (λ z. z.reason) is ∙ h k below (sym (ap (λ z. z.lit.var) is) ∙ e)

pub reason-of : (t : Store) → IsSound t → (v r k : ℕ) → k < t.len → (get_or t.slots.items k no_entry).lit.var ≡ v → (get_or t.slots.items k no_entry).reason ≡ r → 1 ≤ r → IsReasonOf (entries t) v (Some r)
reason-of t s v r k b e f one =
    let is = get-take t.len t.slots.items k b in
    (k, omega (arith, entries-length t s), ap (λ z. z.lit.var) is ∙ e, ap (λ z. z.reason) is ∙ f, one)

pub no-place-of : (t : Store) → IsSound t → (v : ℕ) → ((k : ℕ) → k < t.len → (get_or t.slots.items k no_entry).lit.var ≡ v → ⊥) → IsPlaceOf (entries t) v None
no-place-of t s v h k b e =
    let below : k < t.len = omega (arith, entries-length t s, b) in
    h k below (sym (ap (λ z. z.lit.var) (get-take t.len t.slots.items k below)) ∙ e)

pub found-at : (t : Store) → IsSound t → (v k : ℕ) → k < t.len → (get_or t.slots.items k no_entry).lit.var ≡ v → IsPlaceOf (entries t) v (Some k)
found-at t s v k b e = (omega (arith, entries-length t s), ap (λ z. z.lit.var) (get-take t.len t.slots.items k b) ∙ e)

-- the place of a variable
pub var-placed : (t : Store) → IsSound t → (v p k : ℕ) → get_or t.places.items (v - 1) 0 ≡ p → k < t.len → (get_or t.slots.items k no_entry).lit.var ≡ v → p ≡ k + 1
var-placed t s v p k is b e = sym is ∙ (ap (λ z. get_or t.places.items (z - 1) 0) (sym e) ∙ (s.placed k b).place)

value-cases : (p n b : Bool) → p ≡ not b → n ≡ b → value_by p n ≡ Some (not b)
value-cases p n true e f = rw (e, f) refl
value-cases p n false e f = rw e refl

beq-false : (b : Bool) → beq b false ≡ not b
beq-false true = refl
beq-false false = refl

beq-true-of : (b : Bool) → beq b true ≡ b
beq-true-of true = refl
beq-true-of false = refl

pub no-value : (t : Store) → IsSound t → (v : ℕ) → get_or t.places.items (v - 1) 0 ≡ 0 → None ≡ value_in (truths (entries t)) v
no-value t s v z =
    let a = none-placed t s (record { var = v; neg = false }) z in
    let b = none-placed t s (record { var = v; neg = true }) z in
    rw (← a, ← b) refl

pub some-value : (t : Store) → IsSound t → (v p : ℕ) → 1 ≤ v → v ≤ t.vars → get_or t.places.items (v - 1) 0 ≡ p → 1 ≤ p → Some (not (get_or t.slots.items (p - 1) no_entry).lit.neg) ≡ value_in (truths (entries t)) v
some-value t s v p low high is one =
    let n : Bool = (get_or t.slots.items (p - 1) no_entry).lit.neg in
    let a = sign-placed t s (record { var = v; neg = false }) low high p is one in
    let b = sign-placed t s (record { var = v; neg = true }) low high p is one in
    sym (value-cases (has (truths (entries t)) (record { var = v; neg = false })) (has (truths (entries t)) (record { var = v; neg = true })) n (sym a ∙ beq-false n) (sym b ∙ beq-true-of n))

-- a variable without a value has no place
pub free-place : (t : Store) → IsSound t → (l : Lit) → IsFree t l → get_or t.places.items (l.var - 1) 0 ≡ 0
free-place t s l f =
    elim (cases_eq (get_or t.places.items (l.var - 1) 0) 0) [
      | inl e ↦ e
      | inr ne ↦
          let p : ℕ = get_or t.places.items (l.var - 1) 0 in
          let one : 1 ≤ p = omega (arith, ne) in
          let a = sign-placed t s l f.low f.high p refl one in
          let b = sign-placed t s (negated l) f.low f.high p refl one in
          absurd (elim (either (get_or t.slots.items (p - 1) no_entry).lit.neg l.neg) [
            | inl g ↦ true≢false (sym (subst (λ z. beq z l.neg ≡ true) (sym g) (beq-refl l.neg)) ∙ (a ∙ f.unset))
            | inr g ↦ true≢false (sym (subst (λ z. beq z (not l.neg) ≡ true) (sym g) (beq-refl (not l.neg))) ∙ (b ∙ f.unset_negated))
          ])
    ]

-- a read within a list, whatever the default
pub get-any : {X : Type 0} (xs : List X) (k : ℕ) (d e : X) → k < length xs → get_or xs k d ≡ get_or xs k e
get-any [] k d e h = absurd (omega arith)
get-any (x ∷ xs) zero d e h = refl
get-any (x ∷ xs) (suc k) d e h = get-any xs k d e (omega arith)
