-- One more literal.
use Rattle.std.proofs.Common.{◌≡◌, ◌≢◌, ℕ, suc, zero, ◌+◌, ◌-◌, ◌<◌, ◌≤◌, [], ◌∷◌, ◌++◌, length, take, set, get_or, refl, sym, ◌∙◌, ap, subst, arith, ◌⊎◌, inl, inr, get_or-set_other, get_or-set_same, length-set}
use Rattle.std.specs.List.{sum_by}
use Rattle.std.proofs.lemmas.Bool.{cases_eq, ne_eqb}
use Rattle.std.proofs.lemmas.List.{take-set-le, take_more_set}
use Rattle.std.proofs.lemmas.List.Sums.{sum_by-set, get_or-le-sum_by}
use Rattle.lv_clauses.specs.Sets.{AreClauses}
use Rattle.lv_trail.specs.declared.store.Entry.{Entry}
use Rattle.lv_trail.specs.declared.store.Store.{Store}
use Rattle.lv_trail.specs.Store.{entries, free_of, IsSound, IsPlaced, IsFree, IsStep, step_by}
use Rattle.lv_trail.specs.Trail.{no_entry, truths, IsReason}
use Rattle.lv_trail.proofs.Placing.{free-place}
use Rattle.lv_clauses.specs.Literals.{Lit}

pub len-below : (t : Store) → IsSound t → (l : Lit) → IsFree t l → t.len < t.vars
len-below t s l f =
    let z = free-place t s l f in
    let low : 1 ≤ l.var = f.low in
    let high : l.var ≤ t.vars = f.high in
    let g = get_or-le-sum_by free_of t.places.items (l.var - 1) 0 (omega (arith, s.places)) in
    let h : 1 ≤ sum_by free_of t.places.items = subst (λ z. free_of z ≤ sum_by free_of t.places.items) z g in
    omega (arith, h, s.free)

step-level-by : (t : Store) (e : Entry) (r : ℕ) → step_by t e r → (t.level ≤ e.level) × (e.level ≤ t.level + 1)
step-level-by t e zero h = (omega arith, omega arith)
step-level-by t e (suc r) h = (omega (arith, h.0), omega (arith, h.0))

step-decided-by : (t : Store) (e : Entry) (r : ℕ) → step_by t e r → r ≡ 0 → 1 ≤ e.level
step-decided-by t e zero h z = omega arith
step-decided-by t e (suc r) h z = absurd (omega arith)

step-reason-by : (t : Store) (e : Entry) (r : ℕ) → step_by t e r → 1 ≤ r → IsReason t.clauses (truths (entries t)) e.lit r
step-reason-by t e zero h z = absurd (omega arith)
step-reason-by t e (suc r) h z = h.1

-- the literal of a unit clause has no value
pub free-unit : (t : Store) → IsSound t → (l : Lit) (r : ℕ) → IsReason t.clauses (truths (entries t)) l r → IsFree t l
free-unit t s l zero h = let (c, e, u) = h in absurd cc
free-unit t s l (suc k) h =
    let (c, e, u) = h in
    let w = (s.clauses k c e).1 l u.inside in
    record { low = w.0; high = w.1; unset = u.unset; unset_negated = u.free }

free-suc : (n : ℕ) → free_of (n + 1) ≡ 0
free-suc n = rw (ne_eqb (n + 1) 0 (λ e. omega arith)) refl

-- the trail u is t with one more entry
pub record IsPushed (t u : Store) (e : Entry) : Type 0 where
  pub vars : u.vars ≡ t.vars
  pub clauses : u.clauses ≡ t.clauses
  pub slots : u.slots.items ≡ set t.slots.items t.len e
  pub len : u.len ≡ t.len + 1
  pub places : u.places.items ≡ set t.places.items (e.lit.var - 1) (t.len + 1)
  pub level : u.level ≡ e.level

module _ (t u : Store) (e : Entry) (s : IsSound t) (f : IsFree t e.lit) (st : IsStep t e) (p : IsPushed t u e) where
  at_len : t.len < length t.slots.items
  at_len = omega (arith, len-below t s e.lit f, s.slots)

  at_var : e.lit.var - 1 < length t.places.items
  at_var = omega (arith, f.low, f.high, s.places)

  old : (k : ℕ) → k < t.len → get_or u.slots.items k no_entry ≡ get_or t.slots.items k no_entry
  old k h = let ne : k ≢ t.len = λ x. omega arith in ap (λ z. get_or z k no_entry) p.slots ∙ get_or-set_other t.slots.items t.len k e no_entry ne

  new : get_or u.slots.items t.len no_entry ≡ e
  new = ap (λ z. get_or z t.len no_entry) p.slots ∙ get_or-set_same t.slots.items t.len e no_entry at_len

  place_new : get_or u.places.items (e.lit.var - 1) 0 ≡ t.len + 1
  place_new = ap (λ z. get_or z (e.lit.var - 1) 0) p.places ∙ get_or-set_same t.places.items (e.lit.var - 1) (t.len + 1) 0 at_var

  place_old : (v : ℕ) → v ≢ e.lit.var - 1 → get_or u.places.items v 0 ≡ get_or t.places.items v 0
  place_old v ne = ap (λ z. get_or z v 0) p.places ∙ get_or-set_other t.places.items (e.lit.var - 1) v (t.len + 1) 0 ne

  take_old : (k : ℕ) → k ≤ t.len → take k u.slots.items ≡ take k t.slots.items
  take_old k h = ap (take k) p.slots ∙ take-set-le k t.slots.items t.len e h

  split : (k : ℕ) → k < u.len → (k < t.len) ⊎ (k ≡ t.len)
  split k h = elim (cases_eq k t.len) [ inl a ↦ inr a | inr n ↦ inl (omega (arith, p.len)) ]

  -- a fact of each entry
  each : (P : ℕ → Entry → Type 0) → ((k : ℕ) → k < t.len → P k (get_or t.slots.items k no_entry)) → P t.len e → (k : ℕ) → k < u.len → P k (get_or u.slots.items k no_entry)
  each P a b k h =
      elim (split k h) [
        | inl below ↦ subst (λ z. P k z) (sym (old k below)) (a k below)
        | inr is ↦ subst (λ z. P z (get_or u.slots.items z no_entry)) (sym is) (subst (λ z. P t.len z) (sym new) b)
      ]

  placed_old : (k : ℕ) → k < t.len → get_or u.places.items ((get_or t.slots.items k no_entry).lit.var - 1) 0 ≡ k + 1
  placed_old k h =
      let q = (s.placed k h).place in
      let ne : (get_or t.slots.items k no_entry).lit.var - 1 ≢ e.lit.var - 1 = λ x. let z = free-place t s e.lit f in let y = ap (λ w. get_or t.places.items w 0) x in omega (arith, z, y, q) in
      place_old _ ne ∙ q

  PlacedAs : ℕ → Entry → Type 0
  PlacedAs k x = (1 ≤ x.lit.var) × (x.lit.var ≤ u.vars) × (get_or u.places.items (x.lit.var - 1) 0 ≡ k + 1)

  placed : (k : ℕ) → k < u.len → IsPlaced u k
  unfolding PlacedAs
  placed k h =
      let w = each PlacedAs (λ k b. let q = s.placed k b in (q.low, omega (arith, q.high, p.vars), placed_old k b)) (f.low, omega (arith, f.high, p.vars), place_new) k h in
      record { low = w.0; high = w.1; place = w.2 }

  found : (v : ℕ) → v < u.vars → 1 ≤ get_or u.places.items v 0 → (get_or u.places.items v 0 ≤ u.len) × ((get_or u.slots.items (get_or u.places.items v 0 - 1) no_entry).lit.var ≡ v + 1)
  found v h one =
      elim (cases_eq v (e.lit.var - 1)) [
        | inl is ↦
            let here : get_or u.places.items v 0 ≡ t.len + 1 = ap (λ z. get_or u.places.items z 0) is ∙ place_new in
            let at : get_or u.places.items v 0 - 1 ≡ t.len = omega (arith, here) in
            (omega (arith, here, p.len), ap (λ z. (get_or u.slots.items z no_entry).lit.var) at ∙ (ap (λ z. z.lit.var) new ∙ omega (arith, is, f.low)))
        | inr ne ↦
            let same = place_old v ne in
            let w = s.found v (omega (arith, p.vars)) (omega (arith, same, one)) in
            let at : get_or u.places.items v 0 - 1 ≡ get_or t.places.items v 0 - 1 = omega (arith, same) in
            let below : get_or t.places.items v 0 - 1 < t.len = omega (arith, w.0, same, one) in
            (omega (arith, same, w.0, p.len), ap (λ z. (get_or u.slots.items z no_entry).lit.var) at ∙ (ap (λ z. z.lit.var) (old _ below) ∙ w.1))
      ]

  reason_at : (k : ℕ) → k < t.len → 1 ≤ (get_or t.slots.items k no_entry).reason → IsReason u.clauses (truths (take k u.slots.items)) (get_or t.slots.items k no_entry).lit (get_or t.slots.items k no_entry).reason
  reason_at k h one =
      subst (λ z. IsReason z (truths (take k u.slots.items)) (get_or t.slots.items k no_entry).lit (get_or t.slots.items k no_entry).reason) (sym p.clauses)
      (subst (λ z. IsReason t.clauses (truths z) (get_or t.slots.items k no_entry).lit (get_or t.slots.items k no_entry).reason) (sym (take_old k (omega arith))) (s.reasons k h one))

  reason_new : 1 ≤ e.reason → IsReason u.clauses (truths (take t.len u.slots.items)) e.lit e.reason
  reason_new one =
      subst (λ z. IsReason z (truths (take t.len u.slots.items)) e.lit e.reason) (sym p.clauses)
      (subst (λ z. IsReason t.clauses (truths z) e.lit e.reason) (sym (take_old t.len (omega arith))) (step-reason-by t e e.reason st one))

  levels : (t.level ≤ e.level) × (e.level ≤ t.level + 1)
  levels = step-level-by t e e.reason st

  rising : (j k : ℕ) → j ≤ k → k < u.len → (get_or u.slots.items j no_entry).level ≤ (get_or u.slots.items k no_entry).level
  rising j k h b =
      elim (split k b) [
        | inl below ↦ omega (arith, s.rising j k h below, ap (λ z. z.level) (old k below), ap (λ z. z.level) (old j (omega arith)))
        | inr is ↦ elim (split j (omega arith)) [
          | inl below ↦ omega (arith, s.below j below, levels, ap (λ z. z.level) (old j below), ap (λ z. z.level) new, ap (λ z. (get_or u.slots.items z no_entry).level) is)
          | inr is' ↦ omega (arith, ap (λ z. (get_or u.slots.items z no_entry).level) is, ap (λ z. (get_or u.slots.items z no_entry).level) is')
        ]
      ]

  sum : sum_by free_of u.places.items + u.len ≡ u.vars
  sum =
      let a = sum_by-set free_of t.places.items (e.lit.var - 1) (t.len + 1) 0 at_var in
      let z : free_of (get_or t.places.items (e.lit.var - 1) 0) ≡ 1 = ap free_of (free-place t s e.lit f) in
      let n : free_of (t.len + 1) ≡ 0 = free-suc t.len in
      omega (arith, a, z, n, s.free, p.len, p.vars, ap (sum_by free_of) p.places)

  gap : (k : ℕ) → k + 1 < u.len → (get_or u.slots.items (k + 1) no_entry).level ≤ (get_or u.slots.items k no_entry).level + 1
  gap k h =
      elim (split (k + 1) h) [
        | inl below ↦ omega (arith, s.gaps k below, ap (λ z. z.level) (old k (omega arith)), ap (λ z. z.level) (old (k + 1) below))
        | inr is ↦ omega (arith, s.top k is, levels, ap (λ z. z.level) (old k (omega (arith, is))), ap (λ z. z.level) new, ap (λ z. (get_or u.slots.items z no_entry).level) is)
      ]

  pub sound : IsSound u
  sound = record {
    slots = omega (arith, ap length p.slots, length-set t.slots.items t.len e, s.slots, p.vars);
    places = omega (arith, ap length p.places, length-set t.places.items (e.lit.var - 1) (t.len + 1), s.places, p.vars);
    free = sum;
    clauses = subst (λ z. AreClauses z u.clauses) (sym p.vars) (subst (λ z. AreClauses t.vars z) (sym p.clauses) s.clauses);
    placed = placed;
    found = found;
    reasons = each (λ k x. 1 ≤ x.reason → IsReason u.clauses (truths (take k u.slots.items)) x.lit x.reason) reason_at reason_new;
    decided = each (λ k x. x.reason ≡ 0 → 1 ≤ x.level) s.decided (step-decided-by t e e.reason st);
    rising = rising;
    below = λ k b. omega (arith, each (λ k x. x.level ≤ e.level) (λ k b. omega (arith, s.below k b, levels)) (omega arith) k b, p.level);
    ranks = each (λ k x. x.level ≤ k + 1) s.ranks (omega (arith, levels, s.room));
    room = omega (arith, p.level, p.len, levels, s.room);
    gaps = gap;
    top = λ k h. let is : k ≡ t.len = omega (arith, p.len) in ap (λ z. (get_or u.slots.items z no_entry).level) is ∙ (ap (λ z. z.level) new ∙ sym p.level);
  }

pub entries-pushed : (t : Store) (e : Entry) → IsSound t → IsFree t e.lit → take (t.len + 1) (set t.slots.items t.len e) ≡ entries t ++ e ∷ []
entries-pushed t e s f = take_more_set t.slots.items t.len e (omega (arith, len-below t s e.lit f, s.slots))
