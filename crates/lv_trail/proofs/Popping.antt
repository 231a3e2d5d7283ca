-- One literal less.
use Rattle.std.proofs.Common.{◌≡◌, ◌≢◌, ℕ, ◌+◌, ◌-◌, ◌<◌, ◌≤◌, List, length, take, set, get_or, refl, sym, ◌∙◌, ap, subst, arith, inl, inr, get_or-set_other, get_or-set_same, length-set}
use Rattle.std.specs.List.{sum_by}
use Rattle.std.proofs.lemmas.Bool.{cases_eq, ne_eqb}
use Rattle.std.proofs.lemmas.List.Sums.{sum_by-set}
use Rattle.lv_clauses.specs.Sets.{AreClauses}
use Rattle.lv_trail.specs.declared.store.Entry.{Entry}
use Rattle.lv_trail.specs.declared.store.Store.{Store}
use Rattle.lv_trail.specs.Store.{free_of, IsSound, IsPlaced, IsPopped}
use Rattle.lv_trail.specs.Trail.{no_entry, truths, IsReason}

module _ (t u : Store) (s : IsSound t) (last : ℕ) (el : last + 1 ≡ t.len) (ev : u.vars ≡ t.vars) (ec : u.clauses ≡ t.clauses) (es : u.slots.items ≡ t.slots.items) (eu : u.len ≡ last) (ep : u.places.items ≡ set t.places.items ((get_or t.slots.items last no_entry).lit.var - 1) 0) (eL : (last ≡ 0 → u.level ≡ 0) × (1 ≤ last → u.level ≡ (get_or t.slots.items (last - 1) no_entry).level)) where
  here : IsPlaced t last
  here = s.placed last (omega arith)

  at_var : (get_or t.slots.items last no_entry).lit.var - 1 < length t.places.items
  at_var = omega (arith, here.low, here.high, s.places)

  other : (v : ℕ) → v ≢ (get_or t.slots.items last no_entry).lit.var - 1 → get_or u.places.items v 0 ≡ get_or t.places.items v 0
  other v ne = ap (λ z. get_or z v 0) ep ∙ get_or-set_other t.places.items ((get_or t.slots.items last no_entry).lit.var - 1) v 0 0 ne

  gone : get_or u.places.items ((get_or t.slots.items last no_entry).lit.var - 1) 0 ≡ 0
  gone = ap (λ z. get_or z ((get_or t.slots.items last no_entry).lit.var - 1) 0) ep ∙ get_or-set_same t.places.items ((get_or t.slots.items last no_entry).lit.var - 1) 0 0 at_var

  slot : (k : ℕ) → get_or u.slots.items k no_entry ≡ get_or t.slots.items k no_entry
  slot k = ap (λ z. get_or z k no_entry) es

  placed : (k : ℕ) → k < u.len → IsPlaced u k
  placed k h =
      let p = s.placed k (omega (arith, eu)) in
      let at = ap (λ z. z.lit.var) (slot k) in
      let ne : (get_or t.slots.items k no_entry).lit.var - 1 ≢ (get_or t.slots.items last no_entry).lit.var - 1 = λ e. omega (arith, ap (λ z. get_or t.places.items z 0) e, p.place, here.place, eu) in
      record { low = omega (arith, at, p.low); high = omega (arith, at, p.high, ev); place = ap (λ z. get_or u.places.items (z - 1) 0) at ∙ (other _ ne ∙ p.place) }

  found : (v : ℕ) → v < u.vars → 1 ≤ get_or u.places.items v 0 → (get_or u.places.items v 0 ≤ u.len) × ((get_or u.slots.items (get_or u.places.items v 0 - 1) no_entry).lit.var ≡ v + 1)
  found v h one =
      elim (cases_eq v ((get_or t.slots.items last no_entry).lit.var - 1)) [
        | inl e ↦ absurd (omega (arith, ap (λ z. get_or u.places.items z 0) e, gone))
        | inr ne ↦
            let same = other v ne in
            let w = s.found v (omega (arith, ev)) (omega (arith, same)) in
            let less : (get_or t.places.items v 0 ≡ t.len) → ⊥ = λ e. ne (
            let i : get_or t.places.items v 0 - 1 ≡ last = omega arith in
            omega (arith, ap (λ z. (get_or t.slots.items z no_entry).lit.var) i, w.1)) in
            (omega (arith, w.0, same, less, eu), ap (λ z. z.lit.var) (slot _) ∙ (ap (λ z. (get_or t.slots.items (z - 1) no_entry).lit.var) same ∙ w.1))
      ]

  zero_free : (n : ℕ) → free_of (n + 1) ≡ 0
  zero_free n = rw (ne_eqb (n + 1) 0 (λ e. omega arith)) refl

  sum : sum_by free_of u.places.items + u.len ≡ u.vars
  sum =
      let a = sum_by-set free_of t.places.items ((get_or t.slots.items last no_entry).lit.var - 1) 0 0 at_var in
      let z : free_of (get_or t.places.items ((get_or t.slots.items last no_entry).lit.var - 1) 0) ≡ 0 = ap free_of here.place ∙ zero_free last in
      let b = ap (sum_by free_of) ep in
      omega (arith, a, z, b, s.free, eu, ev)

  level_is : (k : ℕ) → k < u.len → (get_or u.slots.items k no_entry).level ≤ u.level
  level_is k h = omega (arith, ap (λ z. z.level) (slot k), s.rising k (last - 1) (omega (arith, eu)) (omega arith), eL.1 (omega (arith, eu)))

  level_room : u.level ≤ u.len
  level_room = elim (cases_eq last 0) [ inl e ↦ omega (arith, eL.0 e) | inr ne ↦ omega (arith, eL.1 (omega (arith, ne)), s.ranks (last - 1) (omega arith), eu) ]

  gap : (k : ℕ) → k + 1 < u.len → (get_or u.slots.items (k + 1) no_entry).level ≤ (get_or u.slots.items k no_entry).level + 1
  gap k h = omega (arith, ap (λ z. z.level) (slot k), ap (λ z. z.level) (slot (k + 1)), s.gaps k (omega (arith, eu)))

  fall : t.level ≤ u.level + 1
  fall =
      elim (cases_eq last 0) [
        | inl e ↦ omega (arith, s.room)
        | inr ne ↦
            let is : last - 1 + 1 ≡ last = omega (arith, ne) in
            omega (arith, s.top last el, s.gaps (last - 1) (omega arith), ap (λ z. (get_or t.slots.items z no_entry).level) is, eL.1 (omega (arith, ne)))
      ]

  pub popped : IsPopped t u
  popped = record {
    vars = ev;
    clauses = ec;
    slots = es;
    len = omega (arith, eu);
    fall = fall;
    sound = record {
      slots = omega (arith, ap length es, s.slots, ev);
      places = omega (arith, ap length ep, length-set t.places.items ((get_or t.slots.items last no_entry).lit.var - 1) 0, s.places, ev);
      free = sum;
      clauses = subst (λ z. AreClauses z u.clauses) (sym ev) (subst (λ z. AreClauses t.vars z) (sym ec) s.clauses);
      placed = placed;
      found = found;
      reasons = λ k h.
          let P : List Entry → Type 0 = λ z. 1 ≤ (get_or z k no_entry).reason → IsReason u.clauses (truths (take k z)) (get_or z k no_entry).lit (get_or z k no_entry).reason in
          let q : P t.slots.items = λ one. subst (λ z. IsReason z (truths (take k t.slots.items)) (get_or t.slots.items k no_entry).lit (get_or t.slots.items k no_entry).reason) (sym ec) (s.reasons k (omega (arith, eu)) one) in
          subst P (sym es) q;
      decided = λ k h.
          let P : List Entry → Type 0 = λ z. (get_or z k no_entry).reason ≡ 0 → 1 ≤ (get_or z k no_entry).level in
          subst P (sym es) (s.decided k (omega (arith, eu)));
      rising = λ j k h b. omega (arith, ap (λ z. z.level) (slot j), ap (λ z. z.level) (slot k), s.rising j k h (omega (arith, eu)));
      below = level_is;
      ranks = λ k h. omega (arith, ap (λ z. z.level) (slot k), s.ranks k (omega (arith, eu)));
      room = level_room;
      gaps = gap;
      top = λ k h. let is : k ≡ last - 1 = omega (arith, eu) in omega (arith, ap (λ z. (get_or u.slots.items z no_entry).level) is, ap (λ z. z.level) (slot (last - 1)), eL.1 (omega (arith, eu)));
    };
  }
