-- What holds of a sound store holds of the trail that is seen of it.
use Rattle.std.proofs.Common.{◌≡◌, ℕ, ◌-◌, ◌<◌, ◌≤◌, List, length, take, get_or, sym, ◌∙◌, ap, subst, arith}
use Rattle.std.proofs.lemmas.List.{take-take}
use Rattle.lv_trail.specs.declared.store.Entry.{Entry}
use Rattle.lv_trail.specs.declared.store.Store.{Store}
use Rattle.lv_trail.specs.Trail.{TrailValue, no_entry, entry, truths, IsReason, IsTrail}
use Rattle.lv_trail.specs.Store.{entries, IsSound}
use Rattle.lv_trail.proofs.Placing.{get-take, entries-length}
use Rattle.lv_clauses.specs.Literals.{Lit}

abbrev pub view_of : Store → TrailValue
view_of t = record { vars = t.vars; clauses = t.clauses; entries = entries t; level = t.level }

pub same_value : (a b : TrailValue) → a.vars ≡ b.vars → a.clauses ≡ b.clauses → a.entries ≡ b.entries → a.level ≡ b.level → a ≡ b
same_value a b v c e l =
    ap (λ (x : ℕ). let t : TrailValue = record { vars = x; clauses = a.clauses; entries = a.entries; level = a.level } in t) v ∙
    (ap (λ (x : List (List Lit)). let t : TrailValue = record { vars = b.vars; clauses = x; entries = a.entries; level = a.level } in t) c ∙
    (ap (λ (x : List Entry). let t : TrailValue = record { vars = b.vars; clauses = b.clauses; entries = x; level = a.level } in t) e ∙
    ap (λ (x : ℕ). let t : TrailValue = record { vars = b.vars; clauses = b.clauses; entries = b.entries; level = x } in t) l))

module _ (t : Store) (s : IsSound t) where
  below : (k : ℕ) → k < length (entries t) → k < t.len
  below k h = omega (arith, entries-length t s)

  at : (k : ℕ) → k < length (entries t) → entry (view_of t) k ≡ get_or t.slots.items k no_entry
  at k h = get-take t.len t.slots.items k (below k h)

  reason_at : (k : ℕ) → k < length (entries t) → 1 ≤ (entry (view_of t) k).reason → IsReason t.clauses (truths (take k (entries t))) (entry (view_of t) k).lit (entry (view_of t) k).reason
  reason_at k h one =
      let e = at k h in
      let shorter : take k (entries t) ≡ take k t.slots.items = take-take k t.len t.slots.items (omega (arith, below k h)) in
      subst (λ z. IsReason t.clauses (truths z) (entry (view_of t) k).lit (entry (view_of t) k).reason) (sym shorter)
      (subst (λ z. IsReason t.clauses (truths (take k t.slots.items)) z.lit z.reason) (sym e) (s.reasons k (below k h) (omega (arith, one, ap (λ z. z.reason) e))))

  pub valid : IsTrail (view_of t)
  valid = record {
    clauses = s.clauses;
    within = λ k h. let p = s.placed k (below k h) in (omega (arith, p.low, ap (λ z. z.lit.var) (at k h)), omega (arith, p.high, ap (λ z. z.lit.var) (at k h)));
    once = λ j k a b e.
        let same : (get_or t.slots.items j no_entry).lit.var ≡ (get_or t.slots.items k no_entry).lit.var = ap (λ z. z.lit.var) (sym (at j a)) ∙ (e ∙ ap (λ z. z.lit.var) (at k b)) in
        omega (arith, (s.placed j (below j a)).place, (s.placed k (below k b)).place, ap (λ z. get_or t.places.items (z - 1) 0) same);
    reasons = reason_at;
    decided = λ k h z. omega (arith, ap (λ z. z.level) (at k h), s.decided k (below k h) (omega (arith, z, ap (λ z. z.reason) (at k h))));
    rising = λ j k a h. omega (arith, ap (λ z. z.level) (at j (omega arith)), ap (λ z. z.level) (at k h), s.rising j k a (below k h));
    below = λ k h. omega (arith, ap (λ z. z.level) (at k h), s.below k (below k h));
    top = λ k e. omega (arith, ap (λ z. z.level) (at k (omega arith)), s.top k (omega (arith, entries-length t s)));
    none = λ e. omega (arith, s.room, entries-length t s, ap length e);
    fits = omega (arith, entries-length t s, s.free);
  }
