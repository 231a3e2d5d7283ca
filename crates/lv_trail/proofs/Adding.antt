-- One more clause, and no literal yet.
use Rattle.std.proofs.Common.{◌≡◌, ℕ, suc, zero, ◌+◌, ◌-◌, ◌*◌, ◌≤◌, List, [], ◌∷◌, ◌++◌, length, take, replicate, get_or, refl, sym, ◌∙◌, ap, subst, arith, inl, inr}
use Rattle.std.specs.Prelude.{Some, slice_get}
use Rattle.std.specs.List.{sum_by}
use Rattle.std.proofs.lemmas.List.{get_or-replicate, length-replicate}
use Rattle.std.proofs.lemmas.List.Folds.{sum_by-replicate}
use Rattle.lv_clauses.specs.Literals.{Lit, IsClause, IsWithin}
use Rattle.lv_clauses.specs.Sets.{AreClauses, numbered}
use Rattle.lv_clauses.proofs.Sets.{get-older, get-push}
use Rattle.lv_trail.specs.declared.store.Entry.{Entry}
use Rattle.lv_trail.specs.declared.store.Store.{Store}
use Rattle.lv_trail.specs.Store.{free_of, IsSound}
use Rattle.lv_trail.specs.Trail.{no_entry, truths, IsReason}

numbered-older : (xs ys : List (List Lit)) (c : List Lit) (r : ℕ) → numbered xs r ≡ Some c → numbered (xs ++ ys) r ≡ Some c
numbered-older xs ys c zero e = cc
numbered-older xs ys c (suc r) e = get-older xs ys c r e

pub are-clauses-push : (vars : ℕ) (cs : List (List Lit)) (d : List Lit) → AreClauses vars cs → IsClause d → IsWithin d vars → AreClauses vars (cs ++ d ∷ [])
are-clauses-push vars cs d are cl within = λ k c e.
    elim (get-push cs d c k e) [
      | inl a ↦ are k c a
      | inr b ↦ subst (λ z. IsClause z × IsWithin z vars) b.0 (cl, within)
    ]

changed : (t : Store) → IsSound t → (u : Store) → AreClauses t.vars u.clauses → ((c : List Lit) (r : ℕ) → numbered t.clauses r ≡ Some c → numbered u.clauses r ≡ Some c) → u.vars ≡ t.vars → u.slots.items ≡ t.slots.items → u.len ≡ t.len → u.places.items ≡ t.places.items → u.level ≡ t.level → IsSound u
changed t s u are older ev es el ep eL =
    record {
      slots = ap length es ∙ (s.slots ∙ sym ev);
      places = ap length ep ∙ (s.places ∙ sym ev);
      free = omega (arith, ap (sum_by free_of) ep, el, ev, s.free);
      clauses = subst (λ z. AreClauses z u.clauses) (sym ev) are;
      placed = λ k h. let p = s.placed k (omega (arith, el)) in
          let at = ap (λ z. (get_or z k no_entry).lit.var) es in
          record {
            low = omega (arith, at, p.low);
            high = omega (arith, at, p.high, ev);
            place = ap (λ z. get_or z ((get_or u.slots.items k no_entry).lit.var - 1) 0) ep ∙ (ap (λ z. get_or t.places.items (z - 1) 0) at ∙ p.place);
          };
      found = λ v h one.
          let at : get_or u.places.items v 0 ≡ get_or t.places.items v 0 = ap (λ z. get_or z v 0) ep in
          let w = s.found v (omega (arith, ev)) (omega (arith, at)) in
          (omega (arith, at, w.0, el), ap (λ z. (get_or z (get_or u.places.items v 0 - 1) no_entry).lit.var) es ∙ (ap (λ z. (get_or t.slots.items (z - 1) no_entry).lit.var) at ∙ w.1));
      reasons = λ k h one.
          let P : List Entry → Type 0 = λ z. 1 ≤ (get_or z k no_entry).reason → IsReason u.clauses (truths (take k z)) (get_or z k no_entry).lit (get_or z k no_entry).reason in
          let q : P t.slots.items = λ one'.
          let (c, e, un) = s.reasons k (omega (arith, el)) one' in
          (c, older c (get_or t.slots.items k no_entry).reason e, un) in
          let r : P u.slots.items = subst P (sym es) q in
          r one;
      decided = λ k h z.
          let P : List Entry → Type 0 = λ z. (get_or z k no_entry).reason ≡ 0 → 1 ≤ (get_or z k no_entry).level in
          let r : P u.slots.items = subst P (sym es) (s.decided k (omega (arith, el))) in
          r z;
      rising = λ j k h b. let P : List Entry → Type 0 = λ z. (get_or z j no_entry).level ≤ (get_or z k no_entry).level in subst P (sym es) (s.rising j k h (omega (arith, el)));
      below = λ k b. omega (arith, ap (λ z. (get_or z k no_entry).level) es, s.below k (omega (arith, el)), eL);
      ranks = λ k b. omega (arith, ap (λ z. (get_or z k no_entry).level) es, s.ranks k (omega (arith, el)));
      room = omega (arith, eL, el, s.room);
      gaps = λ k h. let P : List Entry → Type 0 = λ z. (get_or z (k + 1) no_entry).level ≤ (get_or z k no_entry).level + 1 in subst P (sym es) (s.gaps k (omega (arith, el)));
      top = λ k h. omega (arith, ap (λ z. (get_or z k no_entry).level) es, s.top k (omega (arith, el)), eL);
    }

pub added : (t : Store) (d : List Lit) → IsSound t → IsClause d → IsWithin d t.vars → (u : Store) → u.vars ≡ t.vars → u.slots.items ≡ t.slots.items → u.len ≡ t.len → u.places.items ≡ t.places.items → u.level ≡ t.level → u.clauses ≡ t.clauses ++ d ∷ [] → IsSound u
added t d s cl within u ev es el ep eL ec =
    changed t s u (subst (λ z. AreClauses t.vars z) (sym ec) (are-clauses-push t.vars t.clauses d s.clauses cl within))
    (λ c r e. ap (λ z. numbered z r) ec ∙ numbered-older t.clauses (d ∷ []) c r e) ev es el ep eL

pub kept : (t : Store) → IsSound t → (u : Store) → u.vars ≡ t.vars → u.slots.items ≡ t.slots.items → u.len ≡ t.len → u.places.items ≡ t.places.items → u.level ≡ t.level → u.clauses ≡ t.clauses → IsSound u
kept t s u ev es el ep eL ec =
    changed t s u (subst (λ z. AreClauses t.vars z) (sym ec) s.clauses) (λ c r e. ap (λ z. numbered z r) ec ∙ e) ev es el ep eL

one : (n : ℕ) → n * free_of 0 ≡ n
one n = omega arith

pub fresh : (u : Store) → u.len ≡ 0 → u.level ≡ 0 → u.slots.items ≡ replicate u.vars no_entry → u.places.items ≡ replicate u.vars 0 → AreClauses u.vars u.clauses → IsSound u
fresh u l L es ep are = record {
  slots = ap length es ∙ length-replicate u.vars no_entry;
  places = ap length ep ∙ length-replicate u.vars 0;
  free = omega (arith, ap (sum_by free_of) ep, sum_by-replicate free_of u.vars 0, l, one u.vars);
  clauses = are;
  placed = λ k h. absurd (omega arith);
  found = λ v h one. let z : get_or (replicate u.vars 0) v 0 ≡ 0 = get_or-replicate {A = ℕ} u.vars v 0 0 h in absurd (omega (arith, ap (λ z. get_or z v 0) ep, z));
  reasons = λ k h one. absurd (omega arith);
  decided = λ k h z. absurd (omega arith);
  rising = λ j k h b. absurd (omega arith);
  below = λ k h. absurd (omega arith);
  ranks = λ k h. absurd (omega arith);
  room = omega arith;
  gaps = λ k h. absurd (omega arith);
  top = λ k h. absurd (omega arith);
}

pub number : (cs : List (List Lit)) (k : ℕ) → slice_get cs k ≡ numbered cs (k + 1)
number cs k = let e : k + 1 ≡ suc k = omega arith in rw e refl
