-- What watched literals say, while literals become true and slots move.
use Rattle.std.proofs.Common.{◌≡◌, ℕ, ◌+◌, ◌*◌, ◌<◌, ◌≤◌, Bool, true, false, cond, List, ◌++◌, length, get_or, refl, sym, ◌∙◌, ap, subst, arith, inl, inr, length-append}
use Rattle.std.specs.Prelude.{Some, slice_get}
use Rattle.std.proofs.lemmas.List.{get_or_append_left}
use Rattle.lv_clauses.specs.Literals.{Lit, negated, has}
use Rattle.std.proofs.lemmas.Bool.{true≢false}
use Rattle.lv_clauses.proofs.Literals.{same_lit}
use Rattle.lv_trail.specs.declared.store.Entry.{Entry}
use Rattle.lv_trail.specs.declared.lists.Slot.{Slot}
use Rattle.lv_trail.specs.declared.watched.Watched.{Watched}
use Rattle.lv_trail.specs.Trail.{no_entry, truths}
use Rattle.lv_trail.specs.Store.{entries, IsSound}
use Rattle.lv_trail.specs.Chains.{code, slot_at, AreChains}
use Rattle.lv_trail.specs.Watches.{IsTrueBy, Guards, IsKept, AreWatched}
use Rattle.lv_trail.proofs.Placing.{truths-has}

code-neg : (a b : Bool) (v w : ℕ) → 2 * v + cond a 1 0 ≡ 2 * w + cond b 1 0 → (v ≡ w) × (a ≡ b)
code-neg true true v w e = (omega (arith, e), refl)
code-neg false false v w e = (omega (arith, e), refl)
code-neg true false v w e = absurd (omega (arith, e))
code-neg false true v w e = absurd (omega (arith, e))

-- a list is of one literal
pub code-same : (a b : Lit) → code a ≡ code b → a ≡ b
code-same a b e = let p = code-neg a.neg b.neg a.var b.var e in same_lit a b p.0 p.1

code-least : (b : Bool) (v : ℕ) → 1 ≤ v → 2 ≤ 2 * v + cond b 1 0
code-least true v h = omega arith
code-least false v h = omega arith

pub code-some : (l : Lit) → 1 ≤ l.var → 2 ≤ code l
code-some l h = code-least l.neg l.var h

code-greatest : (b : Bool) (v n : ℕ) → v ≤ n → 2 * v + cond b 1 0 < 2 * n + 2
code-greatest true v n h = omega arith
code-greatest false v n h = omega arith

pub code-most : (l : Lit) (n : ℕ) → l.var ≤ n → code l < 2 * n + 2
code-most l n h = code-greatest l.neg l.var n h

entry-older : (es more : List Entry) (k : ℕ) → k < length es → get_or (es ++ more) k no_entry ≡ get_or es k no_entry
entry-older es more k h = get_or_append_left es more no_entry k h

pub true-more : (es more : List Entry) (loose : Bool) (n : ℕ) (l : Lit) → IsTrueBy es loose n l → IsTrueBy (es ++ more) loose n l
true-more es more loose n l h =
    let (j, b, e, lv) = h in
    let o = entry-older es more j b in
    (j, omega (arith, b, length-append es more), ap (λ z. z.lit) o ∙ e, λ f. subst (λ z. z.level ≤ n) (sym o) (lv f))

pub true-looser : (es : List Entry) (loose loose' : Bool) (n : ℕ) (l : Lit) → (loose' ≡ false → loose ≡ false) → IsTrueBy es loose n l → IsTrueBy es loose' n l
true-looser es loose loose' n l w h = let (j, b, e, lv) = h in (j, b, e, λ f. lv (w f))

pub guards-more : (es more : List Entry) (loose : Bool) (n : ℕ) (a b : Lit) → n ≤ length es → Guards es loose n a b → Guards (es ++ more) loose n a b
guards-more es more loose n a b le h = λ k below e.
    let o = entry-older es more k (omega arith) in
    subst (λ z. IsTrueBy (es ++ more) loose z.level b) (sym o) (true-more es more loose (get_or es k no_entry).level b (h k below (sym (ap (λ z. z.lit) o) ∙ e)))

pub guards-looser : (es : List Entry) (loose loose' : Bool) (n : ℕ) (a b : Lit) → (loose' ≡ false → loose ≡ false) → Guards es loose n a b → Guards es loose' n a b
guards-looser es loose loose' n a b w h = λ k below e. true-looser es loose loose' (get_or es k no_entry).level b w (h k below e)

pub guards-fewer : (es : List Entry) (loose : Bool) (m n : ℕ) (a b : Lit) → m ≤ n → Guards es loose n a b → Guards es loose m a b
guards-fewer es loose m n a b le h = λ k below e. h k (omega arith) e

-- a literal that isn't false guards itself
pub guards-open : (es : List Entry) (loose : Bool) (n : ℕ) (a b : Lit) → n ≤ length es → has (truths es) (negated a) ≡ false → Guards es loose n a b
guards-open es loose n a b le f = λ k below e. absurd (true≢false (sym (subst (λ z. has (truths es) z ≡ true) e (truths-has es k (omega arith))) ∙ f))

-- what is known of a clause, where what is known of its literals stays
pub kept-change : (es es' : List Entry) (loose loose' : Bool) (known known' : ℕ → ℕ) (ss ss' : List Slot) (k : ℕ) (c : List Lit) →
    ((l : Lit) → IsTrueBy es loose 0 l → IsTrueBy es' loose' 0 l) →
    ((a b : Lit) → code a ≡ (slot_at ss (2 * k + 1)).list → Guards es loose (known (2 * k + 1)) a b → Guards es' loose' (known' (2 * k + 1)) a b) →
    ((a b : Lit) → code a ≡ (slot_at ss (2 * k + 2)).list → Guards es loose (known (2 * k + 2)) a b → Guards es' loose' (known' (2 * k + 2)) a b) →
    (slot_at ss' (2 * k + 1)).list ≡ (slot_at ss (2 * k + 1)).list → (slot_at ss' (2 * k + 2)).list ≡ (slot_at ss (2 * k + 2)).list →
    IsKept es loose known ss k c → IsKept es' loose' known' ss' k c
kept-change es es' loose loose' known known' ss ss' k c tb g1 g2 e1 e2 h =
    elim h [
      | inl p ↦ inl (record {
        first = p.first;
        second = p.second;
        inside_first = p.inside_first;
        inside_second = p.inside_second;
        differ = p.differ;
        list_first = e1 ∙ p.list_first;
        list_second = e2 ∙ p.list_second;
        guard_first = g1 p.first p.second (sym p.list_first) p.guard_first;
        guard_second = g2 p.second p.first (sym p.list_second) p.guard_second;
      })
      | inr q ↦ inr (record {
        only = q.only;
        inside = q.inside;
        alone = q.alone;
        is = tb q.only q.is;
        list_first = e1 ∙ q.list_first;
        list_second = e2 ∙ q.list_second;
      })
    ]

-- what holds of watched clauses, after a change that leaves the clauses
pub rewatched : (t u : Watched) (known known' : ℕ → ℕ) (apart apart' : List ℕ) → AreWatched t known apart →
    IsSound u.store → u.store.vars ≡ t.store.vars → u.store.clauses ≡ t.store.clauses → length u.lists.heads.items ≡ length t.lists.heads.items → length u.lists.slots.items ≡ length t.lists.slots.items →
    u.head ≤ u.store.len → u.checked ≡ t.checked → AreChains u.lists.heads.items u.lists.slots.items apart' →
    ((k : ℕ) (c : List Lit) → k < t.checked → slice_get t.store.clauses k ≡ Some c → IsKept (entries t.store) t.loose known t.lists.slots.items k c → IsKept (entries u.store) u.loose known' u.lists.slots.items k c) →
    ((x : ℕ) → 2 * t.checked < x → x ≤ length t.lists.slots.items → (slot_at u.lists.slots.items x).list ≡ (slot_at t.lists.slots.items x).list) →
    AreWatched u known' apart'
rewatched t u known known' apart apart' w sound ev ec eh es head en chains kept rest = record {
  sound = sound;
  few = omega (arith, ev, w.few);
  heads = omega (arith, eh, w.heads, ev);
  slots = omega (arith, es, w.slots, ap length ec);
  head = head;
  checked = omega (arith, en, w.checked, ap length ec);
  chains = chains;
  kept = λ k c b at. let b' : k < t.checked = omega (arith, b, en) in let at' : slice_get t.store.clauses k ≡ Some c = ap (λ z. slice_get z k) (sym ec) ∙ at in kept k c b' at' (w.kept k c b' at');
  rest = λ x a b. let a' : 2 * t.checked < x = omega (arith, a, en) in let b' : x ≤ length t.lists.slots.items = omega (arith, b, es) in rest x a' b' ∙ w.rest x a' b';
}
