-- A clause with one literal that isn't false is watched.
use Rattle.std.proofs.Common.{◌≡◌, ℕ, ◌+◌, ◌*◌, ◌<◌, ◌≤◌, Bool, true, false, List, [], length, get_or, sym, ◌∙◌, ap, subst, arith, inl, inr}
use Rattle.std.specs.Prelude.{Some, slice_get}
use Rattle.std.proofs.lemmas.Bool.{cases_eq, cases_Bool}
use Rattle.std.proofs.lemmas.Option.{slice_get_within}
use Rattle.lv_clauses.specs.Literals.{Lit, negated, has}
use Rattle.lv_clauses.specs.Sets.{numbered}
use Rattle.lv_trail.specs.declared.store.Store.{Store}
use Rattle.lv_trail.specs.declared.watched.Watched.{Watched}
use Rattle.lv_trail.specs.Trail.{no_entry, truths, IsReason, IsLevelOf, IsFalsified}
use Rattle.lv_trail.specs.Store.{entries, IsSound, IsGrown}
use Rattle.lv_trail.specs.Chains.{code, slot_at, AreChains}
use Rattle.lv_trail.specs.Watches.{IsTrueBy, IsWatched}
use Rattle.lv_trail.specs.Looks.{IsLast, IsPair}
use Rattle.lv_trail.proofs.Placing.{has-truths, get-take, entries-length}
use Rattle.lv_trail.proofs.Opening.{consistent}
use Rattle.lv_trail.proofs.Adding.{number}
use Rattle.lv_trail.proofs.Watching.{code-same, code-some, guards-open, kept-change}
use Rattle.lv_trail.proofs.Nexting.{inside-within}

some_same : (a b : List Lit) → Some a ≡ Some b → a ≡ b
some_same a b e = cc

-- a clause by its place and by its number
pub clause-same : (cs : List (List Lit)) (k : ℕ) (c d : List Lit) → slice_get cs k ≡ Some c → numbered cs (k + 1) ≡ Some d → d ≡ c
clause-same cs k c d a b = some_same d c (sym b ∙ (sym (number cs k) ∙ a))

pub level-most : (t : Store) → IsSound t → (j : ℕ) → j < length (entries t) → (get_or (entries t) j no_entry).level ≤ t.level
level-most t s j b =
    let below : j < t.len = omega (arith, b, entries-length t s) in
    omega (arith, ap (λ z. z.level) (get-take t.len t.slots.items j below), s.below j below)

-- a true literal has been so since the last level or before
pub true-at : (t : Store) → IsSound t → (l : Lit) (loose : Bool) (n : ℕ) → has (truths (entries t)) l ≡ true → (loose ≡ false → t.level ≤ n) → IsTrueBy (entries t) loose n l
true-at t s l loose n i le = let (j, b, e) = has-truths (entries t) l i in (j, b, e, λ f. omega (arith, level-most t s j b, le f))

-- a true literal isn't false
pub not-false : (t : Store) → IsSound t → (l : Lit) → has (truths (entries t)) l ≡ true → has (truths (entries t)) (negated l) ≡ false
not-false t s l i = elim (cases_Bool (has (truths (entries t)) (negated l))) [ inr f ↦ f | inl e ↦ absurd (consistent t s l i e) ]

pub last-unit : (t : Watched) (l : Lit) → IsLast t l → has (truths (entries t.store)) l ≡ false → IsReason t.store.clauses (truths (entries t.store)) l (t.checked + 1)
last-unit t l h f = (
  h.clause,
  sym (number t.store.clauses t.checked) ∙ h.at,
  record {
    inside = h.inside;
    unset = f;
    free = h.open_lit;
    others = λ m i ne. h.others m i (λ e. ne (code-same m l e));
  },
)

pub last-pair : (t u : Watched) (first second : Lit) (n : ℕ) → IsWatched t → IsLast t first → IsGrown t.store u.store → u.head ≡ t.head → u.checked ≡ t.checked →
    has (truths (entries u.store)) first ≡ true → ((c : List Lit) → slice_get u.store.clauses u.checked ≡ Some c → has c second ≡ true) → (code second ≡ code first → ⊥) → IsLevelOf (entries u.store) second.var n → (u.loose ≡ false → u.store.level ≤ n) → IsPair u first second
last-pair t u first second n w l g eh en is inside ne lv lo =
    let at : slice_get u.store.clauses u.checked ≡ Some l.clause = ap (λ z. slice_get z u.checked) g.same.1 ∙ (ap (slice_get t.store.clauses) en ∙ l.at) in
    let long = entries-length u.store g.sound in
    record {
      clause = l.clause;
      at = at;
      inside_first = l.inside;
      inside_second = inside l.clause at;
      differ = ne;
      guard_first = guards-open (entries u.store) u.loose u.head first second (omega (arith, eh, w.head, g.more, long)) (not-false u.store g.sound first is);
      guard_second = λ k b e.
          let below : k < length (entries u.store) = omega (arith, b, eh, w.head, g.more, long) in
          let at-level : (get_or (entries u.store) k no_entry).level ≡ n = lv k below (ap (λ z. z.var) e) in
          true-at u.store g.sound first u.loose (get_or (entries u.store) k no_entry).level is (λ f. omega (arith, at-level, lo f));
    }

-- a clause of one literal
pub short-watched : (t u : Watched) (only : Lit) (c : List Lit) → IsWatched t → slice_get t.store.clauses t.checked ≡ Some c → has c only ≡ true → ((l : Lit) → has c l ≡ true → code l ≡ code only) → has (truths (entries t.store)) only ≡ true →
    u.store ≡ t.store → u.lists ≡ t.lists → u.head ≡ t.head → u.checked ≡ t.checked + 1 → (u.loose ≡ false → (t.loose ≡ false) × (t.store.level ≤ 0)) → IsWatched u
short-watched t u only c w at inside alone is es el eh en lo =
    let below : t.checked < length t.store.clauses = slice_get_within t.store.clauses t.checked c at in
    record {
      sound = subst IsSound (sym es) w.sound;
      few = omega (arith, ap (λ z. z.vars) es, w.few);
      heads = omega (arith, ap (λ z. length z.heads.items) el, w.heads, ap (λ z. z.vars) es);
      slots = omega (arith, ap (λ z. length z.slots.items) el, w.slots, ap (λ z. length z.clauses) es);
      head = omega (arith, eh, ap (λ z. z.len) es, w.head);
      checked = omega (arith, en, below, ap (λ z. length z.clauses) es);
      chains = subst (λ z. AreChains z.heads.items z.slots.items []) (sym el) w.chains;
      kept = λ k d b at'.
          let at'' : slice_get t.store.clauses k ≡ Some d = ap (λ z. slice_get z.clauses k) (sym es) ∙ at' in
          elim (cases_eq k t.checked) [
            | inr ne ↦
                kept-change (entries t.store) (entries u.store) t.loose u.loose (λ x. t.head) (λ x. u.head) t.lists.slots.items u.lists.slots.items k d
                (λ l h. rw es (let (j, b', e', lv) = h in (j, b', e', λ f. lv (lo f).0)))
                (λ a b' e h. rw (es, eh) (λ k' below' e'. let (j, b'', e'', lv) = h k' below' e' in (j, b'', e'', λ f. lv (lo f).0)))
                (λ a b' e h. rw (es, eh) (λ k' below' e'. let (j, b'', e'', lv) = h k' below' e' in (j, b'', e'', λ f. lv (lo f).0)))
                (ap (λ z. (slot_at z.slots.items (2 * k + 1)).list) el) (ap (λ z. (slot_at z.slots.items (2 * k + 2)).list) el)
                (w.kept k d (omega (arith, b, en, ne)) at'')
            | inl e ↦
                let same : d ≡ c = some_same d c (sym at'' ∙ (ap (slice_get t.store.clauses) e ∙ at)) in
                let none : (x : ℕ) → 2 * t.checked < x → x ≤ 2 * t.checked + 2 → (slot_at u.lists.slots.items x).list ≡ 0 = λ x a b'. ap (λ z. (slot_at z.slots.items x).list) el ∙ w.rest x a (omega (arith, b', w.slots, below)) in
                inr (record {
                  only = only;
                  inside = subst (λ z. has z only ≡ true) (sym same) inside;
                  alone = λ l i. code-same l only (alone l (subst (λ z. has z l ≡ true) same i));
                  is = rw es (true-at t.store w.sound only u.loose 0 is (λ f. (lo f).1));
                  list_first = none (2 * k + 1) (omega (arith, e)) (omega (arith, e));
                  list_second = none (2 * k + 2) (omega (arith, e)) (omega (arith, e));
                })
          ];
      rest = λ x a b. ap (λ z. (slot_at z.slots.items x).list) el ∙ w.rest x (omega (arith, a, en)) (omega (arith, b, ap (λ z. length z.slots.items) el));
    }

-- a clause without a literal that isn't false is falsified
pub none-open : (t : Store) → IsSound t → (k : ℕ) (c : List Lit) → slice_get t.clauses k ≡ Some c → ((l : Lit) → has c l ≡ true → (code l ≡ 0 → ⊥) → has (truths (entries t)) (negated l) ≡ true) → IsFalsified (truths (entries t)) c
none-open t s k c at h = λ l i. h l i (λ e. omega (arith, e, code-some l (inside-within t s k c l at i).0))
