-- Watched clauses when all is known, when levels go and when a clause is added.
use Rattle.std.proofs.Common.{◌≡◌, ℕ, ◌+◌, ◌-◌, ◌*◌, ◌^◌, ◌<◌, ◌≤◌, Bool, true, false, List, [], ◌∷◌, ◌++◌, length, replicate, get_or, sym, ◌∙◌, ap, subst, arith, inl, inr, length-append}
use Rattle.std.specs.Prelude.{Some, slice_get}
use Rattle.std.proofs.lemmas.Bool.{cases_lt, true≢false}
use Rattle.std.proofs.lemmas.List.{get_or-replicate, length-replicate}
use Rattle.std.proofs.lemmas.Option.{slice_get_within}
use Rattle.lv_clauses.specs.Literals.{Lit, negated, has}
use Rattle.lv_clauses.proofs.Sets.{get-push}
use Rattle.lv_trail.specs.declared.store.Store.{Store}
use Rattle.lv_trail.specs.declared.lists.Slot.{Slot}
use Rattle.lv_trail.specs.declared.watched.Watched.{Watched}
use Rattle.lv_trail.specs.Trail.{no_entry, truths, IsUnit, IsFalsified, IsClosed}
use Rattle.lv_trail.specs.Store.{entries, IsSound, IsSame, IsCut}
use Rattle.lv_trail.specs.Chains.{slot_at, no_slot, AreChains}
use Rattle.lv_trail.specs.Watches.{IsTrueBy, Guards, IsLong, IsShort, IsWatched}
use Rattle.lv_trail.proofs.Placing.{has-truths, truths-has, get-take, entries-length}
use Rattle.lv_trail.proofs.Opening.{consistent, same_or}
use Rattle.lv_trail.proofs.Threads.{cleared, grown, at-older, at-newer}
use Rattle.lv_trail.proofs.Watching.{kept-change, rewatched}

-- a guard whose first literal is false, where all true literals are known
guarded : (t : Store) → IsSound t → (loose : Bool) (n : ℕ) (a b : Lit) → t.len ≤ n → Guards (entries t) loose n a b → has (truths (entries t)) (negated a) ≡ true → has (truths (entries t)) b ≡ true
guarded t s loose n a b le g i =
    let (k, below, e) = has-truths (entries t) (negated a) i in
    let (j, below', e', lv) = g k (omega (arith, below, le, entries-length t s)) e in
    subst (λ z. has (truths (entries t)) z ≡ true) e' (truths-has (entries t) j below')

long-closed : (t : Store) (s : IsSound t) (loose : Bool) (known : ℕ → ℕ) (ss : List Slot) (k : ℕ) (c : List Lit) → ((x : ℕ) → t.len ≤ known x) → IsLong (entries t) loose known ss k c → (IsFalsified (truths (entries t)) c → ⊥) × ((l : Lit) → IsUnit (truths (entries t)) c l → ⊥)
long-closed t s loose known ss k c le p = (
  λ f. consistent t s p.second (guarded t s loose _ p.first p.second (le (2 * k + 1)) p.guard_first (f p.first p.inside_first)) (f p.second p.inside_second),
  λ l u. elim (same_or p.first l) [
    | inr ne ↦
        let second-true = guarded t s loose _ p.first p.second (le (2 * k + 1)) p.guard_first (u.others p.first p.inside_first ne) in
        elim (same_or p.second l) [
          | inl e ↦ true≢false (sym (subst (λ z. has (truths (entries t)) z ≡ true) e second-true) ∙ u.unset)
          | inr ne' ↦ consistent t s p.second second-true (u.others p.second p.inside_second ne')
        ]
    | inl e ↦
        let first-true = guarded t s loose _ p.second p.first (le (2 * k + 2)) p.guard_second (u.others p.second p.inside_second (λ e'. p.differ (e ∙ sym e'))) in
        true≢false (sym (subst (λ z. has (truths (entries t)) z ≡ true) e first-true) ∙ u.unset)
  ],
)

short-closed : (t : Store) (s : IsSound t) (loose : Bool) (ss : List Slot) (k : ℕ) (c : List Lit) → IsShort (entries t) loose ss k c → (IsFalsified (truths (entries t)) c → ⊥) × ((l : Lit) → IsUnit (truths (entries t)) c l → ⊥)
short-closed t s loose ss k c q =
    let (j, b, e, lv) = q.is in
    let is : has (truths (entries t)) q.only ≡ true = subst (λ z. has (truths (entries t)) z ≡ true) e (truths-has (entries t) j b) in (
      λ f. consistent t s q.only is (f q.only q.inside),
      λ l u. true≢false (sym is ∙ (ap (has (truths (entries t))) (sym (q.alone l u.inside)) ∙ u.unset)),
    )

-- where all clauses are watched and all true literals known, no clause is unit or falsified
pub all-closed : (t : Watched) → IsWatched t → t.checked ≡ length t.store.clauses → t.store.len ≤ t.head → IsClosed t.store.clauses (truths (entries t.store))
all-closed t w all le = λ k c at.
    elim (w.kept k c (omega (arith, all, slice_get_within t.store.clauses k c at)) at) [
      | inl p ↦ long-closed t.store w.sound t.loose (λ x. t.head) t.lists.slots.items k c (λ x. le) p
      | inr q ↦ short-closed t.store w.sound t.loose t.lists.slots.items k c q
    ]

-- levels go, and no clause is loose
module _ (t u : Watched) (most : ℕ) (w : IsWatched t) (cut : IsCut t.store u.store most) (tight : t.loose ≡ false) (el : u.lists ≡ t.lists) (en : u.checked ≡ t.checked) (less : u.head ≤ t.head) (room : u.head ≤ u.store.len) where
  same-entry : (k : ℕ) → k < u.store.len → get_or (entries u.store) k no_entry ≡ get_or (entries t.store) k no_entry
  same-entry k b = ap (λ z. get_or z k no_entry) cut.prefix ∙ get-take u.store.len (entries t.store) k b

  old-entry : (k : ℕ) → k < t.store.len → get_or (entries t.store) k no_entry ≡ get_or t.store.slots.items k no_entry
  old-entry k b = get-take t.store.len t.store.slots.items k b

  still-true : (loose : Bool) (n : ℕ) (l : Lit) → n ≤ most → IsTrueBy (entries t.store) t.loose n l → IsTrueBy (entries u.store) loose n l
  still-true loose n l le h =
      let (j, b, e, lv) = h in
      let low : (get_or (entries t.store) j no_entry).level ≤ n = lv tight in
      let old : j < t.store.len = omega (arith, b, entries-length t.store w.sound) in
      let new : j < u.store.len =
      elim (cases_lt j u.store.len) [ inl y ↦ y | inr past ↦ absurd (omega (arith, cut.gone j past old, ap (λ z. z.level) (old-entry j old), low, le)) ] in
      let same = same-entry j new in
      (j, omega (arith, new, entries-length u.store cut.sound), ap (λ z. z.lit) same ∙ e, λ f. omega (arith, ap (λ z. z.level) same, low))

  still-guards : (a b : Lit) → Guards (entries t.store) t.loose t.head a b → Guards (entries u.store) u.loose u.head a b
  still-guards a b g = λ k below neg.
      let new : k < u.store.len = omega (arith, below, room) in
      let same = same-entry k new in
      let low : (get_or (entries t.store) k no_entry).level ≤ most = omega (arith, cut.kept k new, ap (λ z. z.level) (old-entry k (omega (arith, new, cut.len)))) in
      subst (λ z. IsTrueBy (entries u.store) u.loose z.level b) (sym same) (still-true u.loose (get_or (entries t.store) k no_entry).level b low (g k (omega (arith, below, less)) (sym (ap (λ z. z.lit) same) ∙ neg)))

  pub cut-watched : IsWatched u
  cut-watched = rewatched t u (λ x. t.head) (λ x. u.head) [] [] w cut.sound cut.same.0 cut.same.1 (ap (λ z. length z.heads.items) el) (ap (λ z. length z.slots.items) el) room en
      (subst (λ z. AreChains z.heads.items z.slots.items []) (sym el) w.chains)
      (λ k c b at. kept-change (entries t.store) (entries u.store) t.loose u.loose (λ x. t.head) (λ x. u.head) t.lists.slots.items u.lists.slots.items k c
      (λ l i. still-true u.loose 0 l (omega arith) i) (λ p q e. still-guards p q) (λ p q e. still-guards p q) (ap (λ z. (slot_at z.slots.items (2 * k + 1)).list) el) (ap (λ z. (slot_at z.slots.items (2 * k + 2)).list) el))
      (λ x p q. ap (λ z. (slot_at z.slots.items x).list) el)

-- no clause is watched, and no slot is on a list
pub none-watched : (u : Watched) → IsSound u.store → u.store.vars < 2 ^ 60 → (n m : ℕ) → u.lists.heads.items ≡ replicate n 0 → u.lists.slots.items ≡ replicate m no_slot → n ≡ 2 * u.store.vars + 2 → m ≡ 2 * length u.store.clauses → u.head ≤ u.store.len → u.checked ≡ 0 → IsWatched u
none-watched u sound few n m eh es en em head zero = record {
  sound = sound;
  few = few;
  heads = ap length eh ∙ (length-replicate {A = ℕ} n 0 ∙ en);
  slots = ap length es ∙ (length-replicate {A = Slot} m no_slot ∙ em);
  head = head;
  checked = omega (arith, zero);
  chains = rw (eh, es) (cleared n m);
  kept = λ k c b at. absurd (omega (arith, b, zero));
  rest = λ x a b.
      let low : x - 1 < m = omega (arith, a, b, ap length es, length-replicate {A = Slot} m no_slot) in
      ap (λ z. (slot_at z x).list) es ∙ ap (λ z. z.list) (get_or-replicate {A = Slot} m (x - 1) no_slot no_slot low);
}

-- the same, in other memory
pub same-watched : (t u : Watched) → IsWatched t → IsSound u.store → IsSame t.store u.store → entries u.store ≡ entries t.store → u.lists.heads.items ≡ t.lists.heads.items → u.lists.slots.items ≡ t.lists.slots.items → u.head ≡ t.head → u.checked ≡ t.checked → u.loose ≡ t.loose → IsWatched u
same-watched t u w sound same ee eh es ed en eo =
    rewatched t u (λ x. t.head) (λ x. u.head) [] [] w sound same.0 same.1 (ap length eh) (ap length es) (omega (arith, ed, w.head, ap length ee, entries-length t.store w.sound, entries-length u.store sound)) en (rw (eh, es) w.chains)
    (λ k c b at. kept-change (entries t.store) (entries u.store) t.loose u.loose (λ x. t.head) (λ x. u.head) t.lists.slots.items u.lists.slots.items k c
    (λ l i. rw (ee, eo) i) (λ p q e i. rw (ee, eo, ed) i) (λ p q e i. rw (ee, eo, ed) i) (ap (λ z. (slot_at z (2 * k + 1)).list) es) (ap (λ z. (slot_at z (2 * k + 2)).list) es))
    (λ x p q. ap (λ z. (slot_at z x).list) es)

-- one more clause
pub more-watched : (t u : Watched) (d : List Lit) → IsWatched t → IsSound u.store → u.store.vars ≡ t.store.vars → u.store.clauses ≡ t.store.clauses ++ d ∷ [] → entries u.store ≡ entries t.store → u.lists.heads.items ≡ t.lists.heads.items → u.lists.slots.items ≡ t.lists.slots.items ++ no_slot ∷ no_slot ∷ [] → u.head ≡ t.head → u.checked ≡ t.checked → u.loose ≡ t.loose → IsWatched u
more-watched t u d w sound ev ec ee eh es ed en eo =
    let ss = t.lists.slots.items in
    let more : List Slot = no_slot ∷ no_slot ∷ [] in
    let long : length u.lists.slots.items ≡ length ss + 2 = ap length es ∙ length-append ss more in
    let count : length u.store.clauses ≡ length t.store.clauses + 1 = ap length ec ∙ length-append t.store.clauses (d ∷ []) in
    let older : (x : ℕ) → 1 ≤ x → x ≤ length ss → (slot_at u.lists.slots.items x).list ≡ (slot_at ss x).list = λ x one b. ap (λ z. (slot_at z x).list) es ∙ ap (λ z. z.list) (at-older ss more x one b) in
    record {
      sound = sound;
      few = omega (arith, ev, w.few);
      heads = omega (arith, ap length eh, w.heads, ev);
      slots = omega (arith, long, count, w.slots);
      head = omega (arith, ed, w.head, ap length ee, entries-length t.store w.sound, entries-length u.store sound);
      checked = omega (arith, en, w.checked, count);
      chains = rw (eh, es) (grown t.lists.heads.items ss [] w.chains);
      kept = λ k c b at.
          let old : k < t.checked = omega (arith, b, en) in
          let at' : slice_get t.store.clauses k ≡ Some c =
          elim (get-push t.store.clauses d c k (ap (λ z. slice_get z k) (sym ec) ∙ at)) [ inl y ↦ y | inr n ↦ absurd (omega (arith, n.1, old, w.checked)) ] in
          kept-change (entries t.store) (entries u.store) t.loose u.loose (λ x. t.head) (λ x. u.head) ss u.lists.slots.items k c
          (λ l i. rw (ee, eo) i) (λ p q e i. rw (ee, eo, ed) i) (λ p q e i. rw (ee, eo, ed) i) (older (2 * k + 1) (omega arith) (omega (arith, old, w.checked, w.slots))) (older (2 * k + 2) (omega arith) (omega (arith, old, w.checked, w.slots)))
          (w.kept k c old at');
      rest = λ x a b.
          elim (cases_lt (length ss) x) [
            | inl new ↦ ap (λ z. (slot_at z x).list) es ∙ ap (λ z. z.list) (at-newer ss x new)
            | inr old ↦ older x (omega (arith, a)) old ∙ w.rest x (omega (arith, a, en)) old
          ];
    }
