-- One more clause is watched.
use Rattle.std.proofs.Common.{◌≡◌, ◌≢◌, ℕ, ◌+◌, ◌-◌, ◌*◌, ◌<◌, ◌≤◌, true, false, List, [], ◌++◌, length, set, get_or, refl, sym, ◌∙◌, ap, subst, arith, inl, inr, length-append, length-set}
use Rattle.std.specs.Prelude.{Some, slice_get}
use Rattle.std.proofs.lemmas.Bool.{cases_eq}
use Rattle.std.proofs.lemmas.Option.{slice_get_within}
use Rattle.lv_clauses.specs.Literals.{Lit, has}
use Rattle.lv_trail.specs.declared.store.Entry.{Entry}
use Rattle.lv_trail.specs.declared.store.Store.{Store}
use Rattle.lv_trail.specs.declared.lists.Slot.{Slot}
use Rattle.lv_trail.specs.declared.watched.Watched.{Watched}
use Rattle.lv_trail.specs.Store.{entries, IsSound, IsSame, IsGrown}
use Rattle.lv_trail.specs.Chains.{code, slot_at, AreChains}
use Rattle.lv_trail.specs.Watches.{IsTrueBy, Guards, IsWatched, AreWatched}
use Rattle.lv_trail.specs.Looks.{IsPair}
use Rattle.lv_trail.proofs.Placing.{entries-length}
use Rattle.lv_trail.proofs.Threads.{put, apart-none, set-other, set-same}
use Rattle.lv_trail.proofs.Watching.{code-some, code-most, true-more, true-looser, guards-more, guards-looser, kept-change, rewatched}

-- more literals are true
pub longer-watched : (t u : Watched) (known : ℕ → ℕ) (apart : List ℕ) → AreWatched t known apart → ((x : ℕ) → known x ≤ t.store.len) → IsSound u.store → IsSame t.store u.store → (es : List Entry) → entries u.store ≡ entries t.store ++ es → u.lists ≡ t.lists → u.head ≡ t.head → u.checked ≡ t.checked → (u.loose ≡ false → t.loose ≡ false) → AreWatched u known apart
longer-watched t u known apart w le sound same es ee el eh en lo =
    let long = entries-length t.store w.sound in
    let more : t.store.len ≤ u.store.len = omega (arith, long, entries-length u.store sound, ap length ee, length-append (entries t.store) es) in
    let tb : (l : Lit) → IsTrueBy (entries t.store) t.loose 0 l → IsTrueBy (entries u.store) u.loose 0 l = λ l h.
    subst (λ z. IsTrueBy z u.loose 0 l) (sym ee) (true-looser (entries t.store ++ es) t.loose u.loose 0 l lo (true-more (entries t.store) es t.loose 0 l h)) in
    let gu : (n : ℕ) → n ≤ t.store.len → (a b : Lit) → Guards (entries t.store) t.loose n a b → Guards (entries u.store) u.loose n a b = λ n b' a b h.
    subst (λ z. Guards z u.loose n a b) (sym ee) (guards-looser (entries t.store ++ es) t.loose u.loose n a b lo (guards-more (entries t.store) es t.loose n a b (omega (arith, long)) h)) in
    rewatched t u known known apart apart w sound same.0 same.1 (ap (λ z. length z.heads.items) el) (ap (λ z. length z.slots.items) el)
    (omega (arith, eh, w.head, more)) en (subst (λ z. AreChains z.heads.items z.slots.items apart) (sym el) w.chains)
    (λ k c b at. kept-change (entries t.store) (entries u.store) t.loose u.loose known known t.lists.slots.items u.lists.slots.items k c tb
    (λ a b' e. gu (known (2 * k + 1)) (le (2 * k + 1)) a b') (λ a b' e. gu (known (2 * k + 2)) (le (2 * k + 2)) a b') (ap (λ z. (slot_at z.slots.items (2 * k + 1)).list) el) (ap (λ z. (slot_at z.slots.items (2 * k + 2)).list) el))
    (λ x a b. ap (λ z. (slot_at z.slots.items x).list) el)

pub grown-watched : (t u : Watched) (known : ℕ → ℕ) (apart : List ℕ) → AreWatched t known apart → ((x : ℕ) → known x ≤ t.store.len) → IsGrown t.store u.store → u.lists ≡ t.lists → u.head ≡ t.head → u.checked ≡ t.checked → (u.loose ≡ false → t.loose ≡ false) → AreWatched u known apart
grown-watched t u known apart w le g el eh en lo = let (es, ee, lv, fo) = g.forced in longer-watched t u known apart w le g.sound g.same es ee el eh en lo

-- a literal of a clause is one of the variables
pub inside-within : (t : Store) → IsSound t → (k : ℕ) (c : List Lit) (l : Lit) → slice_get t.clauses k ≡ Some c → has c l ≡ true → (1 ≤ l.var) × (l.var ≤ t.vars)
inside-within t s k c l at i = (s.clauses k c at).1 l i

-- what the lists are after two slots are put on them
module _ (heads : List ℕ) (ss : List Slot) (n : ℕ) (chains : AreChains heads ss []) (rest : (x : ℕ) → 2 * n < x → x ≤ length ss → (slot_at ss x).list ≡ 0) (room : 2 * n + 2 ≤ length ss) (w1 w2 : ℕ) (some1 : 1 ≤ w1) (some2 : 1 ≤ w2) (in1 : w1 < length heads) (in2 : w2 < length heads)
    (v1 v2 : Slot) (l1 : v1.list ≡ w1) (n1 : v1.next ≡ get_or heads w1 0) (l2 : v2.list ≡ w2) (n2 : v2.next ≡ get_or (set heads w1 (2 * n + 1)) w2 0) where
  chains-one : AreChains (set heads w1 (2 * n + 1)) (set ss (2 * n + 1 - 1) v1) []
  chains-one = put heads ss [] w1 (2 * n + 1) (omega arith) (omega arith) some1 in1 (apart-none heads ss [] (2 * n + 1) (rest (2 * n + 1) (omega arith) (omega arith)) chains) refl v1 l1 n1

  after-one : (x : ℕ) → 1 ≤ x → x ≢ 2 * n + 1 → slot_at (set ss (2 * n + 1 - 1) v1) x ≡ slot_at ss x
  after-one x one ne = set-other ss (2 * n + 1) x v1 (omega arith) one ne

  long-one : length (set ss (2 * n + 1 - 1) v1) ≡ length ss
  long-one = length-set ss (2 * n + 1 - 1) v1

  pub two-chains : AreChains (set (set heads w1 (2 * n + 1)) w2 (2 * n + 2)) (set (set ss (2 * n + 1 - 1) v1) (2 * n + 2 - 1) v2) []
  two-chains =
      put (set heads w1 (2 * n + 1)) (set ss (2 * n + 1 - 1) v1) [] w2 (2 * n + 2) (omega arith) (omega (arith, long-one)) some2 (omega (arith, length-set heads w1 (2 * n + 1)))
      (apart-none (set heads w1 (2 * n + 1)) (set ss (2 * n + 1 - 1) v1) [] (2 * n + 2) (ap (λ z. z.list) (after-one (2 * n + 2) (omega arith) (λ e. omega arith)) ∙ rest (2 * n + 2) (omega arith) (omega arith)) chains-one) refl v2 l2 n2

  pub two-others : (x : ℕ) → 1 ≤ x → x ≢ 2 * n + 1 → x ≢ 2 * n + 2 → slot_at (set (set ss (2 * n + 1 - 1) v1) (2 * n + 2 - 1) v2) x ≡ slot_at ss x
  two-others x one a b = set-other (set ss (2 * n + 1 - 1) v1) (2 * n + 2) x v2 (omega arith) one b ∙ after-one x one a

  pub two-first : slot_at (set (set ss (2 * n + 1 - 1) v1) (2 * n + 2 - 1) v2) (2 * n + 1) ≡ v1
  two-first = set-other (set ss (2 * n + 1 - 1) v1) (2 * n + 2) (2 * n + 1) v2 (omega arith) (omega arith) (λ e. omega arith) ∙ set-same ss (2 * n + 1) v1 (omega arith) (omega arith)

  pub two-second : slot_at (set (set ss (2 * n + 1 - 1) v1) (2 * n + 2 - 1) v2) (2 * n + 2) ≡ v2
  two-second = set-same (set ss (2 * n + 1 - 1) v1) (2 * n + 2) v2 (omega arith) (omega (arith, long-one))

some_same : (a b : List Lit) → Some a ≡ Some b → a ≡ b
some_same a b e = cc

-- what the slots of two literals of the next clause are
pub record IsWatching (t : Watched) (first second : Lit) (v1 v2 : Slot) : Type 0 where
  pub list_first : v1.list ≡ code first
  pub next_first : v1.next ≡ get_or t.lists.heads.items (code first) 0
  pub list_second : v2.list ≡ code second
  pub next_second : v2.next ≡ get_or (set t.lists.heads.items (code first) (2 * t.checked + 1)) (code second) 0

module _ (t u : Watched) (first second : Lit) (w : IsWatched t) (p : IsPair t first second) (v1 v2 : Slot) (v : IsWatching t first second v1 v2) where
  below : t.checked < length t.store.clauses
  below = slice_get_within t.store.clauses t.checked p.clause p.at

  room : 2 * t.checked + 2 ≤ length t.lists.slots.items
  room = omega (arith, w.slots, below)

  in-first : (1 ≤ first.var) × (first.var ≤ t.store.vars)
  in-first = inside-within t.store w.sound t.checked p.clause first p.at p.inside_first

  in-second : (1 ≤ second.var) × (second.var ≤ t.store.vars)
  in-second = inside-within t.store w.sound t.checked p.clause second p.at p.inside_second

  pub pair-watched : u.store ≡ t.store → u.loose ≡ t.loose → u.head ≡ t.head → u.checked ≡ t.checked + 1 →
      u.lists.heads.items ≡ set (set t.lists.heads.items (code first) (2 * t.checked + 1)) (code second) (2 * t.checked + 2) →
      u.lists.slots.items ≡ set (set t.lists.slots.items (2 * t.checked + 1 - 1) v1) (2 * t.checked + 2 - 1) v2 → IsWatched u
  pair-watched es el eh en e-heads e-slots =
      let heads = t.lists.heads.items in
      let ss = t.lists.slots.items in
      let n : ℕ = t.checked in
      let first-some : 1 ≤ code first = omega (arith, code-some first in-first.0) in
      let second-some : 1 ≤ code second = omega (arith, code-some second in-second.0) in
      let first-in : code first < length heads = omega (arith, w.heads, code-most first t.store.vars in-first.1) in
      let second-in : code second < length heads = omega (arith, w.heads, code-most second t.store.vars in-second.1) in
      let others = two-others heads ss n w.chains w.rest room (code first) (code second) first-some second-some first-in second-in v1 v2 v.list_first v.next_first v.list_second v.next_second in
      let other : (x : ℕ) → 1 ≤ x → x ≢ 2 * n + 1 → x ≢ 2 * n + 2 → slot_at u.lists.slots.items x ≡ slot_at ss x = λ x one a b. ap (λ z. slot_at z x) e-slots ∙ others x one a b in
      record {
        sound = subst IsSound (sym es) w.sound;
        few = omega (arith, ap (λ z. z.vars) es, w.few);
        heads = omega (arith, ap length e-heads, length-set heads (code first) (2 * n + 1), length-set (set heads (code first) (2 * n + 1)) (code second) (2 * n + 2), w.heads, ap (λ z. z.vars) es);
        slots = omega (arith, ap length e-slots, length-set ss (2 * n + 1 - 1) v1, length-set (set ss (2 * n + 1 - 1) v1) (2 * n + 2 - 1) v2, w.slots, ap (λ z. length z.clauses) es);
        head = omega (arith, eh, ap (λ z. z.len) es, w.head);
        checked = omega (arith, en, below, ap (λ z. length z.clauses) es);
        chains = rw (e-heads, e-slots) (two-chains heads ss n w.chains w.rest room (code first) (code second) first-some second-some first-in second-in v1 v2 v.list_first v.next_first v.list_second v.next_second);
        kept = λ k c b at.
            let at' : slice_get t.store.clauses k ≡ Some c = ap (λ z. slice_get z.clauses k) (sym es) ∙ at in
            elim (cases_eq k n) [
              | inr ne ↦
                  kept-change (entries t.store) (entries u.store) t.loose u.loose (λ x. t.head) (λ x. u.head) ss u.lists.slots.items k c
                  (λ l h. rw (es, el) h) (λ a b' e h. rw (es, el, eh) h) (λ a b' e h. rw (es, el, eh) h)
                  (ap (λ z. z.list) (other (2 * k + 1) (omega arith) (λ e. omega (arith, ne)) (λ e. omega arith)))
                  (ap (λ z. z.list) (other (2 * k + 2) (omega arith) (λ e. omega arith) (λ e. omega (arith, ne))))
                  (w.kept k c (omega (arith, b, en, ne)) at')
              | inl e ↦
                  let is : c ≡ p.clause = some_same c p.clause (sym at' ∙ (ap (slice_get t.store.clauses) e ∙ p.at)) in
                  inl (record {
                    first = first;
                    second = second;
                    inside_first = subst (λ z. has z first ≡ true) (sym is) p.inside_first;
                    inside_second = subst (λ z. has z second ≡ true) (sym is) p.inside_second;
                    differ = λ q. p.differ (ap code (sym q));
                    list_first = ap (λ z. (slot_at u.lists.slots.items (2 * z + 1)).list) e ∙ (ap (λ z. (slot_at z (2 * n + 1)).list) e-slots ∙ (ap (λ z. z.list) (two-first heads ss n w.chains w.rest room (code first) (code second) first-some second-some first-in second-in v1 v2 v.list_first v.next_first v.list_second v.next_second) ∙ v.list_first));
                    list_second = ap (λ z. (slot_at u.lists.slots.items (2 * z + 2)).list) e ∙ (ap (λ z. (slot_at z (2 * n + 2)).list) e-slots ∙ (ap (λ z. z.list) (two-second heads ss n w.chains w.rest room (code first) (code second) first-some second-some first-in second-in v1 v2 v.list_first v.next_first v.list_second v.next_second) ∙ v.list_second));
                    guard_first = rw (es, el, eh) p.guard_first;
                    guard_second = rw (es, el, eh) p.guard_second;
                  })
            ];
        rest = λ x a b.
            let b' : x ≤ length ss = omega (arith, b, ap length e-slots, length-set ss (2 * n + 1 - 1) v1, length-set (set ss (2 * n + 1 - 1) v1) (2 * n + 2 - 1) v2) in
            ap (λ z. z.list) (other x (omega (arith, a)) (λ e. omega (arith, a, en)) (λ e. omega (arith, a, en))) ∙ w.rest x (omega (arith, a, en)) b';
      }
