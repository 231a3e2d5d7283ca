-- The slots of a list are gone through.
use Rattle.std.proofs.Common.{◌≡◌, ◌≢◌, ℕ, ◌+◌, ◌-◌, ◌*◌, ◌/◌, ◌%◌, ◌<◌, ◌≤◌, true, false, eqb, List, [], ◌∷◌, length, set, get_or, refl, sym, ◌∙◌, ap, subst, arith, ◌⊎◌, inl, inr, length-set}
use Rattle.std.specs.Prelude.{Option, Some, None, slice_get}
use Rattle.std.specs.List.{list_any}
use Rattle.std.proofs.lemmas.Bool.{cases_eq, cases_lt, cases_Bool, eq-eqb, ne_eqb}
use Rattle.std.proofs.lemmas.Option.{slice_get-get_or}
use Rattle.lv_clauses.specs.Literals.{Lit, negated, has}
use Rattle.lv_clauses.proofs.Literals.{negated-negated}
use Rattle.lv_trail.specs.declared.store.Store.{Store}
use Rattle.lv_trail.specs.declared.lists.Slot.{Slot}
use Rattle.lv_trail.specs.declared.watched.Watched.{Watched}
use Rattle.lv_trail.specs.Trail.{no_entry, truths}
use Rattle.lv_trail.specs.Store.{entries, IsSound, IsGrown}
use Rattle.lv_trail.specs.Chains.{code, mate, slot_at, steps, In, NotIn, IsChain, AreChains}
use Rattle.lv_trail.specs.Watches.{left, IsTrueBy, Guards, IsLong, IsKept, AreWatched, IsWatched, known_by, IsVisit}
use Rattle.lv_trail.specs.Looks.{IsSettled, IsStaying, IsMoving, IsApart}
use Rattle.lv_trail.specs.Search.{IsOpenBut}
use Rattle.lv_trail.proofs.Placing.{truths-has, get-take, entries-length}
use Rattle.lv_trail.proofs.Opening.{consistent}
use Rattle.lv_trail.proofs.Threads.{put, HasDetached, detached, set-other, set-same, chain-set, in-head, in-later, in-not, chain-within, steps-all}
use Rattle.lv_trail.proofs.Watching.{code-same, code-some, code-most, kept-change, rewatched, guards-open, guards-fewer, guards-looser, true-looser}
use Rattle.lv_trail.proofs.Nexting.{inside-within, grown-watched}
use Rattle.std.proofs.lemmas.List.{get_or_append_left}

-- the slots of clause k
odd : (k : ℕ) → mate (2 * k + 1) ≡ 2 * k + 2
odd k =
    let e : (2 * k + 1 - 1) % 2 ≡ 0 = omega arith in
    rw (eq-eqb ((2 * k + 1 - 1) % 2) 0 e) (omega arith)

even : (k : ℕ) → mate (2 * k + 2) ≡ 2 * k + 1
even k =
    let e : (2 * k + 2 - 1) % 2 ≢ 0 = λ z. omega arith in
    rw (ne_eqb ((2 * k + 2 - 1) % 2) 0 e) (omega arith)

pub slot-of : (s : ℕ) → 1 ≤ s → (s ≡ 2 * ((s - 1) / 2) + 1) ⊎ (s ≡ 2 * ((s - 1) / 2) + 2)
slot-of s one = elim (cases_eq ((s - 1) % 2) 0) [ inl e ↦ inl (omega arith) | inr e ↦ inr (omega arith) ]

-- a slot that stands apart, and the other slot of its clause
pub record IsTurn (t : Watched) (w s : ℕ) (rest : List ℕ) : Type 0 where
  pub slot : (1 ≤ s) × (s ≤ length t.lists.slots.items)
  pub mate_slot : (1 ≤ mate s) × (mate s ≤ length t.lists.slots.items) × (mate s ≢ s)
  pub clause : List Lit
  pub below : (s - 1) / 2 < t.checked
  pub at : slice_get t.store.clauses ((s - 1) / 2) ≡ Some clause
  pub own : Lit
  pub other : Lit
  pub inside_own : has clause own ≡ true
  pub inside_other : has clause other ≡ true
  pub differ : own ≡ other → ⊥
  pub list_own : w ≡ code own
  pub list_other : (slot_at t.lists.slots.items (mate s)).list ≡ code other
  pub guard_other : Guards (entries t.store) t.loose (known_by t.head (s ∷ rest) (mate s)) other own

first-turn : (t : Watched) (w s k : ℕ) (rest : List ℕ) (c : List Lit) → AreWatched t (known_by t.head (s ∷ rest)) (s ∷ rest) → s ≡ 2 * k + 1 → k ≡ (s - 1) / 2 → k < t.checked → slice_get t.store.clauses k ≡ Some c → (slot_at t.lists.slots.items s).list ≡ w →
    IsLong (entries t.store) t.loose (known_by t.head (s ∷ rest)) t.lists.slots.items k c → IsTurn t w s rest
first-turn t w s k rest c a is half b at list p =
    let m : mate s ≡ 2 * k + 2 = ap mate is ∙ odd k in
    record {
      slot = (omega (arith, is), omega (arith, is, b, a.checked, a.slots));
      mate_slot = (omega (arith, m), omega (arith, m, b, a.checked, a.slots), λ e. omega (arith, e, m, is));
      clause = c;
      below = omega (arith, half, b);
      at = ap (slice_get t.store.clauses) (sym half) ∙ at;
      own = p.first;
      other = p.second;
      inside_own = p.inside_first;
      inside_other = p.inside_second;
      differ = p.differ;
      list_own = sym list ∙ (ap (λ z. (slot_at t.lists.slots.items z).list) is ∙ p.list_first);
      list_other = ap (λ z. (slot_at t.lists.slots.items z).list) m ∙ p.list_second;
      guard_other = subst (λ z. Guards (entries t.store) t.loose (known_by t.head (s ∷ rest) z) p.second p.first) (sym m) p.guard_second;
    }

second-turn : (t : Watched) (w s k : ℕ) (rest : List ℕ) (c : List Lit) → AreWatched t (known_by t.head (s ∷ rest)) (s ∷ rest) → s ≡ 2 * k + 2 → k ≡ (s - 1) / 2 → k < t.checked → slice_get t.store.clauses k ≡ Some c → (slot_at t.lists.slots.items s).list ≡ w →
    IsLong (entries t.store) t.loose (known_by t.head (s ∷ rest)) t.lists.slots.items k c → IsTurn t w s rest
second-turn t w s k rest c a is half b at list p =
    let m : mate s ≡ 2 * k + 1 = ap mate is ∙ even k in
    record {
      slot = (omega (arith, is), omega (arith, is, b, a.checked, a.slots));
      mate_slot = (omega (arith, m), omega (arith, m, b, a.checked, a.slots), λ e. omega (arith, e, m, is));
      clause = c;
      below = omega (arith, half, b);
      at = ap (slice_get t.store.clauses) (sym half) ∙ at;
      own = p.second;
      other = p.first;
      inside_own = p.inside_second;
      inside_other = p.inside_first;
      differ = λ e. p.differ (sym e);
      list_own = sym list ∙ (ap (λ z. (slot_at t.lists.slots.items z).list) is ∙ p.list_second);
      list_other = ap (λ z. (slot_at t.lists.slots.items z).list) m ∙ p.list_first;
      guard_other = subst (λ z. Guards (entries t.store) t.loose (known_by t.head (s ∷ rest) z) p.first p.second) (sym m) p.guard_first;
    }

pub turn : (t : Watched) (w s : ℕ) (rest : List ℕ) → 2 ≤ w → AreWatched t (known_by t.head (s ∷ rest)) (s ∷ rest) → 1 ≤ s → s ≤ length t.lists.slots.items → (slot_at t.lists.slots.items s).list ≡ w → IsTurn t w s rest
turn t w s rest some a one high list =
    let k : ℕ = (s - 1) / 2 in
    let b : k < t.checked = elim (cases_lt k t.checked) [ inl y ↦ y | inr n ↦ absurd (omega (arith, some, list, a.rest s (omega (arith, n, slot-of s one)) high)) ] in
    let in-clauses : k < length t.store.clauses = omega (arith, b, a.checked) in
    let c : List Lit = get_or t.store.clauses k [] in
    let at : slice_get t.store.clauses k ≡ Some c = slice_get-get_or t.store.clauses k [] in-clauses in
    elim (a.kept k c b at) [
      | inl p ↦ elim (slot-of s one) [
        | inl is ↦ first-turn t w s k rest c a is refl b at list p
        | inr is ↦ second-turn t w s k rest c a is refl b at list p
      ]
      | inr q ↦ absurd (elim (slot-of s one) [
        | inl is ↦ omega (arith, some, list, ap (λ z. (slot_at t.lists.slots.items z).list) is, q.list_first)
        | inr is ↦ omega (arith, some, list, ap (λ z. (slot_at t.lists.slots.items z).list) is, q.list_second)
      ])
    ]

-- the first slot that stands apart
pub record IsFirst (t : Watched) (w : ℕ) : Type 0 where
  pub rest : List ℕ
  pub fresh : NotIn t.apart rest
  pub chain : IsChain t.lists.slots.items (slot_at t.lists.slots.items t.apart).next rest
  pub listed : (x : ℕ) → In x rest → (slot_at t.lists.slots.items x).list ≡ w
  pub watched : AreWatched t (known_by t.head (t.apart ∷ rest)) (t.apart ∷ rest)
  pub turn : IsTurn t w t.apart rest

first-by : (t : Watched) (w : ℕ) (apart : List ℕ) → 2 ≤ w → 1 ≤ t.apart → IsChain t.lists.slots.items t.apart apart → ((x : ℕ) → In x apart → (slot_at t.lists.slots.items x).list ≡ w) → AreWatched t (known_by t.head apart) apart → IsFirst t w
first-by t w [] some one c l a = absurd (omega (arith, c))
first-by t w (x ∷ rest) some one c l a =
    let is : x ≡ t.apart = sym c.0 in
    let a' : AreWatched t (known_by t.head (t.apart ∷ rest)) (t.apart ∷ rest) = subst (λ z. AreWatched t (known_by t.head (z ∷ rest)) (z ∷ rest)) is a in
    record {
      rest = rest;
      fresh = subst (λ z. NotIn z rest) is c.3;
      chain = subst (λ z. IsChain t.lists.slots.items (slot_at t.lists.slots.items z).next rest) is c.4;
      listed = λ y i. l y (in-later y x rest i);
      watched = a';
      turn = turn t w t.apart rest some a' one (omega (arith, is, c.2)) (ap (λ z. (slot_at t.lists.slots.items z).list) (sym is) ∙ l x (in-head x rest));
    }

entry-within : (t : Store) → IsSound t → (k : ℕ) → k < t.len → (1 ≤ (get_or (entries t) k no_entry).lit.var) × ((get_or (entries t) k no_entry).lit.var ≤ t.vars)
entry-within t s k b =
    let e = ap (λ z. z.lit.var) (get-take t.len t.slots.items k b) in
    let p = s.placed k b in
    (omega (arith, e, p.low), omega (arith, e, p.high))

-- a literal becomes true once
entry-once : (t : Store) → IsSound t → (j k : ℕ) → j < t.len → k < t.len → (get_or (entries t) j no_entry).lit ≡ (get_or (entries t) k no_entry).lit → j ≡ k
entry-once t s j k a b e =
    let ej = ap (λ z. z.lit.var) (get-take t.len t.slots.items j a) in
    let ek = ap (λ z. z.lit.var) (get-take t.len t.slots.items k b) in
    let same : (get_or t.slots.items j no_entry).lit.var ≡ (get_or t.slots.items k no_entry).lit.var = sym ej ∙ (ap (λ z. z.var) e ∙ ek) in
    omega (arith, (s.placed j a).place, (s.placed k b).place, ap (λ z. get_or t.places.items (z - 1) 0) same)

pub list-some : (t : Watched) (w : ℕ) → IsVisit t w → 2 ≤ w
list-some t w v =
    let i = entry-within t.store v.watched.sound t.head v.more in
    omega (arith, v.list, code-some (negated (get_or (entries t.store) t.head no_entry).lit) i.0)

pub list-within : (t : Watched) (w : ℕ) → IsVisit t w → w < length t.lists.heads.items
list-within t w v =
    let i = entry-within t.store v.watched.sound t.head v.more in
    omega (arith, v.list, v.watched.heads, code-most (negated (get_or (entries t.store) t.head no_entry).lit) t.store.vars i.1)

pub first-of : (t : Watched) (w : ℕ) → IsVisit t w → 1 ≤ t.apart → IsFirst t w
first-of t w v one = first-by t w v.apart (list-some t w v) one v.chain v.listed v.watched

-- what a slot knows, once one that stands apart is back
known-other : (h s x : ℕ) (rest : List ℕ) → x ≢ s → known_by h (s ∷ rest) x ≡ known_by h rest x
known-other h s x rest ne = rw (ne_eqb x s ne) refl

known-back : (h s : ℕ) (rest : List ℕ) → NotIn s rest → known_by h rest s ≡ h + 1
known-back h s rest n = rw n refl

known-most : (h x : ℕ) (apart : List ℕ) → known_by h apart x ≤ h + 1
known-most h x apart = elim (cases_Bool (list_any (eqb x) apart)) [ inl e ↦ rw e (omega arith) | inr e ↦ rw e (omega arith) ]

-- the new watch of a slot that goes back
pub record IsChange (t : Watched) (w to : ℕ) (rest : List ℕ) : Type 0 where
  pub clause : List Lit
  pub at : slice_get t.store.clauses ((t.apart - 1) / 2) ≡ Some clause
  pub own : Lit
  pub other : Lit
  pub inside_own : has clause own ≡ true
  pub inside_other : has clause other ≡ true
  pub differ : own ≡ other → ⊥
  pub list_own : to ≡ code own
  pub list_other : (slot_at t.lists.slots.items (mate t.apart)).list ≡ code other
  pub guard_own : Guards (entries t.store) t.loose (t.head + 1) own other
  pub guard_other : Guards (entries t.store) t.loose (known_by t.head (t.apart ∷ rest) (mate t.apart)) other own

some_same : (a b : List Lit) → Some a ≡ Some b → a ≡ b
some_same a b e = cc

own-negates : (t : Watched) (w : ℕ) (v : IsVisit t w) (own : Lit) → w ≡ code own → negated own ≡ (get_or (entries t.store) t.head no_entry).lit
own-negates t w v own e =
    let same : own ≡ negated (get_or (entries t.store) t.head no_entry).lit = code-same own _ (sym e ∙ v.list) in
    ap negated same ∙ negated-negated (get_or (entries t.store) t.head no_entry).lit

pub staying : (t : Watched) (w to : ℕ) (v : IsVisit t w) (f : IsFirst t w) → to ≡ w → IsStaying t → IsChange t w to f.rest
staying t w to v f is st =
    let u = f.turn in
    let same : st.other ≡ u.other = code-same st.other u.other (sym st.list ∙ u.list_other) in
    let neg = own-negates t w v u.own u.list_own in
    record {
      clause = u.clause;
      at = u.at;
      own = u.own;
      other = u.other;
      inside_own = u.inside_own;
      inside_other = u.inside_other;
      differ = u.differ;
      list_own = is ∙ u.list_own;
      list_other = u.list_other;
      guard_own = λ k b e.
          let k-is : k ≡ t.head = entry-once t.store v.watched.sound k t.head (omega (arith, b, v.more)) v.more (e ∙ neg) in
          subst (λ z. IsTrueBy (entries t.store) t.loose (get_or (entries t.store) z no_entry).level u.other) (sym k-is)
          (subst (λ z. IsTrueBy (entries t.store) t.loose (get_or (entries t.store) t.head no_entry).level z) same st.is);
      guard_other = u.guard_other;
    }

pub moving : (t : Watched) (w to : ℕ) (v : IsVisit t w) (f : IsFirst t w) → IsMoving t to → IsChange t w to f.rest
moving t w to v f m =
    let u = f.turn in
    let same : m.clause ≡ u.clause = some_same m.clause u.clause (sym m.at ∙ u.at) in
    let long = entries-length t.store v.watched.sound in
    let neg = own-negates t w v u.own u.list_own in
    record {
      clause = u.clause;
      at = u.at;
      own = m.own;
      other = u.other;
      inside_own = subst (λ z. has z m.own ≡ true) same m.inside;
      inside_other = u.inside_other;
      differ = λ e. m.differ (ap code e ∙ sym u.list_other);
      list_own = m.list;
      list_other = u.list_other;
      guard_own = guards-open (entries t.store) t.loose (t.head + 1) m.own u.other (omega (arith, v.more, long)) m.open_lit;
      guard_other = λ k b e.
          let (j, bj, ej, lv) = u.guard_other k b e in
          let own-true : has (truths (entries t.store)) u.own ≡ true = subst (λ z. has (truths (entries t.store)) z ≡ true) ej (truths-has (entries t.store) j bj) in
          let own-false : has (truths (entries t.store)) (negated u.own) ≡ true = subst (λ z. has (truths (entries t.store)) z ≡ true) (sym neg) (truths-has (entries t.store) t.head (omega (arith, v.more, long))) in
          absurd (consistent t.store v.watched.sound u.own own-true own-false);
    }

pub change-of : (t : Watched) (w to : ℕ) (v : IsVisit t w) (f : IsFirst t w) → IsSettled t w to → IsChange t w to f.rest
change-of t w to v f s = elim s [ inl p ↦ staying t w to v f p.0 p.1 | inr m ↦ moving t w to v f m ]

module _ (t u : Watched) (w to : ℕ) (v : IsVisit t w) (f : IsFirst t w) (ch : IsChange t w to f.rest) (new : Slot) (new-list : new.list ≡ to) (new-next : new.next ≡ get_or t.lists.heads.items to 0)
    (es : u.store ≡ t.store) (el : u.loose ≡ t.loose) (eh : u.head ≡ t.head) (en : u.checked ≡ t.checked) (ea : u.apart ≡ (slot_at t.lists.slots.items t.apart).next)
    (e-heads : u.lists.heads.items ≡ set t.lists.heads.items to t.apart) (e-slots : u.lists.slots.items ≡ set t.lists.slots.items (t.apart - 1) new) where
  low : 1 ≤ t.apart
  low = f.turn.slot.0

  high : t.apart ≤ length t.lists.slots.items
  high = f.turn.slot.1

  in-own : (1 ≤ ch.own.var) × (ch.own.var ≤ t.store.vars)
  in-own = inside-within t.store v.watched.sound ((t.apart - 1) / 2) ch.clause ch.own ch.at ch.inside_own

  to-some : 1 ≤ to
  to-some = omega (arith, ch.list_own, code-some ch.own in-own.0)

  to-in : to < length t.lists.heads.items
  to-in = omega (arith, ch.list_own, code-most ch.own t.store.vars in-own.1, v.watched.heads)

  other-slot : (x : ℕ) → 1 ≤ x → x ≢ t.apart → slot_at u.lists.slots.items x ≡ slot_at t.lists.slots.items x
  other-slot x one ne = ap (λ z. slot_at z x) e-slots ∙ set-other t.lists.slots.items t.apart x new low one ne

  own-slot : slot_at u.lists.slots.items t.apart ≡ new
  own-slot = ap (λ z. slot_at z t.apart) e-slots ∙ set-same t.lists.slots.items t.apart new low high

  chains : AreChains u.lists.heads.items u.lists.slots.items f.rest
  chains = rw (e-heads, e-slots) (put t.lists.heads.items t.lists.slots.items f.rest to t.apart low high to-some to-in f.watched.chains f.fresh new new-list new-next)

  -- the clause whose slot goes back
  own-guard : Guards (entries u.store) u.loose (known_by u.head f.rest t.apart) ch.own ch.other
  own-guard = rw (es, el, eh) (rw (known-back t.head t.apart f.rest f.fresh) ch.guard_own)

  other-guard : Guards (entries u.store) u.loose (known_by u.head f.rest (mate t.apart)) ch.other ch.own
  other-guard = rw (es, el, eh) (subst (λ z. Guards (entries t.store) t.loose z ch.other ch.own) (known-other t.head t.apart (mate t.apart) f.rest f.turn.mate_slot.2) ch.guard_other)

  own-list : (slot_at u.lists.slots.items t.apart).list ≡ code ch.own
  own-list = ap (λ z. z.list) own-slot ∙ (new-list ∙ ch.list_own)

  other-list : (slot_at u.lists.slots.items (mate t.apart)).list ≡ code ch.other
  other-list = ap (λ z. z.list) (other-slot (mate t.apart) f.turn.mate_slot.0 f.turn.mate_slot.2) ∙ ch.list_other

  long : (k : ℕ) → k ≡ (t.apart - 1) / 2 → IsLong (entries u.store) u.loose (known_by u.head f.rest) u.lists.slots.items k ch.clause
  long k half =
      elim (slot-of t.apart low) [
        | inl is ↦
            let a : 2 * k + 1 ≡ t.apart = omega (arith, half, is) in
            let m : 2 * k + 2 ≡ mate t.apart = sym (odd k) ∙ ap mate a in
            record {
              first = ch.own;
              second = ch.other;
              inside_first = ch.inside_own;
              inside_second = ch.inside_other;
              differ = ch.differ;
              list_first = ap (λ z. (slot_at u.lists.slots.items z).list) a ∙ own-list;
              list_second = ap (λ z. (slot_at u.lists.slots.items z).list) m ∙ other-list;
              guard_first = subst (λ z. Guards (entries u.store) u.loose (known_by u.head f.rest z) ch.own ch.other) (sym a) own-guard;
              guard_second = subst (λ z. Guards (entries u.store) u.loose (known_by u.head f.rest z) ch.other ch.own) (sym m) other-guard;
            }
        | inr is ↦
            let a : 2 * k + 2 ≡ t.apart = omega (arith, half, is) in
            let m : 2 * k + 1 ≡ mate t.apart = sym (even k) ∙ ap mate a in
            record {
              first = ch.other;
              second = ch.own;
              inside_first = ch.inside_other;
              inside_second = ch.inside_own;
              differ = λ e. ch.differ (sym e);
              list_first = ap (λ z. (slot_at u.lists.slots.items z).list) m ∙ other-list;
              list_second = ap (λ z. (slot_at u.lists.slots.items z).list) a ∙ own-list;
              guard_first = subst (λ z. Guards (entries u.store) u.loose (known_by u.head f.rest z) ch.other ch.own) (sym m) other-guard;
              guard_second = subst (λ z. Guards (entries u.store) u.loose (known_by u.head f.rest z) ch.own ch.other) (sym a) own-guard;
            }
      ]

  guard-kept : (x : ℕ) → x ≢ t.apart → (a b : Lit) → Guards (entries t.store) t.loose (known_by t.head (t.apart ∷ f.rest) x) a b → Guards (entries u.store) u.loose (known_by u.head f.rest x) a b
  guard-kept x ne a b h = rw (es, el, eh) (subst (λ z. Guards (entries t.store) t.loose z a b) (known-other t.head t.apart x f.rest ne) h)

  kept : (k : ℕ) (c : List Lit) → k < t.checked → slice_get t.store.clauses k ≡ Some c → IsKept (entries t.store) t.loose (known_by t.head (t.apart ∷ f.rest)) t.lists.slots.items k c → IsKept (entries u.store) u.loose (known_by u.head f.rest) u.lists.slots.items k c
  kept k c b at h =
      elim (cases_eq k ((t.apart - 1) / 2)) [
        | inl half ↦
            let same : ch.clause ≡ c = some_same ch.clause c (sym ch.at ∙ (ap (slice_get t.store.clauses) (sym half) ∙ at)) in
            inl (subst (λ z. IsLong (entries u.store) u.loose (known_by u.head f.rest) u.lists.slots.items k z) same (long k half))
        | inr ne ↦
            let ne1 : 2 * k + 1 ≢ t.apart = λ e. ne (omega (arith, e)) in
            let ne2 : 2 * k + 2 ≢ t.apart = λ e. ne (omega (arith, e)) in
            kept-change (entries t.store) (entries u.store) t.loose u.loose (known_by t.head (t.apart ∷ f.rest)) (known_by u.head f.rest) t.lists.slots.items u.lists.slots.items k c
            (λ l i. rw (es, el) i) (λ a b' e. guard-kept (2 * k + 1) ne1 a b') (λ a b' e. guard-kept (2 * k + 2) ne2 a b')
            (ap (λ z. z.list) (other-slot (2 * k + 1) (omega arith) ne1)) (ap (λ z. z.list) (other-slot (2 * k + 2) (omega arith) ne2)) h
      ]

  same-long : length u.lists.slots.items ≡ length t.lists.slots.items
  same-long = ap length e-slots ∙ length-set t.lists.slots.items (t.apart - 1) new

  rest-chain : IsChain u.lists.slots.items u.apart f.rest
  rest-chain = rw (e-slots, ea) (chain-set t.lists.slots.items t.apart (slot_at t.lists.slots.items t.apart).next new f.rest low f.fresh f.chain)

  pub settled : IsVisit u w
  settled = record {
    apart = f.rest;
    chain = rest-chain;
    listed = λ x i.
        let ne : x ≢ t.apart = λ e. in-not x f.rest i (subst (λ z. NotIn z f.rest) (sym e) f.fresh) in
        ap (λ z. z.list) (other-slot x (chain-within t.lists.slots.items (slot_at t.lists.slots.items t.apart).next f.rest x f.chain i).0 ne) ∙ f.listed x i;
    watched = rewatched t u (known_by t.head (t.apart ∷ f.rest)) (known_by u.head f.rest) (t.apart ∷ f.rest) f.rest f.watched
        (subst IsSound (sym es) v.watched.sound) (ap (λ z. z.vars) es) (ap (λ z. z.clauses) es) (ap length e-heads ∙ length-set t.lists.heads.items to t.apart) same-long
        (omega (arith, eh, ap (λ z. z.len) es, v.watched.head)) en chains kept
        (λ x a b. ap (λ z. z.list) (other-slot x (omega (arith, a)) (λ e. omega (arith, a, e, f.turn.below))));
    more = omega (arith, eh, ap (λ z. z.len) es, v.more);
    list = v.list ∙ (ap (λ z. code (negated (get_or (entries z) t.head no_entry).lit)) (sym es) ∙ ap (λ z. code (negated (get_or (entries u.store) z no_entry).lit)) (sym eh));
    level = λ l. rw (es, eh) (v.level (sym el ∙ l));
  }

  pub settled-less : left u + 1 ≡ left t
  settled-less =
      let first : IsChain t.lists.slots.items t.apart (t.apart ∷ f.rest) = (refl, low, high, f.fresh, f.chain) in
      omega (arith, steps-all t.lists.slots.items t.apart (t.apart ∷ f.rest) first, steps-all u.lists.slots.items u.apart f.rest rest-chain)

known-least : (h x : ℕ) (apart : List ℕ) → h ≤ known_by h apart x
known-least h x apart = elim (cases_Bool (list_any (eqb x) apart)) [ inl e ↦ rw e (omega arith) | inr e ↦ rw e (omega arith) ]

slot-by : (t : Watched) (apart : List ℕ) → IsChain t.lists.slots.items t.apart apart → 1 ≤ t.apart → t.apart ≤ length t.lists.slots.items
slot-by t [] c one = absurd (omega (arith, c))
slot-by t (x ∷ xs) c one = omega (arith, c.0, c.2)

-- slots that stand apart know less
pub apart-of : (t : Watched) (w : ℕ) → IsVisit t w → IsApart t w
apart-of t w v = record {
  apart = v.apart;
  chain = v.chain;
  listed = v.listed;
  watched = rewatched t t (known_by t.head v.apart) (λ x. t.head) v.apart v.apart v.watched v.watched.sound refl refl refl refl v.watched.head refl v.watched.chains
      (λ k c b at. kept-change (entries t.store) (entries t.store) t.loose t.loose (known_by t.head v.apart) (λ x. t.head) t.lists.slots.items t.lists.slots.items k c (λ l i. i)
      (λ a b' e. guards-fewer (entries t.store) t.loose t.head (known_by t.head v.apart (2 * k + 1)) a b' (known-least t.head (2 * k + 1) v.apart))
      (λ a b' e. guards-fewer (entries t.store) t.loose t.head (known_by t.head v.apart (2 * k + 2)) a b' (known-least t.head (2 * k + 2) v.apart)) refl refl)
      (λ x a b. refl);
  some = list-some t w v;
  within = list-within t w v;
}

-- the first slot that stands apart goes back
module _ (t u : Watched) (w s : ℕ) (rest : List ℕ) (is : t.apart ≡ s) (low : 1 ≤ s) (high : s ≤ length t.lists.slots.items) (fresh : NotIn s rest) (chain : IsChain t.lists.slots.items (slot_at t.lists.slots.items s).next rest)
    (listed : (x : ℕ) → In x rest → (slot_at t.lists.slots.items x).list ≡ w) (own : (slot_at t.lists.slots.items s).list ≡ w) (a : AreWatched t (λ x. t.head) (s ∷ rest)) (some : 2 ≤ w) (within : w < length t.lists.heads.items)
    (new : Slot) (new-list : new.list ≡ w) (new-next : new.next ≡ get_or t.lists.heads.items w 0)
    (es : u.store ≡ t.store) (el : u.loose ≡ t.loose) (eh : u.head ≡ t.head) (en : u.checked ≡ t.checked) (ea : u.apart ≡ (slot_at t.lists.slots.items s).next)
    (e-heads : u.lists.heads.items ≡ set t.lists.heads.items w s) (e-slots : u.lists.slots.items ≡ set t.lists.slots.items (s - 1) new) where
  back-other : (x : ℕ) → 1 ≤ x → x ≢ s → slot_at u.lists.slots.items x ≡ slot_at t.lists.slots.items x
  back-other x one ne = ap (λ z. slot_at z x) e-slots ∙ set-other t.lists.slots.items s x new low one ne

  back-list : (x : ℕ) → 1 ≤ x → (slot_at u.lists.slots.items x).list ≡ (slot_at t.lists.slots.items x).list
  back-list x one =
      elim (cases_eq x s) [
        | inl e ↦ ap (λ z. (slot_at u.lists.slots.items z).list) e ∙ (ap (λ z. (slot_at z s).list) e-slots ∙ (ap (λ z. z.list) (set-same t.lists.slots.items s new low high) ∙ (new-list ∙ (sym own ∙ ap (λ z. (slot_at t.lists.slots.items z).list) (sym e)))))
        | inr ne ↦ ap (λ z. z.list) (back-other x one ne)
      ]

  back-chain : IsChain u.lists.slots.items u.apart rest
  back-chain = rw (e-slots, ea) (chain-set t.lists.slots.items s (slot_at t.lists.slots.items s).next new rest low fresh chain)

  back-apart : IsApart u w
  back-apart = record {
    apart = rest;
    chain = back-chain;
    listed = λ x i. back-list x (chain-within t.lists.slots.items (slot_at t.lists.slots.items s).next rest x chain i).0 ∙ listed x i;
    watched = rewatched t u (λ x. t.head) (λ x. u.head) (s ∷ rest) rest a (subst IsSound (sym es) a.sound) (ap (λ z. z.vars) es) (ap (λ z. z.clauses) es)
        (ap length e-heads ∙ length-set t.lists.heads.items w s) (ap length e-slots ∙ length-set t.lists.slots.items (s - 1) new) (omega (arith, eh, ap (λ z. z.len) es, a.head)) en
        (rw (e-heads, e-slots) (put t.lists.heads.items t.lists.slots.items rest w s low high (omega arith) within a.chains fresh new new-list new-next))
        (λ k c b at. kept-change (entries t.store) (entries u.store) t.loose u.loose (λ x. t.head) (λ x. u.head) t.lists.slots.items u.lists.slots.items k c
        (λ l i. rw (es, el) i) (λ p q e i. rw (es, el, eh) i) (λ p q e i. rw (es, el, eh) i) (back-list (2 * k + 1) (omega arith)) (back-list (2 * k + 2) (omega arith)))
        (λ x p q. back-list x (omega (arith, p)));
    some = some;
    within = omega (arith, within, ap length e-heads, length-set t.lists.heads.items w s);
  }

  back-less : left u + 1 ≡ left t
  back-less =
      let first : IsChain t.lists.slots.items s (s ∷ rest) = (refl, low, high, fresh, chain) in
      omega (arith, ap (λ z. steps (length t.lists.slots.items + 1) t.lists.slots.items z) is, steps-all t.lists.slots.items s (s ∷ rest) first, steps-all u.lists.slots.items u.apart rest back-chain)

-- one step of putting slots back
pub record IsBack (t u : Watched) (w : ℕ) : Type 0 where
  pub apart : IsApart u w
  pub less : left u + 1 ≡ left t

back-by : (t u : Watched) (w : ℕ) (apart : List ℕ) → 1 ≤ t.apart → IsChain t.lists.slots.items t.apart apart → ((x : ℕ) → In x apart → (slot_at t.lists.slots.items x).list ≡ w) → AreWatched t (λ x. t.head) apart → 2 ≤ w → w < length t.lists.heads.items →
    (new : Slot) → new.list ≡ w → new.next ≡ get_or t.lists.heads.items w 0 → u.store ≡ t.store → u.loose ≡ t.loose → u.head ≡ t.head → u.checked ≡ t.checked → u.apart ≡ (slot_at t.lists.slots.items t.apart).next →
    u.lists.heads.items ≡ set t.lists.heads.items w t.apart → u.lists.slots.items ≡ set t.lists.slots.items (t.apart - 1) new → IsBack t u w
back-by t u w [] one c l a some within new nl nn es el eh en ea e-heads e-slots = absurd (omega (arith, c))
back-by t u w (x ∷ rest) one c l a some within new nl nn es el eh en ea e-heads e-slots =
    let is : t.apart ≡ x = c.0 in
    let ea' = ea ∙ ap (λ z. (slot_at t.lists.slots.items z).next) is in
    let e-heads' = e-heads ∙ ap (λ z. set t.lists.heads.items w z) is in
    let e-slots' = e-slots ∙ ap (λ z. set t.lists.slots.items (z - 1) new) is in
    record {
      apart = back-apart t u w x rest is c.1 c.2 c.3 c.4 (λ y i. l y (in-later y x rest i)) (l x (in-head x rest)) a some within new nl nn es el eh en ea' e-heads' e-slots';
      less = back-less t u w x rest is c.1 c.2 c.3 c.4 (λ y i. l y (in-later y x rest i)) (l x (in-head x rest)) a some within new nl nn es el eh en ea' e-heads' e-slots';
    }

pub back : (t u : Watched) (w : ℕ) (v : IsApart t w) → 1 ≤ t.apart → (new : Slot) → new.list ≡ w → new.next ≡ get_or t.lists.heads.items w 0 → u.store ≡ t.store → u.loose ≡ t.loose → u.head ≡ t.head → u.checked ≡ t.checked → u.apart ≡ (slot_at t.lists.slots.items t.apart).next →
    u.lists.heads.items ≡ set t.lists.heads.items w t.apart → u.lists.slots.items ≡ set t.lists.slots.items (t.apart - 1) new → IsBack t u w
back t u w v one = back-by t u w v.apart one v.chain v.listed v.watched v.some v.within

none-apart : (ss : List Slot) (h : ℕ) (xs : List ℕ) → IsChain ss h xs → h ≡ 0 → xs ≡ []
none-apart ss h [] c z = refl
none-apart ss h (x ∷ xs) c z = absurd (omega (arith, c.0, c.1))

-- all slots are back
pub all-back : (t : Watched) (w : ℕ) → IsApart t w → t.apart ≡ 0 → IsWatched t
all-back t w v z = subst (λ xs. AreWatched t (λ x. t.head) xs) (none-apart t.lists.slots.items t.apart v.apart v.chain z) v.watched

pub apart-slot : (t : Watched) (w : ℕ) → IsApart t w → 1 ≤ t.apart → t.apart ≤ length t.lists.slots.items
apart-slot t w v one = slot-by t v.apart v.chain one

-- more literals become true while slots stand apart
pub grown-visit : (t u : Watched) (w : ℕ) → IsVisit t w → IsGrown t.store u.store → u.lists ≡ t.lists → u.head ≡ t.head → u.checked ≡ t.checked → u.loose ≡ t.loose → u.apart ≡ t.apart → IsVisit u w
grown-visit t u w v g el eh en eo ea =
    let (es, ee, lv, fo) = g.forced in
    let here : get_or (entries u.store) u.head no_entry ≡ get_or (entries t.store) t.head no_entry =
    ap (λ z. get_or (entries u.store) z no_entry) eh ∙ (ap (λ z. get_or z t.head no_entry) ee ∙ get_or_append_left (entries t.store) es no_entry t.head (omega (arith, v.more, entries-length t.store v.watched.sound))) in
    let grown = grown-watched t u (known_by t.head v.apart) v.apart v.watched (λ x. omega (arith, known-most t.head x v.apart, v.more)) g el eh en (λ f. sym eo ∙ f) in
    record {
      apart = v.apart;
      chain = rw (el, ea) v.chain;
      listed = λ x i. ap (λ z. (slot_at z.slots.items x).list) el ∙ v.listed x i;
      watched = subst (λ z. AreWatched u (known_by z v.apart) v.apart) (sym eh) grown;
      more = omega (arith, eh, v.more, g.more);
      list = v.list ∙ ap (λ z. code (negated z.lit)) (sym here);
      level = λ f. omega (arith, lv, v.level (sym eo ∙ f), ap (λ z. z.level) here);
    }

-- what was not found
pub none-found : (t c : List Lit) (but : ℕ) (o : Option Lit) → ((l : Lit) → o ≡ Some l → ⊥) → IsOpenBut t c but o → IsOpenBut t c but None
none-found t c but None n h = h
none-found t c but (Some l) n h = absurd (n l refl)

-- the slots of the next true literal's negation come off their list
module _ (t u : Watched) (w : ℕ) (a : IsWatched t) (more : t.head < t.store.len) (is : w ≡ code (negated (get_or (entries t.store) t.head no_entry).lit))
    (es : u.store ≡ t.store) (lo : u.loose ≡ false → (t.loose ≡ false) × (t.store.level ≤ (get_or (entries t.store) t.head no_entry).level)) (eh : u.head ≡ t.head) (en : u.checked ≡ t.checked)
    (ea : u.apart ≡ get_or t.lists.heads.items w 0) (e-heads : u.lists.heads.items ≡ set t.lists.heads.items w 0) (e-slots : u.lists.slots.items ≡ t.lists.slots.items) where
  head-within : (1 ≤ (get_or (entries t.store) t.head no_entry).lit.var) × ((get_or (entries t.store) t.head no_entry).lit.var ≤ t.store.vars)
  head-within = entry-within t.store a.sound t.head more

  w-some : 1 ≤ w
  w-some = omega (arith, is, code-some (negated (get_or (entries t.store) t.head no_entry).lit) head-within.0)

  w-in : w < length t.lists.heads.items
  w-in = omega (arith, is, a.heads, code-most (negated (get_or (entries t.store) t.head no_entry).lit) t.store.vars head-within.1)

  d : HasDetached (set t.lists.heads.items w 0) t.lists.slots.items w (get_or t.lists.heads.items w 0)
  d = detached t.lists.heads.items t.lists.slots.items w w-some w-in a.chains

  -- a slot that is left knows the next true literal, which isn't its watch's negation
  left-guard : (x : ℕ) → 1 ≤ x → x ≤ length t.lists.slots.items → NotIn x d.apart → (p q : Lit) → code p ≡ (slot_at t.lists.slots.items x).list → Guards (entries t.store) t.loose t.head p q → Guards (entries t.store) t.loose (t.head + 1) p q
  left-guard x one high out p q e g = λ k b neg.
      elim (cases_eq k t.head) [
        | inr ne ↦ g k (omega (arith, b, ne)) neg
        | inl here ↦
            let lit-is : (get_or (entries t.store) t.head no_entry).lit ≡ negated p = ap (λ z. (get_or (entries t.store) z no_entry).lit) (sym here) ∙ neg in
            let list-is : (slot_at t.lists.slots.items x).list ≡ w = sym e ∙ (ap code (sym (negated-negated p)) ∙ (ap (λ z. code (negated z)) (sym lit-is) ∙ sym is)) in
            absurd (in-not x d.apart (d.all x one high list-is) out)
      ]

  guard-at : (x : ℕ) → 1 ≤ x → x ≤ length t.lists.slots.items → (p q : Lit) → code p ≡ (slot_at t.lists.slots.items x).list → Guards (entries t.store) t.loose t.head p q → Guards (entries u.store) u.loose (known_by t.head d.apart x) p q
  guard-at x one high p q e g =
      let looser : (n : ℕ) → Guards (entries t.store) t.loose n p q → Guards (entries u.store) u.loose n p q = λ n h. rw es (guards-looser (entries t.store) t.loose u.loose n p q (λ f. (lo f).0) h) in
      elim (cases_Bool (list_any (eqb x) d.apart)) [
        | inl i ↦ rw i (looser t.head g)
        | inr out ↦ rw out (looser (t.head + 1) (left-guard x one high out p q e g))
      ]

  pub detached-visit : IsVisit u w
  detached-visit = record {
    apart = d.apart;
    chain = subst (λ z. IsChain u.lists.slots.items z d.apart) (sym ea) (subst (λ z. IsChain z (get_or t.lists.heads.items w 0) d.apart) (sym e-slots) d.chain);
    listed = λ x i. ap (λ z. (slot_at z x).list) e-slots ∙ d.within x i;
    watched = subst (λ z. AreWatched u (known_by z d.apart) d.apart) (sym eh) (rewatched t u (λ x. t.head) (known_by t.head d.apart) [] d.apart a
        (subst IsSound (sym es) a.sound) (ap (λ z. z.vars) es) (ap (λ z. z.clauses) es) (ap length e-heads ∙ length-set t.lists.heads.items w 0) (ap length e-slots)
        (omega (arith, eh, ap (λ z. z.len) es, a.head)) en (subst (λ z. AreChains z u.lists.slots.items d.apart) (sym e-heads) (subst (λ z. AreChains (set t.lists.heads.items w 0) z d.apart) (sym e-slots) d.others))
        (λ k c b at. kept-change (entries t.store) (entries u.store) t.loose u.loose (λ x. t.head) (known_by t.head d.apart) t.lists.slots.items u.lists.slots.items k c
        (λ l i. rw es (true-looser (entries t.store) t.loose u.loose 0 l (λ f. (lo f).0) i))
        (λ p q e. guard-at (2 * k + 1) (omega arith) (omega (arith, b, a.checked, a.slots)) p q e) (λ p q e. guard-at (2 * k + 2) (omega arith) (omega (arith, b, a.checked, a.slots)) p q e)
        (ap (λ z. (slot_at z (2 * k + 1)).list) e-slots) (ap (λ z. (slot_at z (2 * k + 2)).list) e-slots))
        (λ x p q. ap (λ z. (slot_at z x).list) e-slots));
    more = omega (arith, eh, ap (λ z. z.len) es, more);
    list = is ∙ (ap (λ z. code (negated (get_or (entries z) t.head no_entry).lit)) (sym es) ∙ ap (λ z. code (negated (get_or (entries u.store) z no_entry).lit)) (sym eh));
    level = λ f. rw (es, eh) (lo f).1;
  }

-- all slots of the list are gone through
pub advanced : (t u : Watched) (w : ℕ) → IsVisit t w → t.apart ≡ 0 → u.store ≡ t.store → u.lists ≡ t.lists → u.loose ≡ t.loose → u.checked ≡ t.checked → u.head ≡ t.head + 1 → IsWatched u
advanced t u w v z es el eo en eh =
    let a : AreWatched t (known_by t.head []) [] = subst (λ xs. AreWatched t (known_by t.head xs) xs) (none-apart t.lists.slots.items t.apart v.apart v.chain z) v.watched in
    rewatched t u (known_by t.head []) (λ x. u.head) [] [] a (subst IsSound (sym es) a.sound) (ap (λ z. z.vars) es) (ap (λ z. z.clauses) es) (ap (λ z. length z.heads.items) el) (ap (λ z. length z.slots.items) el)
    (omega (arith, eh, ap (λ z. z.len) es, v.more)) en (subst (λ z. AreChains z.heads.items z.slots.items []) (sym el) a.chains)
    (λ k c b at. kept-change (entries t.store) (entries u.store) t.loose u.loose (known_by t.head []) (λ x. u.head) t.lists.slots.items u.lists.slots.items k c
    (λ l i. rw (es, eo) i) (λ p q e i. rw (es, eo, eh) i) (λ p q e i. rw (es, eo, eh) i) (ap (λ z. (slot_at z.slots.items (2 * k + 1)).list) el) (ap (λ z. (slot_at z.slots.items (2 * k + 2)).list) el))
    (λ x p q. ap (λ z. (slot_at z.slots.items x).list) el)
