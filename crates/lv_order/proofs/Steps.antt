-- Each step keeps what the walk keeps.
use Rattle.std.proofs.Common.{◌≡◌, ℕ, ◌+◌, ◌<◌, ◌≤◌, true, false, List, [], ◌∷◌, ◌++◌, take, length, get_or, set, replicate, refl, ap, sym, subst, ◌∙◌, inl, inr, arith}
use Rattle.std.proofs.lemmas.Bool.{true≢false, cases_eq, cases_lt, lt-ltb, le-ltb, false_from_ne_true}
use Rattle.std.proofs.lemmas.List.{length-set, length-replicate, get_or-replicate, get_or-set_same, get_or-set_other, get_or_past}
use Rattle.std.proofs.lemmas.List.{length_push, get_or_append_left, get_or_push, take-append-le, take_at, same_from_push}
use Rattle.lv_order.specs.declared.walk.State.{State}
use Rattle.lv_order.specs.declared.walk.State.TheVariants.{New, Open, Done}
use Rattle.lv_order.specs.Graphs.{Graph, has, edges_of, goes, are_distinct, leads, IsSorted}
use Rattle.lv_order.specs.Walks.{state_at, is_new, is_open, is_done, looked, IsWalk}
use Rattle.lv_order.proofs.Lists.{has_at, has_pushed, has_other, has_more, last_is, last_apart, distinct_push, distinct_front}
use Rattle.lv_order.proofs.Chains.{leads_push, leads_front}
use Rattle.lv_order.proofs.Ranks.{acyclic}

-- ---- states

-- a vertex that isn't new is one of the graph
pub known_within : (ss : List State) (v : ℕ) → is_new (state_at ss v) ≡ false → v < length ss
known_within ss v h = elim (cases_lt v (length ss)) [
  | inl l ↦ l
  | inr g ↦ absurd (true≢false (ap is_new (sym (get_or_past ss v New g)) ∙ h))
]

pub open-known : (s : State) → is_open s ≡ true → is_new s ≡ false
open-known New h = absurd (true≢false (sym h))
open-known (Open i) h = refl
open-known Done h = absurd (true≢false (sym h))

pub open-undone : (s : State) → is_open s ≡ true → is_done s ≡ false
open-undone New h = refl
open-undone (Open i) h = refl
open-undone Done h = absurd (true≢false (sym h))

done-unfresh : (s : State) → is_done s ≡ true → is_new s ≡ false
done-unfresh New h = absurd (true≢false (sym h))
done-unfresh (Open i) h = refl
done-unfresh Done h = refl

pub empty-pushed : (front : List ℕ) (v : ℕ) → [] ≡ front ++ v ∷ [] → ⊥
empty-pushed front v e = let s : length (front ++ v ∷ []) ≡ length front + 1 = length_push front v in let t : 0 ≡ length (front ++ v ∷ []) = ap length e in omega arith

pub done-known : (s : State) → is_new s ≡ false → is_open s ≡ false → is_done s ≡ true
done-known New h k = absurd (true≢false h)
done-known (Open i) h k = absurd (true≢false k)
done-known Done h k = refl

-- what is so of the new state at v, and of the old ones elsewhere
by_state : (P : ℕ → State → Type 0) (ss : List State) (v : ℕ) (x : State) → v < length ss → P v x → ((w : ℕ) → (w ≡ v → ⊥) → P w (state_at ss w))
    → (w : ℕ) → P w (state_at (set ss v x) w)
by_state P ss v x h p q w = elim (cases_eq w v) [
  | inl e ↦ subst (λ z. P z (state_at (set ss v x) z)) (sym e) (subst (P v) (sym (get_or-set_same ss v x New h)) p)
  | inr ne ↦ subst (P w) (sym (get_or-set_other ss v w x New ne)) (q w ne)
]

-- ---- a walk begins

state-fresh : (n v : ℕ) → state_at (replicate n New) v ≡ New
state-fresh n v = elim (cases_lt v n) [
  | inl l ↦ get_or-replicate n v New New l
  | inr g ↦ get_or_past (replicate n New) v New (rw length-replicate g)
]

pub begun-walk : (E : Graph) (n : ℕ) → n ≡ length E → IsWalk E (replicate n New) [] [] 0
begun-walk E n e = record {
  size = length-replicate n New ∙ e;
  opened = λ v. sym (ap is_open (state-fresh n v));
  closed = λ v. sym (ap is_done (state-fresh n v));
  followed = λ v k l. absurd (let l' : k < 0 = subst (λ s. k < looked s) (state-fresh n v) l in omega arith);
  joined = λ front v e. absurd (empty-pushed front v e);
  apart = refl;
  once = refl;
  behind = λ i w l. absurd (omega arith);
  within = omega arith;
  rooted = λ v l. absurd (omega arith);
}

-- ---- a vertex is opened

opened-joined : (E : Graph) (path : List ℕ) (v : ℕ) → ((front : List ℕ) (u : ℕ) → path ≡ front ++ u ∷ [] → leads E u front ≡ true)
    → ((front : List ℕ) (u : ℕ) → path ≡ front ++ u ∷ [] → goes E u v ≡ true) → leads E v path ≡ true
opened-joined E [] v h g = refl
opened-joined E (x ∷ xs) v h g =
    let e : x ∷ xs ≡ take (length xs) (x ∷ xs) ++ get_or (x ∷ xs) (length xs) 0 ∷ [] = last_is (x ∷ xs) (length xs) 0 refl in
    ap (leads E v) e ∙ leads_push E (get_or (x ∷ xs) (length xs) 0) v (take (length xs) (x ∷ xs))
    (h (take (length xs) (x ∷ xs)) (get_or (x ∷ xs) (length xs) 0) e) (g (take (length xs) (x ∷ xs)) (get_or (x ∷ xs) (length xs) 0) e)

pub opened-walk : (E : Graph) (ss : List State) (path list : List ℕ) (root v : ℕ) → v < length ss → state_at ss v ≡ New
    → ((front : List ℕ) (u : ℕ) → path ≡ front ++ u ∷ [] → goes E u v ≡ true)
    → IsWalk E ss path list root → IsWalk E (set ss v (Open 0)) (path ++ v ∷ []) list root
opened-walk E ss path list root v l n g h = record {
  size = length-set ss v (Open 0) ∙ h.size;
  opened = by_state (λ w s. has (path ++ v ∷ []) w ≡ is_open s) ss v (Open 0) l (has_pushed path v) (λ w ne. has_other path v w ne ∙ h.opened w);
  closed = by_state (λ w s. has list w ≡ is_done s) ss v (Open 0) l (h.closed v ∙ ap is_done n) (λ w ne. h.closed w);
  followed = by_state (λ w s. (k : ℕ) → k < looked s → has list (get_or (edges_of E w) k 0) ≡ true) ss v (Open 0) l (λ k p. absurd (omega arith)) (λ w ne. h.followed w);
  joined = λ front u e.
      let s : (path ≡ front) × (v ≡ u) = same_from_push path front v u e in
      subst (λ z. leads E z front ≡ true) s.1 (subst (λ z. leads E v z ≡ true) s.0 (opened-joined E path v h.joined g));
  apart = distinct_push path v h.apart (h.opened v ∙ ap is_open n);
  once = h.once;
  behind = h.behind;
  within = h.within;
  rooted = by_state (λ w s. w < root → is_new s ≡ false) ss v (Open 0) l (λ p. refl) (λ w ne. h.rooted w);
}

-- ---- the last vertex of the path is done

behind-push : (E : Graph) (list : List ℕ) (v : ℕ)
    → ((i w : ℕ) → i < length list → goes E (get_or list i 0) w ≡ true → has (take i list) w ≡ true)
    → ((w : ℕ) → goes E v w ≡ true → has list w ≡ true)
    → (i w : ℕ) → i < length (list ++ v ∷ []) → goes E (get_or (list ++ v ∷ []) i 0) w ≡ true → has (take i (list ++ v ∷ [])) w ≡ true
behind-push E list v h g i w l e = elim (cases_lt i (length list)) [
  | inl a ↦
      ap (λ z. has z w) (take-append-le i list (v ∷ []) (omega arith)) ∙
      h i w a (subst (λ z. goes E z w ≡ true) (get_or_append_left list (v ∷ []) 0 i a) e)
  | inr b ↦
      let m : length list ≡ i = let s : length (list ++ v ∷ []) ≡ length list + 1 = length_push list v in omega arith in
      ap (λ z. has z w) (take_at list (v ∷ []) i m) ∙ g w (subst (λ z. goes E z w ≡ true) (get_or_push list v 0 i m) e)
]

all-followed : (E : Graph) (list : List ℕ) (v n : ℕ) → ((k : ℕ) → k < n → has list (get_or (edges_of E v) k 0) ≡ true) → length (edges_of E v) ≤ n
    → (w : ℕ) → goes E v w ≡ true → has list w ≡ true
all-followed E list v n h l w e =
    let t : (k : ℕ) × (k < length (edges_of E v)) × (get_or (edges_of E v) k 0 ≡ w) = has_at (edges_of E v) w e in
    let a : t.0 < length (edges_of E v) = t.1 in
    subst (λ z. has list z ≡ true) t.2 (h t.0 (omega arith))

pub closed-walk : (E : Graph) (ss : List State) (path list : List ℕ) (root v : ℕ) (front : List ℕ) → v < length ss → path ≡ front ++ v ∷ []
    → length (edges_of E v) ≤ looked (state_at ss v)
    → IsWalk E ss path list root → IsWalk E (set ss v Done) front (list ++ v ∷ []) root
closed-walk E ss path list root v front l e n h =
    let on : has path v ≡ true = ap (λ z. has z v) e ∙ has_pushed front v in
    let d : are_distinct (front ++ v ∷ []) ≡ true = ap are_distinct (sym e) ∙ h.apart in
    record {
      size = length-set ss v Done ∙ h.size;
      opened = by_state (λ w s. has front w ≡ is_open s) ss v Done l (last_apart front v d)
          (λ w ne. sym (has_other front v w ne) ∙ (ap (λ z. has z w) (sym e) ∙ h.opened w));
      closed = by_state (λ w s. has (list ++ v ∷ []) w ≡ is_done s) ss v Done l (has_pushed list v) (λ w ne. has_other list v w ne ∙ h.closed w);
      followed = by_state (λ w s. (k : ℕ) → k < looked s → has (list ++ v ∷ []) (get_or (edges_of E w) k 0) ≡ true) ss v Done l
          (λ k p. absurd (omega arith)) (λ w ne k p. has_more list (v ∷ []) (get_or (edges_of E w) k 0) (h.followed w k p));
      joined = λ f u q. leads_front E u v f (ap (leads E v) (sym q) ∙ h.joined front v e);
      apart = distinct_front front (v ∷ []) d;
      once = distinct_push list v h.once (h.closed v ∙ open-undone (state_at ss v) (sym (h.opened v) ∙ on));
      behind = behind-push E list v h.behind (all-followed E list v (looked (state_at ss v)) (h.followed v) n);
      within = h.within;
      rooted = by_state (λ w s. w < root → is_new s ≡ false) ss v Done l (λ p. refl) (λ w ne. h.rooted w);
    }

-- ---- an edge has been followed

one-more : (P : ℕ → Type 0) (i : ℕ) → ((k : ℕ) → k < i → P k) → P i → (k : ℕ) → k < i + 1 → P k
one-more P i h p k l = elim (cases_eq k i) [ inl e ↦ subst P (sym e) p | inr ne ↦ h k (omega arith) ]

pub followed-walk : (E : Graph) (ss : List State) (path list : List ℕ) (root v i : ℕ) → v < length ss → looked (state_at ss v) ≡ i
    → is_open (state_at ss v) ≡ true → has list (get_or (edges_of E v) i 0) ≡ true
    → IsWalk E ss path list root → IsWalk E (set ss v (Open (i + 1))) path list root
followed-walk E ss path list root v i l n o g h = record {
  size = length-set ss v (Open (i + 1)) ∙ h.size;
  opened = by_state (λ w s. has path w ≡ is_open s) ss v (Open (i + 1)) l (h.opened v ∙ o) (λ w ne. h.opened w);
  closed = by_state (λ w s. has list w ≡ is_done s) ss v (Open (i + 1)) l (h.closed v ∙ open-undone (state_at ss v) o) (λ w ne. h.closed w);
  followed = by_state (λ w s. (k : ℕ) → k < looked s → has list (get_or (edges_of E w) k 0) ≡ true) ss v (Open (i + 1)) l
      (one-more (λ k. has list (get_or (edges_of E v) k 0) ≡ true) i (λ k p. h.followed v k (let q : looked (state_at ss v) ≡ i = n in omega arith)) g)
      (λ w ne. h.followed w);
  joined = h.joined;
  apart = h.apart;
  once = h.once;
  behind = h.behind;
  within = h.within;
  rooted = by_state (λ w s. w < root → is_new s ≡ false) ss v (Open (i + 1)) l (λ p. refl) (λ w ne. h.rooted w);
}

-- ---- the next vertex to begin at

pub rooted-walk : (E : Graph) (ss : List State) (path list : List ℕ) (root : ℕ) → root < length E → is_new (state_at ss root) ≡ false
    → IsWalk E ss path list root → IsWalk E ss path list (root + 1)
rooted-walk E ss path list root l n h = record {
  size = h.size;
  opened = h.opened;
  closed = h.closed;
  followed = h.followed;
  joined = h.joined;
  apart = h.apart;
  once = h.once;
  behind = h.behind;
  within = omega arith;
  rooted = one-more (λ v. is_new (state_at ss v) ≡ false) root h.rooted n;
}

-- ---- all is done

over-has : (E : Graph) (ss : List State) (path list : List ℕ) (root : ℕ) → IsWalk E ss path list root → path ≡ [] → length E ≤ root
    → (v : ℕ) → v < length E → has list v ≡ true
over-has E ss path list root h e n v l =
    h.closed v ∙ done-known (state_at ss v) (h.rooted v (omega arith)) (sym (h.opened v) ∙ ap (λ z. has z v) e)

listed-within : (E : Graph) (ss : List State) (path list : List ℕ) (root v : ℕ) → IsWalk E ss path list root → has list v ≡ true → v < length E
listed-within E ss path list root v h d =
    let l : v < length ss = known_within ss v (done-unfresh (state_at ss v) (sym (h.closed v) ∙ d)) in
    let s : length ss ≡ length E = h.size in
    omega arith

pub over-sorted : (E : Graph) (ss : List State) (path list : List ℕ) (root : ℕ) → IsWalk E ss path list root → path ≡ [] → length E ≤ root → IsSorted E list
over-sorted E ss path list root h e n = record {
  whole = λ v. elim (cases_lt v (length E)) [
    | inl l ↦ over-has E ss path list root h e n v l ∙ sym (lt-ltb v (length E) l)
    | inr g ↦ false_from_ne_true (has list v) (λ k. let l : v < length E = listed-within E ss path list root v h k in omega arith) ∙ sym (le-ltb v (length E) g)
  ];
  once = h.once;
  behind = h.behind;
  acyclic = λ ks. acyclic E list ks (over-has E ss path list root h e n) h.behind;
}
