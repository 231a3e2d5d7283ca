-- Graphs whose vertices are parts and hubs: a part reads what another drives where it has an edge to it, or to a hub that has one.
use Rattle.std.proofs.Common.{◌≡◌, ◌⊎◌, ℕ, zero, suc, ◌+◌, ◌-◌, ◌<◌, ◌≤◌, Bool, true, false, not, ◌==◌}
use Rattle.std.proofs.Common.{cond, List, [], ◌∷◌, length, take, refl, ap, sym, subst, ◌∙◌, inl, inr, arith, Some}
use Rattle.std.specs.Prelude.{filter, slice_get, nat_lt}
use Rattle.std.proofs.lemmas.Bool.{true≢false, cases_lt, eqb-true, eq-eqb, lt-ltb, le-ltb, and_parts, and_from, or_cases, or_left, or_right, not-true}
use Rattle.std.proofs.lemmas.List.{get_or_past}
use Rattle.std.proofs.lemmas.Option.{slice_get_within, get_or_from_slice_get}
use Rattle.lv_order.specs.Graphs.{Graph, has, edges_of, goes, are_distinct, leads, IsSorted}
use Rattle.lv_schedule.specs.Hubs.{Hubs, reaches, steps_to, IsHubGraph, is_chain}

same : (a : Bool) → a ≡ true → a ≡ false → ⊥
same a h k = true≢false (sym h ∙ k)

-- ---- places in lists

pub record IsPlaced (xs : List ℕ) (n v : ℕ) : Type 0 where
  pub at : ℕ
  pub below : at < n
  pub there : slice_get xs at ≡ Some v

placed : (xs : List ℕ) (v : ℕ) → has xs v ≡ true → (k : ℕ) × (slice_get xs k ≡ Some v)
placed [] v h = absurd (true≢false (sym h))
placed (x ∷ xs) v h = elim (or_cases (x == v) (has xs v) h) [
  | inl e ↦ (0, ap (λ z. Some z) (eqb-true x v e))
  | inr r ↦ let t : (k : ℕ) × (slice_get xs k ≡ Some v) = placed xs v r in (suc t.0, t.1)
]

placed_before : (xs : List ℕ) (n v : ℕ) → has (take n xs) v ≡ true → IsPlaced xs n v
placed_before xs zero v h = absurd (true≢false (sym h))
placed_before [] (suc n) v h = absurd (true≢false (sym h))
placed_before (x ∷ xs) (suc n) v h = elim (or_cases (x == v) (has (take n xs) v) h) [
  | inl e ↦ record { at = 0; below = omega arith; there = ap (λ z. Some z) (eqb-true x v e) }
  | inr r ↦ let t : IsPlaced xs n v = placed_before xs n v r in let l : t.at < n = t.below in record { at = suc t.at; below = omega arith; there = t.there }
]

has_placed : (xs : List ℕ) (k v : ℕ) → slice_get xs k ≡ Some v → has xs v ≡ true
has_placed [] k v e = cc
has_placed (x ∷ xs) zero v e = or_left (x == v) (has xs v) (let q : x ≡ v = cc in eq-eqb x v q)
has_placed (x ∷ xs) (suc k) v e = or_right (x == v) (has xs v) (has_placed xs k v e)

pub once_placed : (xs : List ℕ) (i j v : ℕ) → are_distinct xs ≡ true → slice_get xs i ≡ Some v → slice_get xs j ≡ Some v → i ≡ j
once_placed [] i j v d e f = cc
once_placed (x ∷ xs) zero zero v d e f = refl
once_placed (x ∷ xs) zero (suc j) v d e f =
    let p = and_parts (not (has xs x)) (are_distinct xs) d in
    let q : x ≡ v = cc in
    absurd (true≢false (sym (has_placed xs j v f) ∙ (ap (has xs) (sym q) ∙ not-true (has xs x) p.0)))
once_placed (x ∷ xs) (suc i) zero v d e f =
    let p = and_parts (not (has xs x)) (are_distinct xs) d in
    let q : x ≡ v = cc in
    absurd (true≢false (sym (has_placed xs i v e) ∙ (ap (has xs) (sym q) ∙ not-true (has xs x) p.0)))
once_placed (x ∷ xs) (suc i) (suc j) v d e f = ap suc (once_placed xs i j v ((and_parts (not (has xs x)) (are_distinct xs) d).1) e f)

-- ---- what is kept of a list

pub record IsKept (p : ℕ → Bool) (xs : List ℕ) (i k : ℕ) : Type 0 where
  pub at : ℕ
  pub there : slice_get xs at ≡ Some k
  pub holds : p k ≡ true

kept_head : (p : ℕ → Bool) (c : Bool) (x : ℕ) (xs : List ℕ) (i k : ℕ) → p x ≡ c → ((j : ℕ) → slice_get (filter p xs) j ≡ Some k → IsKept p xs j k)
    → slice_get (cond c (x ∷ filter p xs) (filter p xs)) i ≡ Some k → IsKept p (x ∷ xs) i k
kept_head p true x xs zero k h f e = let q : x ≡ k = cc in record { at = 0; there = ap (λ z. Some z) q; holds = ap p (sym q) ∙ h }
kept_head p true x xs (suc i) k h f e = let r : IsKept p xs i k = f i e in record { at = suc r.at; there = r.there; holds = r.holds }
kept_head p false x xs i k h f e = let r : IsKept p xs i k = f i e in record { at = suc r.at; there = r.there; holds = r.holds }

pub kept_from : (p : ℕ → Bool) (xs : List ℕ) (i k : ℕ) → slice_get (filter p xs) i ≡ Some k → IsKept p xs i k
kept_from p [] i k e = cc
kept_from p (x ∷ xs) i k e = kept_head p (p x) x xs i k refl (λ j f. kept_from p xs j k f) e

-- two that are kept, in order
pub record InOrder (xs : List ℕ) (k l : ℕ) : Type 0 where
  pub first : ℕ
  pub second : ℕ
  pub ordered : first ≤ second
  pub there : slice_get xs first ≡ Some k
  pub also : slice_get xs second ≡ Some l

later : (x : ℕ) (xs : List ℕ) (k l : ℕ) → InOrder xs k l → InOrder (x ∷ xs) k l
later x xs k l r = let o : r.first ≤ r.second = r.ordered in record { first = suc r.first; second = suc r.second; ordered = omega arith; there = r.there; also = r.also }

order_head : (p : ℕ → Bool) (c : Bool) (x : ℕ) (xs : List ℕ) (i j k l : ℕ) → i ≤ j
    → ((m n : ℕ) → m ≤ n → slice_get (filter p xs) m ≡ Some k → slice_get (filter p xs) n ≡ Some l → InOrder xs k l)
    → slice_get (cond c (x ∷ filter p xs) (filter p xs)) i ≡ Some k → slice_get (cond c (x ∷ filter p xs) (filter p xs)) j ≡ Some l → InOrder (x ∷ xs) k l
order_head p true x xs zero zero k l o f e g =
    let q : x ≡ k = cc in let r : x ≡ l = cc in record { first = 0; second = 0; ordered = omega arith; there = ap (λ z. Some z) q; also = ap (λ z. Some z) r }
order_head p true x xs zero (suc j) k l o f e g =
    let q : x ≡ k = cc in let r : IsKept p xs j l = kept_from p xs j l g in
    record { first = 0; second = suc r.at; ordered = omega arith; there = ap (λ z. Some z) q; also = r.there }
order_head p true x xs (suc i) zero k l o f e g = absurd (omega arith)
order_head p true x xs (suc i) (suc j) k l o f e g = later x xs k l (f i j (omega arith) e g)
order_head p false x xs i j k l o f e g = later x xs k l (f i j o e g)

pub kept_order : (p : ℕ → Bool) (xs : List ℕ) (i j k l : ℕ) → i ≤ j → slice_get (filter p xs) i ≡ Some k → slice_get (filter p xs) j ≡ Some l → InOrder xs k l
kept_order p [] i j k l o e f = cc
kept_order p (x ∷ xs) i j k l o e f = order_head p (p x) x xs i j k l o (λ m n q. kept_order p xs m n k l q) e f

keeps_head : (p : ℕ → Bool) (c : Bool) (x : ℕ) (xs : List ℕ) (k : ℕ) → ((j : ℕ) × (slice_get (filter p xs) j ≡ Some k))
    → (j : ℕ) × (slice_get (cond c (x ∷ filter p xs) (filter p xs)) j ≡ Some k)
keeps_head p true x xs k t = (suc t.0, t.1)
keeps_head p false x xs k t = t

pub kept_at : (p : ℕ → Bool) (xs : List ℕ) (i k : ℕ) → slice_get xs i ≡ Some k → p k ≡ true → (j : ℕ) × (slice_get (filter p xs) j ≡ Some k)
kept_at p [] i k e h = cc
kept_at p (x ∷ xs) zero k e h =
    let q : x ≡ k = cc in (0, ap (λ c. slice_get (cond c (x ∷ filter p xs) (filter p xs)) 0) (ap p q ∙ h) ∙ ap (λ z. Some z) q)
kept_at p (x ∷ xs) (suc i) k e h = keeps_head p (p x) x xs k (kept_at p xs i k e h)

pub kept_has : (p : ℕ → Bool) (xs : List ℕ) (v : ℕ) → has (filter p xs) v ≡ true → has xs v ≡ true
kept_has p xs v h =
    let t : (k : ℕ) × (slice_get (filter p xs) k ≡ Some v) = placed (filter p xs) v h in
    let r : IsKept p xs t.0 v = kept_from p xs t.0 v t.1 in
    has_placed xs r.at v r.there

not_has : (xs ys : List ℕ) (v : ℕ) → (has xs v ≡ true → has ys v ≡ true) → not (has ys v) ≡ true → not (has xs v) ≡ true
not_has xs ys v f h = by (has xs v) refl
  where
    by : (b : Bool) → has xs v ≡ b → not (has xs v) ≡ true
    by true e = absurd (true≢false (sym (f e) ∙ not-true (has ys v) h))
    by false e = ap not e

distinct_head : (p : ℕ → Bool) (c : Bool) (x : ℕ) (xs : List ℕ) → not (has xs x) ≡ true → are_distinct (filter p xs) ≡ true
    → are_distinct (cond c (x ∷ filter p xs) (filter p xs)) ≡ true
distinct_head p true x xs h k = and_from (not (has (filter p xs) x)) (are_distinct (filter p xs)) (not_has (filter p xs) xs x (kept_has p xs x) h) k
distinct_head p false x xs h k = k

pub distinct_kept : (p : ℕ → Bool) (xs : List ℕ) → are_distinct xs ≡ true → are_distinct (filter p xs) ≡ true
distinct_kept p [] h = refl
distinct_kept p (x ∷ xs) h = let q = and_parts (not (has xs x)) (are_distinct xs) h in distinct_head p (p x) x xs q.0 (distinct_kept p xs q.1)

-- ---- edges

is_part : (h : Hubs) (w k : ℕ) → w < h.parts → steps_to h w k ≡ (w == k)
is_part h w k l = ap (λ b. cond b (w == k) (h.drives (w - h.parts) k)) (lt-ltb w h.parts l)

is_hub : (h : Hubs) (w k : ℕ) → h.parts ≤ w → steps_to h w k ≡ h.drives (w - h.parts) k
is_hub h w k l = ap (λ b. cond b (w == k) (h.drives (w - h.parts) k)) (le-ltb w h.parts l)

step_of : (h : Hubs) (ws : List ℕ) (k : ℕ) → reaches h ws k ≡ true → (w : ℕ) × (has ws w ≡ true) × (steps_to h w k ≡ true)
step_of h [] k e = absurd (true≢false (sym e))
step_of h (w ∷ ws) k e = elim (or_cases (steps_to h w k) (reaches h ws k) e) [
  | inl a ↦ (w, or_left (w == w) (has ws w) (eq-eqb w w refl), a)
  | inr b ↦ let t : (v : ℕ) × (has ws v ≡ true) × (steps_to h v k ≡ true) = step_of h ws k b in (t.0, or_right (w == t.0) (has ws t.0) t.1, t.2)
]

step_in : (h : Hubs) (ws : List ℕ) (w k : ℕ) → has ws w ≡ true → steps_to h w k ≡ true → reaches h ws k ≡ true
step_in h [] w k e s = absurd (true≢false (sym e))
step_in h (v ∷ ws) w k e s = elim (or_cases (v == w) (has ws w) e) [
  | inl a ↦ or_left (steps_to h v k) (reaches h ws k) (ap (λ z. steps_to h z k) (eqb-true v w a) ∙ s)
  | inr b ↦ or_right (steps_to h v k) (reaches h ws k) (step_in h ws w k b s)
]

module _ (h : Hubs) (E : Graph) (g : IsHubGraph h E) where
  goes_within : (v w : ℕ) → goes E v w ≡ true → v < length E
  goes_within v w e = elim (cases_lt v (length E)) [
    | inl l ↦ l
    | inr n ↦ absurd (same (goes E v w) e (ap (λ ws. has ws w) (get_or_past E v [] n)))
  ]

  -- from a part to a part
  pub direct : (j k : ℕ) → j < h.parts → k < h.parts → goes E j k ≡ true → h.feeds j k ≡ true
  direct j k l m e = sym (g.rows j k l) ∙ step_in h (edges_of E j) k k e (is_part h k k m ∙ eq-eqb k k refl)

  hub_goes : (w k : ℕ) → h.parts ≤ w → w < length E → goes E w k ≡ h.drives (w - h.parts) k
  hub_goes w k l m =
      let d : h.parts + (w - h.parts) ≡ w = omega arith in
      let b : w - h.parts < h.count = (let s : length E ≡ h.parts + h.count = g.size in omega arith) in
      ap (λ z. goes E z k) (sym d) ∙ g.hubs (w - h.parts) k b

  -- from a part to a hub and on
  pub via : (j w k : ℕ) → j < h.parts → h.parts ≤ w → goes E j w ≡ true → goes E w k ≡ true → h.feeds j k ≡ true
  via j w k l m e f =
      sym (g.rows j k l) ∙ step_in h (edges_of E j) w k e (is_hub h w k m ∙ (sym (hub_goes w k m (g.graph j w e)) ∙ f))

  pub hub_part : (w k : ℕ) → h.parts ≤ w → w < length E → goes E w k ≡ true → k < h.parts
  hub_part w k l m e = g.only (w - h.parts) k (sym (hub_goes w k l m) ∙ e)

  -- each step of parts is of one of these ways
  pub steps : (j k : ℕ) → j < h.parts → h.feeds j k ≡ true → (goes E j k ≡ true) ⊎ ((w : ℕ) × (goes E j w ≡ true) × (goes E w k ≡ true))
  steps j k l e =
      let t : (w : ℕ) × (has (edges_of E j) w ≡ true) × (steps_to h w k ≡ true) = step_of h (edges_of E j) k (g.rows j k l ∙ e) in
      elim (cases_lt t.0 h.parts) [
        | inl a ↦ inl (subst (λ z. goes E j z ≡ true) (eqb-true t.0 k (sym (is_part h t.0 k a) ∙ t.2)) t.1)
        | inr b ↦ inr (t.0, t.1, hub_goes t.0 k b (g.graph j t.0 t.1) ∙ (sym (is_hub h t.0 k b) ∙ t.2))
      ]

  -- ---- orders

  module _ (vs : List ℕ) (s : IsSorted E vs) where
    behind_at : (m v w : ℕ) → slice_get vs m ≡ Some v → goes E v w ≡ true → IsPlaced vs m w
    behind_at m v w e f =
        placed_before vs m w (s.behind m w (slice_get_within vs m v e) (subst (λ z. goes E z w ≡ true) (sym (get_or_from_slice_get vs m v 0 e)) f))

    before : (m j k : ℕ) → j < h.parts → slice_get vs m ≡ Some j → h.feeds j k ≡ true → IsPlaced vs m k
    before m j k l e f = elim (steps j k l f) [
      | inl d ↦ behind_at m j k e d
      | inr t ↦
          let p : IsPlaced vs m t.0 = behind_at m j t.0 e t.1 in
          let q : IsPlaced vs p.at k = behind_at p.at t.0 k p.there t.2 in
          let a : p.at < m = p.below in
          let b : q.at < p.at = q.below in
          record { at = q.at; below = omega arith; there = q.there }
    ]

    pub apart : (p : ℕ → Bool) (i j k l : ℕ) → i ≤ j → slice_get (filter p vs) i ≡ Some k → slice_get (filter p vs) j ≡ Some l → k < h.parts
        → h.feeds k l ≡ true → ⊥
    apart p i j k l o e f n t =
        let r : InOrder vs k l = kept_order p vs i j k l o e f in
        let q : IsPlaced vs r.first l = before r.first k l n r.there t in
        let b : q.at < r.first = q.below in
        let c : r.first ≤ r.second = r.ordered in
        let d : q.at ≡ r.second = once_placed vs q.at r.second l s.once q.there r.also in
        absurd (omega arith)

    pub listed : (p : ℕ → Bool) (k : ℕ) → k < h.parts → p k ≡ true → (i : ℕ) × (slice_get (filter p vs) i ≡ Some k)
    listed p k l e =
        let n : k < length E = (let z : length E ≡ h.parts + h.count = g.size in omega arith) in
        let t : (m : ℕ) × (slice_get vs m ≡ Some k) = placed vs k (s.whole k ∙ lt-ltb k (length E) n) in
        kept_at p vs t.0 k t.1 e

    pub once : (p : ℕ → Bool) (i j k : ℕ) → slice_get (filter p vs) i ≡ Some k → slice_get (filter p vs) j ≡ Some k → i ≡ j
    once p i j k e f = once_placed (filter p vs) i j k (distinct_kept p vs s.once) e f

  -- ---- cycles

  abbrev pub parts_of : List ℕ → List ℕ
  parts_of vs = filter (λ v. nat_lt v h.parts) vs

  pub take_part : (w : ℕ) (ws : List ℕ) → w < h.parts → parts_of (w ∷ ws) ≡ w ∷ parts_of ws
  take_part w ws l = ap (λ b. cond b (w ∷ parts_of ws) (parts_of ws)) (lt-ltb w h.parts l)

  drop_hub : (w : ℕ) (ws : List ℕ) → h.parts ≤ w → parts_of (w ∷ ws) ≡ parts_of ws
  drop_hub w ws l = ap (λ b. cond b (w ∷ parts_of ws) (parts_of ws)) (le-ltb w h.parts l)

  -- the vertex is the part, or a hub that it has an edge to
  abbrev pub From : ℕ → ℕ → Type 0
  From v u = (v ≡ u) ⊎ ((h.parts ≤ u) × (goes E v u ≡ true))

  onward : (v u w : ℕ) → v < h.parts → From v u → goes E u w ≡ true → ((w < h.parts) × (h.feeds v w ≡ true)) ⊎ ((h.parts ≤ w) × (goes E v w ≡ true))
  onward v u w l (inl q) e =
      let d : goes E v w ≡ true = ap (λ z. goes E z w) q ∙ e in
      elim (cases_lt w h.parts) [ inl a ↦ inl (a, direct v w l a d) | inr b ↦ inr (b, d) ]
  onward v u w l (inr q) e = inl (hub_part u w q.0 (g.graph v u q.1) e, via v u w l q.0 q.1 e)

  to_first : (v u f : ℕ) → v < h.parts → f < h.parts → From v u → goes E u f ≡ true → h.feeds v f ≡ true
  to_first v u f l m q e = elim (onward v u f l q e) [
    | inl a ↦ a.1
    | inr b ↦ absurd (let c : h.parts ≤ f = b.0 in omega arith)
  ]

  pub chain : (f v u : ℕ) (vs : List ℕ) → f < h.parts → v < h.parts → From v u → leads E f (u ∷ vs) ≡ true → is_chain h f (v ∷ parts_of vs) ≡ true
  chain f v u [] l m q e = to_first v u f m l q e
  chain f v u (w ∷ vs) l m q e =
      let p = and_parts (goes E u w) (leads E f (w ∷ vs)) e in
      elim (onward v u w m q p.0) [
        | inl a ↦ subst (λ z. is_chain h f (v ∷ z) ≡ true) (sym (take_part w vs a.0))
            (and_from (h.feeds v w) (is_chain h f (w ∷ parts_of vs)) a.1 (chain f w w vs l a.0 (inl refl) p.1))
        | inr b ↦ subst (λ z. is_chain h f (v ∷ z) ≡ true) (sym (drop_hub w vs b.0)) (chain f v w vs l m (inr b) p.1)
      ]

  pub leads_within : (f v : ℕ) (vs : List ℕ) → leads E f (v ∷ vs) ≡ true → v < length E
  leads_within f v [] e = goes_within v f e
  leads_within f v (w ∷ vs) e = goes_within v w ((and_parts (goes E v w) (leads E f (w ∷ vs)) e).0)

  -- the first vertex of a cycle is a part
  pub first_part : (v : ℕ) (vs : List ℕ) → leads E v (v ∷ vs) ≡ true → ((w : ℕ) → has (v ∷ vs) w ≡ true → v ≤ w) → v < length E → v < h.parts
  first_part v [] e least m = elim (cases_lt v h.parts) [ inl a ↦ a | inr b ↦ hub_part v v b m e ]
  first_part v (w ∷ vs) e least m = elim (cases_lt v h.parts) [
    | inl a ↦ a
    | inr b ↦
        let a : w < h.parts = hub_part v w b m ((and_parts (goes E v w) (leads E v (w ∷ vs)) e).0) in
        let c : v ≤ w = least w (or_right (v == w) (has (w ∷ vs) w) (or_left (w == w) (has vs w) (eq-eqb w w refl))) in
        absurd (omega arith)
  ]
