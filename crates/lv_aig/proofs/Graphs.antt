-- A graph that grows.
use Rattle.std.proofs.Common.{◌≡◌, ◌≢◌, ℕ, ◌+◌, ◌<◌, ◌≤◌, ◌⊎◌, inl, inr, Bool, true, false, not, ◌&&◌, List, [], ◌∷◌, ◌++◌, length, refl, sym, ◌∙◌, ap, subst, arith, length-append, get_or, Option, Some, None, nat_lt}
use Rattle.std.proofs.Math.ListN.{get_or-append}
use Rattle.std.proofs.Math.Seq.{get_or-append_seam}
use Rattle.std.proofs.lemmas.Bool.{cases_lt}
use Rattle.lv_aig.specs.declared.edge.Edge.{Edge}
use Rattle.lv_aig.specs.declared.edge.Gate.{Gate}
use Rattle.lv_aig.specs.Edges.{Nodes, gate_at, zero_edge, edge_bit, IsValuation, IsGraph, Grows, Gives}

pub grows_refl : (xs : Nodes) → Grows xs xs
grows_refl xs = record { more = omega arith; same = λ k h. refl; gates = λ k h h'. absurd (omega arith) }

pub grows_trans : (a b c : Nodes) → Grows a b → Grows b c → Grows a c
grows_trans a b c p q = record {
  more = omega (arith, p.more, q.more);
  same = λ k h. q.same k (omega (arith, p.more)) ∙ p.same k h;
  gates = λ k h h'. elim (cases_lt k (length b)) [
    | inl lt ↦ λ e. p.gates k h lt (sym (q.same k lt) ∙ e)
    | inr ge ↦ q.gates k ge h'
  ];
}

-- a valuation of the longer graph is one of the shorter
pub valuation_back : (old new : Nodes) (v : ℕ → Bool) → Grows old new → IsValuation new v → IsValuation old v
valuation_back old new v s h = record {
  zero = h.zero;
  gates = λ k g lt e. h.gates k g (omega (arith, s.more)) (s.same k lt ∙ e);
}

pub last_of : (xs : Nodes) (x : Option Gate) → gate_at (xs ++ x ∷ []) (length xs) ≡ x
last_of xs x = get_or-append_seam xs x [] None

pub before_last : (xs : Nodes) (x : Option Gate) (k : ℕ) → k < length xs → gate_at (xs ++ x ∷ []) k ≡ gate_at xs k
before_last xs x k h = get_or-append xs (x ∷ []) None k h

-- what holds at each old place and at the end holds at each place
pub places : (xs : Nodes) (x : Option Gate) (P : ℕ → Option Gate → Type 0) → ((k : ℕ) → k < length xs → P k (gate_at xs k)) → P (length xs) x → (k : ℕ) → k < length (xs ++ x ∷ []) → P k (gate_at (xs ++ x ∷ []) k)
places xs x P old last k h =
    elim (cases_lt k (length xs)) [
      | inl lt ↦ subst (P k) (sym (before_last xs x k lt)) (old k lt)
      | inr ge ↦
          let e : length xs ≡ k = omega (arith, length-append xs (x ∷ [])) in
          subst (λ (j : ℕ). P j (gate_at (xs ++ x ∷ []) j)) e (subst (P (length xs)) (sym (last_of xs x)) last)
    ]

Rises : ℕ → Option Gate → Type 0
Rises k o = (g : Gate) → o ≡ Some g → (0 < g.left.node) × (g.left.node < g.right.node) × (g.right.node < k)

-- a further node, unlike each gate before it
pub with : (xs : Nodes) (x : Option Gate) → IsGraph xs → ((g : Gate) → x ≡ Some g → (0 < g.left.node) × (g.left.node < g.right.node) × (g.right.node < length xs)) → ((j : ℕ) (g : Gate) → j < length xs → gate_at xs j ≡ Some g → x ≢ Some g) → IsGraph (xs ++ x ∷ [])
with xs x h rise fresh = record {
  some = omega (arith, length-append xs (x ∷ []), h.some);
  open_zero = before_last xs x 0 h.some ∙ h.open_zero;
  rise = λ k g lt e. places xs x (λ (k : ℕ) (o : Option Gate). (g : Gate) → o ≡ Some g → (0 < g.left.node) × (g.left.node < g.right.node) × (g.right.node < k)) (λ k lt g e. h.rise k g lt e) rise k lt g e;
  shared = λ j k g less lt e. places xs x (λ (k : ℕ) (o : Option Gate). (j : ℕ) (g : Gate) → j < k → gate_at (xs ++ x ∷ []) j ≡ Some g → o ≢ Some g)
      (λ k lt j g less e. h.shared j k g less lt (sym (before_last xs x j (omega arith)) ∙ e))
      (λ j g less e. fresh j g less (sym (before_last xs x j less) ∙ e)) k lt j g less e;
}

pub with_open : (xs : Nodes) → IsGraph xs → IsGraph (xs ++ None ∷ [])
with_open xs h = with xs None h (λ g e. cc) (λ j g lt e p. cc)

pub with_gate : (xs : Nodes) (g : Gate) → IsGraph xs → 0 < g.left.node → g.left.node < g.right.node → g.right.node < length xs → ((k : ℕ) → k < length xs → gate_at xs k ≢ Some g) → IsGraph (xs ++ Some g ∷ [])
with_gate xs g h some rise within fresh =
    with xs (Some g) h
    (λ f e. let p : g ≡ f = cc in subst (λ (f : Gate). (0 < f.left.node) × (f.left.node < f.right.node) × (f.right.node < length xs)) p (some, rise, within))
    (λ j f lt e p. fresh j lt (e ∙ sym p))

pub gives_gate : (xs : Nodes) (g : Gate) → Gives xs (xs ++ Some g ∷ []) (record { node = length xs; neg = false }) (λ v. edge_bit v g.left && edge_bit v g.right)
gives_gate xs g = record {
  grows = record {
    more = omega (arith, length-append xs (Some g ∷ []));
    same = λ k h. before_last xs (Some g) k h;
    gates = λ k h h' e. let p : length xs ≡ k = omega (arith, length-append xs (Some g ∷ [])) in
        let q : gate_at (xs ++ Some g ∷ []) k ≡ Some g = subst (λ (j : ℕ). gate_at (xs ++ Some g ∷ []) j ≡ Some g) p (last_of xs (Some g)) in cc;
  };
  edge = omega (arith, length-append xs (Some g ∷ []));
  is = λ v h. h.gates (length xs) g (omega (arith, length-append xs (Some g ∷ []))) (last_of xs (Some g));
}

-- an edge of the graph as it is
pub gives_old : (xs : Nodes) (e : Edge) (f : (ℕ → Bool) → Bool) → e.node < length xs → ((v : ℕ → Bool) → IsValuation xs v → edge_bit v e ≡ f v) → Gives xs xs e f
gives_old xs e f h is = record { grows = grows_refl xs; edge = h; is = is }

pub gives_found : (xs : Nodes) (g : Gate) (k : ℕ) → k < length xs → gate_at xs k ≡ Some g → Gives xs xs (record { node = k; neg = false }) (λ v. edge_bit v g.left && edge_bit v g.right)
gives_found xs g k h e = gives_old xs (record { node = k; neg = false }) (λ v. edge_bit v g.left && edge_bit v g.right) h (λ v p. p.gates k g h e)

-- the sharing of a gate that stands there
pub same_place : (xs : Nodes) (g : Gate) (j k : ℕ) → IsGraph xs → j < length xs → k < length xs → gate_at xs j ≡ Some g → gate_at xs k ≡ Some g → j ≡ k
same_place xs g j k h lt lt' e e' =
    elim (cases_lt j k) [
      | inl less ↦ absurd (h.shared j k g less lt' e e')
      | inr ge ↦ elim (cases_lt k j) [ inl more ↦ absurd (h.shared k j g more lt e' e) | inr le ↦ omega arith ]
    ]
