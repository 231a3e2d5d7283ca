-- The map of gates follows the list.
use Rattle.std.proofs.Common.{◌≡◌, ◌≢◌, ℕ, ◌+◌, ◌<◌, ◌≤◌, inl, inr, Bool, true, false, not, ◌&&◌, cond, List, [], ◌∷◌, ◌++◌, length, refl, sym, ◌∙◌, ap, subst, arith, length-append, Option, Some, None, ◌==◌}
use Rattle.std.proofs.lemmas.Bool.{cases_lt}
use Rattle.std.proofs.Math.Bool.{beq}
use Rattle.std.specs.HashMap.{HashMap, get, Updates}
use Rattle.std.specs.Map.{lookup}
use Rattle.std.specs.Cmp.{booleans_Decides, unsigned_Decides}
use Rattle.lv_aig.specs.declared.edge.Edge.{Edge}
use Rattle.lv_aig.specs.declared.edge.Gate.{Gate}
use Rattle.lv_aig.specs.Edges.{Nodes, gate_at}
use Rattle.lv_aig.specs.Shared.{same_gate, Agrees}
use Rattle.lv_aig.proofs.Graphs.{last_of, before_last}

and_left : (a b : Bool) → (a && b) ≡ true → a ≡ true
and_left true b h = refl
and_left false b h = h

and_right : (a b : Bool) → (a && b) ≡ true → b ≡ true
and_right true b h = h
and_right false true h = refl
and_right false false h = h

both_true : (a b : Bool) → a ≡ true → b ≡ true → (a && b) ≡ true
both_true true b p q = q
both_true false b p q = p

same_edge : (a b : Edge) → a.node ≡ b.node → a.neg ≡ b.neg → a ≡ b
same_edge a b p q =
    let f : ℕ → Edge = λ n. record { node = n; neg = a.neg } in
    let g : Bool → Edge = λ t. record { node = b.node; neg = t } in
    ap f p ∙ ap g q

same_gates : (a b : Gate) → a.left ≡ b.left → a.right ≡ b.right → a ≡ b
same_gates a b p q =
    let f : Edge → Gate = λ e. record { left = e; right = a.right } in
    let g : Edge → Gate = λ e. record { left = b.left; right = e } in
    ap f p ∙ ap g q

abbrev edge_test : Edge → Edge → Bool
edge_test a b = (a.node == b.node) && beq a.neg b.neg

edge_test-true : (a b : Edge) → edge_test a b ≡ true → a ≡ b
edge_test-true a b h = same_edge a b ((unsigned_Decides a.node b.node).0 (and_left (a.node == b.node) (beq a.neg b.neg) h)) ((booleans_Decides a.neg b.neg).0 (and_right (a.node == b.node) (beq a.neg b.neg) h))

edge_test-refl : (a : Edge) → edge_test a a ≡ true
edge_test-refl a = both_true (a.node == a.node) (beq a.neg a.neg) ((unsigned_Decides a.node a.node).1 refl) ((booleans_Decides a.neg a.neg).1 refl)

same_gate_is : (g h : Gate) → same_gate g h ≡ (edge_test g.left h.left && edge_test g.right h.right)
same_gate_is g h = refl

pub same_gate-true : (g h : Gate) → same_gate g h ≡ true → g ≡ h
same_gate-true g h e =
    let f : (edge_test g.left h.left && edge_test g.right h.right) ≡ true = sym (same_gate_is g h) ∙ e in
    same_gates g h (edge_test-true g.left h.left (and_left (edge_test g.left h.left) (edge_test g.right h.right) f)) (edge_test-true g.right h.right (and_right (edge_test g.left h.left) (edge_test g.right h.right) f))

pub same_gate-refl : (g : Gate) → same_gate g g ≡ true
same_gate-refl g = same_gate_is g g ∙ both_true (edge_test g.left g.left) (edge_test g.right g.right) (edge_test-refl g.left) (edge_test-refl g.right)

differ_gate : (g h : Gate) → g ≢ h → same_gate g h ≡ false
differ_gate g h ne = elim (same_gate g h) as (λ b. (b ≡ true → g ≡ h) → b ≡ false) [ true ↦ λ f. absurd (ne (f refl)) | false ↦ λ f. refl ] (same_gate-true g h)

pub agrees_same : {S : Type 0} (nodes : Nodes) (m n : HashMap Gate ℕ S) → n.entries ≡ m.entries → Agrees nodes m → Agrees nodes n
agrees_same nodes m n e h =
    let same : (g : Gate) → get same_gate n g ≡ get same_gate m g = λ g. ap (λ (es : List (Gate × ℕ)). lookup (same_gate g) es) e in
    record { found = λ g k f. h.found g k (sym (same g) ∙ f); known = λ g k lt f. same g ∙ h.known g k lt f }

pub agrees_open : {S : Type 0} (nodes : Nodes) (m : HashMap Gate ℕ S) → Agrees nodes m → Agrees (nodes ++ None ∷ []) m
agrees_open nodes m h = record {
  found = λ g k e. let f = h.found g k e in (omega (arith, f.0, length-append nodes (None ∷ [])), before_last nodes None k f.0 ∙ f.1);
  known = λ g k lt e. elim (cases_lt k (length nodes)) [
    | inl less ↦ h.known g k less (sym (before_last nodes None k less) ∙ e)
    | inr ge ↦
        let p : length nodes ≡ k = omega (arith, length-append nodes (None ∷ [])) in
        let q : gate_at (nodes ++ None ∷ []) k ≡ None = subst (λ (j : ℕ). gate_at (nodes ++ None ∷ []) j ≡ None) p (last_of nodes None) in cc
  ];
}

pub agrees_gate : {S : Type 0} (nodes : Nodes) (m n : HashMap Gate ℕ S) (g : Gate) (at : ℕ) → at ≡ length nodes → ((k : ℕ) → k < length nodes → gate_at nodes k ≢ Some g) → Updates same_gate m n g (Some at) → Agrees nodes m → Agrees (nodes ++ Some g ∷ []) n
agrees_gate nodes m n g at is fresh updates h = record {
  found = λ f k e.
      elim (same_gate g f) as (λ b. same_gate g f ≡ b → get same_gate n f ≡ cond b (Some at) (get same_gate m f) → (k < length (nodes ++ Some g ∷ [])) × (gate_at (nodes ++ Some g ∷ []) k ≡ Some f)) [
        | true ↦ λ t u.
            let p : length nodes ≡ k = (let q : Some at ≡ Some k = sym u ∙ e in cc) in
            let r : g ≡ f = same_gate-true g f t in (
              omega (arith, length-append nodes (Some g ∷ [])),
              subst (λ (j : ℕ). gate_at (nodes ++ Some g ∷ []) j ≡ Some f) p (last_of nodes (Some g) ∙ ap Some r),
            )
        | false ↦ λ t u.
            let o = h.found f k (sym u ∙ e) in
            (omega (arith, o.0, length-append nodes (Some g ∷ [])), before_last nodes (Some g) k o.0 ∙ o.1)
      ] refl (updates.0 f);
  known = λ f k lt e. elim (cases_lt k (length nodes)) [
    | inl less ↦
        let o : gate_at nodes k ≡ Some f = sym (before_last nodes (Some g) k less) ∙ e in
        let ne : g ≢ f = λ r. fresh k less (o ∙ ap Some (sym r)) in
        updates.2 f (differ_gate g f ne) ∙ h.known f k less o
    | inr ge ↦
        let p : length nodes ≡ k = omega (arith, length-append nodes (Some g ∷ [])) in
        let q : gate_at (nodes ++ Some g ∷ []) k ≡ Some g = subst (λ (j : ℕ). gate_at (nodes ++ Some g ∷ []) j ≡ Some g) p (last_of nodes (Some g)) in
        let r : g ≡ f = cc in
        subst (λ (x : Gate). get same_gate n x ≡ Some k) r (updates.1 ∙ ap Some (is ∙ p))
  ];
}
