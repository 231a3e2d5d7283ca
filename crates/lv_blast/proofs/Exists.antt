-- Each choice of values for the inputs extends to the gates.
use Rattle.std.proofs.Common.{◌≡◌, ◌≢◌, ℕ, ◌<◌, ◌≤◌, inl, inr, Bool, true, false, not, ◌&&◌, if◌then◌else◌, ◌==◌, length, refl, sym, ◌∙◌, ap, subst, arith, Option, Some, None, zero, suc}
use Rattle.std.proofs.lemmas.Bool.{cases_eq, eqb-true, eq-eqb}
use Rattle.lv_aig.specs.declared.edge.Edge.{Edge}
use Rattle.lv_aig.specs.declared.edge.Gate.{Gate}
use Rattle.lv_aig.specs.Edges.{Nodes, gate_at, edge_bit, IsValuation, IsGraph}

-- right below n, and v at the inputs
pub record Extends (nodes : Nodes) (v : ℕ → Bool) (n : ℕ) (w : ℕ → Bool) : Type 0 where
  pub zero_is : w 0 ≡ false
  pub gates : (k : ℕ) (g : Gate) → k < n → gate_at nodes k ≡ Some g → w k ≡ (edge_bit w g.left && edge_bit w g.right)
  pub inputs : (k : ℕ) → 0 < k → gate_at nodes k ≡ None → w k ≡ v k

abbrev updated : (ℕ → Bool) → ℕ → Bool → ℕ → Bool
updated w n b k = if k == n then b else w k

not_true : (t : Bool) → (t ≡ true → ⊥) → t ≡ false
not_true true h = absurd (h refl)
not_true false h = refl

upd_same : (w : ℕ → Bool) (n : ℕ) (b : Bool) → updated w n b n ≡ b
upd_same w n b = ap (λ (t : Bool). if t then b else w n) (eq-eqb n n refl)

upd_other : (w : ℕ → Bool) (n : ℕ) (b : Bool) (k : ℕ) → k ≢ n → updated w n b k ≡ w k
upd_other w n b k h = ap (λ (t : Bool). if t then b else w k) (not_true (k == n) (λ e. h (eqb-true k n e)))

edge_other : (w : ℕ → Bool) (n : ℕ) (b : Bool) (e : Edge) → e.node < n → edge_bit (updated w n b) e ≡ edge_bit w e
edge_other w n b e h = ap (λ (x : Bool). if e.neg then not x else x) (upd_other w n b e.node (λ p. omega arith))

both_other : (w : ℕ → Bool) (n : ℕ) (b : Bool) (g : Gate) → g.left.node < n → g.right.node < n → (edge_bit (updated w n b) g.left && edge_bit (updated w n b) g.right) ≡ (edge_bit w g.left && edge_bit w g.right)
both_other w n b g p q =
    ap (λ (x : Bool). x && edge_bit (updated w n b) g.right) (edge_other w n b g.left p) ∙ ap (λ (x : Bool). edge_bit w g.left && x) (edge_other w n b g.right q)

step_gate : (nodes : Nodes) (v : ℕ → Bool) (n : ℕ) (w : ℕ → Bool) (g : Gate) → IsGraph nodes → n < length nodes → gate_at nodes n ≡ Some g → Extends nodes v n w → Extends nodes v (suc n) (updated w n (edge_bit w g.left && edge_bit w g.right))
step_gate nodes v n w g graph lt at h =
    let b : Bool = edge_bit w g.left && edge_bit w g.right in
    let r = graph.rise n g lt at in
    record {
      zero_is = upd_other w n b 0 (λ p. omega (arith, r)) ∙ h.zero_is;
      gates = λ k f less e. elim (cases_eq k n) [
        | inl same ↦
            let p : g ≡ f = let e' : gate_at nodes n ≡ Some f = subst (λ (i : ℕ). gate_at nodes i ≡ Some f) same e in cc in
            let q : updated w n b n ≡ (edge_bit (updated w n b) g.left && edge_bit (updated w n b) g.right) = upd_same w n b ∙ sym (both_other w n b g (omega (arith, r)) (omega (arith, r))) in
            subst (λ (f : Gate). updated w n b k ≡ (edge_bit (updated w n b) f.left && edge_bit (updated w n b) f.right)) p (ap (updated w n b) same ∙ q)
        | inr other ↦
            let less' : k < n = omega arith in
            let s = graph.rise k f (omega arith) e in
            upd_other w n b k other ∙ (h.gates k f less' e ∙ sym (both_other w n b f (omega (arith, s)) (omega (arith, s))))
      ];
      inputs = λ k some e. upd_other w n b k (λ p. let e' : gate_at nodes n ≡ None = subst (λ (i : ℕ). gate_at nodes i ≡ None) p e in let f : Some g ≡ None = sym at ∙ e' in cc) ∙ h.inputs k some e;
    }

step_open : (nodes : Nodes) (v : ℕ → Bool) (n : ℕ) (w : ℕ → Bool) → gate_at nodes n ≡ None → Extends nodes v n w → Extends nodes v (suc n) w
step_open nodes v n w at h = record {
  zero_is = h.zero_is;
  gates = λ k g less e. elim (cases_eq k n) [
    | inl same ↦ absurd (let e' : gate_at nodes n ≡ Some g = subst (λ (i : ℕ). gate_at nodes i ≡ Some g) same e in let f : None ≡ Some g = sym at ∙ e' in cc)
    | inr other ↦ h.gates k g (omega arith) e
  ];
  inputs = h.inputs;
}

step : (nodes : Nodes) (v : ℕ → Bool) (n : ℕ) → IsGraph nodes → n < length nodes → (o : Option Gate) → gate_at nodes n ≡ o → (w : ℕ → Bool) × Extends nodes v n w → (w : ℕ → Bool) × Extends nodes v (suc n) w
step nodes v n graph lt None at h = (h.0, step_open nodes v n h.0 at h.1)
step nodes v n graph lt (Some g) at h = (updated h.0 n (edge_bit h.0 g.left && edge_bit h.0 g.right), step_gate nodes v n h.0 g graph lt at h.1)

below : (nodes : Nodes) (v : ℕ → Bool) → IsGraph nodes → (n : ℕ) → n ≤ length nodes → (w : ℕ → Bool) × Extends nodes v n w
below nodes v graph zero le = (
  updated v 0 false,
  record {
    zero_is = upd_same v 0 false;
    gates = λ k g lt e. absurd (omega arith);
    inputs = λ k some e. upd_other v 0 false k (λ p. omega arith);
  },
)
below nodes v graph (suc n) le = step nodes v n graph (omega arith) (gate_at nodes n) refl (below nodes v graph n (omega arith))

pub exists : (nodes : Nodes) (v : ℕ → Bool) → IsGraph nodes → (w : ℕ → Bool) × IsValuation nodes w × ((k : ℕ) → 0 < k → gate_at nodes k ≡ None → w k ≡ v k)
exists nodes v graph =
    let b = below nodes v graph (length nodes) (omega arith) in
    (b.0, record { zero = b.1.zero_is; gates = b.1.gates }, b.1.inputs)
