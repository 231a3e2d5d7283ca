-- Where each vertex stands behind all that it has an edge to, there is no cycle: along one the places would fall for ever.
use Rattle.std.proofs.Common.{◌≡◌, ℕ, zero, suc, ◌<◌, ◌≤◌, true, false, List, [], ◌∷◌, length, get_or, take, min, refl, ap, sym, subst, ◌∙◌, arith}
use Rattle.std.proofs.lemmas.Bool.{and_parts, false_from_ne_true}
use Rattle.std.proofs.lemmas.List.{length-take, get_or-take, take_all}
use Rattle.lv_order.specs.Graphs.{Graph, has, goes, leads, are_distinct, is_cycle}
use Rattle.lv_order.proofs.Lists.{has_at}
use Rattle.lv_order.proofs.Chains.{leads_within}

abbrev Behind : Graph → List ℕ → Type 0
Behind E vs = (i w : ℕ) → i < length vs → goes E (get_or vs i 0) w ≡ true → has (take i vs) w ≡ true

abbrev Before : List ℕ → ℕ → ℕ → Type 0
Before vs m w = (n : ℕ) × (n < m) × (has (take n vs) w ≡ true)

step : (E : Graph) (vs : List ℕ) (m v w : ℕ) → Behind E vs → has (take m vs) v ≡ true → goes E v w ≡ true → Before vs m w
step E vs m v w h k e =
    let t : (i : ℕ) × (i < length (take m vs)) × (get_or (take m vs) i 0 ≡ v) = has_at (take m vs) v k in
    let l : t.0 < length (take m vs) = t.1 in
    let s : length (take m vs) ≡ min m (length vs) = length-take m vs in
    let a : t.0 < m = omega arith in
    let b : t.0 < length vs = omega arith in
    let g : get_or vs t.0 0 ≡ v = sym (get_or-take m vs t.0 0 a) ∙ t.2 in
    (t.0, a, h t.0 w b (subst (λ z. goes E z w ≡ true) (sym g) e))

along : (E : Graph) (vs : List ℕ) (f m v : ℕ) (ks : List ℕ) → Behind E vs → has (take m vs) v ≡ true → leads E f (v ∷ ks) ≡ true → Before vs m f
along E vs f m v [] h k e = step E vs m v f h k e
along E vs f m v (w ∷ ks) h k e =
    let p = and_parts (goes E v w) (leads E f (w ∷ ks)) e in
    let s : Before vs m w = step E vs m v w h k p.0 in
    let r : Before vs s.0 f = along E vs f s.0 w ks h s.2 p.1 in
    let a : s.0 < m = s.1 in
    let b : r.0 < s.0 = r.1 in
    (r.0, omega arith, r.2)

never : (E : Graph) (vs : List ℕ) (b m v : ℕ) (ks : List ℕ) → Behind E vs → m ≤ b → has (take m vs) v ≡ true → leads E v (v ∷ ks) ≡ true → ⊥
never E vs zero m v ks h l k e =
    let s : Before vs m v = along E vs v m v ks h k e in
    let a : s.0 < m = s.1 in
    absurd (omega arith)
never E vs (suc b) m v ks h l k e =
    let s : Before vs m v = along E vs v m v ks h k e in
    let a : s.0 < m = s.1 in
    never E vs b s.0 v ks h (omega arith) s.2 e

pub acyclic : (E : Graph) (vs ks : List ℕ) → ((v : ℕ) → v < length E → has vs v ≡ true) → Behind E vs → is_cycle E ks ≡ false
acyclic E vs [] all h = refl
acyclic E vs (v ∷ ks) all h = false_from_ne_true (is_cycle E (v ∷ ks)) (λ c.
    let p = and_parts (are_distinct (v ∷ ks)) (leads E v (v ∷ ks)) c in
    never E vs (length vs) (length vs) v ks h (omega arith)
    (ap (λ z. has z v) (take_all (length vs) vs (omega arith)) ∙ all v (leads_within E v v ks p.1)) p.1)
