-- Chains of edges, cut and turned.
use Rattle.std.proofs.Common.{◌≡◌, ℕ, ◌<◌, true, ◌&&◌, List, [], ◌∷◌, ◌++◌, length, get_or, refl, ap, sym, subst, ◌∙◌, inl, inr}
use Rattle.std.proofs.lemmas.Bool.{true≢false, and_parts, and_from, cases_lt}
use Rattle.std.proofs.lemmas.List.{append-nil, get_or_past}
use Rattle.lv_order.specs.Graphs.{Graph, has, goes, leads}
use Rattle.lv_order.proofs.Lists.{and_assoc}

pub leads-split : (E : Graph) (f m : ℕ) (xs ys : List ℕ) → leads E f (xs ++ m ∷ ys) ≡ (leads E m xs && leads E f (m ∷ ys))
leads-split E f m [] ys = refl
leads-split E f m (x ∷ []) ys = refl
leads-split E f m (x ∷ y ∷ xs) ys =
    ap (λ b. goes E x y && b) (leads-split E f m (y ∷ xs) ys) ∙ sym (and_assoc (goes E x y) (leads E m (y ∷ xs)) (leads E f (m ∷ ys)))

-- one more at the end
pub leads_push : (E : Graph) (v w : ℕ) (front : List ℕ) → leads E v front ≡ true → goes E v w ≡ true → leads E w (front ++ v ∷ []) ≡ true
leads_push E v w front h k = leads-split E w v front [] ∙ and_from (leads E v front) (goes E v w) h k

-- one less
pub leads_front : (E : Graph) (u v : ℕ) (front : List ℕ) → leads E v (front ++ u ∷ []) ≡ true → leads E u front ≡ true
leads_front E u v front h = (and_parts (leads E u front) (goes E u v) (sym (leads-split E v u front []) ∙ h)).0

-- those before are left out
pub leads_cut : (E : Graph) (v : ℕ) (xs ys : List ℕ) → leads E v (xs ++ v ∷ ys) ≡ true → leads E v (v ∷ ys) ≡ true
leads_cut E v xs ys h = (and_parts (leads E v xs) (leads E v (v ∷ ys)) (sym (leads-split E v v xs ys) ∙ h)).1

-- turned
pub leads_turned : (E : Graph) (v m : ℕ) (xs ys : List ℕ) → get_or (xs ++ m ∷ ys) 0 0 ≡ v → leads E v (xs ++ m ∷ ys) ≡ true
    → leads E m ((m ∷ ys) ++ xs) ≡ true
leads_turned E v m [] ys e h = ap (leads E m) (append-nil (m ∷ ys)) ∙ subst (λ z. leads E z (m ∷ ys) ≡ true) (sym e) h
leads_turned E v m (x ∷ xs) ys e h =
    let k : leads E x ((x ∷ xs) ++ m ∷ ys) ≡ true = subst (λ z. leads E z ((x ∷ xs) ++ m ∷ ys) ≡ true) (sym e) h in
    let p = and_parts (leads E m (x ∷ xs)) (leads E x (m ∷ ys)) (sym (leads-split E x m (x ∷ xs) ys) ∙ k) in
    leads-split E m x (m ∷ ys) xs ∙ and_from (leads E x (m ∷ ys)) (leads E m (x ∷ xs)) p.1 p.0

-- ---- edges

pub goes_within : (E : Graph) (v w : ℕ) → goes E v w ≡ true → v < length E
goes_within E v w h = elim (cases_lt v (length E)) [
  | inl l ↦ l
  | inr g ↦ absurd (true≢false (sym h ∙ ap (λ ws. has ws w) (get_or_past E v [] g)))
]

pub leads_within : (E : Graph) (f v : ℕ) (vs : List ℕ) → leads E f (v ∷ vs) ≡ true → v < length E
leads_within E f v [] h = goes_within E v f h
leads_within E f v (w ∷ vs) h = goes_within E v w ((and_parts (goes E v w) (leads E f (w ∷ vs)) h).0)
