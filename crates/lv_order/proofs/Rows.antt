-- Edges that lead to vertices.
use Rattle.std.proofs.Common.{◌≡◌, ℕ, ◌+◌, ◌<◌, ◌≤◌, true, false, ◌==◌, List, [], ◌∷◌, length, get_or, refl, ap, sym, subst, ◌∙◌, inl, inr, arith, Vec}
use Rattle.std.specs.Prelude.{nat_lt}
use Rattle.std.proofs.lemmas.Bool.{true≢false, and_parts, and_from, or_cases, or_left, or_right, ltb-true, lt-ltb, eqb-true, eq-eqb, cases_eq, cases_lt}
use Rattle.std.proofs.lemmas.List.{get_or-map, length-map, get_or_past}
use Rattle.lv_order.specs.Graphs.{graph, has, goes, edges_of}
use Rattle.lv_order.specs.Walks.{is_row}

row_within : (n : ℕ) (ws : List ℕ) (w : ℕ) → is_row n ws ≡ true → has ws w ≡ true → w < n
row_within n [] w h k = absurd (true≢false (sym k))
row_within n (x ∷ ws) w h k =
    let p = and_parts (nat_lt x n) (is_row n ws) h in
    elim (or_cases (x == w) (has ws w) k) [ inl e ↦ subst (λ z. z < n) (eqb-true x w e) (ltb-true x n p.0) | inr r ↦ row_within n ws w p.1 r ]

row_is : (n : ℕ) (ws : List ℕ) → ((w : ℕ) → has ws w ≡ true → w < n) → is_row n ws ≡ true
row_is n [] h = refl
row_is n (x ∷ ws) h =
    and_from (nat_lt x n) (is_row n ws) (lt-ltb x n (h x (or_left (x == x) (has ws x) (eq-eqb x x refl))))
    (row_is n ws (λ w k. h w (or_right (x == w) (has ws w) k)))

-- the rows before i lead to vertices
abbrev pub RowsBefore : {Z : Type 0} → List (Vec ℕ Z) → ℕ → Type 0
RowsBefore rows i = (v w : ℕ) → v < i → goes (graph rows) v w ≡ true → w < length rows

edges-at : {Z : Type 0} (rows : List (Vec ℕ Z)) (v : ℕ) (row : Vec ℕ Z) → v < length rows → row ≡ get_or rows v row → edges_of (graph rows) v ≡ row.items
edges-at rows v row l e = get_or-map (λ r. r.items) rows v row [] l ∙ ap (λ r. r.items) (sym e)

pub rows_more : {Z : Type 0} (rows : List (Vec ℕ Z)) (i : ℕ) (row : Vec ℕ Z) → i < length rows → row ≡ get_or rows i row → is_row (length rows) row.items ≡ true
    → RowsBefore rows i → RowsBefore rows (i + 1)
rows_more rows i row l e h b v w m g = elim (cases_eq v i) [
  | inl f ↦ row_within (length rows) row.items w h (ap (λ ws. has ws w) (sym (edges-at rows i row l e) ∙ ap (edges_of (graph rows)) (sym f)) ∙ g)
  | inr f ↦ b v w (omega arith) g
]

pub rows_all : {Z : Type 0} (rows : List (Vec ℕ Z)) (i : ℕ) → length rows ≤ i → RowsBefore rows i → (v w : ℕ) → goes (graph rows) v w ≡ true → w < length (graph rows)
rows_all rows i l b v w g = elim (cases_lt v i) [
  | inl m ↦ let r : w < length rows = b v w m g in let s : length (graph rows) ≡ length rows = length-map rows (λ r. r.items) in omega arith
  | inr m ↦ absurd (let s : length (graph rows) ≡ length rows = length-map rows (λ r. r.items) in
      true≢false (sym g ∙ ap (λ ws. has ws w) (get_or_past (graph rows) v [] (omega arith))))
]

pub row_fails : {Z : Type 0} (rows : List (Vec ℕ Z)) (i : ℕ) (row : Vec ℕ Z) → i < length rows → row ≡ get_or rows i row → is_row (length rows) row.items ≡ false
    → ((v w : ℕ) → goes (graph rows) v w ≡ true → w < length (graph rows)) → ⊥
row_fails rows i row l e h g =
    let s : length (graph rows) ≡ length rows = length-map rows (λ r. r.items) in
    true≢false (sym (row_is (length rows) row.items (λ w k. let q : w < length (graph rows) = g i w (ap (λ ws. has ws w) (edges-at rows i row l e) ∙ k) in omega arith)) ∙ h)
