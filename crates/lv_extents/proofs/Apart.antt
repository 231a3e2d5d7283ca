-- Cells that have one name are one cell.
use Rattle.std.proofs.Common.{◌≡◌, ℕ, zero, suc, ◌+◌, ◌-◌, ◌<◌, ◌≤◌, true, [], ◌∷◌, length, take, refl, sym, ◌∙◌, ap, arith, length-append, Option, Some, None, inl, inr}
use Rattle.std.specs.Prelude.{bytes_eq, decimal}
use Rattle.std.proofs.lemmas.Bool.{cases_lt}
use Rattle.std.proofs.lemmas.Bool.Decides.{nat_tests}
use Rattle.std.proofs.lemmas.Slice.Eq.{bytes_eq-Decides}
use Rattle.lv_ast.specs.Names.{at_index}
use Rattle.lv_source.specs.Names.{Bounds, low, high, size, is_signal_sort}
use Rattle.lv_source.specs.Places.{within}
use Rattle.lv_source.proofs.Tests.{and-left, and-right}
use Rattle.lv_flat.specs.Cells.{cell_at, cells_of, all_cells, AreDistinct}
use Rattle.lv_flat.specs.Signals.{Signals, signal_at}
use Rattle.lv_spans.specs.Sets.{Cell}
use Rattle.lv_spans.specs.Domain.{is_element_in, is_cell, name_by}
use Rattle.lv_lower_exprs.proofs.Wholes.{cell_is, element_is, array-count, one-cell}

abbrev first : Signals → ℕ → ℕ
first S k = length (all_cells (take k S))

-- the cells of a later signal stand behind
behind : (S : Signals) (k j : ℕ) → k < j → first S k + length (cells_of (signal_at S k)) ≤ first S j
behind [] k j lt = let z : first [] k ≡ 0 = nothing k in omega (arith, z)
  where
    nothing : (k : ℕ) → first [] k ≡ 0
    nothing zero = refl
    nothing (suc k) = refl
behind (d ∷ ds) k zero lt = absurd (omega arith)
behind (d ∷ ds) zero (suc j) lt = omega (arith, length-append (cells_of d) (all_cells (take j ds)))
behind (d ∷ ds) (suc k) (suc j) lt =
    let h = behind ds k j (omega arith) in
    omega (arith, h, length-append (cells_of d) (all_cells (take j ds)), length-append (cells_of d) (all_cells (take k ds)))

abbrev key : Option Bounds → ℕ → Option ℕ
key None j = None
key (Some b) j = Some (low b + j)

-- where the cell with a key stands in the list of all
record Stands (S : Signals) (q : Cell) : Type 0 where
  number : ℕ
  below : number < length (cells_of (signal_at S q.0))
  inside : first S q.0 + number < length (all_cells S)
  same : (cell_at (all_cells S) (first S q.0 + number)).name ≡ name_by (signal_at S q.0).path q.1
  keyed : q.1 ≡ key (signal_at S q.0).array number

inside-least : (l h i : ℕ) → within l h i ≡ true → l ≤ i
inside-least l h i e = grind (arith, nat_tests)

inside-most : (l h i : ℕ) → within l h i ≡ true → i ≤ h
inside-most l h i e = grind (arith, nat_tests)

stands : (S : Signals) (k : ℕ) (el : Option ℕ) (o : Option Bounds) → (signal_at S k).array ≡ o → is_signal_sort (signal_at S k).sort ≡ true → is_element_in o el ≡ true → Stands S (k, el)
stands S k None None e h t =
    let c = cell_is S k h e in
    let z : first S k + 0 ≡ first S k = omega arith in
    let o = one-cell (signal_at S k) h e in
    record {
      number = 0;
      below = omega (arith, ap length o);
      inside = omega (arith, c.within);
      same = ap (λ n. (cell_at (all_cells S) n).name) z ∙ ap (λ x. x.name) c.same;
      keyed = ap (λ x. key x 0) (sym e);
    }
stands S k (Some i) None e h t = cc
stands S k None (Some b) e h t = cc
stands S k (Some i) (Some b) e h t =
    let p : low b ≤ i = inside-least (low b) (high b) i t in
    let q : i ≤ high b = inside-most (low b) (high b) i t in
    let j : ℕ = i - low b in
    let lt : j < size b = omega arith in
    let r : low b + j ≡ i = omega arith in
    let c = element_is S k b j h e lt in
    let n = array-count (signal_at S k) b h e in
    record {
      number = j;
      below = omega (arith, n);
      inside = c.within;
      same = ap (λ x. x.name) c.same ∙ ap (λ m. at_index (signal_at S k).path (decimal m)) r;
      keyed = ap Some (sym r) ∙ ap (λ x. key x j) (sym e);
    }

stands-cell : (S : Signals) (q : Cell) → is_cell S q ≡ true → Stands S q
stands-cell S q h = stands S q.0 q.1 (signal_at S q.0).array refl (and-left _ _ h) (and-right _ _ h)

same-signal : (S : Signals) (k j m n : ℕ) → m < length (cells_of (signal_at S k)) → n < length (cells_of (signal_at S j)) → first S k + m ≡ first S j + n → k ≡ j
same-signal S k j m n lm ln e = elim (cases_lt k j) [
  | inl lt ↦ let b = behind S k j lt in absurd (omega (arith, b))
  | inr ge ↦ elim (cases_lt j k) [
    | inl lt ↦ let b = behind S j k lt in absurd (omega (arith, b))
    | inr ge2 ↦ omega arith
  ]
]

pub one-name : (S : Signals) → AreDistinct (all_cells S) → (p q : Cell) → is_cell S p ≡ true → is_cell S q ≡ true →
    name_by (signal_at S p.0).path p.1 ≡ name_by (signal_at S q.0).path q.1 → p ≡ q
one-name S d p q hp hq e =
    let a = stands-cell S p hp in
    let b = stands-cell S q hq in
    let i : first S p.0 + a.number ≡ first S q.0 + b.number = d _ _ a.inside b.inside (a.same ∙ (e ∙ sym b.same)) in
    let s : p.0 ≡ q.0 = same-signal S p.0 q.0 a.number b.number a.below b.below i in
    let n : a.number ≡ b.number = omega (arith, i, ap (first S) s) in
    let t : p.1 ≡ q.1 = a.keyed ∙ (ap (λ k. key (signal_at S k).array a.number) s ∙ (ap (key (signal_at S q.0).array) n ∙ sym b.keyed)) in
    ap (λ k. (k, p.1)) s ∙ ap (λ k. (q.0, k)) t

-- the cell of a span of one cell
pub is-under : (S : Signals) → AreDistinct (all_cells S) → (q : Cell) (k : ℕ) (el : Option ℕ) → is_cell S q ≡ true → is_cell S (k, el) ≡ true →
    q ≡ (k, el) → bytes_eq (name_by (signal_at S q.0).path q.1) (name_by (signal_at S k).path el) ≡ true
is-under S d q k el hq hk e = (bytes_eq-Decides _ _).1 (ap (λ (x : Cell). name_by (signal_at S x.0).path x.1) e)

pub same-name : (S : Signals) → AreDistinct (all_cells S) → (q p : Cell) → is_cell S q ≡ true → is_cell S p ≡ true →
    bytes_eq (name_by (signal_at S q.0).path q.1) (name_by (signal_at S p.0).path p.1) ≡ true → q ≡ p
same-name S d q p hq hp e = one-name S d q p hq hp ((bytes_eq-Decides _ _).0 e)
