-- The cells of the signals of a flat design.
use Rattle.std.proofs.Common.{◌≡◌, ℕ, zero, suc, ◌+◌, ◌-◌, ◌<◌, ◌≤◌, true, false, List, [], ◌∷◌, length, map, take, refl, ap, sym, subst, ◌∙◌, inl, inr, arith, length-append, Option, Some, None}
use Rattle.std.specs.Prelude.{bytes_eq, decimal, nat_lt, not}
use Rattle.std.specs.List.{list_any, range_with_len}
use Rattle.std.proofs.lemmas.Bool.{ltb-false, cases_order}
use Rattle.lv_ast.specs.Names.{Name, at_index}
use Rattle.lv_source.specs.Names.{Bounds, Declared, width_of, is_signal_sort, low, high, size}
use Rattle.lv_source.specs.Places.{cells, cells_by}
use Rattle.lv_source.proofs.Tests.{or-left, or-split, and-left, and-right, not-true, any-map, any-range, name-itself, same_name}
use Rattle.lv_source.proofs.Trees.{HasCell}
use Rattle.lv_flat.specs.Cells.{Cell, cell_at, cell_of, cells_of, all_cells, AreDistinct}
use Rattle.lv_flat.specs.Signals.{Signals, signal_at}
use Rattle.lv_lower_exprs.proofs.Wholes.{IsCell, signal_in, cells-at}
use Rattle.lv_spans.specs.Domain.{is_element_in, name_by}

-- an element that there is has a cell
element_cell : (a : Option Bounds) (path : Name) (e : Option ℕ) → is_element_in a e ≡ true → list_any (bytes_eq (name_by path e)) (cells_by a path) ≡ true
element_cell None path None h = or-left (bytes_eq path path) false (name-itself path)
element_cell None path (Some k) h = cc
element_cell (Some b) path None h = cc
element_cell (Some b) path (Some k) h =
    let p : low b ≤ k = ltb-false k (low b) (not-true (nat_lt k (low b)) (and-left (not (nat_lt k (low b))) (not (nat_lt (high b) k)) h)) in
    let q : k ≤ high b = ltb-false (high b) k (not-true (nat_lt (high b) k) (and-right (not (nat_lt k (low b))) (not (nat_lt (high b) k)) h)) in
    let e : low b + (k - low b) ≡ k = omega arith in
    let f : ℕ → Name = λ i. at_index path (decimal i) in
    sym (any-map (bytes_eq (f k)) f (range_with_len (low b) (size b))) ∙
    any-range (λ i. bytes_eq (f k) (f i)) (low b) (size b) (k - low b) (omega arith) (ap (λ i. bytes_eq (f k) (f i)) e ∙ name-itself (f k))

pub has_element : (d : Declared) (e : Option ℕ) → is_element_in d.array e ≡ true → HasCell d (name_by d.path e)
has_element d e h = element_cell d.array d.path e h

-- ---- no two signals have one

pub record IsNamed (cs : List Cell) (name : Name) : Type 0 where
  pub at : ℕ
  pub within : at < length cs
  pub name_is : (cell_at cs at).name ≡ name

named_cell : (w : ℕ) (ns : List Name) (name : Name) → list_any (bytes_eq name) ns ≡ true → IsNamed (map (cell_of w) ns) name
named_cell w [] name h = cc
named_cell w (n ∷ ns) name h = elim (or-split (bytes_eq name n) (list_any (bytes_eq name) ns) h) [
  | inl e ↦ record { at = 0; within = omega arith; name_is = sym (same_name name n e) }
  | inr e ↦ let r : IsNamed (map (cell_of w) ns) name = named_cell w ns name e in
      record { at = suc r.at; within = (let l : r.at < length (map (cell_of w) ns) = r.within in omega arith); name_is = r.name_is }
]

cells_by_sort : (d : Declared) → is_signal_sort d.sort ≡ true → cells_of d ≡ map (cell_of (width_of d)) (cells d)
cells_by_sort d h = rw h refl

cell_named : (d : Declared) (name : Name) → is_signal_sort d.sort ≡ true → HasCell d name → IsNamed (cells_of d) name
cell_named d name s h = subst (λ cs. IsNamed cs name) (sym (cells_by_sort d s)) (named_cell (width_of d) (cells d) name h)

-- the cells of a signal stand before those of a later one
before_later : (S : Signals) (s t : ℕ) → s < t → t < length S → length (all_cells (take s S)) + length (cells_of (signal_at S s)) ≤ length (all_cells (take t S))
before_later [] s t l m = absurd (omega arith)
before_later (d ∷ S) zero zero l m = absurd (omega arith)
before_later (d ∷ S) zero (suc t) l m = omega (arith, length-append (cells_of d) (all_cells (take t S)))
before_later (d ∷ S) (suc s) zero l m = absurd (omega arith)
before_later (d ∷ S) (suc s) (suc t) l m =
    let r : length (all_cells (take s S)) + length (cells_of (signal_at S s)) ≤ length (all_cells (take t S)) = before_later S s t (omega arith) (omega arith) in
    omega (arith, length-append (cells_of d) (all_cells (take t S)), length-append (cells_of d) (all_cells (take s S)))

pub one_signal : (S : Signals) (s t : ℕ) (name : Name) → AreDistinct (all_cells S) → is_signal_sort (signal_at S s).sort ≡ true → is_signal_sort (signal_at S t).sort ≡ true
    → HasCell (signal_at S s) name → HasCell (signal_at S t) name → s ≡ t
one_signal S s t name distinct a b h k =
    let x : IsNamed (cells_of (signal_at S s)) name = cell_named (signal_at S s) name a h in
    let y : IsNamed (cells_of (signal_at S t)) name = cell_named (signal_at S t) name b k in
    let l : s < length S = signal_in S s a in
    let m : t < length S = signal_in S t b in
    let i : ℕ = length (all_cells (take s S)) + x.at in
    let j : ℕ = length (all_cells (take t S)) + y.at in
    let u : IsCell (all_cells S) i (cell_at (cells_of (signal_at S s)) x.at) = cells-at S s x.at l x.within in
    let v : IsCell (all_cells S) j (cell_at (cells_of (signal_at S t)) y.at) = cells-at S t y.at m y.within in
    let e : i ≡ j = distinct i j u.within v.within (ap (λ c. c.name) u.same ∙ (x.name_is ∙ sym (ap (λ c. c.name) v.same ∙ y.name_is))) in
    let p : x.at < length (cells_of (signal_at S s)) = x.within in
    let q : y.at < length (cells_of (signal_at S t)) = y.within in
    elim (cases_order s t) [
      | inl f ↦ f
      | inr (inl f) ↦ absurd (let g : length (all_cells (take s S)) + length (cells_of (signal_at S s)) ≤ length (all_cells (take t S)) = before_later S s t f m in omega arith)
      | inr (inr f) ↦ absurd (let g : length (all_cells (take t S)) + length (cells_of (signal_at S t)) ≤ length (all_cells (take s S)) = before_later S t s f l in omega arith)
    ]
