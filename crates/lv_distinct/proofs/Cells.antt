-- The cells of signals that differ are distinct one by one.
use Rattle.std.proofs.Common.{◌≡◌, inl, inr, ℕ, zero, suc, ◌+◌, ◌<◌, ◌≤◌, ◌^◌, arith, Bool, true, false, List, [], ◌∷◌, ◌++◌, map, length, refl, sym, ap, ◌∙◌, subst, Option, Some, None}
use Rattle.std.specs.Prelude.{bytes_eq, filter, decimal, pos, cond, if◌then◌else◌}
use Rattle.std.specs.List.{list_any, range_with_len}
use Rattle.std.proofs.lemmas.Fmt.{decimal_injective}
use Rattle.lv_ast.specs.Names.{Name, at_index}
use Rattle.lv_source.specs.Names.{Bounds, Declared, low, high, size, width_of, is_signal_sort}
use Rattle.lv_source.specs.Places.{cells, cells_by}
use Rattle.lv_source.specs.Parts.{is_signal}
use Rattle.lv_source.proofs.Tests.{name-itself, or-left, or-right}
use Rattle.lv_source.proofs.Refused.{In}
use Rattle.lv_source.proofs.Paths.{left_same, same_rest, split_index}
use Rattle.lv_source.proofs.Trees.{HasCell, indexed, signed_plain}
use Rattle.lv_source.proofs.Apart.{Apart, apart-imp, apart-map, apart-flat}
use Rattle.lv_source.proofs.Turns.{Differ}
use Rattle.lv_flat.specs.Cells.{Cell, cell_of, cells_of, all_cells, cell_at, AreDistinct}

abbrev pub CellsDiffer : Declared → Declared → Type 0
CellsDiffer x y = (name : Name) → HasCell x name → HasCell y name → ⊥

abbrev NamesDiffer : Cell → Cell → Type 0
NamesDiffer c e = c.name ≡ e.name → ⊥

-- ---- elements of an array

numbers_within : (a n k : ℕ) → In k (range_with_len a n) → (a ≤ k) × (k < a + n)
numbers_within a zero k h = absurd h
numbers_within a (suc n) k (inl e) = (let f : a ≤ k = omega arith in f, let g : k < a + suc n = omega arith in g)
numbers_within a (suc n) k (inr h) =
    (let r : (a + 1 ≤ k) × (k < a + 1 + n) = numbers_within (a + 1) n k h in
    let p : a + 1 ≤ k = r.0 in
    let q : k < a + 1 + n = r.1 in
    (let f : a ≤ k = omega arith in f, let g : k < a + suc n = omega arith in g))

numbers_apart : (a n : ℕ) → Apart Differ (range_with_len a n)
numbers_apart a zero = tt
numbers_apart a (suc n) = (
  (λ k i e. (let r : (a + 1 ≤ k) × (k < a + 1 + n) = numbers_within (a + 1) n k i in let p : a + 1 ≤ k = r.0 in let no : ⊥ = omega arith in no)),
  numbers_apart (a + 1) n,
)

same_index : (n : Name) (j k : ℕ) → j < 2 ^ 64 → k < 2 ^ 64 → at_index n (decimal j) ≡ at_index n (decimal k) → j ≡ k
same_index n j k a b e =
    let t : 91 ∷ (decimal j ++ 93 ∷ []) ≡ 91 ∷ (decimal k ++ 93 ∷ []) = left_same n _ _ (sym (indexed n (decimal j)) ∙ (e ∙ indexed n (decimal k))) in
    decimal_injective j k a b
    (split_index (decimal j) (decimal k) [] [] (signed_plain (pos j)) (signed_plain (pos k)) (ap (λ (xs : List ℕ). xs ++ []) (same_rest 91 91 _ _ t))).0

within_words : (b : Bounds) (k : ℕ) → high b < 2 ^ 64 → In k (range_with_len (low b) (size b)) → k < 2 ^ 64
within_words b k top h =
    let r : (low b ≤ k) × (k < low b + size b) = numbers_within (low b) (size b) k h in
    let p : k < low b + size b = r.1 in
    omega arith

elements_apart : (a : Option Bounds) (path : Name) → ((b : Bounds) → a ≡ Some b → high b < 2 ^ 64) → Apart Differ (cells_by a path)
elements_apart None path f = ((λ y h. absurd h), tt)
elements_apart (Some b) path f =
    let top : high b < 2 ^ 64 = f b refl in
    apart-map Differ (λ k. at_index path (decimal k)) (range_with_len (low b) (size b))
    (apart-imp Differ (λ j k. Differ (at_index path (decimal j)) (at_index path (decimal k))) (range_with_len (low b) (size b))
    (λ j k u v d e. d (same_index path j k (within_words b j top u) (within_words b k top v) e)) (numbers_apart (low b) (size b)))

-- ---- cells by number

in_cells : (cs : List Cell) (k : ℕ) → k < length cs → In (cell_at cs k) cs
in_cells [] k h = absurd (omega arith)
in_cells (c ∷ cs) zero h = inl refl
in_cells (c ∷ cs) (suc k) h = inr (in_cells cs k (omega arith))

by_number : (cs : List Cell) → Apart NamesDiffer cs → AreDistinct cs
by_number [] h i j a b e = absurd (omega arith)
by_number (c ∷ cs) h zero zero a b e = refl
by_number (c ∷ cs) h zero (suc j) a b e = absurd (h.0 (cell_at cs j) (in_cells cs j (omega arith)) e)
by_number (c ∷ cs) h (suc i) zero a b e = absurd (h.0 (cell_at cs i) (in_cells cs i (omega arith)) (sym e))
by_number (c ∷ cs) h (suc i) (suc j) a b e = ap suc (by_number cs h.1 i j (omega arith) (omega arith) e)

-- ---- cells of signals

has_name : (name : Name) (ns : List Name) → In name ns → list_any (bytes_eq name) ns ≡ true
has_name name [] h = absurd h
has_name name (n ∷ ns) (inl e) = or-left (bytes_eq name n) (list_any (bytes_eq name) ns) (ap (bytes_eq name) e ∙ name-itself name)
has_name name (n ∷ ns) (inr h) = or-right (bytes_eq name n) (list_any (bytes_eq name) ns) (has_name name ns h)

from_map : (w : ℕ) (c : Cell) (ns : List Name) → In c (map (cell_of w) ns) → In c.name ns
from_map w c [] h = absurd h
from_map w c (n ∷ ns) (inl e) = inl (ap (λ (x : Cell). x.name) e)
from_map w c (n ∷ ns) (inr h) = inr (from_map w c ns h)

from_if : (b : Bool) (w : ℕ) (c : Cell) (ns : List Name) → In c (if b then map (cell_of w) ns else []) → In c.name ns
from_if true w c ns h = from_map w c ns h
from_if false w c ns h = absurd h

own_apart : (b : Bool) (w : ℕ) (ns : List Name) → Apart Differ ns → Apart NamesDiffer (if b then map (cell_of w) ns else [])
own_apart true w ns h = apart-map NamesDiffer (cell_of w) ns h
own_apart false w ns h = tt

pub signals_distinct : (ds : List Declared) → ((x : Declared) → In x ds → (b : Bounds) → x.array ≡ Some b → high b < 2 ^ 64) → Apart CellsDiffer ds → AreDistinct (all_cells ds)
signals_distinct ds small h =
    by_number (all_cells ds)
    (apart-flat NamesDiffer cells_of ds (λ x i. own_apart (is_signal_sort x.sort) (width_of x) (cells x) (elements_apart x.array x.path (λ b e. small x i b e)))
    (apart-imp CellsDiffer (λ x y. (c e : Cell) → In c (cells_of x) → In e (cells_of y) → NamesDiffer c e) ds
    (λ x y i j f c e k l same. f c.name (has_name c.name (cells x) (from_if (is_signal_sort x.sort) (width_of x) c (cells x) k))
    (has_name c.name (cells y) (subst (λ (n : Name). In n (cells y)) (sym same) (from_if (is_signal_sort y.sort) (width_of y) e (cells y) l)))) h))

no_cells : (d : Declared) → is_signal d ≡ false → cells_of d ≡ []
no_cells d e = ap (λ (b : Bool). if b then map (cell_of (width_of d)) (cells d) else []) e

-- clocks have none
pub only_signals : (ds : List Declared) → all_cells (filter is_signal ds) ≡ all_cells ds
only_signals [] = refl
only_signals (d ∷ ds) = elim (is_signal d) as (λ b. is_signal d ≡ b → all_cells (cond b (d ∷ filter is_signal ds) (filter is_signal ds)) ≡ cells_of d ++ all_cells ds) [
  | true ↦ λ e. ap (λ cs. cells_of d ++ cs) (only_signals ds)
  | false ↦ λ e. only_signals ds ∙ ap (λ cs. cs ++ all_cells ds) (sym (no_cells d e))
] refl
