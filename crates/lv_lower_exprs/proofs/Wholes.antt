-- The cells of signals, all bits of a word, and one cell that is written.
use Rattle.std.proofs.Common.{◌≡◌, ℕ, zero, suc, ◌+◌, ◌%◌, ◌^◌, ◌<◌, ◌≢◌, inl, inr, Bool, true, false, List, [], ◌∷◌, ◌++◌, length, take, map, refl, sym, ◌∙◌, ap, subst, arith, length-append, Option, Some, None, get_or-set_same, get_or-set_other, length-set}
use Rattle.std.specs.Prelude.{if◌then◌else◌, slice_index, slice_set, bytes_eq, decimal}
use Rattle.std.specs.List.{range_with_len}
use Rattle.std.proofs.lemmas.Bool.{cases_eq}
use Rattle.std.proofs.lemmas.List.{get_or_append_left, get_or-map, length-map}
use Rattle.std.proofs.lemmas.List.FromFn.{get_or-map-range_with_len, length-map-range_with_len}
use Rattle.std.proofs.lemmas.Slice.Eq.{bytes_eq-Decides}
use Rattle.lv_ast.specs.Names.{Name, at_index}
use Rattle.lv_source.specs.Names.{Bounds, Declared, Valuation, width_of, is_signal_sort, low, size}
use Rattle.lv_source.specs.Places.{Place, all_bits, read_bits, write_bits, write, cells, cells_by}
use Rattle.lv_source.specs.Parts.{is_declared_sort}
use Rattle.lv_netlist.specs.Net.{Net, width_at}
use Rattle.lv_flat.specs.Cells.{Cell, cell_at, cell_of, cells_of, all_cells, AreDistinct}
use Rattle.lv_flat.specs.Signals.{Signals, signal_at}
use Rattle.lv_values.specs.Worlds.{World}
use Rattle.lv_values.specs.Windows.{somes}
use Rattle.lv_values.proofs.Bits.{read_all_somes, write_all_somes}
use Rattle.lv_values.proofs.Windows.{somes-more}
use Rattle.lv_lower_exprs.specs.Tables.{IsTable, Shows, value_at}

-- ---- cells

pub signal_in : (S : Signals) (k : ℕ) → is_signal_sort (signal_at S k).sort ≡ true → k < length S
signal_in [] k h = cc
signal_in (d ∷ ds) zero h = omega arith
signal_in (d ∷ ds) (suc k) h = let i = signal_in ds k h in omega (arith, i)

-- a signal or a clock
pub declared-in : (S : Signals) (k : ℕ) → is_declared_sort (signal_at S k).sort ≡ true → k < length S
declared-in [] k h = cc
declared-in (d ∷ ds) zero h = omega arith
declared-in (d ∷ ds) (suc k) h = let i = declared-in ds k h in omega (arith, i)

at_append : (xs ys : List Cell) (m : ℕ) → cell_at (xs ++ ys) (length xs + m) ≡ cell_at ys m
at_append [] ys m = ap (cell_at ys) (omega arith)
at_append (x ∷ xs) ys m = let e : length (x ∷ xs) + m ≡ suc (length xs + m) = omega arith in ap (cell_at ((x ∷ xs) ++ ys)) e ∙ at_append xs ys m

at_first : (xs ys : List Cell) (j : ℕ) → j < length xs → cell_at (xs ++ ys) j ≡ cell_at xs j
at_first xs ys j lt = get_or_append_left xs ys _ j lt

pub record IsCell (cells : List Cell) (i : ℕ) (c : Cell) : Type 0 where
  pub within : i < length cells
  pub same : cell_at cells i ≡ c

-- the cells of a signal stand together
pub cells-at : (S : Signals) (k j : ℕ) → k < length S → j < length (cells_of (signal_at S k)) → IsCell (all_cells S) (length (all_cells (take k S)) + j) (cell_at (cells_of (signal_at S k)) j)
cells-at [] k j h lt = absurd (omega arith)
cells-at (d ∷ ds) zero j h lt =
    let e : 0 + j ≡ j = omega arith in
    record {
      within = omega (arith, length-append (cells_of d) (all_cells ds));
      same = ap (cell_at (cells_of d ++ all_cells ds)) e ∙ at_first (cells_of d) (all_cells ds) j lt;
    }
cells-at (d ∷ ds) (suc k) j h lt =
    let rest = cells-at ds k j (omega arith) lt in
    let before : ℕ = length (all_cells (take k ds)) in
    let l : length (cells_of d ++ all_cells (take k ds)) ≡ length (cells_of d) + before = length-append (cells_of d) (all_cells (take k ds)) in
    let e : length (cells_of d ++ all_cells (take k ds)) + j ≡ length (cells_of d) + (before + j) = omega (arith, l) in
    record {
      within = omega (arith, rest.within, l, length-append (cells_of d) (all_cells ds));
      same = ap (cell_at (cells_of d ++ all_cells ds)) e ∙ (at_append (cells_of d) (all_cells ds) (before + j) ∙ rest.same);
    }

cells_by_sort : (d : Declared) → is_signal_sort d.sort ≡ true → cells_of d ≡ map (cell_of (width_of d)) (cells d)
cells_by_sort d h = rw h refl

pub one-cell : (d : Declared) → is_signal_sort d.sort ≡ true → d.array ≡ None → cells_of d ≡ cell_of (width_of d) d.path ∷ []
one-cell d h e = cells_by_sort d h ∙ ap (λ (o : Option Bounds). map (cell_of (width_of d)) (cells_by o d.path)) e

-- a signal that is no array has one cell
pub cell_is : (S : Signals) (k : ℕ) → is_signal_sort (signal_at S k).sort ≡ true → (signal_at S k).array ≡ None → IsCell (all_cells S) (length (all_cells (take k S))) (cell_of (width_of (signal_at S k)) (signal_at S k).path)
cell_is S k h e =
    let d : Declared = signal_at S k in
    let o = one-cell d h e in
    let lt : 0 < length (cells_of d) = omega (arith, ap length o) in
    let c = cells-at S k 0 (signal_in S k h) lt in
    let z : length (all_cells (take k S)) + 0 ≡ length (all_cells (take k S)) = omega arith in
    record { within = omega (arith, c.within); same = ap (cell_at (all_cells S)) (sym z) ∙ (c.same ∙ ap (λ xs. cell_at xs 0) o) }

-- an element of an array has one
abbrev pub element_cell : Declared → Bounds → ℕ → Cell
element_cell d b j = cell_of (width_of d) (at_index d.path (decimal (low b + j)))

array_cells : (d : Declared) (b : Bounds) → is_signal_sort d.sort ≡ true → d.array ≡ Some b → cells_of d ≡ map (cell_of (width_of d)) (map (λ i. at_index d.path (decimal i)) (range_with_len (low b) (size b)))
array_cells d b h e = cells_by_sort d h ∙ ap (λ (o : Option Bounds). map (cell_of (width_of d)) (cells_by o d.path)) e

pub array-count : (d : Declared) (b : Bounds) → is_signal_sort d.sort ≡ true → d.array ≡ Some b → length (cells_of d) ≡ size b
array-count d b h e =
    ap length (array_cells d b h e) ∙ (length-map (map (λ i. at_index d.path (decimal i)) (range_with_len (low b) (size b))) (cell_of (width_of d)) ∙
    length-map-range_with_len (λ i. at_index d.path (decimal i)) (low b) (size b))

pub element_is : (S : Signals) (k : ℕ) (b : Bounds) (j : ℕ) → is_signal_sort (signal_at S k).sort ≡ true → (signal_at S k).array ≡ Some b → j < size b →
    IsCell (all_cells S) (length (all_cells (take k S)) + j) (element_cell (signal_at S k) b j)
element_is S k b j h e lt =
    let d : Declared = signal_at S k in
    let n = array-count d b h e in
    let names : List Name = map (λ i. at_index d.path (decimal i)) (range_with_len (low b) (size b)) in
    let l : length names ≡ size b = length-map-range_with_len (λ i. at_index d.path (decimal i)) (low b) (size b) in
    let c = cells-at S k j (signal_in S k h) (omega (arith, n)) in
    let at : cell_at (cells_of d) j ≡ element_cell d b j =
    ap (λ xs. cell_at xs j) (array_cells d b h e) ∙ (get_or-map (cell_of (width_of d)) names j [] _ (omega (arith, l)) ∙
    ap (cell_of (width_of d)) (get_or-map-range_with_len (λ i. at_index d.path (decimal i)) (low b) (size b) j (low b + j) [] lt refl)) in
    record { within = c.within; same = c.same ∙ at }

-- ---- all bits

all_somes : (n : ℕ) → all_bits n ≡ somes 0 n
all_somes zero = refl
all_somes (suc n) = ap (λ ks. ks ++ Some n ∷ []) (all_somes n) ∙ (let e : n ≡ 0 + n = omega arith in ap (λ k. somes 0 n ++ Some k ∷ []) e ∙ sym (somes-more 0 n))

pub read_all : (a n : ℕ) → read_bits a (all_bits n) ≡ a % 2 ^ n
read_all a n = ap (read_bits a) (all_somes n) ∙ read_all_somes a n

pub write_whole : (a n x : ℕ) → a < 2 ^ n → write_bits a (all_bits n) x ≡ x % 2 ^ n
write_whole a n x h = ap (λ ks. write_bits a ks x) (all_somes n) ∙ write_all_somes a n x h

pub all_length : (n : ℕ) → length (all_bits n) ≡ n
all_length zero = refl
all_length (suc n) = let l = length-append (all_bits n) (Some n ∷ []) in let i = all_length n in omega (arith, l, i)

-- ---- one cell that is written

module _ (net : Net) (cells : List Cell) (t : List ℕ) (i m : ℕ) (lt : i < length cells) where
  pub table-set : IsTable net cells t → m < length net.nodes → width_at net.nodes m ≡ (cell_at cells i).width → IsTable net cells (slice_set t i m)
  table-set h in_ w =
      let here : slice_index (slice_set t i m) i ≡ m = get_or-set_same t i m 0 (omega (arith, h.count)) in
      let other : (j : ℕ) → j ≢ i → slice_index (slice_set t i m) j ≡ slice_index t j = λ j ne. get_or-set_other t i j m 0 ne in
      record {
        count = length-set t i m ∙ h.count;
        within = λ j lj. elim (cases_eq j i) [
          | inl e ↦ subst (λ (k : ℕ). slice_index (slice_set t i m) k < length net.nodes) (sym e) (omega (arith, here))
          | inr ne ↦ omega (arith, other j ne, h.within j lj)
        ];
        widths = λ j lj. elim (cases_eq j i) [
          | inl e ↦ subst (λ (k : ℕ). width_at net.nodes (slice_index (slice_set t i m) k) ≡ (cell_at cells k).width) (sym e) (ap (width_at net.nodes) here ∙ w)
          | inr ne ↦ ap (width_at net.nodes) (other j ne) ∙ h.widths j lj
        ];
      }

  write_at : (v : Valuation) (p : Place) (x : ℕ) (name : Name) → name ≡ p.name → write v p x name ≡ write_bits (v name) p.bits x
  write_at v p x name e = ap (λ (c : Bool). if c then write_bits (v name) p.bits x else v name) ((bytes_eq-Decides name p.name).1 e)

  write_off : (v : Valuation) (p : Place) (x : ℕ) (name : Name) → (name ≡ p.name → ⊥) → write v p x name ≡ v name
  write_off v p x name ne = elim (bytes_eq name p.name) as (λ c. bytes_eq name p.name ≡ c → (if c then write_bits (v name) p.bits x else v name) ≡ v name) [
    | true ↦ λ e. absurd (ne ((bytes_eq-Decides name p.name).0 e))
    | false ↦ λ e. refl
  ] refl

  pub shows-set : AreDistinct cells → length t ≡ length cells → (w : World) (v : Valuation) (p : Place) (x : ℕ) → (cell_at cells i).name ≡ p.name → Shows w cells t v →
      value_at w m ≡ write_bits (v (cell_at cells i).name) p.bits x → Shows w cells (slice_set t i m) (write v p x)
  shows-set distinct count w v p x named s h =
      let here : slice_index (slice_set t i m) i ≡ m = get_or-set_same t i m 0 (omega (arith, count)) in
      let other : (j : ℕ) → j ≢ i → slice_index (slice_set t i m) j ≡ slice_index t j = λ j ne. get_or-set_other t i j m 0 ne in
      record {
        is = λ j lj. elim (cases_eq j i) [
          | inl e ↦ subst (λ (k : ℕ). value_at w (slice_index (slice_set t i m) k) ≡ write v p x (cell_at cells k).name) (sym e)
              (ap (value_at w) here ∙ (h ∙ sym (write_at v p x (cell_at cells i).name named)))
          | inr ne ↦ ap (value_at w) (other j ne) ∙ (s.is j lj ∙ sym (write_off v p x (cell_at cells j).name (λ e. ne (distinct j i lj lt (e ∙ sym named)))))
        ];
      }
