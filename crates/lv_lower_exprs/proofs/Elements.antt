-- The elements of an array as nodes of a table.
use Rattle.std.proofs.Common.{◌≡◌, ℕ, ◌+◌, ◌-◌, ◌<◌, ◌≤◌, true, false, not, ◌&&◌, List, length, take, drop, refl, sym, ◌∙◌, ap, subst, arith, get_or, length-drop, Some, ℤ, pos, negsuc}
use Rattle.std.specs.Prelude.{if◌then◌else◌, nat_lt, slice_get, decimal}
use Rattle.std.proofs.lemmas.Bool.Decides.{nat_tests}
use Rattle.std.proofs.lemmas.List.{get_or-take, get_or-drop, length-take}
use Rattle.std.proofs.lemmas.Option.{slice_get-get_or, slice_get_past}
use Rattle.lv_ast.specs.Names.{at_index}
use Rattle.lv_source.specs.Names.{Bounds, Declared, Valuation, width_of, is_signal_sort, low, high, size}
use Rattle.lv_netlist.specs.Net.{Net, width_at}
use Rattle.lv_flat.specs.Cells.{Cell, cell_at, all_cells}
use Rattle.lv_flat.specs.Signals.{Signals, signal_at}
use Rattle.lv_values.specs.Worlds.{World}
use Rattle.lv_values.specs.Picked.{AreElements, element_value, node_value}
use Rattle.lv_lower_exprs.specs.Tables.{IsTable, Shows, value_at}
use Rattle.lv_lower_exprs.specs.Named.{element_word}
use Rattle.lv_lower_exprs.proofs.Wholes.{element_is, element_cell}

less : (a b : ℕ) → nat_lt a b ≡ true → a < b
less a b h = grind (arith, nat_tests)

least : (a b : ℕ) → nat_lt a b ≡ false → b ≤ a
least a b h = grind (arith, nat_tests)

module _ (S : Signals) (k : ℕ) (b : Bounds) (h : is_signal_sort (signal_at S k).sort ≡ true) (e : (signal_at S k).array ≡ Some b) (table nodes : List ℕ) (at : ℕ) (a : at ≡ length (all_cells (take k S)))
    (n : nodes ≡ take (size b) (drop at table)) where
  abbrev d : Declared
  d = signal_at S k

  node-at : (j : ℕ) → j < size b → get_or nodes j 0 ≡ get_or table (at + j) 0
  node-at j lt = ap (λ xs. get_or xs j 0) n ∙ (get_or-take (size b) (drop at table) j 0 lt ∙ get_or-drop at table j 0)

  inside : (j : ℕ) → j < size b → at + j < length (all_cells S)
  inside j lt = let c = (element_is S k b j h e lt).within in omega (arith, a, c)

  cell : (j : ℕ) → j < size b → cell_at (all_cells S) (at + j) ≡ element_cell d b j
  cell j lt = ap (λ i. cell_at (all_cells S) (i + j)) a ∙ (element_is S k b j h e lt).same

  pub elements-within : at + size b ≤ length (all_cells S)
  elements-within = let i = inside (size b - 1) (omega arith) in omega (arith, i)

  pub elements-count : {net : Net} → IsTable net (all_cells S) table → length nodes ≡ size b
  elements-count t =
      let l : length (take (size b) (drop at table)) ≡ size b = omega (arith, length-take (size b) (drop at table), length-drop at table, elements-within, t.count) in
      ap length n ∙ l

  pub elements-table : {net : Net} → IsTable net (all_cells S) table → AreElements net (width_of d) nodes
  elements-table {net} t = record {
    within = λ j lt.
        let l : j < size b = omega (arith, elements-count t) in
        subst (λ (m : ℕ). m < length net.nodes) (sym (node-at j l)) (t.within (at + j) (inside j l));
    widths = λ j lt.
        let l : j < size b = omega (arith, elements-count t) in
        ap (width_at net.nodes) (node-at j l) ∙ (t.widths (at + j) (inside j l) ∙ ap (λ (c : Cell). c.width) (cell j l));
  }

  node-shows : (w : World) (v : Valuation) → Shows w (all_cells S) table v → (j : ℕ) → j < size b → value_at w (get_or nodes j 0) ≡ v (at_index d.path (decimal (low b + j)))
  node-shows w v s j lt = ap (value_at w) (node-at j lt) ∙ (s.is (at + j) (inside j lt) ∙ ap (λ (c : Cell). v c.name) (cell j lt))

  pub elements-show : {net : Net} → IsTable net (all_cells S) table → (w : World) (v : Valuation) → Shows w (all_cells S) table v → (z : ℤ) → element_value w nodes (low b) z ≡ element_word d b z v
  elements-show t w v s (negsuc i) = refl
  elements-show t w v s (pos i) =
      let count = elements-count t in
      let x : ℕ = v (at_index d.path (decimal i)) in
      elim (nat_lt i (low b)) as (λ c. nat_lt i (low b) ≡ c → (if c then 0 else node_value w (slice_get nodes (i - low b))) ≡ (if not c && not (nat_lt (high b) i) then x else 0)) [
        | true ↦ λ f. refl
        | false ↦ λ f. elim (nat_lt (high b) i) as (λ c. nat_lt (high b) i ≡ c → node_value w (slice_get nodes (i - low b)) ≡ (if not c then x else 0)) [
          | true ↦ λ g. let p : high b < i = less (high b) i g in ap (node_value w) (slice_get_past nodes (i - low b) (omega (arith, count)))
          | false ↦ λ g.
              let p : i ≤ high b = least (high b) i g in
              let q : low b ≤ i = least i (low b) f in
              let j : ℕ = i - low b in
              let lt : j < size b = omega arith in
              let r : low b + j ≡ i = omega arith in
              ap (node_value w) (slice_get-get_or nodes j 0 (omega (arith, count))) ∙ (node-shows w v s j lt ∙ ap (λ m. v (at_index d.path (decimal m))) r)
        ] refl
      ] refl
