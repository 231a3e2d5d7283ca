-- The valuation of the first table: inputs and registers have their values, and all else is 0.
use Rattle.std.proofs.Common.{◌≡◌, inl, inr, ℕ, zero, suc, ◌+◌, ◌<◌, ◌≤◌, ◌^◌, Bool, true, false, List, [], ◌∷◌, ◌++◌, length, map, refl, sym, ap, ◌∙◌, arith, subst}
use Rattle.std.specs.Prelude.{flat_map, filter, cond, slice_index, bytes_eq, if◌then◌else◌}
use Rattle.std.specs.List.{list_any, range_with_len}
use Rattle.std.proofs.lemmas.Nat.{pow_pos}
use Rattle.std.proofs.lemmas.List.{length-map}
use Rattle.lv_ast.specs.Names.{Name}
use Rattle.lv_bits.specs.Words.{Bits}
use Rattle.lv_source.specs.Names.{Declared, Valuation, width_of, is_input_sort}
use Rattle.lv_source.specs.Places.{cells}
use Rattle.lv_source.specs.Parts.{is_signal, width_from}
use Rattle.lv_source.specs.Views.{View, is_register_view}
use Rattle.lv_source.proofs.Each.{Each, each-join}
use Rattle.lv_source.proofs.Tests.{decide, any-left, any-right, or-left, or-right, name-itself}
use Rattle.lv_source.proofs.Refused.{In}
use Rattle.lv_netlist.specs.Net.{Net, no_nodes, width_at}
use Rattle.lv_netlist.specs.Run.{node_bits}
use Rattle.lv_flat.specs.Cells.{Cell, cell_of, cells_of, all_cells, cell_at, AreDistinct}
use Rattle.lv_flat.specs.Signals.{Signals}
use Rattle.lv_values.specs.Worlds.{World, Obeys, Grows}
use Rattle.lv_lower_exprs.specs.Tables.{IsTable, Shows, value_at}
use Rattle.lv_source.proofs.Unique.{clash}
use Rattle.lv_netlist.specs.declared.node.Typed.{Typed}
use Rattle.lv_settles.proofs.Cells.{same_signal, width_is}
use Rattle.lv_settles.specs.Rules.{signals_in, register_names, input_names, IsStart}
use Rattle.lv_lower.specs.declared.slot.Kind.{Kind}
use Rattle.lv_lower.specs.declared.slot.Kind.TheVariants as k
use Rattle.lv_lower.specs.declared.slot.Slot.{Slot}
use Rattle.lv_lower.specs.Slots.{kind_by, slot_by, slots_of, all_slots}
use Rattle.lv_lower.specs.Started.{net_from, slot_at, cell_in, valuation_of}
use Rattle.lv_lower.proofs.Standing.{Stands, stands}
use Rattle.lv_lower.proofs.Starting.{nodes-count}
use Rattle.lv_lower.proofs.Valuations.{named_by, find-cell, shows-own, rest-zero}

-- ---- cells and what their nodes are

one-cells : (kind : Kind) (cs : List Cell) → map cell_in (map (slot_by kind) cs) ≡ cs
one-cells kind [] = refl
one-cells kind (c ∷ cs) = ap (λ xs. c ∷ xs) (one-cells kind cs)

map-join : {A B : Type 0} (f : A → B) (xs ys : List A) → map f (xs ++ ys) ≡ map f xs ++ map f ys
map-join f [] ys = refl
map-join f (x ∷ xs) ys = ap (λ zs. f x ∷ zs) (map-join f xs ys)

pub cells-are : (vs : List View) (S : Signals) → map cell_in (all_slots vs S) ≡ all_cells S
cells-are vs [] = refl
cells-are vs (d ∷ S) =
    map-join cell_in (slots_of vs d) (all_slots vs S) ∙
    (ap (λ xs. xs ++ map cell_in (all_slots vs S)) (one-cells _ (cells_of d)) ∙ ap (λ xs. cells_of d ++ xs) (cells-are vs S))

nth-map : (ss : List Slot) (i : ℕ) → cell_at (map cell_in ss) i ≡ cell_in (slot_at ss i)
nth-map [] i = refl
nth-map (s ∷ ss) zero = refl
nth-map (s ∷ ss) (suc i) = nth-map ss i

pub cell-slot : (vs : List View) (S : Signals) (i : ℕ) → cell_at (all_cells S) i ≡ cell_in (slot_at (all_slots vs S) i)
cell-slot vs S i = ap (λ cs. cell_at cs i) (sym (cells-are vs S)) ∙ nth-map (all_slots vs S) i

pub cells-count : (vs : List View) (S : Signals) → length (all_cells S) ≡ length (all_slots vs S)
cells-count vs S = ap (λ cs. length cs) (sym (cells-are vs S)) ∙ length-map (all_slots vs S) cell_in

-- the signal whose cell it is
pub record SlotOf (S : Signals) (vs : List View) (s : Slot) : Type 0 where
  pub signal : Declared
  pub among : In signal (signals_in S)
  pub named : list_any (bytes_eq s.name) (cells signal) ≡ true
  pub kind : s.kind ≡ kind_by (is_input_sort signal.sort) (is_register_view vs signal)
  pub width : s.width ≡ width_of signal

module _ (S : Signals) (vs : List View) where
  each_name : (d : Declared) → In d (signals_in S) → (names : List Name) → ((name : Name) → list_any (bytes_eq name) names ≡ true → list_any (bytes_eq name) (cells d) ≡ true) →
      Each (SlotOf S vs) (map (slot_by (kind_by (is_input_sort d.sort) (is_register_view vs d))) (map (cell_of (width_of d)) names))
  each_name d i [] f = tt
  each_name d i (n ∷ ns) f = (
    record { signal = d; among = i; named = f n (or-left (bytes_eq n n) (list_any (bytes_eq n) ns) (name-itself n)); kind = refl; width = refl },
    each_name d i ns (λ m h. f m (or-right (bytes_eq m n) (list_any (bytes_eq m) ns) h)),
  )

  one_of : (d : Declared) (signal : Bool) → (signal ≡ true → In d (signals_in S)) →
      Each (SlotOf S vs) (map (slot_by (kind_by (is_input_sort d.sort) (is_register_view vs d))) (if signal then map (cell_of (width_of d)) (cells d) else []))
  one_of d true i = each_name d (i refl) (cells d) (λ name h. h)
  one_of d false i = tt

  all_of : (T : Signals) → ((d : Declared) → In d T → is_signal d ≡ true → In d (signals_in S)) → Each (SlotOf S vs) (all_slots vs T)
  all_of [] f = tt
  all_of (d ∷ T) f = each-join (SlotOf S vs) (slots_of vs d) (all_slots vs T) (one_of d (is_signal d) (λ h. f d (inl refl) h)) (all_of T (λ x i h. f x (inr i) h))

pub in_signals : (S : Signals) (d : Declared) → In d S → is_signal d ≡ true → In d (signals_in S)
in_signals [] d i h = absurd i
in_signals (x ∷ xs) d (inl e) h = subst (λ b. In d (cond b (x ∷ filter is_signal xs) (filter is_signal xs))) (sym (ap is_signal e ∙ h)) (inl e)
in_signals (x ∷ xs) d (inr i) h = elim (is_signal x) as (λ b. In d (cond b (x ∷ filter is_signal xs) (filter is_signal xs))) [
  | true ↦ inr (in_signals xs d i h)
  | false ↦ in_signals xs d i h
]

each_slot : (P : Slot → Type 0) (ss : List Slot) → Each P ss → (j : ℕ) → j < length ss → P (slot_at ss j)
each_slot P [] h j b = absurd (omega arith)
each_slot P (s ∷ ss) h zero b = h.0
each_slot P (s ∷ ss) h (suc j) b = each_slot P ss h.1 j (omega arith)

pub slot-of : (S : Signals) (vs : List View) (j : ℕ) → j < length (all_slots vs S) → SlotOf S vs (slot_at (all_slots vs S) j)
slot-of S vs j b = each_slot (SlotOf S vs) (all_slots vs S) (all_of S vs S (in_signals S)) j b

-- a signal of the list
cells-listed : (q : Declared → Bool) (ds : List Declared) (d : Declared) (name : Name) → In d ds → q d ≡ true → list_any (bytes_eq name) (cells d) ≡ true →
    list_any (bytes_eq name) (flat_map cells (filter q ds)) ≡ true
cells-listed q [] d name i h c = absurd i
cells-listed q (x ∷ xs) d name (inl e) h c =
    ap (λ b. list_any (bytes_eq name) (flat_map cells (cond b (x ∷ filter q xs) (filter q xs)))) (ap q e ∙ h) ∙
    any-left (bytes_eq name) (cells x) (flat_map cells (filter q xs)) (ap (λ z. list_any (bytes_eq name) (cells z)) e ∙ c)
cells-listed q (x ∷ xs) d name (inr i) h c = elim (q x) as (λ b. list_any (bytes_eq name) (flat_map cells (cond b (x ∷ filter q xs) (filter q xs))) ≡ true) [
  | true ↦ any-right (bytes_eq name) (cells x) (flat_map cells (filter q xs)) (cells-listed q xs d name i h c)
  | false ↦ cells-listed q xs d name i h c
]

-- ---- values

module _ (S : Signals) (vs : List View) (net : Net) (grown : Grows (net_from no_nodes (all_slots vs S)) net) (distinct : AreDistinct (all_cells S)) where
  abbrev ss : List Slot
  ss = all_slots vs S

  abbrev cs : List Cell
  cs = all_cells S

  abbrev table : List ℕ
  table = range_with_len 0 (length ss)

  range-at : (a n i : ℕ) → i < n → slice_index (range_with_len a n) i ≡ a + i
  range-at a zero i h = absurd (omega arith)
  range-at a (suc n) zero h = omega arith
  range-at a (suc n) (suc i) h = range-at (a + 1) n i (omega arith) ∙ (let e : a + 1 + i ≡ a + suc i = omega arith in e)

  range-count : (a n : ℕ) → length (range_with_len a n) ≡ n
  range-count a zero = refl
  range-count a (suc n) = ap suc (range-count (a + 1) n)

  count : length (net_from no_nodes ss).nodes ≡ length ss
  count = (let e : length (net_from no_nodes ss).nodes ≡ 0 + length ss = nodes-count no_nodes ss in omega arith)

  table-at : (i : ℕ) → i < length ss → slice_index table i ≡ i
  table-at i b = range-at 0 (length ss) i b ∙ (let e : 0 + i ≡ i = omega arith in e)

  pub table-count : length table ≡ length cs
  table-count = range-count 0 (length ss) ∙ sym (cells-count vs S)

  pub stands-at : (i : ℕ) → i < length ss → Stands (slot_at ss i).kind (net_from no_nodes ss) i (slot_at ss i).name (slot_at ss i).width
  stands-at i b = subst (λ at. Stands (slot_at ss i).kind (net_from no_nodes ss) at (slot_at ss i).name (slot_at ss i).width) (let e : 0 + i ≡ i = omega arith in e) (stands no_nodes ss i b)

  width-by : (kind : Kind) (old : Net) (i : ℕ) (name : List ℕ) (width : ℕ) → Stands kind old i name width → width_at old.nodes i ≡ width
  width-by k.Input old i name width s = ap (λ t. t.width) s.1
  width-by k.Register old i name width s = ap (λ t. t.width) s.1
  width-by k.Zero old i name width s = ap (λ t. t.width) s

  pub inside : (i : ℕ) → i < length ss → i < length (net_from no_nodes ss).nodes
  inside i b = (let e : length (net_from no_nodes ss).nodes ≡ length ss = count in omega arith)

  width-of : (i : ℕ) → i < length ss → width_at net.nodes i ≡ (slot_at ss i).width
  width-of i b =
      ap (λ t. t.width) (grown.same i (inside i b)) ∙ width-by (slot_at ss i).kind (net_from no_nodes ss) i (slot_at ss i).name (slot_at ss i).width (stands-at i b)

  slots-below : (i : ℕ) → i < length cs → i < length ss
  slots-below i b = (let e : length cs ≡ length ss = cells-count vs S in omega arith)

  pub first-table : IsTable net cs table
  first-table = record {
    count = table-count;
    within = λ i b. subst (λ at. at < length net.nodes) (sym (table-at i (slots-below i b)))
        (let m : length (net_from no_nodes ss).nodes ≤ length net.nodes = grown.more in let e : i < length (net_from no_nodes ss).nodes = inside i (slots-below i b) in omega arith);
    widths = λ i b. ap (width_at net.nodes) (table-at i (slots-below i b)) ∙ (width-of i (slots-below i b) ∙ ap (λ (c : Cell). c.width) (sym (cell-slot vs S i)));
  }

  -- ---- the valuation

  module _ (w : World) (obeys : Obeys net w) where
    abbrev pub v0 : Valuation
    v0 = valuation_of w cs table

    pub shows-start : Shows w cs table v0
    shows-start = shows-own w cs table distinct table-count

    -- the value of the cell of this number
    pub value-is : (i : ℕ) → i < length ss → v0 (slot_at ss i).name ≡ value_at w i
    value-is i b =
        sym (ap v0 (ap (λ (c : Cell). c.name) (cell-slot vs S i))) ∙
        (sym (shows-start.is i (let e : length cs ≡ length ss = cells-count vs S in omega arith)) ∙ ap (value_at w) (table-at i b))

    -- where a name that is a cell's stands
    pub found : (name : Name) → named_by name cs ≡ true → (i : ℕ) × (i < length ss) × ((slot_at ss i).name ≡ name)
    found name h =
        let r : (i : ℕ) × (i < length cs) × ((cell_at cs i).name ≡ name) = find-cell cs name h in
        (r.0, slots-below r.0 r.1, ap (λ (c : Cell). c.name) (sym (cell-slot vs S r.0)) ∙ r.2)

    pub in-net : (i : ℕ) → i < length ss → i < length net.nodes
    in-net i b = (let m : length (net_from no_nodes ss).nodes ≤ length net.nodes = grown.more in let e : i < length (net_from no_nodes ss).nodes = inside i b in omega arith)

    width-from : (i : ℕ) → i < length ss → width_from (signals_in S) (slot_at ss i).name ≡ (slot_at ss i).width
    width-from i b =
        let o : SlotOf S vs (slot_at ss i) = slot-of S vs i b in
        width_is (signals_in S) (slot_at ss i).name o.signal o.among (λ y j c. same_signal S distinct y o.signal (slot_at ss i).name j o.among c o.named) o.named ∙ sym o.width

    start-fits : (name : Name) → v0 name < 2 ^ width_from (signals_in S) name
    start-fits name = elim (decide (named_by name cs)) [
      | inr n ↦ subst (λ x. x < 2 ^ width_from (signals_in S) name) (sym (rest-zero w cs table name n)) (pow_pos (width_from (signals_in S) name))
      | inl h ↦ (
          let r : (i : ℕ) × (i < length ss) × ((slot_at ss i).name ≡ name) = found name h in
          let f : value_at w r.0 < 2 ^ width_at net.nodes r.0 = obeys.fits r.0 (in-net r.0 r.1) in
          subst (λ (m : Name). v0 m < 2 ^ width_from (signals_in S) m) r.2
          (subst (λ x. x < 2 ^ width_from (signals_in S) (slot_at ss r.0).name) (sym (value-is r.0 r.1))
          (subst (λ n. value_at w r.0 < 2 ^ n) (width-of r.0 r.1 ∙ sym (width-from r.0 r.1)) f)))
    ]

    zero-by : (kind : Kind) (i : ℕ) → i < length ss → (name : List ℕ) (width : ℕ) → Stands kind (net_from no_nodes ss) i name width → kind ≡ k.Zero → value_at w i ≡ 0
    zero-by k.Input i b name width s e = cc
    zero-by k.Register i b name width s e = cc
    zero-by k.Zero i b name width s e =
        ap (λ (x : Bits). x.value) (obeys.values i (in-net i b)) ∙
        ap (λ (t : Typed). (node_bits w.state w.inputs w.values t.node).value) (grown.same i (inside i b) ∙ s)

    start-rest : (name : Name) → list_any (bytes_eq name) (register_names (signals_in S) vs) ≡ false → list_any (bytes_eq name) (input_names (signals_in S)) ≡ false → v0 name ≡ 0
    start-rest name no_register no_input = elim (decide (named_by name cs)) [
      | inr n ↦ rest-zero w cs table name n
      | inl h ↦ (
          let r : (i : ℕ) × (i < length ss) × ((slot_at ss i).name ≡ name) = found name h in
          let o : SlotOf S vs (slot_at ss r.0) = slot-of S vs r.0 r.1 in
          let c : list_any (bytes_eq name) (cells o.signal) ≡ true = ap (λ m. list_any (bytes_eq m) (cells o.signal)) (sym r.2) ∙ o.named in
          let a : is_input_sort o.signal.sort ≡ false = elim (decide (is_input_sort o.signal.sort)) [
            | inr n ↦ n
            | inl y ↦ clash (list_any (bytes_eq name) (input_names (signals_in S))) (cells-listed (λ x. is_input_sort x.sort) (signals_in S) o.signal name o.among y c) no_input
          ] in
          let b : is_register_view vs o.signal ≡ false = elim (decide (is_register_view vs o.signal)) [
            | inr n ↦ n
            | inl y ↦ clash (list_any (bytes_eq name) (register_names (signals_in S) vs)) (cells-listed (is_register_view vs) (signals_in S) o.signal name o.among y c) no_register
          ] in
          let z : (slot_at ss r.0).kind ≡ k.Zero = o.kind ∙ (ap (λ x. kind_by x (is_register_view vs o.signal)) a ∙ ap (λ x. kind_by false x) b) in
          sym (ap v0 r.2) ∙ (value-is r.0 r.1 ∙ zero-by (slot_at ss r.0).kind r.0 r.1 (slot_at ss r.0).name (slot_at ss r.0).width (stands-at r.0 r.1) z))
    ]

    pub starts : IsStart (signals_in S) vs v0
    starts = record { fits = start-fits; rest = start-rest }
