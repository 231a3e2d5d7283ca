-- The cycles of a lowered graph and the settled valuations of its design are one.
use Rattle.std.proofs.Common.{◌≡◌, inl, inr, ℕ, zero, suc, ◌+◌, ◌/◌, ◌%◌, ◌^◌, ◌<◌, Bool, true, false, List, [], ◌∷◌, length, map, refl, sym, ap, ◌∙◌, arith, subst, get_or, Some, None}
use Rattle.std.specs.Prelude.{flat_map, filter, cond, bytes_eq, All, if◌then◌else◌}
use Rattle.std.specs.List.{list_any, range_with_len}
use Rattle.std.proofs.lemmas.Bool.{cases_lt}
use Rattle.std.proofs.lemmas.Nat.Bits.{same_from_bits, bit_at_above}
use Rattle.std.proofs.lemmas.List.{length-map}
use Rattle.std.proofs.lemmas.List.Elements.{All-nil, All-cons}
use Rattle.lv_ast.specs.Names.{Name}
use Rattle.lv_bits.specs.Words.{Bits}
use Rattle.lv_model.specs.Machine.{AreSame}
use Rattle.lv_model.specs.Design.{Observers, machine_of}
use Rattle.lv_source.specs.Names.{Declared, Valuation, width_of, is_input_sort}
use Rattle.lv_source.specs.Places.{Bit, bit_at, has_bit, same_bit, cells, bits_below}
use Rattle.lv_source.specs.Parts.{is_signal, width_from}
use Rattle.lv_source.specs.Views.{View, is_register_view, register_view_bits, next_view_bit, IsViewSettled, ViewFollows}
use Rattle.lv_source.proofs.Each.{Each, each-join}
use Rattle.lv_source.proofs.Tests.{or-left, or-right, or-split, any-left, any-right, any-split, name-itself, same_name, same_bits, has-head}
use Rattle.lv_source.proofs.Bridges.{two}
use Rattle.lv_source.proofs.Refused.{In}
use Rattle.lv_source.proofs.Apart.{in-filter}
use Rattle.lv_source.proofs.Within.{below_has}
use Rattle.lv_source.proofs.Facts.{all_bits_in, all_names}
use Rattle.lv_netlist.specs.declared.node.Register.{Register}
use Rattle.lv_netlist.specs.Net.{Net, IsNet, HasNexts, input_at, input_name, input_width, register_at, register_name, register_width, register_next, width_at}
use Rattle.lv_netlist.specs.Run.{no_bits, bits_at, values_of, next_bits, next_state}
use Rattle.lv_netlist.specs.Stepping.{GraphCycle, stepper_of, graph_machine}
use Rattle.lv_model.specs.Stepper.{stepped}
use Rattle.lv_flat.specs.Cells.{Cell, cell_of, cells_of, all_cells, cell_at, AreDistinct}
use Rattle.lv_flat.specs.Signals.{Signals}
use Rattle.lv_values.specs.Worlds.{Obeys}
use Rattle.lv_settles.specs.Rules.{signals_in, input_names, register_names}
use Rattle.lv_settles.proofs.Cells.{same_signal, width_is, some_named}
use Rattle.lv_settles.proofs.Lists.{signal_of}
use Rattle.lv_settles.proofs.Settling.{all_of}
use Rattle.lv_source.proofs.Kids.{in_index}
use Rattle.lv_lower.specs.Lowered.{IsGiven, IsLowered, entry_of, register_entry}
use Rattle.lv_lower.specs.Machines.{view_design, world_of, cycle_valuation, through}
use Rattle.lv_lower.proofs.Cycles.{cycle-obeys}
use Rattle.lv_lower.proofs.Through.{Moves, are_same}
use Rattle.lv_lower.proofs.Valuations.{named_by, find-cell, valuation-is}

-- ---- cells of some of the signals

record CellOf (T : List Declared) (c : Cell) : Type 0 where
  signal : Declared
  among : In signal T
  named : list_any (bytes_eq c.name) (cells signal) ≡ true
  width : c.width ≡ width_of signal

cells-by : (T : List Declared) (d : Declared) → In d T → (names : List Name) → ((name : Name) → list_any (bytes_eq name) names ≡ true → list_any (bytes_eq name) (cells d) ≡ true) →
    Each (CellOf T) (map (cell_of (width_of d)) names)
cells-by T d i [] f = tt
cells-by T d i (n ∷ ns) f = (
  record { signal = d; among = i; named = f n (or-left (bytes_eq n n) (list_any (bytes_eq n) ns) (name-itself n)); width = refl },
  cells-by T d i ns (λ m h. f m (or-right (bytes_eq m n) (list_any (bytes_eq m) ns) h)),
)

cells-if : (T : List Declared) (d : Declared) → In d T → (b : Bool) → Each (CellOf T) (if b then map (cell_of (width_of d)) (cells d) else [])
cells-if T d i true = cells-by T d i (cells d) (λ name h. h)
cells-if T d i false = tt

cells-all : (T U : List Declared) → ((d : Declared) → In d U → In d T) → Each (CellOf T) (all_cells U)
cells-all T [] f = tt
cells-all T (d ∷ U) f = each-join (CellOf T) (cells_of d) (all_cells U) (cells-if T d (f d (inl refl)) (is_signal d)) (cells-all T U (λ x i. f x (inr i)))

each-nth : (P : Cell → Type 0) (cs : List Cell) → Each P cs → (i : ℕ) → i < length cs → P (cell_at cs i)
each-nth P [] h i b = absurd (omega arith)
each-nth P (c ∷ cs) h zero b = h.0
each-nth P (c ∷ cs) h (suc i) b = each-nth P cs h.1 i (omega arith)

cell-of : (T : List Declared) (i : ℕ) → i < length (all_cells T) → CellOf T (cell_at (all_cells T) i)
cell-of T i b = each-nth (CellOf T) (all_cells T) (cells-all T T (λ d h. h)) i b

in-kept : (q : Declared → Bool) (d : Declared) (T : List Declared) → In d T → q d ≡ true → In d (filter q T)
in-kept q d [] i h = absurd i
in-kept q d (x ∷ xs) (inl e) h = subst (λ b. In d (cond b (x ∷ filter q xs) (filter q xs))) (sym (ap q e ∙ h)) (inl e)
in-kept q d (x ∷ xs) (inr i) h = elim (q x) as (λ b. In d (cond b (x ∷ filter q xs) (filter q xs))) [ true ↦ inr (in-kept q d xs i h) | false ↦ in-kept q d xs i h ]

-- the signal that has a name
with-name : (T : List Declared) (name : Name) → list_any (bytes_eq name) (flat_map cells T) ≡ true → (d : Declared) × In d T × (list_any (bytes_eq name) (cells d) ≡ true)
with-name [] name h = cc
with-name (d ∷ T) name h = elim (any-split (bytes_eq name) (cells d) (flat_map cells T) h) [
  | inl k ↦ (d, inl refl, k)
  | inr k ↦ (let r : (x : Declared) × In x T × (list_any (bytes_eq name) (cells x) ≡ true) = with-name T name k in (r.0, inr r.1, r.2))
]

nth-map : {A B : Type 0} (f : A → B) (xs : List A) (i : ℕ) (d : A) (e : B) → i < length xs → get_or (map f xs) i e ≡ f (get_or xs i d)
nth-map f [] i d e h = absurd (omega arith)
nth-map f (x ∷ xs) zero d e h = refl
nth-map f (x ∷ xs) (suc i) d e h = nth-map f xs i d e (omega arith)

map-same : {A B : Type 0} (f g : A → B) (xs : List A) (d : A) → ((i : ℕ) → i < length xs → f (get_or xs i d) ≡ g (get_or xs i d)) → map f xs ≡ map g xs
map-same f g [] d h = refl
map-same f g (x ∷ xs) d h = two (λ (y : _) (ys : List _). y ∷ ys) _ _ _ _ (h 0 (omega arith)) (map-same f g xs d (λ i b. h (suc i) (omega arith)))

all_of_bits : (P : Bit → Type 0) (bs : List Bit) → ((b : Bit) → has_bit bs b ≡ true → P b) → All P bs
all_of_bits P [] f = All-nil P
all_of_bits P (b ∷ bs) f = All-cons P b bs (f b (has-head b bs)) (all_of_bits P bs (λ x h. f x (or-right (same_bit x b) (has_bit bs x) h)))

below-bit : (a n : ℕ) (name : Name) (b : Bit) → has_bit (map (λ k. record { name = name; place = k }) (range_with_len a n)) b ≡ true → (b.name ≡ name) × (b.place < a + n)
below-bit a zero name b h = cc
below-bit a (suc n) name b h = elim (or-split (same_bit b (record { name = name; place = a })) (has_bit (map (λ k. record { name = name; place = k }) (range_with_len (a + 1) n)) b) h) [
  | inl e ↦ (
      let s : b ≡ record { name = name; place = a } = same_bits b (record { name = name; place = a }) e in
      (ap (λ (x : Bit). x.name) s, (let p : b.place ≡ a = ap (λ (x : Bit). x.place) s in omega arith)))
  | inr e ↦ (let r : (b.name ≡ name) × (b.place < a + 1 + n) = below-bit (a + 1) n name b e in (r.0, (let p : b.place < a + 1 + n = r.1 in omega arith)))
]

among-cells : (T : List Declared) (d : Declared) (name : Name) → In d T → list_any (bytes_eq name) (cells d) ≡ true → list_any (bytes_eq name) (flat_map cells T) ≡ true
among-cells [] d name i h = absurd i
among-cells (x ∷ xs) d name (inl e) h = any-left (bytes_eq name) (cells x) (flat_map cells xs) (ap (λ z. list_any (bytes_eq name) (cells z)) e ∙ h)
among-cells (x ∷ xs) d name (inr i) h = any-right (bytes_eq name) (cells x) (flat_map cells xs) (among-cells xs d name i h)

-- a bit of names with their widths
named-bit : (width : Name → ℕ) (names : List Name) (b : Bit) → has_bit (flat_map (λ name. bits_below (width name) name) names) b ≡ true →
    (list_any (bytes_eq b.name) names ≡ true) × (b.place < width b.name)
named-bit width [] b h = cc
named-bit width (n ∷ ns) b h = elim (any-split (same_bit b) (bits_below (width n) n) (flat_map (λ name. bits_below (width name) name) ns) h) [
  | inl k ↦ (
      let r : (b.name ≡ n) × (b.place < 0 + width n) = below-bit 0 (width n) n b k in
      let e : bytes_eq b.name n ≡ true = ap (λ m. bytes_eq b.name m) (sym r.0) ∙ name-itself b.name in
      (or-left (bytes_eq b.name n) (list_any (bytes_eq b.name) ns) e, (let p : b.place < 0 + width n = r.1 in let q : width b.name ≡ width n = ap width r.0 in omega arith)))
  | inr k ↦ (let r : (list_any (bytes_eq b.name) ns ≡ true) × (b.place < width b.name) = named-bit width ns b k in (or-right (bytes_eq b.name n) (list_any (bytes_eq b.name) ns) r.0, r.1))
]

has-named : (width : Name → ℕ) (names : List Name) (name : Name) (j : ℕ) → list_any (bytes_eq name) names ≡ true → j < width name →
    has_bit (flat_map (λ name. bits_below (width name) name) names) (record { name = name; place = j }) ≡ true
has-named width [] name j h b = cc
has-named width (n ∷ ns) name j h b =
    let x : Bit = record { name = name; place = j } in
    elim (or-split (bytes_eq name n) (list_any (bytes_eq name) ns) h) [
      | inl e ↦ any-left (same_bit x) (bits_below (width n) n) (flat_map (λ name. bits_below (width name) name) ns)
          (ap (λ (m : Name). has_bit (bits_below (width m) m) x) (sym (same_name name n e)) ∙ below_has (width name) j name b)
      | inr e ↦ any-right (same_bit x) (bits_below (width n) n) (flat_map (λ name. bits_below (width name) name) ns) (has-named width ns name j e b)
    ]

module _ (S : Signals) (vs : List View) (net : Net) (table first : List ℕ) (lowered : IsLowered S vs net table first) (right : IsNet net) (nexts : HasNexts net) (distinct : AreDistinct
    (all_cells S)) where
  abbrev ds : List Declared
  ds = signals_in S

  abbrev cs : List Cell
  cs = all_cells S

  abbrev from : GraphCycle → Valuation
  from c = cycle_valuation net cs table c

  abbrev IsCycle : GraphCycle → Type 0
  IsCycle c = (stepped (stepper_of net)).IsSettled c

  obeys : (c : GraphCycle) → IsCycle c → Obeys net (world_of net c)
  obeys c h = cycle-obeys net c.state c.input right h.0.0 h.0.1 h.1.0 h.1.1

  given : (c : GraphCycle) (h : IsCycle c) → IsGiven net (world_of net c) (from c)
  given c h = lowered.settling.given (world_of net c) (obeys c h)

  -- ---- inputs and registers by name

  width-of : (d : Declared) (name : Name) → In d ds → list_any (bytes_eq name) (cells d) ≡ true → width_from ds name ≡ width_of d
  width-of d name i c = width_is ds name d i (λ y j h. same_signal S distinct y d name j i h c) c

  -- a list of entries that are the cells of some signals
  module _ (q : Declared → Bool) (es : List (List ℕ × ℕ)) (are : es ≡ map entry_of (all_cells (filter q ds))) where
    abbrev T : List Declared
    T = filter q ds

    count : length es ≡ length (all_cells T)
    count = ap (λ xs. length xs) are ∙ length-map (all_cells T) entry_of

    entry-at : (i : ℕ) → i < length es → get_or es i ([], 0) ≡ entry_of (cell_at (all_cells T) i)
    entry-at i b = ap (λ xs. get_or xs i ([], 0)) are ∙ nth-map entry_of (all_cells T) i (record { name = []; width = 0 }) ([], 0) (let e : length es ≡ length (all_cells T) = count in omega arith)

    entry-width : (i : ℕ) → i < length es → width_from ds (get_or es i ([], 0)).0 ≡ (get_or es i ([], 0)).1
    entry-width i b =
        let o : CellOf T (cell_at (all_cells T) i) = cell-of T i (let e : length es ≡ length (all_cells T) = count in omega arith) in
        ap (λ x. width_from ds x.0) (entry-at i b) ∙ (width-of o.signal _ (in-filter q o.signal ds o.among).0 o.named ∙ (sym o.width ∙ ap (λ x. x.1) (sym (entry-at i b))))

    entry-find : (name : Name) → list_any (bytes_eq name) (flat_map cells T) ≡ true → (i : ℕ) × (i < length es) × ((get_or es i ([], 0)).0 ≡ name)
    entry-find name h =
        let d : (d : Declared) × In d T × (list_any (bytes_eq name) (cells d) ≡ true) = with-name T name h in
        let signal : is_signal d.0 ≡ true = (in-filter is_signal d.0 S (in-filter q d.0 ds d.1).0).1 in
        let r : (i : ℕ) × (i < length (all_cells T)) × ((cell_at (all_cells T) i).name ≡ name) = find-cell (all_cells T) name (some_named T d.0 name (in-kept is_signal d.0 T d.1 signal) d.2) in
        let b : r.0 < length es = (let e : length es ≡ length (all_cells T) = count in let x : r.0 < length (all_cells T) = r.1 in omega arith) in
        (r.0, b, ap (λ x. x.0) (entry-at r.0 b) ∙ r.2)

    entry-name : (i : ℕ) → i < length es → list_any (bytes_eq (get_or es i ([], 0)).0) (flat_map cells T) ≡ true
    entry-name i b =
        let o : CellOf T (cell_at (all_cells T) i) = cell-of T i (let e : length es ≡ length (all_cells T) = count in omega arith) in
        ap (λ x. list_any (bytes_eq x.0) (flat_map cells T)) (entry-at i b) ∙ among-cells T o.signal _ o.among o.named

  -- ---- the registers

  abbrev register-list : List (List ℕ × ℕ)
  register-list = map register_entry net.registers

  register-is : (i : ℕ) → i < length net.registers → get_or register-list i ([], 0) ≡ (register_name net i, register_width net i)
  register-is i b = nth-map register_entry net.registers i _ ([], 0) b

  registers-count : length register-list ≡ length net.registers
  registers-count = length-map net.registers register_entry

  register-fits : (i : ℕ) → i < length net.registers → width_from ds (register_name net i) ≡ register_width net i
  register-fits i b =
      ap (λ x. width_from ds x.0) (sym (register-is i b)) ∙
      (entry-width (is_register_view vs) register-list lowered.registers i (let e : length register-list ≡ length net.registers = registers-count in omega arith) ∙ ap (λ x. x.1) (register-is i b))

  register-find : (name : Name) → list_any (bytes_eq name) (register_names ds vs) ≡ true → (i : ℕ) × (i < length net.registers) × (register_name net i ≡ name)
  register-find name h =
      let r : (i : ℕ) × (i < length register-list) × ((get_or register-list i ([], 0)).0 ≡ name) = entry-find (is_register_view vs) register-list lowered.registers name h in
      let b : r.0 < length net.registers = (let e : length register-list ≡ length net.registers = registers-count in let x : r.0 < length register-list = r.1 in omega arith) in
      (r.0, b, ap (λ x. x.0) (sym (register-is r.0 b)) ∙ r.2)

  register-named : (i : ℕ) → i < length net.registers → list_any (bytes_eq (register_name net i)) (register_names ds vs) ≡ true
  register-named i b =
      ap (λ x. list_any (bytes_eq x.0) (register_names ds vs)) (sym (register-is i b)) ∙
      entry-name (is_register_view vs) register-list lowered.registers i (let e : length register-list ≡ length net.registers = registers-count in omega arith)

  input-fits : (i : ℕ) → i < length net.inputs → width_from ds (input_name net i) ≡ input_width net i
  input-fits i b = entry-width (λ x. is_input_sort x.sort) net.inputs lowered.inputs i b

  input-find : (name : Name) → list_any (bytes_eq name) (input_names ds) ≡ true → (i : ℕ) × (i < length net.inputs) × (input_name net i ≡ name)
  input-find name h = entry-find (λ x. is_input_sort x.sort) net.inputs lowered.inputs name h

  input-named : (i : ℕ) → i < length net.inputs → list_any (bytes_eq (input_name net i)) (input_names ds) ≡ true
  input-named i b = entry-name (λ x. is_input_sort x.sort) net.inputs lowered.inputs i b

  -- the next node of a register
  next-node : (i : ℕ) → i < length net.registers → (m : ℕ) × (register_next net i ≡ Some m)
  next-node i b = elim (register_next net i) as (λ o. register_next net i ≡ o → (m : ℕ) × (o ≡ Some m)) [
    | None ↦ λ e. absurd (nexts i b e)
    | Some m ↦ λ e. (m, refl)
  ] refl

  next-word : (c : GraphCycle) (i : ℕ) → i < length net.registers → (m : ℕ) → register_next net i ≡ Some m →
      bits_at (next_state net (values_of net c.state c.input)) i ≡ bits_at (values_of net c.state c.input) m
  next-word c i b m e =
      nth-map (next_bits (values_of net c.state c.input)) net.registers i _ no_bits b ∙
      ap (λ o. elim o as (λ _. Bits) [ Some m ↦ bits_at (values_of net c.state c.input) m | None ↦ no_bits ]) e

  next-bit : (c : GraphCycle) (h : IsCycle c) (i j : ℕ) → i < length net.registers → j < register_width net i →
      (bits_at (next_state net (values_of net c.state c.input)) i).value / 2 ^ j % 2 ≡ next_view_bit vs (from c) (record { name = register_name net i; place = j })
  next-bit c h i j b below =
      let m : (m : ℕ) × (register_next net i ≡ Some m) = next-node i b in
      ap (λ (x : Bits). x.value / 2 ^ j % 2) (next-word c i b m.0 m.1) ∙ lowered.next (world_of net c) i (obeys c h) b m.0 j m.1 below

  -- ---- from cycles to valuations

  back-follows : (c e : GraphCycle) → IsCycle c → IsCycle e → e.state ≡ next_state net (values_of net c.state c.input) → ViewFollows ds vs (from c) (from e)
  back-follows c e h k s = all_of_bits (λ b. bit_at (from e) b ≡ next_view_bit vs (from c) b) (register_view_bits ds vs) (λ b x.
      (let r : (list_any (bytes_eq b.name) (register_names ds vs) ≡ true) × (b.place < width_from ds b.name) = named-bit (width_from ds) (register_names ds vs) b x in
      let i : (i : ℕ) × (i < length net.registers) × (register_name net i ≡ b.name) = register-find b.name r.0 in
      let below : b.place < register_width net i.0 = (let p : b.place < width_from ds b.name = r.1 in
      let q : width_from ds b.name ≡ register_width net i.0 = ap (width_from ds) (sym i.2) ∙ register-fits i.0 i.1 in omega arith) in
      ap (λ n. n / 2 ^ b.place % 2) (ap (from e) (sym i.2) ∙ ((given e k).registers i.0 i.1 ∙ ap (λ ws. (bits_at ws i.0).value) s)) ∙
      (next-bit c h i.0 b.place i.1 below ∙ ap (λ n. next_view_bit vs (from c) (let y : Bit = record { name = n; place = b.place } in y)) i.2)))

  back : Moves (stepped (stepper_of net)) (view_design ds vs) from
  back = record {
    settled = λ c h. lowered.settling.settles (world_of net c) (obeys c h);
    follows = λ c e h k s. back-follows c e h k s;
    same_inputs = λ l r h k s. all_of (λ name. from l name ≡ from r name) (input_names ds) (λ name x.
        (let i : (i : ℕ) × (i < length net.inputs) × (input_name net i ≡ name) = input-find name x in
        ap (from l) (sym i.2) ∙ ((given l h).inputs i.0 i.1 ∙ (ap (λ ws. (bits_at ws i.0).value) s ∙ (sym ((given r k).inputs i.0 i.1) ∙ ap (from r) i.2)))));
  }

  -- ---- from valuations to cycles

  abbrev register-word : Valuation → List ℕ × Register → Bits
  register-word v r = record { width = r.1.width; value = v r.0 }

  abbrev input-word : Valuation → List ℕ × ℕ → Bits
  input-word v i = record { width = i.1; value = v i.0 }

  abbrev to : Valuation → GraphCycle
  to v = record { state = map (register-word v) net.registers; input = map (input-word v) net.inputs }

  state-at : (v : Valuation) (i : ℕ) → i < length net.registers → bits_at (map (register-word v) net.registers) i ≡ register-word v (register_at net.registers i)
  state-at v i b = nth-map (register-word v) net.registers i _ no_bits b

  input-here : (v : Valuation) (i : ℕ) → i < length net.inputs → bits_at (map (input-word v) net.inputs) i ≡ input-word v (input_at net.inputs i)
  input-here v i b = nth-map (input-word v) net.inputs i _ no_bits b

  module _ (v : Valuation) (settled : IsViewSettled ds vs v) where
    cycle : IsCycle (to v)
    cycle = (
      (
        record { count = length-map net.registers (register-word v); widths = λ i b. ap (λ (x : Bits). x.width) (state-at v i b) },
        λ i b. (let e : length (map (register-word v) net.registers) ≡ length net.registers = length-map net.registers (register-word v) in
            let l : i < length net.registers = omega arith in
            subst (λ (x : Bits). x.value < 2 ^ x.width) (sym (state-at v i l)) (subst (λ n. v (register_name net i) < 2 ^ n) (register-fits i l) (settled.fits (register_name net i)))),
      ),
      (
        record { count = length-map net.inputs (input-word v); widths = λ i b. ap (λ (x : Bits). x.width) (input-here v i b) },
        λ i b. (let e : length (map (input-word v) net.inputs) ≡ length net.inputs = length-map net.inputs (input-word v) in
            let l : i < length net.inputs = omega arith in
            subst (λ (x : Bits). x.value < 2 ^ x.width) (sym (input-here v i l)) (subst (λ n. v (input_name net i) < 2 ^ n) (input-fits i l) (settled.fits (input_name net i)))),
      ),
    )

    has : IsGiven net (world_of net (to v)) v
    has = record { inputs = λ i b. ap (λ (x : Bits). x.value) (sym (input-here v i b)); registers = λ i b. ap (λ (x : Bits). x.value) (sym (state-at v i b)) }

    no-value : (name : Name) → named_by name cs ≡ false → v name ≡ 0
    no-value name h = elim (signal_of ds name) [
      | inl z ↦ (let f : v name < 2 ^ 0 = subst (λ x. v name < 2 ^ x) z (settled.fits name) in omega arith)
      | inr x ↦ absurd (let t : named_by name cs ≡ true = some_named S x.1 name (in_index x.1 ds x.0 x.2) x.3 in (let e : true ≡ false = sym t ∙ h in cc))
    ]

    same : from (to v) ≡ v
    same = valuation-is (world_of net (to v)) cs table v distinct lowered.table_is.count (lowered.settling.shows (world_of net (to v)) v (obeys (to v) cycle) settled has) no-value

  there-follows : (v u : Valuation) → IsViewSettled ds vs v → IsViewSettled ds vs u → ViewFollows ds vs v u → (to u).state ≡ next_state net (values_of net (to v).state (to v).input)
  there-follows v u sv su f = map-same (register-word u) (next_bits (values_of net (to v).state (to v).input)) net.registers _ (λ i b.
      (let m : (m : ℕ) × (register_next net i ≡ Some m) = next-node i b in
      let values : List Bits = values_of net (to v).state (to v).input in
      let o : Obeys net (world_of net (to v)) = obeys (to v) (cycle v sv) in
      let node : (m.0 < length net.nodes) × (width_at net.nodes m.0 ≡ register_width net i) = (right.registers i b).next m.0 m.1 in
      let word : next_bits values (register_at net.registers i) ≡ bits_at values m.0 =
      ap (λ o. elim o as (λ _. Bits) [ Some m ↦ bits_at values m | None ↦ no_bits ]) m.1 in
      let width : (bits_at values m.0).width ≡ register_width net i = o.widths m.0 node.0 ∙ node.1 in
      let number : u (register_name net i) ≡ (bits_at values m.0).value = same_from_bits (u (register_name net i)) (bits_at values m.0).value (λ j.
      elim (cases_lt j (register_width net i)) [
        | inl below ↦ (
            let b' : Bit = record { name = register_name net i; place = j } in
            all_bits_in (λ b. bit_at u b ≡ next_view_bit vs v b) (register_view_bits ds vs) f b'
            (has-named (width_from ds) (register_names ds vs) (register_name net i) j (register-named i b) (let e : width_from ds
            (register_name net i) ≡ register_width net i = register-fits i b in omega arith)) ∙
            (ap (λ (z : Valuation). next_view_bit vs z b') (sym (same v sv)) ∙ sym (lowered.next (world_of net (to v)) i o b m.0 j m.1 below)))
        | inr over ↦
            bit_at_above (u (register_name net i)) (register_width net i) j (subst (λ n. u (register_name net i) < 2 ^ n) (register-fits i b) (su.fits (register_name net i))) over ∙
            sym (bit_at_above (bits_at values m.0).value (register_width net i) j (subst (λ n. (bits_at values m.0).value < 2 ^ n) node.1 (o.fits m.0 node.0)) over)
      ]) in
      two (λ (x y : ℕ). let w : Bits = record { width = x; value = y } in w) _ _ _ _ (sym width) number ∙ sym word))

  there : Moves (view_design ds vs) (stepped (stepper_of net)) to
  there = record {
    settled = λ v h. cycle v h;
    follows = λ v u h k f. there-follows v u h k f;
    same_inputs = λ l r h k s. map-same (input-word l) (input-word r) net.inputs _ (λ i b.
        ap (λ n. let x : Bits = record { width = input_width net i; value = n } in x) (all_names (λ name. l name ≡ r name) (input_names ds) s (input_name net i) (input-named i b)));
  }

  pub machines : (o : Observers Valuation) → AreSame (machine_of (view_design ds vs) o) (graph_machine net (through from o))
  machines o = are_same Valuation GraphCycle from (view_design ds vs) (stepped (stepper_of net)) o to there back (λ v h. same v h)
