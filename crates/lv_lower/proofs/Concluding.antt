-- The table that the parts leave shows the one settled valuation.
use Rattle.std.proofs.Common.{◌≡◌, ◌⊎◌, inl, inr, ℕ, suc, ◌+◌, ◌<◌, ◌^◌, Bool, true, false, List, [], ◌∷◌, length, refl, sym, ap, ◌∙◌, arith, subst, Some}
use Rattle.std.specs.Prelude.{slice_get, bytes_eq, All}
use Rattle.std.specs.List.{list_any}
use Rattle.std.proofs.lemmas.List.Elements.{All-nil, All-cons}
use Rattle.lv_ast.specs.Names.{Name}
use Rattle.lv_bits.specs.Words.{Bits}
use Rattle.lv_source.specs.Names.{Declared, Valuation, width_of, is_input_sort}
use Rattle.lv_source.specs.Places.{cells}
use Rattle.lv_source.specs.Parts.{width_from}
use Rattle.lv_source.specs.Views.{View, is_register_view, IsViewSettled}
use Rattle.lv_source.proofs.Tests.{or-left, or-right, name-itself}
use Rattle.lv_source.proofs.Refused.{In}
use Rattle.lv_source.proofs.Kids.{in_index}
use Rattle.lv_netlist.specs.declared.node.Node.{Node}
use Rattle.lv_netlist.specs.declared.node.Node.TheVariants as n
use Rattle.lv_netlist.specs.declared.node.Typed.{Typed}
use Rattle.lv_netlist.specs.declared.node.Register.{Register}
use Rattle.lv_netlist.specs.Net.{Net, no_nodes, node_at, input_at, input_name, register_at, register_name}
use Rattle.lv_netlist.specs.Run.{node_bits}
use Rattle.lv_flat.specs.Cells.{Cell, all_cells, AreDistinct}
use Rattle.lv_flat.specs.Signals.{Signals}
use Rattle.lv_values.specs.Worlds.{World, Obeys}
use Rattle.lv_lower_exprs.specs.Tables.{Shows, value_at}
use Rattle.lv_settles.specs.Lawful.{AreLawful}
use Rattle.lv_settles.specs.Orders.{IsOrder, carried}
use Rattle.lv_settles.specs.Rules.{signals_in, register_names, input_names, AreRight, AreApart, IsStart, SameStart}
use Rattle.lv_settles.proofs.Cells.{same_signal, width_is, apart, some_named}
use Rattle.lv_settles.proofs.Lists.{cell_of, signal_of}
use Rattle.lv_settles.proofs.Settling.{left_fits, start_kept, settles, meets}
use Rattle.lv_lower.specs.declared.slot.Kind.{Kind}
use Rattle.lv_lower.specs.declared.slot.Kind.TheVariants as k
use Rattle.lv_lower.specs.declared.slot.Slot.{Slot}
use Rattle.lv_lower.specs.Slots.{kind_by, all_slots}
use Rattle.lv_lower.specs.Started.{net_from, slot_at, valuation_of}
use Rattle.lv_lower.specs.Lowered.{IsGiven, IsSettling, IsCarried}
use Rattle.lv_lower.proofs.Starting.{inputs_in, registers_in, inputs-are, registers-are}
use Rattle.lv_lower.proofs.Standing.{Stands, input-cell, register-cell}
use Rattle.lv_lower.proofs.Valuations.{named_by, valuation-is}
use Rattle.lv_lower.proofs.Beginning.{SlotOf, slot-of, v0, shows-start, value-is, found, in-net, inside, stands-at, starts}

-- the index of a signal
index_of : {A : Type 0} (x : A) (xs : List A) → In x xs → (i : ℕ) × (slice_get xs i ≡ Some x)
index_of x [] h = absurd h
index_of x (y ∷ ys) (inl e) = (0, ap Some e)
index_of x (y ∷ ys) (inr h) = let r : (i : ℕ) × (slice_get ys i ≡ Some x) = index_of x ys h in (suc r.0, r.1)

all_of : (P : Name → Type 0) (ns : List Name) → ((n : Name) → list_any (bytes_eq n) ns ≡ true → P n) → All P ns
all_of P [] f = All-nil P
all_of P (n ∷ ns) f = All-cons P n ns (f n (or-left (bytes_eq n n) (list_any (bytes_eq n) ns) (name-itself n))) (all_of P ns (λ m h. f m (or-right (bytes_eq m n) (list_any (bytes_eq m) ns) h)))

-- a name of a signal is one of the cells
cell_named : (S : Signals) (x : Declared) (name : Name) → In x (signals_in S) → list_any (bytes_eq name) (cells x) ≡ true → named_by name (all_cells S) ≡ true
cell_named S x name i c = some_named S x name i c

module _ (S : Signals) (vs : List View) (order : List ℕ) (net : Net) (table : List ℕ) (distinct : AreDistinct (all_cells S))
    (laws : AreLawful (signals_in S) vs) (right : AreRight (signals_in S) vs) (o : IsOrder vs order) (carries : IsCarried S vs order net table) where
  abbrev ds : List Declared
  ds = signals_in S

  abbrev cs : List Cell
  cs = all_cells S

  abbrev ss : List Slot
  ss = all_slots vs S

  abbrev net0 : Net
  net0 = net_from no_nodes ss

  apart_is : AreApart ds
  apart_is = apart S distinct

  module _ (w : World) (obeys : Obeys net w) where
    -- what the first table shows
    abbrev start : Valuation
    start = v0 S vs net carries.grows distinct w obeys

    abbrev left : Valuation
    left = carried vs order start

    starts_so : IsStart ds vs start
    starts_so = starts S vs net carries.grows distinct w obeys

    left_shows : Shows w cs table left
    left_shows = carries.leaves w start obeys (shows-start S vs net carries.grows distinct w obeys)

    -- a name that is no cell's has no width
    no_width : (name : Name) → named_by name cs ≡ false → width_from ds name ≡ 0
    no_width name h = elim (signal_of ds name) [
      | inl z ↦ z
      | inr x ↦ absurd (let t : named_by name cs ≡ true = cell_named S x.1 name (in_index x.1 ds x.0 x.2) x.3 in (let e : true ≡ false = sym t ∙ h in cc))
    ]

    table_value : valuation_of w cs table ≡ left
    table_value = valuation-is w cs table left distinct carries.table_is.count left_shows (λ name h.
        (let f : left name < 2 ^ width_from ds name = left_fits ds vs order laws right o start starts_so name in
        let z : width_from ds name ≡ 0 = no_width name h in
        let g : left name < 2 ^ 0 = subst (λ x. left name < 2 ^ x) z f in
        omega arith))

    settled : IsViewSettled ds vs (valuation_of w cs table)
    settled = subst (IsViewSettled ds vs) (sym table_value) (settles ds vs order laws right o start starts_so apart_is)

    -- ---- inputs and registers

    node-value : (at : ℕ) → at < length ss → (node : Node) → (node_at net0.nodes at).node ≡ node → value_at w at ≡ (node_bits w.state w.inputs w.values node).value
    node-value at b node e =
        ap (λ (x : Bits). x.value) (obeys.values at (in-net S vs net carries.grows distinct w obeys at b)) ∙
        ap (λ z. (node_bits w.state w.inputs w.values z).value) (ap (λ (t : Typed). t.node) (carries.grows.same at (inside S vs net carries.grows distinct at b)) ∙ e)

    -- a cell that isn't 0 at first keeps its value
    cell-kept : (at : ℕ) → at < length ss → ((d : Declared) → (slot_at ss at).kind ≡ kind_by (is_input_sort d.sort) (is_register_view vs d) →
        (is_register_view vs d ≡ true) ⊎ (is_input_sort d.sort ≡ true)) →
        valuation_of w cs table (slot_at ss at).name ≡ value_at w at
    cell-kept at b f =
        let s : SlotOf S vs (slot_at ss at) = slot-of S vs at b in
        let i : (i : ℕ) × (slice_get ds i ≡ Some s.signal) = index_of s.signal ds s.among in
        let width : width_from ds (slot_at ss at).name ≡ width_of s.signal =
        width_is ds (slot_at ss at).name s.signal s.among (λ y j c. same_signal S distinct y s.signal (slot_at ss at).name j s.among c s.named) s.named in
        ap (λ (u : Valuation). u (slot_at ss at).name) table_value ∙
        (start_kept ds vs order laws right o start starts_so i.0 s.signal (slot_at ss at).name i.1 s.named (f s.signal s.kind) width ∙
        value-is S vs net carries.grows distinct w obeys at b)

    input-kind : (d : Declared) (a c : Bool) → is_input_sort d.sort ≡ a → is_register_view vs d ≡ c → k.Input ≡ kind_by a c → (is_register_view vs d ≡ true) ⊎ (is_input_sort d.sort ≡ true)
    input-kind d true c e f h = inr e
    input-kind d false true e f h = inl f
    input-kind d false false e f h = cc

    register-kind : (d : Declared) (a c : Bool) → is_input_sort d.sort ≡ a → is_register_view vs d ≡ c → k.Register ≡ kind_by a c → (is_register_view vs d ≡ true) ⊎ (is_input_sort d.sort ≡ true)
    register-kind d true c e f h = inr e
    register-kind d false true e f h = inl f
    register-kind d false false e f h = cc

    given_so : IsGiven net w (valuation_of w cs table)
    given_so = record {
      inputs = λ i b.
          (let inputs : net.inputs ≡ inputs_in ss = carries.grows.inputs ∙ inputs-are no_nodes ss in
          let c : _ = input-cell ss no_nodes i (subst (λ (xs : List (List ℕ × ℕ)). i < length xs) inputs b) in
          let name : input_name net i ≡ (slot_at ss c.0).name = ap (λ xs. (input_at xs i).0) inputs ∙ ap (λ x. x.0) c.4 in
          let at : (node_at net0.nodes c.0).node ≡ n.Input i =
          ap (λ z. (node_at net0.nodes z).node) (let e : c.0 ≡ 0 + c.0 = omega arith in e) ∙ (c.3 ∙ ap n.Input (let e : 0 + i ≡ i = omega arith in e)) in
          ap (valuation_of w cs table) name ∙
          (cell-kept c.0 c.1 (λ d h. input-kind d (is_input_sort d.sort) (is_register_view vs d) refl refl (sym c.2 ∙ h)) ∙ node-value c.0 c.1 (n.Input i) at));
      registers = λ i b.
          (let registers : net.registers ≡ registers_in ss = carries.grows.registers ∙ registers-are no_nodes ss in
          let c : _ = register-cell ss no_nodes i (subst (λ (xs : List (List ℕ × Register)). i < length xs) registers b) in
          let name : register_name net i ≡ (slot_at ss c.0).name = ap (λ xs. (register_at xs i).0) registers ∙ ap (λ x. x.0) c.4 in
          let at : (node_at net0.nodes c.0).node ≡ n.Reg i =
          ap (λ z. (node_at net0.nodes z).node) (let e : c.0 ≡ 0 + c.0 = omega arith in e) ∙ (c.3 ∙ ap n.Reg (let e : 0 + i ≡ i = omega arith in e)) in
          ap (valuation_of w cs table) name ∙
          (cell-kept c.0 c.1 (λ d h. register-kind d (is_input_sort d.sort) (is_register_view vs d) refl refl (sym c.2 ∙ h)) ∙ node-value c.0 c.1 (n.Reg i) at));
    }

    -- ---- each settled valuation with these is shown

    module _ (v : Valuation) (vsettled : IsViewSettled ds vs v) (vgiven : IsGiven net w v) where
      stood : (kind : Kind) (at : ℕ) → at < length ss → (name : List ℕ) (width : ℕ) → Stands kind net0 at name width → (kind ≡ k.Zero → ⊥) → value_at w at ≡ v name
      stood k.Zero at b name width s f = absurd (f refl)
      stood k.Input at b name width s f =
          let i : s.0 < length net.inputs = subst (λ (xs : List (List ℕ × ℕ)). s.0 < length xs) (sym carries.grows.inputs) s.2 in
          node-value at b (n.Input s.0) (ap (λ (t : Typed). t.node) s.1) ∙
          (sym (vgiven.inputs s.0 i) ∙ ap v (ap (λ xs. (input_at xs s.0).0) carries.grows.inputs ∙ ap (λ x. x.0) s.3))
      stood k.Register at b name width s f =
          let i : s.0 < length net.registers = subst (λ (xs : List (List ℕ × Register)). s.0 < length xs) (sym carries.grows.registers) s.2 in
          node-value at b (n.Reg s.0) (ap (λ (t : Typed). t.node) s.1) ∙
          (sym (vgiven.registers s.0 i) ∙ ap v (ap (λ xs. (register_at xs s.0).0) carries.grows.registers ∙ ap (λ x. x.0) s.3))

      -- a name of a signal that isn't 0 at first
      same-name : (x : Declared) (name : Name) → In x ds → list_any (bytes_eq name) (cells x) ≡ true → (kind_by (is_input_sort x.sort) (is_register_view vs x) ≡ k.Zero → ⊥) → start name ≡ v name
      same-name x name i c f =
          let r : (at : ℕ) × (at < length ss) × ((slot_at ss at).name ≡ name) = found S vs net carries.grows distinct w obeys name (cell_named S x name i c) in
          let s : SlotOf S vs (slot_at ss r.0) = slot-of S vs r.0 r.1 in
          let same : s.signal ≡ x = same_signal S distinct s.signal x name s.among i (ap (λ m. list_any (bytes_eq m) (cells s.signal)) (sym r.2) ∙ s.named) c in
          ap start (sym r.2) ∙ (value-is S vs net carries.grows distinct w obeys r.0 r.1 ∙
          (stood (slot_at ss r.0).kind r.0 r.1 (slot_at ss r.0).name (slot_at ss r.0).width (stands-at S vs net carries.grows distinct r.0 r.1)
          (λ z. f (ap (λ (d : Declared). kind_by (is_input_sort d.sort) (is_register_view vs d)) (sym same) ∙ (sym s.kind ∙ z))) ∙ ap v r.2))

      no_zero_input : (x : Declared) → is_input_sort x.sort ≡ true → kind_by (is_input_sort x.sort) (is_register_view vs x) ≡ k.Zero → ⊥
      no_zero_input x h z = (let e : k.Input ≡ k.Zero = sym (ap (λ a. kind_by a (is_register_view vs x)) h) ∙ z in cc)

      no_zero_register : (x : Declared) (a : Bool) → is_register_view vs x ≡ true → kind_by a (is_register_view vs x) ≡ k.Zero → ⊥
      no_zero_register x true h z = (let e : k.Input ≡ k.Zero = z in cc)
      no_zero_register x false h z = (let e : k.Register ≡ k.Zero = sym (ap (λ a. kind_by false a) h) ∙ z in cc)

      same_start : SameStart ds vs start v
      same_start = record {
        registers = all_of (λ name. start name ≡ v name) (register_names ds vs) (λ name h.
            (let x : (i : ℕ) × (x : Declared) × (slice_get ds i ≡ Some x) × (is_register_view vs x ≡ true) × (list_any (bytes_eq name) (cells x) ≡ true) = cell_of (is_register_view vs) ds name h in
            same-name x.1 name (in_index x.1 ds x.0 x.2) x.4 (no_zero_register x.1 (is_input_sort x.1.sort) x.3)));
        inputs = all_of (λ name. start name ≡ v name) (input_names ds) (λ name h.
            (let x : (i : ℕ) × (x : Declared) × (slice_get ds i ≡ Some x) × (is_input_sort x.sort ≡ true) × (list_any (bytes_eq name) (cells x) ≡ true) = cell_of
            (λ x. is_input_sort x.sort) ds name h in
            same-name x.1 name (in_index x.1 ds x.0 x.2) x.4 (no_zero_input x.1 x.3)));
      }

      shown : Shows w cs table v
      shown = subst (λ (u : Valuation). Shows w cs table u) (meets ds vs order laws right o start starts_so apart_is v vsettled same_start) left_shows

  pub settling : IsSettling S vs net table
  settling = record { settles = settled; given = given_so; shows = λ w v obeys s g. shown w obeys v s g }
