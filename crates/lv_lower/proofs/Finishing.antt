-- A graph whose registers have their next nodes is that of the design.
use Rattle.std.proofs.Common.{◌≡◌, ℕ, zero, suc, ◌/◌, ◌%◌, ◌^◌, ◌<◌, Bool, true, false, List, [], ◌∷◌, ◌++◌, length, map, refl, sym, ap, ◌∙◌, arith, subst, Some, None}
use Rattle.std.specs.Prelude.{filter, cond, slice_index, if◌then◌else◌}
use Rattle.lv_source.specs.Names.{Declared, Valuation, Sort, Input, Net, Variable, Clock, Constant, Index, Other, is_input_sort, is_variable_sort, width_of}
use Rattle.lv_source.specs.Places.{Bit, bit_at, cells}
use Rattle.lv_source.specs.Parts.{is_signal}
use Rattle.lv_source.specs.Views.{View, is_register_view, view_registers, next_view_bit}
use Rattle.lv_source.proofs.Tests.{and-left}
use Rattle.lv_source.proofs.Bridges.{two}
use Rattle.lv_source.proofs.CaseTrees.{map-join}
use Rattle.lv_netlist.specs.declared.node.Register.{Register}
use Rattle.lv_netlist.specs.Net.{no_nodes, register_at, register_name, register_next, HasNexts}
use Rattle.lv_netlist.specs.Net as net
use Rattle.lv_flat.specs.Cells.{Cell, cell_of, cells_of, all_cells, cell_at}
use Rattle.lv_flat.specs.Signals.{Signals}
use Rattle.lv_values.specs.Worlds.{World, Obeys}
use Rattle.lv_lower_exprs.specs.Tables.{IsTable, AreFirsts, Shows, value_at}
use Rattle.lv_settles.specs.Rules.{signals_in}
use Rattle.lv_lower.specs.declared.slot.Kind.{Kind}
use Rattle.lv_lower.specs.declared.slot.Kind.TheVariants as k
use Rattle.lv_lower.specs.declared.slot.Slot.{Slot}
use Rattle.lv_lower.specs.Slots.{kind_by, slot_by, slots_of, all_slots}
use Rattle.lv_lower.specs.Started.{slot_at, valuation_of}
use Rattle.lv_lower.specs.Nexts.{next_all, held_in, with_nexts}
use Rattle.lv_lower.specs.Lowered.{IsGiven, IsNext, IsSettling, IsLowered, IsCarried, LeavesNext, entry_of, register_entry}
use Rattle.lv_lower.proofs.Starting.{inputs_in, registers_in, inputs-are, registers-are}
use Rattle.lv_lower.proofs.Standing.{a_register}
use Rattle.lv_lower.proofs.Beginning.{cell-slot, cells-count}

-- ---- registers with next nodes

entries-next : (rs : List (List ℕ × Register)) (ms : List ℕ) → map register_entry (next_all rs ms) ≡ map register_entry rs
entries-next [] ms = refl
entries-next (r ∷ rs) [] = refl
entries-next (r ∷ rs) (m ∷ ms) = ap (λ xs. register_entry r ∷ xs) (entries-next rs ms)

count-next : (rs : List (List ℕ × Register)) (ms : List ℕ) → length (next_all rs ms) ≡ length rs
count-next [] ms = refl
count-next (r ∷ rs) [] = refl
count-next (r ∷ rs) (m ∷ ms) = ap suc (count-next rs ms)

name-next : (rs : List (List ℕ × Register)) (ms : List ℕ) (i : ℕ) → (register_at (next_all rs ms) i).0 ≡ (register_at rs i).0
name-next [] ms i = refl
name-next (r ∷ rs) [] i = refl
name-next (r ∷ rs) (m ∷ ms) zero = refl
name-next (r ∷ rs) (m ∷ ms) (suc i) = name-next rs ms i

-- the next of a register is that of its cell
record NextOf (ss : List Slot) (ms : List ℕ) (i : ℕ) : Type 0 where
  at : ℕ
  below : at < length ss
  is : register_at (next_all (registers_in ss) (held_in ss ms)) i ≡ ((slot_at ss at).name, (let r : Register = record { width = (slot_at ss at).width; next = Some (slice_index ms at) } in r))

deeper : (s : Slot) (ss : List Slot) (m : ℕ) (ms : List ℕ) (i j : ℕ) →
    register_at (next_all (registers_in (s ∷ ss)) (held_in (s ∷ ss) (m ∷ ms))) j ≡ register_at (next_all (registers_in ss) (held_in ss ms)) i →
    NextOf ss ms i → NextOf (s ∷ ss) (m ∷ ms) j
deeper s ss m ms i j e h = record { at = suc h.at; below = (let b : h.at < length ss = h.below in omega arith); is = e ∙ h.is }

next-by : (ss : List Slot) (m : ℕ) (ms : List ℕ) → ((i : ℕ) → i < length (registers_in ss) → NextOf ss ms i) → (name : List ℕ) (width : ℕ) (kind : Kind) →
    (let s : Slot = record { name = name; width = width; kind = kind } in (i : ℕ) → i < length (registers_in (s ∷ ss)) → NextOf (s ∷ ss) (m ∷ ms) i)
next-by ss m ms f name width k.Input i b = deeper _ ss m ms i i refl (f i b)
next-by ss m ms f name width k.Register zero b = record { at = 0; below = omega arith; is = refl }
next-by ss m ms f name width k.Register (suc i) b = deeper _ ss m ms i (suc i) refl (f i (omega arith))
next-by ss m ms f name width k.Zero i b = deeper _ ss m ms i i refl (f i b)

next-of : (ss : List Slot) (ms : List ℕ) → length ms ≡ length ss → (i : ℕ) → i < length (registers_in ss) → NextOf ss ms i
next-of [] ms l i b = absurd (omega arith)
next-of (s ∷ ss) [] l i b = absurd (omega arith)
next-of (s ∷ ss) (m ∷ ms) l i b = next-by ss m ms (next-of ss ms (omega arith)) s.name s.width s.kind i b

-- ---- inputs and registers as cells

input-entries : (cs : List Cell) → inputs_in (map (slot_by k.Input) cs) ≡ map entry_of cs
input-entries [] = refl
input-entries (c ∷ cs) = ap (λ xs. entry_of c ∷ xs) (input-entries cs)

no-inputs : (kind : Kind) → (kind ≡ k.Input → ⊥) → (cs : List Cell) → inputs_in (map (slot_by kind) cs) ≡ []
no-inputs kind f [] = refl
no-inputs k.Input f (c ∷ cs) = absurd (f refl)
no-inputs k.Register f (c ∷ cs) = no-inputs k.Register f cs
no-inputs k.Zero f (c ∷ cs) = no-inputs k.Zero f cs

register-entries : (cs : List Cell) → map register_entry (registers_in (map (slot_by k.Register) cs)) ≡ map entry_of cs
register-entries [] = refl
register-entries (c ∷ cs) = ap (λ xs. entry_of c ∷ xs) (register-entries cs)

no-registers : (kind : Kind) → (kind ≡ k.Register → ⊥) → (cs : List Cell) → registers_in (map (slot_by kind) cs) ≡ []
no-registers kind f [] = refl
no-registers k.Input f (c ∷ cs) = no-registers k.Input f cs
no-registers k.Register f (c ∷ cs) = absurd (f refl)
no-registers k.Zero f (c ∷ cs) = no-registers k.Zero f cs

inputs-front : (kind : Kind) (name : List ℕ) (width : ℕ) (xs ys : List Slot) → inputs_in (xs ++ ys) ≡ inputs_in xs ++ inputs_in ys →
    (let s : Slot = record { name = name; width = width; kind = kind } in inputs_in (s ∷ (xs ++ ys)) ≡ inputs_in (s ∷ xs) ++ inputs_in ys)
inputs-front k.Input name width xs ys h = ap (λ zs. (name, width) ∷ zs) h
inputs-front k.Register name width xs ys h = h
inputs-front k.Zero name width xs ys h = h

registers-front : (kind : Kind) (name : List ℕ) (width : ℕ) (xs ys : List Slot) → registers_in (xs ++ ys) ≡ registers_in xs ++ registers_in ys →
    (let s : Slot = record { name = name; width = width; kind = kind } in registers_in (s ∷ (xs ++ ys)) ≡ registers_in (s ∷ xs) ++ registers_in ys)
registers-front k.Input name width xs ys h = h
registers-front k.Register name width xs ys h = ap (λ zs. a_register name width ∷ zs) h
registers-front k.Zero name width xs ys h = h

no-cells : (c : Bool) (d : Declared) → is_signal d ≡ false → (if c then cells_of d else []) ≡ []
no-cells true d e = ap (λ b. if b then map (cell_of (width_of d)) (cells d) else []) e
no-cells false d e = refl

inputs-join : (xs ys : List Slot) → inputs_in (xs ++ ys) ≡ inputs_in xs ++ inputs_in ys
inputs-join [] ys = refl
inputs-join (x ∷ xs) ys = inputs-front x.kind x.name x.width xs ys (inputs-join xs ys)

registers-join : (xs ys : List Slot) → registers_in (xs ++ ys) ≡ registers_in xs ++ registers_in ys
registers-join [] ys = refl
registers-join (x ∷ xs) ys = registers-front x.kind x.name x.width xs ys (registers-join xs ys)

-- the cells of a signal, by whether it is a signal, an input and a register
abbrev if_cells : Bool → List Cell → List Cell
if_cells b cs = if b then cs else []

one-input : (input register : Bool) (cs : List Cell) → inputs_in (map (slot_by (kind_by input register)) cs) ≡ map entry_of (if_cells input cs)
one-input true register cs = input-entries cs
one-input false true cs = no-inputs k.Register (λ e. (let x : k.Register ≡ k.Input = e in cc)) cs
one-input false false cs = no-inputs k.Zero (λ e. (let x : k.Zero ≡ k.Input = e in cc)) cs

one-register : (input register : Bool) (cs : List Cell) → (register ≡ true → input ≡ false) →
    map register_entry (registers_in (map (slot_by (kind_by input register)) cs)) ≡ map entry_of (if_cells register cs)
one-register true true cs f = absurd (let e : true ≡ false = f refl in cc)
one-register true false cs f = ap (map register_entry) (no-registers k.Input (λ e. (let x : k.Input ≡ k.Register = e in cc)) cs)
one-register false true cs f = register-entries cs
one-register false false cs f = ap (map register_entry) (no-registers k.Zero (λ e. (let x : k.Zero ≡ k.Register = e in cc)) cs)

-- a clock has no cells
chosen-cells : (q : Declared → Bool) (d : Declared) (S : Signals) → all_cells (filter q (signals_in (d ∷ S))) ≡ if_cells (q d) (cells_of d) ++ all_cells (filter q (signals_in S))
chosen-cells q d S = elim (is_signal d) as (λ b. is_signal d ≡ b →
    all_cells (filter q (cond b (d ∷ signals_in S) (signals_in S))) ≡ if_cells (q d) (cells_of d) ++ all_cells (filter q (signals_in S))) [
      | true ↦ λ e. elim (q d) as (λ c. all_cells (cond c (d ∷ filter q (signals_in S)) (filter q (signals_in S))) ≡ if_cells c (cells_of d) ++ all_cells (filter q
          (signals_in S))) [ true ↦ refl | false ↦ refl ]
      | false ↦ λ e. ap (λ cs. cs ++ all_cells (filter q (signals_in S))) (sym (no-cells (q d) d e))
    ] refl

inputs-cells : (vs : List View) (S : Signals) → inputs_in (all_slots vs S) ≡ map entry_of (all_cells (filter (λ x. is_input_sort x.sort) (signals_in S)))
inputs-cells vs [] = refl
inputs-cells vs (d ∷ S) =
    inputs-join (slots_of vs d) (all_slots vs S) ∙
    (two (λ (xs ys : List (List ℕ × ℕ)). xs ++ ys) _ _ _ _ (one-input (is_input_sort d.sort) (is_register_view vs d) (cells_of d)) (inputs-cells vs S) ∙
    (sym (map-join entry_of (if_cells (is_input_sort d.sort) (cells_of d)) (all_cells (filter (λ x. is_input_sort x.sort) (signals_in S)))) ∙
    ap (map entry_of) (sym (chosen-cells (λ x. is_input_sort x.sort) d S))))

variable-no-input : (s : Sort) → is_variable_sort s ≡ true → is_input_sort s ≡ false
variable-no-input Input h = cc
variable-no-input Net h = refl
variable-no-input Variable h = refl
variable-no-input Clock h = refl
variable-no-input (Constant x) h = refl
variable-no-input (Index g) h = refl
variable-no-input Other h = refl

registers-cells : (vs : List View) (S : Signals) → map register_entry (registers_in (all_slots vs S)) ≡ map entry_of (all_cells (view_registers (signals_in S) vs))
registers-cells vs [] = refl
registers-cells vs (d ∷ S) =
    ap (map register_entry) (registers-join (slots_of vs d) (all_slots vs S)) ∙
    (map-join register_entry (registers_in (slots_of vs d)) (registers_in (all_slots vs S)) ∙
    (two (λ (xs ys : List (List ℕ × ℕ)). xs ++ ys) _ _ _ _
    (one-register (is_input_sort d.sort) (is_register_view vs d) (cells_of d) (λ h. variable-no-input d.sort (and-left (is_variable_sort d.sort) _ h))) (registers-cells vs S) ∙
    (sym (map-join entry_of (if_cells (is_register_view vs d) (cells_of d)) (all_cells (view_registers (signals_in S) vs))) ∙
    ap (map entry_of) (sym (chosen-cells (is_register_view vs) d S)))))

-- ---- the graph

module _ (S : Signals) (vs : List View) (order : List ℕ) (old : net.Net) (table done : List ℕ) (carries : IsCarried S vs order old table) (done_is : IsTable old (all_cells S) done) where
  abbrev ss : List Slot
  ss = all_slots vs S

  abbrev new : net.Net
  new = with_nexts old ss done

  obeys-old : (w : World) → Obeys new w → Obeys old w
  obeys-old w o = record { values = o.values; widths = o.widths; fits = o.fits }

  registers-old : old.registers ≡ registers_in ss
  registers-old = carries.grows.registers ∙ registers-are no_nodes ss

  done-count : length done ≡ length ss
  done-count = done_is.count ∙ cells-count vs S

  given-old : (w : World) (v : Valuation) → IsGiven new w v → IsGiven old w v
  given-old w v h = record {
    inputs = h.inputs;
    registers = λ i b. ap v (sym (name-next old.registers (held_in ss done) i)) ∙ h.registers i (subst (λ n. i < n) (sym (count-next old.registers (held_in ss done))) b);
  }

  given-new : (w : World) (v : Valuation) → IsGiven old w v → IsGiven new w v
  given-new w v h = record {
    inputs = h.inputs;
    registers = λ i b. ap v (name-next old.registers (held_in ss done) i) ∙ h.registers i (subst (λ n. i < n) (count-next old.registers (held_in ss done)) b);
  }

  found : (i : ℕ) → i < length new.registers → NextOf ss done i
  found i b = next-of ss done done-count i (subst (λ (rs : List (List ℕ × Register)). i < length rs) registers-old (subst (λ n. i < n) (count-next old.registers (held_in ss done)) b))

  entry-of : (i : ℕ) (b : i < length new.registers) →
      register_at new.registers i ≡ ((slot_at ss (found i b).at).name, (let r : Register = record { width = (slot_at ss (found i b).at).width; next = Some (slice_index done (found i b).at) } in r))
  entry-of i b = ap (λ (rs : List (List ℕ × Register)). register_at (next_all rs (held_in ss done)) i) registers-old ∙ (found i b).is

  pub has_nexts : HasNexts new
  has_nexts i b e = (let t : Some (slice_index done (found i b).at) ≡ None = sym (ap (λ r. r.1.next) (entry-of i b)) ∙ e in cc)

  module _ (first : List ℕ) (settling : IsSettling S vs old table) (firsts : AreFirsts S first) (leaves : LeavesNext S vs old table done) where
    next-at : (w : World) → Obeys old w → (i : ℕ) (b : i < length new.registers) → IsNext new vs w (valuation_of w (all_cells S) table) i
    next-at w o i b m j e below =
        let f : NextOf ss done i = found i b in
        let l : (u : Valuation) × Shows w (all_cells S) done u × ((b : Bit) → bit_at u b ≡ next_view_bit vs (valuation_of w (all_cells S) table) b) = leaves.is w o in
        let same : m ≡ slice_index done f.at = (let t : Some m ≡ Some (slice_index done f.at) = sym e ∙ ap (λ r. r.1.next) (entry-of i b) in cc) in
        let cell : f.at < length (all_cells S) = (let c : length (all_cells S) ≡ length ss = cells-count vs S in let d : f.at < length ss = f.below in omega arith) in
        let name : (cell_at (all_cells S) f.at).name ≡ register_name new i = ap (λ (c : Cell). c.name) (cell-slot vs S f.at) ∙ sym (ap (λ r. r.0) (entry-of i b)) in
        ap (λ x. value_at w x / 2 ^ j % 2) same ∙ (ap (λ x. x / 2 ^ j % 2) (l.1.is f.at cell ∙ ap l.0 name) ∙ l.2 (record { name = register_name new i; place = j }))

    pub lowered : IsLowered S vs new table first
    lowered = record {
      table_is = record { count = carries.table_is.count; within = carries.table_is.within; widths = carries.table_is.widths };
      first_is = firsts;
      inputs = carries.grows.inputs ∙ (inputs-are no_nodes ss ∙ inputs-cells vs S);
      registers = entries-next old.registers (held_in ss done) ∙ (ap (map register_entry) registers-old ∙ registers-cells vs S);
      settling = record {
        settles = λ w o. settling.settles w (obeys-old w o);
        given = λ w o. given-new w _ (settling.given w (obeys-old w o));
        shows = λ w v o s g. settling.shows w v (obeys-old w o) s (given-old w v g);
      };
      next = λ w i o b. next-at w (obeys-old w o) i b;
    }
