-- The graph before the parts are carried out: its nodes, its inputs and its registers.
use Rattle.std.proofs.Common.{◌≡◌, ℕ, zero, suc, ◌+◌, ◌<◌, ◌≤◌, min, List, [], ◌∷◌, ◌++◌, length, take, refl, sym, ap, ◌∙◌, arith, subst, append_assoc, None}
use Rattle.std.specs.Prelude.{slice_index_or}
use Rattle.std.specs.List.{range_with_len}
use Rattle.std.proofs.lemmas.List.{get_or_default, take_more, length-append, length-take, append-nil, get_or-take}
use Rattle.lv_netlist.specs.declared.node.Register.{Register}
use Rattle.lv_netlist.specs.Net.{Net, IsNew, no_nodes, input_at, input_name, register_at, register_name}
use Rattle.lv_lower.specs.declared.slot.Kind.{Kind}
use Rattle.lv_lower.specs.declared.slot.Kind.TheVariants as k
use Rattle.lv_lower.specs.declared.slot.Slot.{Slot}
use Rattle.lv_lower.specs.Started.{add_slot, net_from, slot_at, AreSlots}

pub net-join : (net : Net) (xs ys : List Slot) → net_from net (xs ++ ys) ≡ net_from (net_from net xs) ys
net-join net [] ys = refl
net-join net (x ∷ xs) ys = net-join (add_slot net x) xs ys

-- the first cells and one more
pub net-more : (net : Net) (ss : List Slot) (i : ℕ) → i < length ss → net_from net (take (i + 1) ss) ≡ add_slot (net_from net (take i ss)) (slot_at ss i)
net-more net ss i h =
    ap (net_from net) (take_more ss i (record { name = []; width = 0; kind = k.Zero }) h) ∙ net-join net (take i ss) (slot_at ss i ∷ [])

-- ---- how many nodes there are

added : (net : Net) (name : List ℕ) (width : ℕ) (kind : Kind) → length (add_slot net (record { name = name; width = width; kind = kind })).nodes ≡ length net.nodes + 1
added net name width k.Input = length-append net.nodes _
added net name width k.Register = length-append net.nodes _
added net name width k.Zero = length-append net.nodes _

pub nodes-count : (net : Net) (ss : List Slot) → length (net_from net ss).nodes ≡ length net.nodes + length ss
nodes-count net [] = omega arith
nodes-count net (s ∷ ss) =
    let e : length (add_slot net s).nodes ≡ length net.nodes + 1 = added net s.name s.width s.kind in
    let r : length (net_from (add_slot net s) ss).nodes ≡ length (add_slot net s).nodes + length ss = nodes-count (add_slot net s) ss in
    omega arith

-- ---- inputs and registers

abbrev entry_by : Kind → List ℕ → ℕ → List (List ℕ × ℕ)
entry_by k.Input name width = (name, width) ∷ []
entry_by k.Register name width = []
entry_by k.Zero name width = []

abbrev register_by : Kind → List ℕ → ℕ → List (List ℕ × Register)
register_by k.Input name width = []
register_by k.Register name width = (name, (let r : Register = record { width = width; next = None } in r)) ∷ []
register_by k.Zero name width = []

abbrev pub inputs_in : List Slot → List (List ℕ × ℕ)
inputs_in [] = []
inputs_in (s ∷ ss) = entry_by s.kind s.name s.width ++ inputs_in ss

abbrev pub registers_in : List Slot → List (List ℕ × Register)
registers_in [] = []
registers_in (s ∷ ss) = register_by s.kind s.name s.width ++ registers_in ss

input-added : (net : Net) (name : List ℕ) (width : ℕ) (kind : Kind) → (add_slot net (record { name = name; width = width; kind = kind })).inputs ≡ net.inputs ++ entry_by kind name width
input-added net name width k.Input = refl
input-added net name width k.Register = sym (append-nil net.inputs)
input-added net name width k.Zero = sym (append-nil net.inputs)

register-added : (net : Net) (name : List ℕ) (width : ℕ) (kind : Kind) → (add_slot net (record { name = name; width = width; kind = kind })).registers ≡ net.registers ++ register_by kind name width
register-added net name width k.Input = sym (append-nil net.registers)
register-added net name width k.Register = refl
register-added net name width k.Zero = sym (append-nil net.registers)

pub inputs-are : (net : Net) (ss : List Slot) → (net_from net ss).inputs ≡ net.inputs ++ inputs_in ss
inputs-are net [] = sym (append-nil net.inputs)
inputs-are net (s ∷ ss) =
    inputs-are (add_slot net s) ss ∙ (ap (λ xs. xs ++ inputs_in ss) (input-added net s.name s.width s.kind) ∙ append_assoc net.inputs (entry_by s.kind s.name s.width) (inputs_in ss))

pub registers-are : (net : Net) (ss : List Slot) → (net_from net ss).registers ≡ net.registers ++ registers_in ss
registers-are net [] = sym (append-nil net.registers)
registers-are net (s ∷ ss) =
    registers-are (add_slot net s) ss ∙ (ap (λ xs. xs ++ registers_in ss) (register-added net s.name s.width s.kind) ∙ append_assoc net.registers (register_by s.kind s.name s.width) (registers_in ss))

-- ---- each name is that of a cell

abbrev IsNamed : List Slot → List ℕ → Type 0
IsNamed ss name = (k : ℕ) × (k < length ss) × ((slot_at ss k).name ≡ name)

later : (s : Slot) (ss : List Slot) (name : List ℕ) → IsNamed ss name → IsNamed (s ∷ ss) name
later s ss name h = (suc h.0, (let b : h.0 < length ss = h.1 in omega arith), h.2)

abbrev input_named-rest : List Slot → Type 0
input_named-rest ss = (i : ℕ) → i < length (inputs_in ss) → IsNamed ss (input_at (inputs_in ss) i).0

input_named-by : (ss : List Slot) → input_named-rest ss → (kind : Kind) (name : List ℕ) (width i : ℕ) → i < length (entry_by kind name width ++ inputs_in ss) →
    IsNamed ((let z : Slot = record { name = name; width = width; kind = kind } in z) ∷ ss) (input_at (entry_by kind name width ++ inputs_in ss) i).0
input_named-by ss f k.Input name width zero h = (0, omega arith, refl)
input_named-by ss f k.Input name width (suc i) h = later _ ss _ (f i (omega arith))
input_named-by ss f k.Register name width i h = later _ ss _ (f i h)
input_named-by ss f k.Zero name width i h = later _ ss _ (f i h)

input_named : (ss : List Slot) → input_named-rest ss
input_named [] i h = absurd (omega arith)
input_named (s ∷ ss) i h = input_named-by ss (input_named ss) s.kind s.name s.width i h

abbrev register_named-rest : List Slot → Type 0
register_named-rest ss = (i : ℕ) → i < length (registers_in ss) → IsNamed ss (register_at (registers_in ss) i).0

register_named-by : (ss : List Slot) → register_named-rest ss → (kind : Kind) (name : List ℕ) (width i : ℕ) → i < length (register_by kind name width ++ registers_in ss) →
    IsNamed ((let z : Slot = record { name = name; width = width; kind = kind } in z) ∷ ss) (register_at (register_by kind name width ++ registers_in ss) i).0
register_named-by ss f k.Register name width zero h = (0, omega arith, refl)
register_named-by ss f k.Register name width (suc i) h = later _ ss _ (f i (omega arith))
register_named-by ss f k.Input name width i h = later _ ss _ (f i h)
register_named-by ss f k.Zero name width i h = later _ ss _ (f i h)

register_named : (ss : List Slot) → register_named-rest ss
register_named [] i h = absurd (omega arith)
register_named (s ∷ ss) i h = register_named-by ss (register_named ss) s.kind s.name s.width i h

length_take : (i : ℕ) (xs : List Slot) → length (take i xs) ≤ i
length_take zero xs = omega arith
length_take (suc i) [] = omega arith
length_take (suc i) (x ∷ xs) = let r : length (take i xs) ≤ i = length_take i xs in omega arith

-- the next cell has a new name
taken_name : (ss : List Slot) → AreSlots ss → (i : ℕ) → i < length ss → (name : List ℕ) → IsNamed (take i ss) name → name ≡ (slot_at ss i).name → ⊥
taken_name ss h i lt name k e =
    let short : length (take i ss) ≤ i = length_take i ss in
    let below : k.0 < length (take i ss) = k.1 in
    let at : slot_at (take i ss) k.0 ≡ slot_at ss k.0 = get_or-take i ss k.0 _ (omega arith) in
    let same : k.0 ≡ i = h.distinct k.0 i (omega arith) lt (ap (λ (s : Slot). s.name) (sym at) ∙ (k.2 ∙ e)) in
    omega arith

pub new-name : (ss : List Slot) → AreSlots ss → (i : ℕ) → i < length ss → IsNew (net_from no_nodes (take i ss)) (slot_at ss i).name
new-name ss h i lt = record {
  among_inputs = λ j b e. taken_name ss h i lt (input_name (net_from no_nodes (take i ss)) j)
      (subst (λ (xs : List (List ℕ × ℕ)). IsNamed (take i ss) (input_at xs j).0) (sym (inputs-are no_nodes (take i ss)))
      (input_named (take i ss) j (subst (λ (xs : List (List ℕ × ℕ)). j < length xs) (inputs-are no_nodes (take i ss)) b))) e;
  among_registers = λ j b e. taken_name ss h i lt (register_name (net_from no_nodes (take i ss)) j)
      (subst (λ (xs : List (List ℕ × Register)). IsNamed (take i ss) (register_at xs j).0) (sym (registers-are no_nodes (take i ss)))
      (register_named (take i ss) j (subst (λ (xs : List (List ℕ × Register)). j < length xs) (registers-are no_nodes (take i ss)) b))) e;
}

pub range-more : (a n : ℕ) → range_with_len a (n + 1) ≡ range_with_len a n ++ (a + n) ∷ []
range-more a zero = let e : a ≡ a + zero = omega arith in ap (λ x. x ∷ []) e
range-more a (suc n) =
    let e : a + 1 + n ≡ a + suc n = omega arith in
    let one : suc n + 1 ≡ suc (n + 1) = omega arith in
    ap (range_with_len a) one ∙ ap (λ xs. a ∷ xs) (range-more (a + 1) n ∙ ap (λ x. range_with_len (a + 1) n ++ x ∷ []) e)

pub slot-item : (ss : List Slot) (i : ℕ) (s : Slot) → i < length ss → s ≡ slice_index_or ss i s → slot_at ss i ≡ s
slot-item ss i s h e = get_or_default ss i _ s h ∙ sym e

-- one turn of the loop
pub start-more : (ss : List Slot) (i : ℕ) (net new : Net) (table : List ℕ) (s : Slot) (at : ℕ) → i < length ss → slot_at ss i ≡ s → net ≡ net_from no_nodes (take i ss) → new ≡ add_slot net s →
    at ≡ length net.nodes → table ≡ range_with_len 0 i → (new ≡ net_from no_nodes (take (i + 1) ss)) × (table ++ at ∷ [] ≡ range_with_len 0 (i + 1))
start-more ss i net new table s at lt item is step number t = (
  step ∙ (ap (λ (n : Net). add_slot n s) is ∙ (ap (add_slot (net_from no_nodes (take i ss))) (sym item) ∙ sym (net-more no_nodes ss i lt))),
  (let count : length (net_from no_nodes (take i ss)).nodes ≡ length no_nodes.nodes + length (take i ss) = nodes-count no_nodes (take i ss) in
      let cut : length (take i ss) ≡ min i (length ss) = length-take i ss in
      let short : length (take i ss) ≡ i = omega arith in
      let e : at ≡ 0 + i = number ∙ (ap (λ (n : Net). length n.nodes) is ∙ (count ∙ (let z : 0 + length (take i ss) ≡ 0 + i = omega arith in z))) in
      ap (λ xs. xs ++ at ∷ []) t ∙ (ap (λ x. range_with_len 0 i ++ x ∷ []) e ∙ sym (range-more 0 i))),
)
