-- Where the node of each cell stands before the parts are carried out.
use Rattle.std.proofs.Common.{◌≡◌, ℕ, zero, suc, ◌+◌, ◌<◌, ◌≤◌, List, [], ◌∷◌, ◌++◌, length, refl, ap, ◌∙◌, arith, subst, None}
use Rattle.std.proofs.lemmas.List.{length-append, get_or_append_left, get_or_at}
use Rattle.lv_netlist.specs.declared.node.Node.{Node}
use Rattle.lv_netlist.specs.declared.node.Node.TheVariants as n
use Rattle.lv_netlist.specs.declared.node.Typed.{Typed}
use Rattle.lv_netlist.specs.declared.node.Register.{Register}
use Rattle.lv_netlist.specs.Net.{Net, node_at, width_at, input_at, register_at}
use Rattle.lv_lower.specs.declared.slot.Kind.{Kind}
use Rattle.lv_lower.specs.declared.slot.Kind.TheVariants as k
use Rattle.lv_lower.specs.declared.slot.Slot.{Slot}
use Rattle.lv_lower.specs.Started.{add_slot, net_from, slot_at}
use Rattle.lv_lower.proofs.Starting.{inputs_in, registers_in}

abbrev pub a_node : Node → ℕ → Typed
a_node node width = record { node = node; width = width }

abbrev pub a_register : List ℕ → ℕ → List ℕ × Register
a_register name width = (name, (let r : Register = record { width = width; next = None } in r))

-- the node of a cell is its input, its register or the known 0
abbrev pub Stands : Kind → Net → ℕ → List ℕ → ℕ → Type 0
Stands k.Input net at name width =
    (i : ℕ) × (node_at net.nodes at ≡ a_node (n.Input i) width) × (i < length net.inputs) × (input_at net.inputs i ≡ (name, width))
Stands k.Register net at name width =
    (i : ℕ) × (node_at net.nodes at ≡ a_node (n.Reg i) width) × (i < length net.registers) × (register_at net.registers i ≡ a_register name width)
Stands k.Zero net at name width = node_at net.nodes at ≡ a_node (n.Const (record { width = width; value = 0 })) width

-- a longer graph
record Longer (old new : Net) : Type 0 where
  nodes : (at : ℕ) → at < length old.nodes → node_at new.nodes at ≡ node_at old.nodes at
  inputs_more : length old.inputs ≤ length new.inputs
  inputs : (i : ℕ) → i < length old.inputs → input_at new.inputs i ≡ input_at old.inputs i
  registers_more : length old.registers ≤ length new.registers
  registers : (i : ℕ) → i < length old.registers → register_at new.registers i ≡ register_at old.registers i

stands-longer : (old new : Net) → Longer old new → (kind : Kind) (at : ℕ) (name : List ℕ) (width : ℕ) → at < length old.nodes → Stands kind old at name width → Stands kind new at name width
stands-longer old new h k.Input at name width b s =
    (s.0, h.nodes at b ∙ s.1, (let l : s.0 < length old.inputs = s.2 in let m : length old.inputs ≤ length new.inputs = h.inputs_more in omega arith), h.inputs s.0 s.2 ∙ s.3)
stands-longer old new h k.Register at name width b s =
    (s.0, h.nodes at b ∙ s.1, (let l : s.0 < length old.registers = s.2 in let m : length old.registers ≤ length new.registers = h.registers_more in omega arith), h.registers s.0 s.2 ∙ s.3)
stands-longer old new h k.Zero at name width b s = h.nodes at b ∙ s

longer-add : (net : Net) (name : List ℕ) (width : ℕ) (kind : Kind) → Longer net (add_slot net (record { name = name; width = width; kind = kind }))
longer-add net name width k.Input = record {
  nodes = λ at b. get_or_append_left net.nodes _ _ at b;
  inputs_more = (let e : length (net.inputs ++ (name, width) ∷ []) ≡ length net.inputs + 1 = length-append net.inputs ((name, width) ∷ []) in omega arith);
  inputs = λ i b. get_or_append_left net.inputs _ _ i b;
  registers_more = omega arith;
  registers = λ i b. refl;
}
longer-add net name width k.Register = record {
  nodes = λ at b. get_or_append_left net.nodes _ _ at b;
  inputs_more = omega arith;
  inputs = λ i b. refl;
  registers_more = (let e : length (net.registers ++ a_register name width ∷ []) ≡ length net.registers + 1 = length-append net.registers (a_register name width ∷ []) in omega arith);
  registers = λ i b. get_or_append_left net.registers _ _ i b;
}
longer-add net name width k.Zero = record {
  nodes = λ at b. get_or_append_left net.nodes _ _ at b;
  inputs_more = omega arith;
  inputs = λ i b. refl;
  registers_more = omega arith;
  registers = λ i b. refl;
}

stands-new : (net : Net) (name : List ℕ) (width : ℕ) (kind : Kind) → Stands kind (add_slot net (record { name = name; width = width; kind = kind })) (length net.nodes) name width
stands-new net name width k.Input = (
  length net.inputs,
  get_or_at net.nodes _ [] _ (length net.nodes) refl,
  (let e : length (net.inputs ++ (name, width) ∷ []) ≡ length net.inputs + 1 = length-append net.inputs ((name, width) ∷ []) in omega arith),
  get_or_at net.inputs _ [] _ (length net.inputs) refl,
)
stands-new net name width k.Register = (
  length net.registers,
  get_or_at net.nodes _ [] _ (length net.nodes) refl,
  (let e : length (net.registers ++ a_register name width ∷ []) ≡ length net.registers + 1 = length-append net.registers (a_register name width ∷ []) in omega arith),
  get_or_at net.registers _ [] _ (length net.registers) refl,
)
stands-new net name width k.Zero = get_or_at net.nodes _ [] _ (length net.nodes) refl

pub added : (net : Net) (name : List ℕ) (width : ℕ) (kind : Kind) → length (add_slot net (record { name = name; width = width; kind = kind })).nodes ≡ length net.nodes + 1
added net name width k.Input = length-append net.nodes _
added net name width k.Register = length-append net.nodes _
added net name width k.Zero = length-append net.nodes _

stands-rest : (net : Net) (ss : List Slot) (kind : Kind) (at : ℕ) (name : List ℕ) (width : ℕ) → at < length net.nodes → Stands kind net at name width → Stands kind (net_from net ss) at name width
stands-rest net [] kind at name width b s = s
stands-rest net (x ∷ ss) kind at name width b s =
    stands-rest (add_slot net x) ss kind at name width (let e : length (add_slot net x).nodes ≡ length net.nodes + 1 = added net x.name x.width x.kind in omega arith)
    (stands-longer net (add_slot net x) (longer-add net x.name x.width x.kind) kind at name width b s)

-- the node of each cell
pub stands : (net : Net) (ss : List Slot) (j : ℕ) → j < length ss → Stands (slot_at ss j).kind (net_from net ss) (length net.nodes + j) (slot_at ss j).name (slot_at ss j).width
stands net [] j h = absurd (omega arith)
stands net (s ∷ ss) zero h =
    let e : length (add_slot net s).nodes ≡ length net.nodes + 1 = added net s.name s.width s.kind in
    let z : length net.nodes ≡ length net.nodes + zero = omega arith in
    subst (λ at. Stands s.kind (net_from (add_slot net s) ss) at s.name s.width) z
    (stands-rest (add_slot net s) ss s.kind (length net.nodes) s.name s.width (omega arith) (stands-new net s.name s.width s.kind))
stands net (s ∷ ss) (suc j) h =
    let e : length (add_slot net s).nodes ≡ length net.nodes + 1 = added net s.name s.width s.kind in
    let z : length (add_slot net s).nodes + j ≡ length net.nodes + suc j = omega arith in
    subst (λ at. Stands (slot_at ss j).kind (net_from (add_slot net s) ss) at (slot_at ss j).name (slot_at ss j).width) z (stands (add_slot net s) ss j (omega arith))

-- ---- the cell of an input or a register

kept-node : (net : Net) (ss : List Slot) (at : ℕ) → at < length net.nodes → node_at (net_from net ss).nodes at ≡ node_at net.nodes at
kept-node net [] at b = refl
kept-node net (x ∷ ss) at b =
    kept-node (add_slot net x) ss at (let e : length (add_slot net x).nodes ≡ length net.nodes + 1 = added net x.name x.width x.kind in omega arith) ∙
    (longer-add net x.name x.width x.kind).nodes at b

pub new-node : (net : Net) (ss : List Slot) (name : List ℕ) (width : ℕ) (kind : Kind) (t : Typed) →
    node_at (add_slot net (record { name = name; width = width; kind = kind })).nodes (length net.nodes) ≡ t →
    node_at (net_from net ((let z : Slot = record { name = name; width = width; kind = kind } in z) ∷ ss)).nodes (length net.nodes + 0) ≡ t
new-node net ss name width kind t h =
    (let z : length net.nodes + 0 ≡ length net.nodes = omega arith in ap (λ at. node_at (net_from net ((let z : Slot = record { name = name; width = width; kind = kind } in z) ∷ ss)).nodes at) z) ∙
    (kept-node (add_slot net (record { name = name; width = width; kind = kind })) ss (length net.nodes)
    (let e : length (add_slot net (record { name = name; width = width; kind = kind })).nodes ≡ length net.nodes + 1 = added net name width kind in omega arith) ∙ h)

abbrev InputCell : Net → List Slot → ℕ → Type 0
InputCell net ss i = (at : ℕ) × (at < length ss) × ((slot_at ss at).kind ≡ k.Input) × ((node_at (net_from net ss).nodes (length net.nodes + at)).node ≡ n.Input (length net.inputs + i)) ×
    (input_at (inputs_in ss) i ≡ ((slot_at ss at).name, (slot_at ss at).width))

abbrev RegisterCell : Net → List Slot → ℕ → Type 0
RegisterCell net ss i = (at : ℕ) × (at < length ss) × ((slot_at ss at).kind ≡ k.Register) × ((node_at (net_from net ss).nodes (length net.nodes + at)).node ≡ n.Reg (length net.registers + i)) ×
    (register_at (registers_in ss) i ≡ a_register (slot_at ss at).name (slot_at ss at).width)

input-deeper : (net : Net) (s : Slot) (ss : List Slot) (i j : ℕ) → length (add_slot net s).inputs + i ≡ length net.inputs + j → input_at (inputs_in (s ∷ ss)) j ≡ input_at (inputs_in ss) i →
    InputCell (add_slot net s) ss i → InputCell net (s ∷ ss) j
input-deeper net s ss i j e f c =
    let l : length (add_slot net s).nodes ≡ length net.nodes + 1 = added net s.name s.width s.kind in
    let b : c.0 < length ss = c.1 in
    let at : length net.nodes + suc c.0 ≡ length (add_slot net s).nodes + c.0 = omega arith in
    (suc c.0, omega arith, c.2, ap (λ z. (node_at (net_from (add_slot net s) ss).nodes z).node) at ∙ (c.3 ∙ ap n.Input e), f ∙ c.4)

register-deeper : (net : Net) (s : Slot) (ss : List Slot) (i j : ℕ) → length (add_slot net s).registers + i ≡ length net.registers + j →
    register_at (registers_in (s ∷ ss)) j ≡ register_at (registers_in ss) i →
    RegisterCell (add_slot net s) ss i → RegisterCell net (s ∷ ss) j
register-deeper net s ss i j e f c =
    let l : length (add_slot net s).nodes ≡ length net.nodes + 1 = added net s.name s.width s.kind in
    let b : c.0 < length ss = c.1 in
    let at : length net.nodes + suc c.0 ≡ length (add_slot net s).nodes + c.0 = omega arith in
    (suc c.0, omega arith, c.2, ap (λ z. (node_at (net_from (add_slot net s) ss).nodes z).node) at ∙ (c.3 ∙ ap n.Reg e), f ∙ c.4)

input-by : (net : Net) (ss : List Slot) → ((new : Net) (i : ℕ) → i < length (inputs_in ss) → InputCell new ss i) → (name : List ℕ) (width : ℕ) (kind : Kind) →
    (let s : Slot = record { name = name; width = width; kind = kind } in (i : ℕ) → i < length (inputs_in (s ∷ ss)) → InputCell net (s ∷ ss) i)
input-by net ss f name width k.Input zero b = (
  0,
  omega arith,
  refl,
  ap (λ (t : Typed). t.node) (new-node net ss name width k.Input (a_node (n.Input (length net.inputs)) width) (get_or_at net.nodes _ [] _ (length net.nodes) refl)) ∙
      (let z : length net.inputs ≡ length net.inputs + 0 = omega arith in ap n.Input z),
  refl,
)
input-by net ss f name width k.Input (suc i) b =
    input-deeper net _ ss i (suc i) (let e : length (net.inputs ++ (name, width) ∷ []) ≡ length net.inputs + 1 = length-append net.inputs ((name, width) ∷ []) in omega arith) refl (f _ i
    (omega arith))
input-by net ss f name width k.Register i b = input-deeper net _ ss i i refl refl (f _ i b)
input-by net ss f name width k.Zero i b = input-deeper net _ ss i i refl refl (f _ i b)

pub input-cell : (ss : List Slot) (net : Net) (i : ℕ) → i < length (inputs_in ss) → InputCell net ss i
input-cell [] net i b = absurd (omega arith)
input-cell (s ∷ ss) net i b = input-by net ss (input-cell ss) s.name s.width s.kind i b

register-by : (net : Net) (ss : List Slot) → ((new : Net) (i : ℕ) → i < length (registers_in ss) → RegisterCell new ss i) → (name : List ℕ) (width : ℕ) (kind : Kind) →
    (let s : Slot = record { name = name; width = width; kind = kind } in (i : ℕ) → i < length (registers_in (s ∷ ss)) → RegisterCell net (s ∷ ss) i)
register-by net ss f name width k.Register zero b = (
  0,
  omega arith,
  refl,
  ap (λ (t : Typed). t.node) (new-node net ss name width k.Register (a_node (n.Reg (length net.registers)) width) (get_or_at net.nodes _ [] _ (length net.nodes) refl)) ∙
      (let z : length net.registers ≡ length net.registers + 0 = omega arith in ap n.Reg z),
  refl,
)
register-by net ss f name width k.Register (suc i) b =
    register-deeper net _ ss i (suc i) (let e : length (net.registers ++ a_register name width ∷ []) ≡ length net.registers + 1 = length-append net.registers
    (a_register name width ∷ []) in omega arith) refl
    (f _ i (omega arith))
register-by net ss f name width k.Input i b = register-deeper net _ ss i i refl refl (f _ i b)
register-by net ss f name width k.Zero i b = register-deeper net _ ss i i refl refl (f _ i b)

pub register-cell : (ss : List Slot) (net : Net) (i : ℕ) → i < length (registers_in ss) → RegisterCell net ss i
register-cell [] net i b = absurd (omega arith)
register-cell (s ∷ ss) net i b = register-by net ss (register-cell ss) s.name s.width s.kind i b

pub stands-width : (kind : Kind) (net : Net) (at : ℕ) (name : List ℕ) (width : ℕ) → Stands kind net at name width → width_at net.nodes at ≡ width
stands-width k.Input net at name width s = ap (λ t. t.width) s.1
stands-width k.Register net at name width s = ap (λ t. t.width) s.1
stands-width k.Zero net at name width s = ap (λ t. t.width) s
