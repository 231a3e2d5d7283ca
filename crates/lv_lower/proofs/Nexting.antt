-- The next nodes of registers, one after another.
use Rattle.std.proofs.Common.{◌≡◌, ℕ, zero, suc, ◌+◌, ◌<◌, ◌≤◌, true, false, List, [], ◌∷◌, ◌++◌, length, map, take, refl, sym, ap, ◌∙◌, arith, Some}
use Rattle.std.specs.Prelude.{slice_set, slice_index, slice_index_or}
use Rattle.std.proofs.lemmas.List.{length-append, append-nil, get_or_default, get_or_at, length-map}
use Rattle.lv_netlist.specs.declared.node.Node.TheVariants as n
use Rattle.lv_netlist.specs.declared.node.Register.{Register}
use Rattle.lv_netlist.specs.Net.{Net, no_nodes, node_at, width_at, register_at, with_next}
use Rattle.lv_lower.specs.declared.slot.Kind.{Kind}
use Rattle.lv_lower.specs.declared.slot.Kind.TheVariants as k
use Rattle.lv_lower.specs.declared.slot.Slot.{Slot}
use Rattle.lv_lower.specs.Started.{add_slot, net_from, slot_at}
use Rattle.lv_lower.specs.Nexts.{next_all, held_by, held_in, with_nexts, is_held}
use Rattle.lv_flat.specs.Cells.{cell_at}
use Rattle.lv_values.specs.Worlds.{Grows}
use Rattle.lv_lower.specs.Started.{cell_in}
use Rattle.lv_lower.proofs.Starting.{registers_in, registers-are, nodes-count}
use Rattle.lv_lower.proofs.Standing.{new-node, added, a_node, stands, stands-width}

-- ---- one more next node

next-none : (rs : List (List ℕ × Register)) → next_all rs [] ≡ rs
next-none [] = refl
next-none (r ∷ rs) = refl

abbrev set_at : List (List ℕ × Register) → ℕ → ℕ → List (List ℕ × Register)
set_at rs i m = slice_set rs i ((register_at rs i).0, record (register_at rs i).1 { next = Some m })

next-step : (rs : List (List ℕ × Register)) (ms : List ℕ) (m : ℕ) → length ms < length rs → set_at (next_all rs ms) (length ms) m ≡ next_all rs (ms ++ m ∷ [])
next-step [] ms m h = absurd (omega arith)
next-step (r ∷ rs) [] m h = ap (λ xs. (r.0, (let z : Register = record r.1 { next = Some m } in z)) ∷ xs) (sym (next-none rs))
next-step (r ∷ rs) (x ∷ ms) m h = ap (λ xs. (r.0, (let z : Register = record r.1 { next = Some x } in z)) ∷ xs) (next-step rs ms m (omega arith))

-- ---- by the kind of a cell

held-in-front : (kind : Kind) (m : ℕ) (xs ys : List ℕ) → held_by kind m (xs ++ ys) ≡ held_by kind m xs ++ ys
held-in-front k.Input m xs ys = refl
held-in-front k.Register m xs ys = refl
held-in-front k.Zero m xs ys = refl

held-one : (kind : Kind) (m : ℕ) (name : List ℕ) (width : ℕ) (hs : List ℕ) (ss : List Slot) → length hs ≡ length (registers_in ss) →
    length (held_by kind m hs) ≡ length (registers_in ((let z : Slot = record { name = name; width = width; kind = kind } in z) ∷ ss))
held-one k.Input m name width hs ss h = h
held-one k.Register m name width hs ss h = ap suc h
held-one k.Zero m name width hs ss h = h

first-register : (kind : Kind) (name : List ℕ) (width : ℕ) (ss : List Slot) → kind ≡ k.Register →
    0 < length (registers_in ((let z : Slot = record { name = name; width = width; kind = kind } in z) ∷ ss))
first-register k.Input name width ss e = cc
first-register k.Register name width ss e = omega arith
first-register k.Zero name width ss e = cc

more-register : (kind : Kind) (name : List ℕ) (width : ℕ) (xs ys : List Slot) → length (registers_in xs) < length (registers_in ys) →
    (let z : Slot = record { name = name; width = width; kind = kind } in length (registers_in (z ∷ xs)) < length (registers_in (z ∷ ys)))
more-register k.Input name width xs ys h = h
more-register k.Register name width xs ys h = omega arith
more-register k.Zero name width xs ys h = h

held-kind : (kind : Kind) → is_held kind ≡ true → kind ≡ k.Register
held-kind k.Input h = cc
held-kind k.Register h = refl
held-kind k.Zero h = cc

held-free : (kind : Kind) (m : ℕ) → is_held kind ≡ false → held_by kind m [] ≡ []
held-free k.Input m h = refl
held-free k.Register m h = cc
held-free k.Zero m h = refl

first-number : (net : Net) (ss : List Slot) (name : List ℕ) (width : ℕ) (kind : Kind) → is_held kind ≡ true →
    (node_at (net_from net ((let z : Slot = record { name = name; width = width; kind = kind } in z) ∷ ss)).nodes (length net.nodes + 0)).node ≡ n.Reg (length net.registers + 0)
first-number net ss name width k.Input h = cc
first-number net ss name width k.Register h =
    ap (λ t. t.node) (new-node net ss name width k.Register (a_node (n.Reg (length net.registers)) width) (get_or_at net.nodes _ [] _ (length net.nodes) refl)) ∙
    (let z : length net.registers ≡ length net.registers + 0 = omega arith in ap n.Reg z)
first-number net ss name width k.Zero h = cc

registers-one : (net : Net) (name : List ℕ) (width : ℕ) (kind : Kind) (ss : List Slot) → (let s : Slot = record { name = name; width = width; kind = kind } in
    length (add_slot net s).registers + length (registers_in ss) ≡ length net.registers + length (registers_in (s ∷ ss)))
registers-one net name width k.Input ss = refl
registers-one net name width k.Register ss =
    let e : length (add_slot net (record { name = name; width = width; kind = k.Register })).registers ≡ length net.registers + 1 = length-append net.registers _ in omega arith
registers-one net name width k.Zero ss = refl

-- ---- of the first cells

held-more : (ss : List Slot) (ms : List ℕ) (i : ℕ) → i < length ss → length ms ≡ length ss →
    held_in (take (i + 1) ss) (take (i + 1) ms) ≡ held_in (take i ss) (take i ms) ++ held_by (slot_at ss i).kind (slice_index ms i) []
held-more [] ms i h l = absurd (omega arith)
held-more (s ∷ ss) [] i h l = absurd (omega arith)
held-more (s ∷ ss) (m ∷ ms) zero h l = refl
held-more (s ∷ ss) (m ∷ ms) (suc i) h l =
    (let e : suc i + 1 ≡ suc (i + 1) = omega arith in ap (λ z. held_in (take z (s ∷ ss)) (take z (m ∷ ms))) e) ∙
    ap (held_by s.kind m) (held-more ss ms i (omega arith) (omega arith)) ∙ held-in-front s.kind m (held_in (take i ss) (take i ms)) (held_by (slot_at ss i).kind (slice_index ms i) [])

held-count : (ss : List Slot) (ms : List ℕ) → length ms ≡ length ss → length (held_in ss ms) ≡ length (registers_in ss)
held-count [] ms l = refl
held-count (s ∷ ss) [] l = absurd (omega arith)
held-count (s ∷ ss) (m ∷ ms) l = held-one s.kind m s.name s.width (held_in ss ms) ss (held-count ss ms (omega arith))

take-count : {A : Type 0} (xs : List A) (i : ℕ) → i ≤ length xs → length (take i xs) ≡ i
take-count xs zero h = refl
take-count [] (suc i) h = absurd (omega arith)
take-count (x ∷ xs) (suc i) h = ap suc (take-count xs i (omega arith))

-- registers among the first cells are fewer than all
fewer : (ss : List Slot) (i : ℕ) → i < length ss → (slot_at ss i).kind ≡ k.Register → length (registers_in (take i ss)) < length (registers_in ss)
fewer [] i h e = absurd (omega arith)
fewer (s ∷ ss) zero h e = first-register s.kind s.name s.width ss e
fewer (s ∷ ss) (suc i) h e = more-register s.kind s.name s.width (take i ss) ss (fewer ss i (omega arith) e)

-- one turn of the loop
pub nexts-more : (net : Net) (ss : List Slot) (ms : List ℕ) (i : ℕ) (s : Slot) (old new : Net) → i < length ss → length ms ≡ length ss → s ≡ slice_index_or ss i s → is_held s.kind ≡ true →
    length (registers_in ss) ≤ length net.registers → old ≡ with_nexts net (take i ss) (take i ms) → new ≡ with_next old (length (registers_in (take i ss))) (slice_index ms i) →
    new ≡ with_nexts net (take (i + 1) ss) (take (i + 1) ms)
nexts-more net ss ms i s old new lt l item held some o n =
    let at : slot_at ss i ≡ s = get_or_default ss i _ s lt ∙ sym item in
    let kind : (slot_at ss i).kind ≡ k.Register = ap (λ (z : Slot). z.kind) at ∙ held-kind s.kind held in
    let hs : List ℕ = held_in (take i ss) (take i ms) in
    let cut : length (take i ss) ≡ i = take-count ss i (omega arith) in
    let cut' : length (take i ms) ≡ i = take-count ms i (omega arith) in
    let count : length hs ≡ length (registers_in (take i ss)) = held-count (take i ss) (take i ms) (cut' ∙ sym cut) in
    let less : length (registers_in (take i ss)) < length (registers_in ss) = fewer ss i lt kind in
    let m : ℕ = slice_index ms i in
    n ∙ (ap (λ (z : Net). with_next z (length (registers_in (take i ss))) m) o ∙ (ap (λ c. with_next (with_nexts net (take i ss) (take i ms)) c m) (sym count) ∙
    ap (λ (rs : List (List ℕ × Register)). let z : Net = record net { registers = rs } in z) (next-step net.registers hs m (omega arith) ∙
    ap (next_all net.registers) (ap (λ z. hs ++ held_by z m []) (sym kind) ∙ sym (held-more ss ms i lt l)))))

pub nexts-skip : (net : Net) (ss : List Slot) (ms : List ℕ) (i : ℕ) (s : Slot) (old : Net) → i < length ss → length ms ≡ length ss → s ≡ slice_index_or ss i s → is_held s.kind ≡ false →
    old ≡ with_nexts net (take i ss) (take i ms) → old ≡ with_nexts net (take (i + 1) ss) (take (i + 1) ms)
nexts-skip net ss ms i s old lt l item free o =
    let at : slot_at ss i ≡ s = get_or_default ss i _ s lt ∙ sym item in
    o ∙ ap (λ (hs : List ℕ). let z : Net = record net { registers = next_all net.registers hs } in z)
    (sym (append-nil (held_in (take i ss) (take i ms))) ∙ (ap (λ xs. held_in (take i ss) (take i ms) ++ xs) (sym (held-free s.kind (slice_index ms i) free) ∙
    ap (λ (z : Slot). held_by z.kind (slice_index ms i) []) (sym at)) ∙
    sym (held-more ss ms i lt l)))

-- the number of a register's node
pub register-number : (ss : List Slot) (net : Net) (i : ℕ) → i < length ss → is_held (slot_at ss i).kind ≡ true →
    (node_at (net_from net ss).nodes (length net.nodes + i)).node ≡ n.Reg (length net.registers + length (registers_in (take i ss)))
register-number [] net i h e = absurd (omega arith)
register-number (s ∷ ss) net zero h e = first-number net ss s.name s.width s.kind e
register-number (s ∷ ss) net (suc i) h e =
    let l : length (add_slot net s).nodes ≡ length net.nodes + 1 = added net s.name s.width s.kind in
    let at : length net.nodes + suc i ≡ length (add_slot net s).nodes + i = omega arith in
    let c : length (add_slot net s).registers + length (registers_in (take i ss)) ≡ length net.registers + length (registers_in (s ∷ take i ss)) = registers-one net s.name s.width s.kind
    (take i ss) in
    ap (λ z. (node_at (net_from (add_slot net s) ss).nodes z).node) at ∙ (register-number ss (add_slot net s) i (omega arith) e ∙ ap n.Reg c)

pub nexts-none : (net : Net) → net ≡ with_nexts net [] []
nexts-none net = ap (λ (rs : List (List ℕ × Register)). let z : Net = record net { registers = rs } in z) (sym (next-none net.registers))

module _ (ss : List Slot) (net : Net) (grown : Grows (net_from no_nodes ss) net) where
  begun : length (net_from no_nodes ss).nodes ≡ length ss
  begun = (let e : length (net_from no_nodes ss).nodes ≡ 0 + length ss = nodes-count no_nodes ss in omega arith)

  pub here : (i : ℕ) → i < length ss → i < length net.nodes
  here i h = (let e : length (net_from no_nodes ss).nodes ≡ length ss = begun in let m : length (net_from no_nodes ss).nodes ≤ length net.nodes = grown.more in omega arith)

  -- the node of a register's cell is that register
  pub register-here : (i : ℕ) → i < length ss → is_held (slot_at ss i).kind ≡ true → (node_at net.nodes i).node ≡ n.Reg (length (registers_in (take i ss)))
  register-here i h e =
      let z : 0 + i ≡ i = omega arith in
      let b : i < length (net_from no_nodes ss).nodes = (let c : length (net_from no_nodes ss).nodes ≡ length ss = begun in omega arith) in
      ap (λ t. t.node) (grown.same i b) ∙ (ap (λ at. (node_at (net_from no_nodes ss).nodes at).node) (sym z) ∙ (register-number ss no_nodes i h e ∙
      (let y : 0 + length (registers_in (take i ss)) ≡ length (registers_in (take i ss)) = omega arith in ap n.Reg y)))

  pub registers-some : length (registers_in ss) ≤ length net.registers
  registers-some = (let e : net.registers ≡ registers_in ss = grown.registers ∙ registers-are no_nodes ss in
      let l : length net.registers ≡ length (registers_in ss) = ap (λ xs. length xs) e in omega arith)

  pub width-here : (i : ℕ) → i < length ss → width_at net.nodes i ≡ (slot_at ss i).width
  width-here i h =
      let b : i < length (net_from no_nodes ss).nodes = (let c : length (net_from no_nodes ss).nodes ≡ length ss = begun in omega arith) in
      let z : 0 + i ≡ i = omega arith in
      ap (λ t. t.width) (grown.same i b) ∙ (ap (λ at. width_at (net_from no_nodes ss).nodes at) (sym z) ∙
      stands-width (slot_at ss i).kind (net_from no_nodes ss) (0 + i) (slot_at ss i).name (slot_at ss i).width (stands no_nodes ss i h))

pub cell-count : (ss : List Slot) → length (map cell_in ss) ≡ length ss
cell-count ss = length-map ss cell_in

pub cell-width : (ss : List Slot) (i : ℕ) → (cell_at (map cell_in ss) i).width ≡ (slot_at ss i).width
cell-width [] i = refl
cell-width (s ∷ ss) zero = refl
cell-width (s ∷ ss) (suc i) = cell-width ss i
