-- Inputs that are opened one after another, and what their words are.
use Rattle.std.proofs.Common.{◌≡◌, ℕ, zero, suc, ◌+◌, ◌*◌, ◌^◌, ◌<◌, ◌≤◌, List, [], ◌∷◌, ◌++◌, length, map, take, drop, get_or, slice_index, refl, sym, ◌∙◌, ap, subst, arith, add-one, append_assoc, length-append, length-drop, drop-drop, suc-mul, zero-mul, All}
use Rattle.std.proofs.lemmas.List.{take_more, map-append, length-map, append-nil}
use Rattle.std.proofs.lemmas.List.Elements.{All-map, All-from_get_or, All-append, All-cons, All-nil}
use Rattle.std.specs.List.{range_with_len}
use Rattle.std.specs.Int.{w64, to_le_bytes, from_le_bytes}
use Rattle.lv_bits.specs.Words.{Bits}
use Rattle.lv_netlist.specs.declared.node.Node.TheVariants.{Input}
use Rattle.lv_netlist.specs.declared.node.Typed.{Typed}
use Rattle.lv_netlist.specs.declared.node.Register.{Register}
use Rattle.lv_netlist.specs.Net.{Net, IsNet, IsNew, IsWidth, input_name, no_nodes, with_input}
use Rattle.lv_netlist.specs.Run.{values_of, values_from, node_bits, bits_at, no_bits}
use Rattle.lv_netlist.specs.Queries.{register_widths, port_widths, repeated, product_widths, pieces}
use Rattle.lv_netlist.proofs.Words.{values_from-snoc}
use Rattle.lv_unroll.specs.declared.copies.Nodes.{Nodes}
use Rattle.lv_unroll.specs.Wires.{word_in}
use Rattle.lv_unroll.proofs.Copying.{at_end}
use Rattle.lv_product.specs.Opening.{AreWidths, OpensTo, Opens, ranges, lists_of}

-- ---- names

pub le_injective : (m n : ℕ) → m < 2 ^ 64 → n < 2 ^ 64 → to_le_bytes w64 m ≡ to_le_bytes w64 n → m ≡ n
le_injective m n p q same = let read = ap (from_le_bytes w64) same in omega arith

-- ---- opening

pub record Opening (widths : List ℕ) (n : ℕ) (net : Net) : Type 0 where
  pub opens : OpensTo widths n net
  pub inputs : length net.inputs ≡ n
  pub names : (i : ℕ) → i < n → input_name net i ≡ to_le_bytes w64 i

pub opening_none : (widths : List ℕ) (net : Net) → net ≡ no_nodes → Opening widths 0 net
opening_none widths net e = subst (Opening widths 0) (sym e) (record {
  opens = record { count = refl; registers = refl; ports = refl; widths_are = λ k lt. absurd (omega arith); words = λ ws k lt. absurd (omega arith) };
  inputs = refl;
  names = λ i lt. absurd (omega arith);
})

pub new_name : (widths : List ℕ) (n : ℕ) (net : Net) (name : List ℕ) → n < 2 ^ 64 → name ≡ to_le_bytes w64 n → Opening widths n net → IsNew net name
new_name widths n net name fits e h = record {
  among_inputs = λ i lt same.
      let less : i < n = omega (arith, h.inputs) in
      let one : i ≡ n = le_injective i n (omega arith) fits (sym (h.names i less) ∙ (same ∙ e)) in
      absurd (omega arith);
  among_registers = λ i lt. absurd (let none : length net.registers ≡ 0 = ap length h.opens.registers in omega arith);
}

length_values : (state inputs before : List Bits) (ns : List Typed) → length (values_from state inputs before ns) ≡ length before + length ns
length_values state inputs before [] = omega arith
length_values state inputs before (n ∷ ns) =
    omega (
      arith,
      length_values state inputs (before ++ node_bits state inputs before n.node ∷ []) ns,
      length-append before
          (node_bits state inputs before n.node ∷ []),
    )

abbrev Port : Type 0
Port = List ℕ × ℕ

input_opened : (widths : List ℕ) (n : ℕ) (old : Net) (name : List ℕ) → n < length widths → name ≡ to_le_bytes w64 n → Opening widths n old →
    Opening widths (n + 1) (with_input old name (slice_index widths n))
unfolding word_in
input_opened widths n old name lt en h =
    let w : ℕ = slice_index widths n in
    let t : Typed = record { node = Input (length old.inputs); width = w } in
    let p : Port = (name, w) in
    let o : OpensTo widths n old = h.opens in
    let nodes : length (old.nodes ++ t ∷ []) ≡ n + 1 = omega (arith, length-append old.nodes (t ∷ []), o.count) in
    let many : length (old.inputs ++ p ∷ []) ≡ n + 1 = omega (arith, length-append {A = Port} old.inputs (p ∷ []), h.inputs) in
    record {
      opens = record {
        count = nodes;
        registers = o.registers;
        ports = map-append (λ (x : Port). x.1) old.inputs (p ∷ []) ∙ (ap (λ (l : List ℕ). l ++ w ∷ []) o.ports ∙ sym (take_more widths n 0 lt));
        widths_are = λ k less. at_end old.nodes t _ (λ (k : ℕ) (x : Typed). x.width ≡ slice_index widths k) (λ k l. o.widths_are k (omega (arith, o.count)))
            (ap (slice_index widths) (sym o.count)) k (omega (arith, nodes));
        words = λ ws k less.
            let values : List Bits = values_of old [] ws in
            let x : Bits = bits_at ws (length old.inputs) in
            let long : length values ≡ n = omega (arith, length_values [] ws [] old.nodes, o.count) in
            let all : values_from [] ws [] (old.nodes ++ t ∷ []) ≡ values ++ x ∷ [] = values_from-snoc [] ws [] old.nodes t in
            ap (λ (vs : List Bits). bits_at vs k) all ∙
            at_end values x no_bits (λ (k : ℕ) (v : Bits). v ≡ bits_at ws k) (λ k l. o.words ws k (omega (arith, long))) (ap (bits_at ws) (h.inputs ∙
            sym long)) k (omega (arith, long, length-append values (x ∷ [])));
      };
      inputs = many;
      names = λ i less. at_end {A = Port} old.inputs p _ (λ (i : ℕ) (x : Port). x.0 ≡ to_le_bytes w64 i) (λ i l. h.names i (omega (arith, h.inputs))) (en ∙
          ap (to_le_bytes w64) (sym h.inputs)) i (omega (arith, many));
    }

pub opening_step : (widths : List ℕ) (n w : ℕ) (old new : Net) (name : List ℕ) → n < length widths → w ≡ slice_index widths n → name ≡ to_le_bytes w64 n →
    new ≡ with_input old name w → Opening widths n old → Opening widths (n + 1) new
opening_step widths n w old new name lt ew en e h =
    subst (Opening widths (n + 1)) (sym (e ∙ ap (with_input old name) ew)) (input_opened widths n old name lt en h)

pub opened : (widths : List ℕ) (n : ℕ) (net : Net) → n ≡ length widths → Opening widths n net → Opens widths net
opened widths n net e h = subst (λ (m : ℕ). OpensTo widths m net) e h.opens

-- ---- widths

pub widths_more : {X : Type 0} (f : X → ℕ) (xs : List X) (d : X) (k w : ℕ) (ws ws' : List ℕ) → k < length xs → w ≡ f (get_or xs k d) → ws' ≡ ws ++ w ∷ [] →
    ws ≡ map f (take k xs) → ws' ≡ map f (take (k + 1) xs)
widths_more f xs d k w ws ws' lt ew e h =
    e ∙ (ap (λ (l : List ℕ). l ++ w ∷ []) h ∙ (ap (λ (x : ℕ). map f (take k xs) ++ x ∷ []) ew ∙
    (sym (map-append f (take k xs) (get_or xs k d ∷ [])) ∙ ap (map f) (sym (take_more xs k d lt)))))

repeated_more : (n : ℕ) (xs : List ℕ) → repeated n xs ++ xs ≡ repeated (suc n) xs
repeated_more zero xs = sym (append-nil xs)
repeated_more (suc n) xs = append_assoc xs (repeated n xs) xs ∙ ap (λ (l : List ℕ). xs ++ l) (repeated_more n xs)

pub repeated_step : (n : ℕ) (rs xs all all' : List ℕ) → all' ≡ all ++ xs → all ≡ rs ++ repeated n xs → all' ≡ rs ++ repeated (n + 1) xs
repeated_step n rs xs all all' e h =
    rw add-one (e ∙ (ap (λ (l : List ℕ). l ++ xs) h ∙ (append_assoc rs (repeated n xs) xs ∙ ap (λ (l : List ℕ). rs ++ l) (repeated_more n xs))))

all_repeated : (P : ℕ → Type 0) (n : ℕ) (xs : List ℕ) → All P xs → All P (repeated n xs)
all_repeated P zero xs h = λ i d lt. absurd (omega arith)
all_repeated P (suc n) xs h = All-append P xs (repeated n xs) h (all_repeated P n xs h)

pub ports_right : (graph : Net) (ws : List ℕ) → IsNet graph → ws ≡ port_widths graph → AreWidths ws
ports_right graph ws net e =
    let ps : All IsWidth (port_widths graph) =
    All-map IsWidth (λ (p : List ℕ × ℕ). p.1) graph.inputs (All-from_get_or (λ (p : List ℕ × ℕ). IsWidth p.1) graph.inputs _ (λ i lt. net.inputs i lt)) in
    subst AreWidths (sym e) (λ i lt. ps i 0 lt)

pub widths_right : (graph : Net) (n : ℕ) (all : List ℕ) → IsNet graph → all ≡ product_widths graph n → AreWidths all
widths_right graph n all net e =
    let rs : All IsWidth (register_widths graph) =
    All-map IsWidth (λ (r : List ℕ × Register). r.1.width) graph.registers (All-from_get_or (λ (r : List ℕ ×
    Register). IsWidth r.1.width) graph.registers _ (λ i lt. (net.registers i lt).width)) in
    let ps : All IsWidth (port_widths graph) =
    All-map IsWidth (λ (p : List ℕ × ℕ). p.1) graph.inputs (All-from_get_or (λ (p : List ℕ × ℕ). IsWidth p.1) graph.inputs _ (λ i lt. net.inputs i lt)) in
    let one : All IsWidth (1 ∷ []) = All-cons IsWidth 1 [] (omega arith, omega arith) (All-nil IsWidth) in
    let whole : All IsWidth (product_widths graph n) =
    All-append IsWidth (register_widths graph ++ register_widths graph ++ repeated n (port_widths graph)) (1 ∷ [])
    (All-append IsWidth (register_widths graph ++ register_widths graph) (repeated n (port_widths graph))
    (All-append IsWidth (register_widths graph) (register_widths graph) rs rs) (all_repeated IsWidth n (port_widths graph) ps)) one in
    subst AreWidths (sym e) (λ i lt. whole i 0 lt)

pub widths_start : (graph : Net) (rs first all : List ℕ) → rs ≡ register_widths graph → first ≡ rs → all ≡ first ++ rs →
    all ≡ register_widths graph ++ register_widths graph ++ repeated 0 (port_widths graph)
widths_start graph rs first all er ef e =
    e ∙ (ap (λ (l : List ℕ). l ++ rs) (ef ∙ er) ∙ (ap (λ (l : List ℕ). register_widths graph ++ l) er ∙
    sym (append-nil (register_widths graph ++ register_widths graph))))

pub all_widths : (graph : Net) (n k : ℕ) (all all' : List ℕ) → k ≡ n →
    all ≡ register_widths graph ++ register_widths graph ++ repeated k (port_widths graph) → all' ≡ all ++ 1 ∷ [] → all' ≡ product_widths graph n
all_widths graph n k all all' ek h e =
    e ∙ (ap (λ (l : List ℕ). l ++ 1 ∷ []) h ∙ ap (λ (j : ℕ). register_widths graph ++ register_widths graph ++ repeated j (port_widths graph) ++ 1 ∷ []) ek)

-- ---- ranges

counting : (a n : ℕ) → range_with_len a (suc n) ≡ range_with_len a n ++ (a + n) ∷ []
counting a zero = let e : a ≡ a + 0 = omega arith in ap (λ (k : ℕ). k ∷ []) e
counting a (suc n) =
    let e : (a + 1) + n ≡ a + suc n = omega arith in
    ap (λ (l : List ℕ). a ∷ l) (counting (a + 1) n ∙ ap (λ (k : ℕ). range_with_len (a + 1) n ++ k ∷ []) e)

pub range_step : (from k x : ℕ) (ns ns' : List ℕ) → x ≡ from + k → ns' ≡ ns ++ x ∷ [] → ns ≡ range_with_len from k → ns' ≡ range_with_len from (k + 1)
range_step from k x ns ns' ex e h = rw add-one (e ∙ (ap (λ (l : List ℕ). l ++ x ∷ []) h ∙
    (ap (λ (y : ℕ). range_with_len from k ++ y ∷ []) ex ∙ sym (counting from k))))

ranges_more : (from count n : ℕ) → ranges from count (suc n) ≡ ranges from count n ++ range_with_len (from + n * count) count ∷ []
ranges_more from count zero = let e : from ≡ from + 0 * count = omega (arith, zero-mul count) in ap (λ (k : ℕ). range_with_len k count ∷ []) e
ranges_more from count (suc n) =
    let e : (from + count) + n * count ≡ from + suc n * count = omega (arith, suc-mul n count) in
    ap (λ (l : List (List ℕ)). range_with_len from count ∷ l) (ranges_more (from + count) count n ∙
    ap (λ (k : ℕ). ranges (from + count) count n ++ range_with_len k count ∷ []) e)

pub ranges_step : (from count at k : ℕ) (list : List ℕ) (ns ns' : List Nodes) (one : Nodes) → list ≡ range_with_len at count → one.list.items ≡ list →
    at ≡ from + k * count → ns' ≡ ns ++ one ∷ [] → lists_of ns ≡ ranges from count k → lists_of ns' ≡ ranges from count (k + 1)
ranges_step from count at k list ns ns' one el eo ea e h =
    rw add-one (ap lists_of e ∙ (map-append (λ (n : Nodes). n.list.items) ns (one ∷ []) ∙
    (ap (λ (l : List (List ℕ)). l ++ one.list.items ∷ []) h ∙
    (ap (λ (x : List ℕ). ranges from count k ++ x ∷ []) (eo ∙ (el ∙ ap (λ (y : ℕ). range_with_len y count) ea)) ∙ sym (ranges_more from count k)))))

-- a run of nodes ends before that of all cycles does
pub run_room : (from count cycles k at : ℕ) → from + cycles * count < 2 ^ 64 → at ≡ from + k * count → k < cycles → at + count < 2 ^ 64
run_room from count cycles k at room e lt = omega (arith, product_room k cycles count lt)
  where
    product_room : (k n m : ℕ) → k < n → k * m + m ≤ n * m
    product_room k zero m lt = absurd (omega arith)
    product_room zero (suc n) m lt = omega (arith, suc-mul n m, zero-mul m)
    product_room (suc k) (suc n) m lt = omega (arith, suc-mul n m, suc-mul k m, product_room k n m (omega arith))

pub next_run : (from count k at : ℕ) → at ≡ from + k * count → at + count ≡ from + (k + 1) * count
next_run from count k at e = rw add-one (omega (arith, suc-mul k count))

pub first_run : (from count : ℕ) → from ≡ from + 0 * count
first_run from count = omega (arith, zero-mul count)

length_ranges : (from count n : ℕ) → length (ranges from count n) ≡ n
length_ranges from count zero = refl
length_ranges from count (suc n) = ap suc (length_ranges (from + count) count n)

pub run_count : (from count n : ℕ) (nodes : List Nodes) → lists_of nodes ≡ ranges from count n → length nodes ≡ n
run_count from count n nodes e = sym (length-map nodes (λ (x : Nodes). x.list.items)) ∙ (ap length e ∙ length_ranges from count n)

-- ---- pieces

pieces_more : (m k : ℕ) (ws : List Bits) → pieces m (suc k) ws ≡ pieces m k ws ++ take m (drop (k * m) ws) ∷ []
pieces_more m zero ws = let e : 0 ≡ 0 * m = omega (arith, zero-mul m) in ap (λ (j : ℕ). take m (drop j ws) ∷ []) e
pieces_more m (suc k) ws =
    let e : m + k * m ≡ suc k * m = omega (arith, suc-mul k m) in
    ap (λ (l : List (List Bits)). take m ws ∷ l) (pieces_more m k (drop m ws) ∙
    ap (λ (l : List Bits). pieces m k (drop m ws) ++ take m l ∷ []) (drop-drop (k * m) m ws ∙ ap (λ (j : ℕ). drop j ws) e))

-- so far: the pieces made, and the words that are left
pub record PiecesSoFar (m k : ℕ) (ws rest : List Bits) (made : List (List Bits)) : Type 0 where
  pub are : made ≡ pieces m k ws
  pub rest_is : rest ≡ drop (k * m) ws

pub pieces_none : (m : ℕ) (ws : List Bits) → PiecesSoFar m 0 ws ws []
pieces_none m ws = record { are = refl; rest_is = let e : 0 ≡ 0 * m = omega (arith, zero-mul m) in ap (λ (j : ℕ). drop j ws) e }

pub pieces_step : (m k : ℕ) (ws rest rest' piece : List Bits) (made made' : List (List Bits)) → piece ≡ take m rest → rest' ≡ drop m rest →
    made' ≡ made ++ piece ∷ [] → PiecesSoFar m k ws rest made → PiecesSoFar m (k + 1) ws rest' made'
pieces_step m k ws rest rest' piece made made' ep er em h =
    let e : k * m + m ≡ suc k * m = omega (arith, suc-mul k m) in
    rw add-one (record {
      are = em ∙ (ap (λ (l : List (List Bits)). l ++ piece ∷ []) h.are ∙
          (ap (λ (p : List Bits). pieces m k ws ++ p ∷ []) (ep ∙ ap (take m) h.rest_is) ∙ sym (pieces_more m k ws)));
      rest_is = er ∙ (ap (drop m) h.rest_is ∙ (drop-drop m (k * m) ws ∙ ap (λ (j : ℕ). drop j ws) e));
    })

pub piece_room : (m k n : ℕ) (ws rest : List Bits) (made : List (List Bits)) → length ws ≡ n * m + 1 → k < n → PiecesSoFar m k ws rest made →
    m ≤ length rest
piece_room m k n ws rest made len lt h = omega (arith, ap length h.rest_is, length-drop (k * m) ws, product_room k n m lt)
  where
    product_room : (k n m : ℕ) → k < n → k * m + m ≤ n * m
    product_room k zero m lt = absurd (omega arith)
    product_room zero (suc n) m lt = omega (arith, suc-mul n m, zero-mul m)
    product_room (suc k) (suc n) m lt = omega (arith, suc-mul n m, suc-mul k m, product_room k n m (omega arith))
