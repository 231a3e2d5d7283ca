-- The parts of a query's words, by the nodes of its inputs.
use Rattle.std.proofs.Common.{◌≡◌, ℕ, zero, suc, ◌+◌, ◌*◌, ◌^◌, ◌<◌, ◌≤◌, List, [], ◌∷◌, ◌++◌, length, map, take, drop, get_or, slice_index, refl, sym, ◌∙◌, ap, subst, arith, append_assoc, length-append, length-take, length-drop, drop-cons, drop-drop, suc-mul, zero-mul, get_or-take, get_or-drop, get_or-append-add}
use Rattle.std.proofs.Math.ListN.{get_or-append}
use Rattle.std.proofs.lemmas.List.{length-map, get_or-map}
use Rattle.std.proofs.lemmas.List.FromFn.{length-range_with_len, get_or-range_with_len}
use Rattle.std.specs.List.{range_with_len, AllByRecursion}
use Rattle.lv_bits.specs.Words.{Bits}
use Rattle.lv_netlist.specs.declared.node.Register.{Register}
use Rattle.lv_netlist.specs.Net.{Net, register_width, input_width, width_at}
use Rattle.lv_netlist.specs.Run.{bits_at, no_bits}
use Rattle.lv_netlist.specs.Fits.{FitsInputs, FitsState, AreWords}
use Rattle.lv_netlist.specs.Queries.{register_widths, port_widths, repeated, product_widths, pieces}
use Rattle.lv_unroll.specs.declared.copies.Nodes.{Nodes}
use Rattle.lv_unroll.specs.Wires.{word_in, AreLike}
use Rattle.lv_unroll.specs.Copies.{AreInputs}
use Rattle.lv_unroll.specs.Unrolls.{words_in, IsCycle}
use Rattle.lv_product.specs.Opening.{Opens, ranges, lists_of}

-- ---- the widths

length_repeated : (n : ℕ) (xs : List ℕ) → length (repeated n xs) ≡ n * length xs
length_repeated zero xs = omega (arith, zero-mul (length xs))
length_repeated (suc n) xs = omega (arith, length-append xs (repeated n xs), length_repeated n xs, suc-mul n (length xs))

repeated_at : (n : ℕ) (xs : List ℕ) (k j : ℕ) → k < n → j < length xs → get_or (repeated n xs) (k * length xs + j) 0 ≡ get_or xs j 0
repeated_at zero xs k j lt less = absurd (omega arith)
repeated_at (suc n) xs zero j lt less =
    let e : 0 * length xs + j ≡ j = omega (arith, zero-mul (length xs)) in
    ap (λ (i : ℕ). get_or (xs ++ repeated n xs) i 0) e ∙ get_or-append xs (repeated n xs) 0 j less
repeated_at (suc n) xs (suc k) j lt less =
    let e : suc k * length xs + j ≡ length xs + (k * length xs + j) = omega (arith, suc-mul k (length xs)) in
    ap (λ (i : ℕ). get_or (xs ++ repeated n xs) i 0) e ∙ (get_or-append-add xs (repeated n xs) (k * length xs + j) 0 ∙
    repeated_at n xs k j (omega arith) less)

below_product : (k n m j : ℕ) → k < n → j < m → k * m + j < n * m
below_product k zero m j lt less = absurd (omega arith)
below_product zero (suc n) m j lt less = omega (arith, suc-mul n m, zero-mul m)
below_product (suc k) (suc n) m j lt less = omega (arith, suc-mul n m, suc-mul k m, below_product k n m j (omega arith) less)

module _ (graph : Net) (n : ℕ) where
  abbrev all_widths : List ℕ
  all_widths = product_widths graph n

  register_count : length (register_widths graph) ≡ length graph.registers
  register_count = length-map graph.registers (λ (r : List ℕ × Register). r.1.width)

  port_count : length (port_widths graph) ≡ length graph.inputs
  port_count = length-map graph.inputs (λ (p : List ℕ × ℕ). p.1)

  rest_count : length (repeated n (port_widths graph)) ≡ n * length graph.inputs
  rest_count = length_repeated n (port_widths graph) ∙ ap (λ (m : ℕ). n * m) port_count

  pub length_product : length (product_widths graph n) ≡ length graph.registers + length graph.registers + n * length graph.inputs + 1
  length_product =
      let rs : List ℕ = register_widths graph in
      let ps : List ℕ = repeated n (port_widths graph) in
      omega (arith, length-append (rs ++ rs ++ ps) (1 ∷ []), length-append (rs ++ rs) ps, length-append rs rs, register_count, rest_count)

  regrouped : product_widths graph n ≡ register_widths graph ++ (register_widths graph ++ (repeated n (port_widths graph) ++ 1 ∷ []))
  regrouped =
      let rs : List ℕ = register_widths graph in
      let ps : List ℕ = repeated n (port_widths graph) in
      append_assoc (rs ++ rs) ps (1 ∷ []) ∙ append_assoc rs rs (ps ++ 1 ∷ [])

  register_at : (i : ℕ) → i < length graph.registers → get_or (register_widths graph) i 0 ≡ register_width graph i
  register_at i lt = get_or-map (λ (r : List ℕ × Register). r.1.width) graph.registers i _ _ lt

  port_at : (i : ℕ) → i < length graph.inputs → get_or (port_widths graph) i 0 ≡ input_width graph i
  port_at i lt = get_or-map (λ (p : List ℕ × ℕ). p.1) graph.inputs i _ _ lt

  pub left_width : (i : ℕ) → i < length graph.registers → slice_index (product_widths graph n) (0 + i) ≡ register_width graph i
  left_width i lt =
      let e : 0 + i ≡ i = omega arith in
      ap (λ (j : ℕ). get_or (product_widths graph n) j 0) e ∙
      (ap (λ (l : List ℕ). get_or l i 0) regrouped ∙ (get_or-append (register_widths graph) _ 0 i (omega (arith, register_count)) ∙ register_at i lt))

  pub right_width : (i : ℕ) → i < length graph.registers → slice_index (product_widths graph n) (length graph.registers + i) ≡ register_width graph i
  right_width i lt =
      let rs : List ℕ = register_widths graph in
      let e : length graph.registers + i ≡ length rs + i = omega (arith, register_count) in
      ap (λ (j : ℕ). get_or (product_widths graph n) j 0) e ∙
      (ap (λ (l : List ℕ). get_or l (length rs + i) 0) regrouped ∙
      (get_or-append-add rs (rs ++ (repeated n (port_widths graph) ++ 1 ∷ [])) i 0 ∙
      (get_or-append rs _ 0 i (omega (arith, register_count)) ∙ register_at i lt)))

  pub cycle_width : (k i : ℕ) → k < n → i < length graph.inputs →
      slice_index (product_widths graph n) ((length graph.registers + length graph.registers + k * length graph.inputs) + i) ≡ input_width graph i
  cycle_width k i lt less =
      let rs : List ℕ = register_widths graph in
      let ps : List ℕ = port_widths graph in
      let j : ℕ = k * length ps + i in
      let pc : k * length graph.inputs ≡ k * length ps = ap (λ (m : ℕ). k * m) (sym port_count) in
      let e : (length graph.registers + length graph.registers + k * length graph.inputs) + i ≡ length rs + (length rs + j) =
      omega (arith, register_count, pc) in
      let within : j < length (repeated n ps) = omega (arith, length_repeated n ps, below_product k n (length ps) i lt (omega (arith, port_count))) in
      ap (λ (x : ℕ). get_or (product_widths graph n) x 0) e ∙
      (ap (λ (l : List ℕ). get_or l (length rs + (length rs + j)) 0) regrouped ∙
      (get_or-append-add rs (rs ++ (repeated n ps ++ 1 ∷ [])) (length rs + j) 0 ∙
      (get_or-append-add rs (repeated n ps ++ 1 ∷ []) j 0 ∙
      (get_or-append (repeated n ps) (1 ∷ []) 0 j within ∙ (repeated_at n ps k i lt (omega (arith, port_count)) ∙ port_at i less)))))

-- ---- nodes

pub nodes_like : (widths : List ℕ) (net : Net) (from count : ℕ) (width_of : ℕ → ℕ) → Opens widths net → from + count ≤ length widths →
    ((i : ℕ) → i < count → slice_index widths (from + i) ≡ width_of i) → AreLike net count width_of (range_with_len from count)
nodes_like widths net from count width_of o le h = record {
  count = length-range_with_len from count;
  within = λ i lt. omega (arith, get_or-range_with_len from count i 0 lt, o.count);
  widths = λ i lt. ap (width_at net.nodes) (get_or-range_with_len from count i 0 lt) ∙ (o.widths_are (from + i) (omega arith) ∙ h i lt);
}

pub words_range : (widths : List ℕ) (net : Net) (ws : List Bits) (from count : ℕ) → Opens widths net → length ws ≡ length widths →
    from + count ≤ length widths → map (word_in net ws) (range_with_len from count) ≡ take count (drop from ws)
words_range widths net ws from zero o len le = refl
words_range widths net ws from (suc count) o len le =
    let cut : drop from ws ≡ bits_at ws from ∷ drop (suc from) ws = drop-cons ws from no_bits (omega arith) in
    let same : drop (from + 1) ws ≡ drop (suc from) ws = ap (λ (k : ℕ). drop k ws) (let e : from + 1 ≡ suc from = omega arith in e) in
    ap (λ (w : Bits). w ∷ map (word_in net ws) (range_with_len (from + 1) count)) (o.words ws from (omega arith)) ∙
    (ap (λ (r : List Bits). bits_at ws from ∷ r) (words_range widths net ws (from + 1) count o len (omega arith) ∙ ap (take count) same) ∙
    ap (take (suc count)) (sym cut))

first_list : (xs ys : List ℕ) (xss yss : List (List ℕ)) → xs ∷ xss ≡ ys ∷ yss → xs ≡ ys
first_list xs ys xss yss e = cc

rest_lists : (xs ys : List ℕ) (xss yss : List (List ℕ)) → xs ∷ xss ≡ ys ∷ yss → xss ≡ yss
rest_lists xs ys xss yss e = cc

pub words_ranges : (widths : List ℕ) (net : Net) (ws : List Bits) (from count c : ℕ) (nodes : List Nodes) → Opens widths net → length ws ≡ length widths →
    from + c * count ≤ length widths → lists_of nodes ≡ ranges from count c → map (words_in net ws) nodes ≡ pieces count c (drop from ws)
words_ranges widths net ws from count zero [] o len le e = refl
words_ranges widths net ws from count zero (x ∷ xs) o len le e = absurd (let l : suc (length (lists_of xs)) ≡ 0 = ap length e in omega arith)
words_ranges widths net ws from count (suc c) [] o len le e = absurd (let l : 0 ≡ suc (length (ranges (from + count) count c)) = ap length e in omega arith)
words_ranges widths net ws from count (suc c) (x ∷ xs) o len le e =
    let one : x.list.items ≡ range_with_len from count = first_list x.list.items (range_with_len from count) (lists_of xs) (ranges (from + count) count c) e
    in
    let more : lists_of xs ≡ ranges (from + count) count c = rest_lists x.list.items (range_with_len from count) (lists_of xs)
    (ranges (from + count) count c) e in
    ap (λ (w : List Bits). w ∷ map (words_in net ws) xs) (ap (map (word_in net ws)) one ∙
    words_range widths net ws from count o len (omega (arith, suc-mul c count))) ∙
    ap (λ (r : List (List Bits)). take count (drop from ws) ∷ r)
    (words_ranges widths net ws (from + count) count c xs o len (omega (arith, suc-mul c count)) more ∙
    ap (pieces count c) (sym (drop-drop count from ws)))

pub cycles_like : (net graph : Net) (from c : ℕ) (nodes : List Nodes) → lists_of nodes ≡ ranges from (length graph.inputs) c →
    ((k : ℕ) → k < c → AreInputs net graph (range_with_len (from + k * length graph.inputs) (length graph.inputs))) →
    AllByRecursion (IsCycle net graph) nodes
cycles_like net graph from zero [] e h = tt
cycles_like net graph from zero (x ∷ xs) e h = absurd (let l : suc (length (lists_of xs)) ≡ 0 = ap length e in omega arith)
cycles_like net graph from (suc c) [] e h = absurd (let l : 0 ≡ suc (length (ranges (from + length graph.inputs) (length graph.inputs) c)) =
    ap length e in omega arith)
cycles_like net graph from (suc c) (x ∷ xs) e h =
    let m : ℕ = length graph.inputs in
    let one : x.list.items ≡ range_with_len from m = first_list x.list.items (range_with_len from m) (lists_of xs) (ranges (from + m) m c) e in
    let more : lists_of xs ≡ ranges (from + m) m c = rest_lists x.list.items (range_with_len from m) (lists_of xs) (ranges (from + m) m c) e in
    let start : from + 0 * m ≡ from = omega (arith, zero-mul m) in (
      subst (AreInputs net graph) (sym one) (subst (λ (k : ℕ). AreInputs net graph (range_with_len k m)) start (h 0 (omega arith))),
      cycles_like net graph (from + m) c xs more (λ k lt.
          let e' : from + suc k * m ≡ (from + m) + k * m = omega (arith, suc-mul k m) in
          subst (λ (j : ℕ). AreInputs net graph (range_with_len j m)) e' (h (suc k) (omega arith))),
    )

-- ---- words that fit

pub part_at : (ws : List Bits) (from count i : ℕ) → i < count → bits_at (take count (drop from ws)) i ≡ bits_at ws (from + i)
part_at ws from count i lt = get_or-take count (drop from ws) i no_bits lt ∙ get_or-drop from ws i no_bits

pub part_count : (ws : List Bits) (from count : ℕ) → from + count ≤ length ws → length (take count (drop from ws)) ≡ count
part_count ws from count le = omega (arith, length-take count (drop from ws), length-drop from ws)

part_words : (ws : List Bits) (from count : ℕ) → from + count ≤ length ws → AreWords ws → AreWords (take count (drop from ws))
part_words ws from count le h = λ i lt.
    let less : i < count = omega (arith, part_count ws from count le) in
    subst (λ (w : Bits). w.value < 2 ^ w.width) (sym (part_at ws from count i less)) (h (from + i) (omega arith))

-- words of these widths
pub record HaveWidths (widths : List ℕ) (ws : List Bits) : Type 0 where
  pub count : length ws ≡ length widths
  pub are : (i : ℕ) → i < length widths → (bits_at ws i).width ≡ slice_index widths i
  pub words : AreWords ws

module _ (graph : Net) (n : ℕ) (ws : List Bits) (h : HaveWidths (product_widths graph n) ws) where
  state_fits : (from : ℕ) → from + length graph.registers ≤ length ws →
      ((i : ℕ) → i < length graph.registers → slice_index (product_widths graph n) (from + i) ≡ register_width graph i) →
      FitsState graph (take (length graph.registers) (drop from ws)) × AreWords (take (length graph.registers) (drop from ws))
  state_fits from le each = (
    record {
      count = part_count ws from (length graph.registers) le;
      widths = λ i lt. ap (λ (w : Bits). w.width) (part_at ws from (length graph.registers) i lt) ∙ (h.are (from + i) (omega (arith, h.count)) ∙ each i lt);
    },
    part_words ws from (length graph.registers) le h.words,
  )

  pub left_fits : FitsState graph (take (length graph.registers) ws) × AreWords (take (length graph.registers) ws)
  left_fits = state_fits 0 (omega (arith, h.count, length_product graph n)) (left_width graph n)

  pub right_fits :
      FitsState graph (take (length graph.registers) (drop (length graph.registers) ws)) ×
      AreWords (take (length graph.registers) (drop (length graph.registers) ws))
  right_fits = state_fits (length graph.registers) (omega (arith, h.count, length_product graph n)) (right_width graph n)

  inputs_fit : (from c : ℕ) → from + c * length graph.inputs ≤ length ws →
      ((k i : ℕ) → k < c → i < length graph.inputs → slice_index (product_widths graph n) ((from + k * length graph.inputs) + i) ≡ input_width graph i) →
      AllByRecursion (λ (i : List Bits). FitsInputs graph i × AreWords i) (pieces (length graph.inputs) c (drop from ws))
  inputs_fit from zero le each = tt
  inputs_fit from (suc c) le each =
      let m : ℕ = length graph.inputs in
      let start : from + 0 * m ≡ from = omega (arith, zero-mul m) in
      let room : from + m ≤ length ws = omega (arith, suc-mul c m) in (
        (
          record {
            count = part_count ws from m room;
            widths = λ i lt. ap (λ (w : Bits). w.width) (part_at ws from m i lt) ∙
                (h.are (from + i) (omega (arith, h.count)) ∙
                subst (λ (j : ℕ). slice_index (product_widths graph n) (j + i) ≡ input_width graph i) start (each 0 i (omega arith) lt));
          },
          part_words ws from m room h.words,
        ),
        subst (λ (l : List Bits). AllByRecursion (λ (i : List Bits). FitsInputs graph i × AreWords i) (pieces m c l)) (sym (drop-drop m from ws))
            (inputs_fit (from + m) c (omega (arith, suc-mul c m)) (λ k i lt less.
            let e : from + suc k * m ≡ (from + m) + k * m = omega (arith, suc-mul k m) in
            subst (λ (j : ℕ). slice_index (product_widths graph n) (j + i) ≡ input_width graph i) e (each (suc k) i (omega arith) less))),
      )

  pub cycles_fit :
      AllByRecursion (λ (i : List Bits). FitsInputs graph i ×
      AreWords i) (pieces (length graph.inputs) n (drop (length graph.registers + length graph.registers) ws))
  cycles_fit = inputs_fit (length graph.registers + length graph.registers) n (omega (arith, h.count, length_product graph n)) (cycle_width graph n)

pub length_pieces : (m c : ℕ) (ws : List Bits) → length (pieces m c ws) ≡ c
length_pieces m zero ws = refl
length_pieces m (suc c) ws = ap suc (length_pieces m c (drop m ws))
