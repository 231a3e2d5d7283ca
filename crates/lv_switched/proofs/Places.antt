-- The nodes and words of a query, with the switches behind them.
use Rattle.std.proofs.Common.{◌≡◌, ℕ, zero, suc, ◌+◌, ◌*◌, ◌^◌, ◌<◌, ◌≤◌, ◌==◌, not, List, [], ◌∷◌, ◌++◌, length}
use Rattle.std.proofs.Common.{map, take, drop, slice_index, refl, sym, ◌∙◌, ap, subst, arith, length-append, length-take, drop-drop, get_or-take, suc-mul, zero-mul}
use Rattle.std.proofs.Math.ListN.{get_or-append}
use Rattle.std.proofs.lemmas.List.{take-take}
use Rattle.std.proofs.lemmas.List.Elements.{All-cons, All-append, All-from_get_or}
use Rattle.std.specs.Prelude.{All}
use Rattle.std.specs.List.{AllByRecursion, range_with_len}
use Rattle.lv_bits.specs.Words.{Bits}
use Rattle.lv_netlist.specs.Net.{Net, IsWidth, register_width, input_width}
use Rattle.lv_netlist.specs.Run.{bits_at, no_bits}
use Rattle.lv_netlist.specs.Fits.{FitsInputs, FitsState, AreWords}
use Rattle.lv_netlist.specs.Queries.{product_widths, repeated, pieces, left_of, right_of, cycles_in, aligned_in}
use Rattle.lv_unroll.specs.declared.copies.Nodes.{Nodes}
use Rattle.lv_unroll.specs.Wires.{word_in, number_in, is_on}
use Rattle.lv_unroll.specs.Copies.{AreStates}
use Rattle.lv_unroll.specs.Unrolls.{words_in, IsCycle}
use Rattle.lv_product.specs.Opening.{AreWidths, Opens, ranges, lists_of}
use Rattle.lv_product.specs.Pairs.{IsPairOf}
use Rattle.lv_product.specs.declared.task.Pair.{Pair}
use Rattle.lv_product.proofs.Parts.{HaveWidths, length_product, left_width, right_width, cycle_width, nodes_like, words_range, words_ranges, cycles_like, left_fits, right_fits, cycles_fit}
use Rattle.lv_switched.specs.Switches.{switched_widths, AreSwitches}
use Rattle.lv_switched.specs.Opened.{AreOpened}

product_room : (k n m : ℕ) → k < n → k * m + m ≤ n * m
product_room k zero m lt = absurd (omega arith)
product_room zero (suc n) m lt = omega (arith, suc-mul n m, zero-mul m)
product_room (suc k) (suc n) m lt = omega (arith, suc-mul n m, suc-mul k m, product_room k n m (omega arith))

length_ones : (count : ℕ) → length (repeated count (1 ∷ [])) ≡ count
length_ones zero = refl
length_ones (suc count) = ap suc (length_ones count)

pub length_switched : (graph : Net) (n count : ℕ) → length (switched_widths graph n count) ≡ length (product_widths graph n) + count
length_switched graph n count = omega (arith, length-append (product_widths graph n) (repeated count (1 ∷ [])), length_ones count)

-- the first widths are those of the query
first_width : (graph : Net) (n count i : ℕ) → i < length (product_widths graph n) → slice_index (switched_widths graph n count) i ≡ slice_index (product_widths graph n) i
first_width graph n count i lt = get_or-append (product_widths graph n) (repeated count (1 ∷ [])) 0 i lt

module _ (graph net : Net) (n count aligned : ℕ) (left right : List ℕ) (inputs : List Nodes) (o : AreOpened graph net n count aligned left right inputs) where
  abbrev r : ℕ
  r = length graph.registers

  abbrev ws_all : List ℕ
  ws_all = switched_widths graph n count

  pub left_states : AreStates net graph left
  left_states = subst (AreStates net graph) (sym o.left_is) (nodes_like ws_all net 0 r (register_width graph) o.opens
      (omega (arith, length_product graph n, length_switched graph n count))
      (λ i lt. first_width graph n count (0 + i) (omega (arith, length_product graph n)) ∙ left_width graph n i lt))

  pub right_states : AreStates net graph right
  right_states = subst (AreStates net graph) (sym o.right_is) (nodes_like ws_all net r r (register_width graph) o.opens
      (omega (arith, length_product graph n, length_switched graph n count))
      (λ i lt. first_width graph n count (r + i) (omega (arith, length_product graph n)) ∙ right_width graph n i lt))

  room : (k : ℕ) → k < n → (r + r + k * length graph.inputs) + length graph.inputs < length (product_widths graph n)
  room k lt = omega (arith, length_product graph n, product_room k n (length graph.inputs) lt)

  pub inputs_cycles : AllByRecursion (IsCycle net graph) inputs
  inputs_cycles =
      cycles_like net graph (r + r) n inputs o.inputs_are (λ k lt.
      nodes_like ws_all net (r + r + k * length graph.inputs) (length graph.inputs) (input_width graph) o.opens
      (omega (arith, room k lt, length_switched graph n count))
      (λ i less. first_width graph n count ((r + r + k * length graph.inputs) + i) (omega (arith, room k lt)) ∙ cycle_width graph n k i lt less))

  pub aligned_within : aligned < length net.nodes
  aligned_within = omega (arith, o.aligned_is, o.opens.count, length_switched graph n count)

  pub are_switches : AreSwitches net (length (product_widths graph n)) count
  are_switches = record {
    within = omega (arith, o.opens.count, length_switched graph n count);
    words = λ ws k lt. o.opens.words ws (length (product_widths graph n) + k) (omega (arith, length_switched graph n count));
  }

  module _ (ws : List Bits) (len : length ws ≡ length (switched_widths graph n count)) where
    pub left_words : map (word_in net ws) left ≡ left_of graph ws
    left_words = ap (map (word_in net ws)) o.left_is ∙
        words_range ws_all net ws 0 r o.opens len (omega (arith, length_product graph n, length_switched graph n count))

    pub right_words : map (word_in net ws) right ≡ right_of graph ws
    right_words = ap (map (word_in net ws)) o.right_is ∙
        words_range ws_all net ws r r o.opens len (omega (arith, length_product graph n, length_switched graph n count))

    pub input_words : map (words_in net ws) inputs ≡ cycles_in graph n ws
    input_words = words_ranges ws_all net ws (r + r) (length graph.inputs) n inputs o.opens len
        (omega (arith, length_product graph n, length_switched graph n count)) o.inputs_are

    pub aligned_word : is_on net ws aligned ≡ aligned_in graph n ws
    unfolding is_on number_in
    aligned_word =
        let at : aligned ≡ r + r + n * length graph.inputs = omega (arith, o.aligned_is, length_product graph n) in
        ap (λ (b : Bits). not (b.value == 0)) (o.opens.words ws aligned (omega (arith, o.aligned_is, length_switched graph n count)) ∙ ap (bits_at ws) at)

-- ---- words that fit

take_within : (from count p : ℕ) (ws : List Bits) → from + count ≤ p → take count (drop from (take p ws)) ≡ take count (drop from ws)
take_within zero count p ws le = take-take count p ws (omega arith)
take_within (suc from) count zero ws le = absurd (omega arith)
take_within (suc from) count (suc p) [] le = refl
take_within (suc from) count (suc p) (w ∷ ws) le = take_within from count p ws (omega arith)

pieces_within : (m c from p : ℕ) (ws : List Bits) → from + c * m ≤ p → pieces m c (drop from (take p ws)) ≡ pieces m c (drop from ws)
pieces_within m zero from p ws le = refl
pieces_within m (suc c) from p ws le =
    ap (λ (w : List Bits). w ∷ pieces m c (drop m (drop from (take p ws)))) (take_within from m p ws (omega (arith, suc-mul c m))) ∙
    ap (λ (r : List (List Bits)). take m (drop from ws) ∷ r)
    (ap (pieces m c) (drop-drop m from (take p ws)) ∙
    (pieces_within m c (from + m) p ws (omega (arith, suc-mul c m)) ∙ ap (pieces m c) (sym (drop-drop m from ws))))

module _ (graph : Net) (n count : ℕ) (ws : List Bits) (h : HaveWidths (switched_widths graph n count) ws) where
  abbrev p : ℕ
  p = length (product_widths graph n)

  first_words : HaveWidths (product_widths graph n) (take p ws)
  first_words =
      let many : length (take p ws) ≡ p = omega (arith, length-take p ws, h.count, length_switched graph n count) in
      record {
        count = many;
        are = λ i lt.
            ap (λ (w : Bits). w.width) (get_or-take p ws i no_bits lt) ∙
            (h.are i (omega (arith, lt, length_switched graph n count)) ∙ first_width graph n count i lt);
        words = λ i lt.
            let less : i < p = omega (arith, lt, many) in
            subst (λ (w : Bits). w.value < 2 ^ w.width) (sym (get_or-take p ws i no_bits less)) (h.words i (omega (arith, less, h.count, length_switched graph n count)));
      }

  pub left_state : FitsState graph (left_of graph ws) × AreWords (left_of graph ws)
  left_state = subst (λ (l : List Bits). FitsState graph l × AreWords l) (take_within 0 (length graph.registers) p ws (omega (arith, length_product graph n)))
      (left_fits graph n (take p ws) first_words)

  pub right_state : FitsState graph (right_of graph ws) × AreWords (right_of graph ws)
  right_state = subst (λ (l : List Bits). FitsState graph l × AreWords l)
      (take_within (length graph.registers) (length graph.registers) p ws (omega (arith, length_product graph n)))
      (right_fits graph n (take p ws) first_words)

  pub cycle_inputs : AllByRecursion (λ (i : List Bits). FitsInputs graph i × AreWords i) (cycles_in graph n ws)
  cycle_inputs = subst (AllByRecursion (λ (i : List Bits). FitsInputs graph i × AreWords i))
      (pieces_within (length graph.inputs) n (length graph.registers + length graph.registers) p ws (omega (arith, length_product graph n)))
      (cycles_fit graph n (take p ws) first_words)

-- ---- widths, and the pair

all_ones : (count : ℕ) → All IsWidth (repeated count (1 ∷ []))
all_ones zero = λ i d lt. absurd (omega arith)
all_ones (suc count) = All-cons IsWidth 1 (repeated count (1 ∷ [])) (omega arith, omega arith) (all_ones count)

pub ones_right : (count : ℕ) (widths all : List ℕ) → all ≡ widths ++ repeated count (1 ∷ []) → AreWidths widths → AreWidths all
ones_right count widths all e h =
    let whole : All IsWidth (widths ++ repeated count (1 ∷ [])) =
    All-append IsWidth widths (repeated count (1 ∷ [])) (All-from_get_or IsWidth widths 0 h) (all_ones count) in
    subst AreWidths (sym e) (λ i lt. whole i 0 lt)

-- the first words have all that the pair needs
pub pair_within : (registers inputs cycles n : ℕ) (words part : List Bits) (pair : Pair) → part ≡ take n words → registers + registers + cycles * inputs < n →
    IsPairOf registers inputs cycles part pair → IsPairOf registers inputs cycles words pair
pair_within registers inputs cycles n words part pair e le h =
    let k : IsPairOf registers inputs cycles (take n words) pair = subst (λ (ws : List Bits). IsPairOf registers inputs cycles ws pair) e h in
    record {
      left = k.left ∙ take_within 0 registers n words (omega arith);
      right = k.right ∙ take_within registers registers n words (omega arith);
      each = k.each ∙ pieces_within inputs cycles (registers + registers) n words (omega arith);
      aligned = k.aligned ∙ ap (λ (b : Bits). not (b.value == 0)) (get_or-take n words (registers + registers + cycles * inputs) no_bits le);
    }

-- ---- all is opened

pub opened : (graph net : Net) (n count from m p aligned : ℕ) (first widths all left right : List ℕ) (inputs : List Nodes) → first ≡ product_widths graph n →
    from ≡ length first → widths ≡ first ++ repeated count (1 ∷ []) → all ≡ widths → Opens all net → m ≡ length graph.registers → p ≡ length graph.inputs →
    left ≡ range_with_len 0 m → right ≡ range_with_len m m → lists_of inputs ≡ ranges (m + m) p n → aligned + 1 ≡ from →
    AreOpened graph net n count aligned left right inputs
opened graph net n count from m p aligned first widths all left right inputs e1 e2 e3 e4 h e5 e6 e7 e8 e9 e10 = record {
  opens = subst (λ (l : List ℕ). Opens l net) (e4 ∙ (e3 ∙ ap (λ (l : List ℕ). l ++ repeated count (1 ∷ [])) e1)) h;
  left_is = e7 ∙ ap (range_with_len 0) e5;
  right_is = e8 ∙ ap (λ (k : ℕ). range_with_len k k) e5;
  inputs_are = e9 ∙ (ap (λ (k : ℕ). ranges (k + k) p n) e5 ∙ ap (λ (k : ℕ). ranges (length graph.registers + length graph.registers) k n) e6);
  aligned_is = e10 ∙ (e2 ∙ ap length e1);
}

pub sliced : (graph net : Net) (n count aligned : ℕ) (left right l r : List ℕ) (inputs i : List Nodes) → l ≡ left → r ≡ right → i ≡ inputs →
    AreOpened graph net n count aligned left right inputs → AreOpened graph net n count aligned l r i
sliced graph net n count aligned left right l r inputs i el er ei o = record {
  opens = o.opens;
  left_is = el ∙ o.left_is;
  right_is = er ∙ o.right_is;
  inputs_are = ap lists_of ei ∙ o.inputs_are;
  aligned_is = o.aligned_is;
}
