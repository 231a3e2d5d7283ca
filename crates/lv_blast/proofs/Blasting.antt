-- From the words of all nodes to the clauses.
use Rattle.std.proofs.Common.{◌≡◌, ℕ, ◌+◌, ◌<◌, ◌≤◌, inl, inr, Bool, true, false, if◌then◌else◌, ◌==◌, List, [], ◌∷◌, ◌++◌, length, map, take, get_or, refl, sym, ◌∙◌, ap, subst, arith, Option, None, zero, suc, add-one, zero-add, length-append, append_assoc, ◌-◌}
use Rattle.std.proofs.Math.ListN.{get_or-append, get_or-map}
use Rattle.std.proofs.Math.Seq.{get_or-append_seam, take-suc}
use Rattle.std.proofs.lemmas.List.{map-append}
use Rattle.std.proofs.lemmas.Bool.{cases_lt}
use Rattle.lv_bits.specs.Words.{Bits}
use Rattle.lv_bits.specs.Values.{bit, result_width}
use Rattle.lv_netlist.specs.declared.node.Node.{Node}
use Rattle.lv_netlist.specs.declared.node.Node.TheVariants.{Input, Reg, Const, Un, Bin, Mux, Slice, Cat, Ext}
use Rattle.lv_netlist.specs.declared.node.Typed.{Typed}
use Rattle.lv_netlist.specs.Net.{Net, node_at, width_at, input_at, node_width, IsRight, IsNode}
use Rattle.lv_netlist.specs.Run.{values_of, values_from, node_bits, bits_at}
use Rattle.lv_clauses.specs.Sets.{SetValue}
use Rattle.lv_clauses.specs.Decided.{IsDecidedBy, IsDecidedAtRest}
use Rattle.lv_aig.specs.declared.edge.Edge.{Edge}
use Rattle.lv_aig.specs.declared.edge.Gate.{Gate}
use Rattle.lv_aig.specs.Edges.{Nodes, edge_bit, IsValuation, IsGraph, Grows}
use Rattle.lv_gates.specs.Encodes.{Encodes}
use Rattle.lv_bits.specs.Digits.{number}
use Rattle.lv_circuits.specs.Words.{word_of, edge_at, edge_bits, AllBelow, GivesWord}
use Rattle.lv_bits.specs.Digits.{bits_from, words_from}
use Rattle.lv_blast.specs.Encoding.{input_words, count_bits, goal_at, IsEncoding, word_at, HasWords, edges_from, edge_words, IsOpen, FitsPorts}
use Rattle.lv_netlist.proofs.Nets.{at_end}
use Rattle.lv_netlist.proofs.Words.{values_from-snoc}
use Rattle.lv_aig.proofs.Graphs.{grows_trans, valuation_back}
use Rattle.lv_clauses.specs.Sets.{AreClauses}
use Rattle.lv_blast.proofs.Numbered.{from_one, same_above, satisfies_same}
use Rattle.lv_blast.proofs.Exists.{exists}

at_map : (v : ℕ → Bool) (words : List (List Edge)) (a : ℕ) → bits_at (map (word_of v) words) a ≡ word_of v (word_at words a)
at_map v words a = get_or-map (word_of v) words a []

width_map : (v : ℕ → Bool) (words : List (List Edge)) (a n : ℕ) → length (word_at words a) ≡ n → (bits_at (map (word_of v) words) a).width ≡ n
width_map v words a n h = ap (λ (b : Bits). b.width) (at_map v words a) ∙ h

if_width : (t : Bool) (x y : Bits) (n : ℕ) → x.width ≡ n → y.width ≡ n → (if t then y else x).width ≡ n
if_width true x y n p q = q
if_width false x y n p q = p

built_width : (net : Net) (k : ℕ) (n : Node) (ins words : List (List Edge)) (v : ℕ → Bool) → IsRight net k n → net.registers ≡ [] → FitsPorts net.inputs ins → ((j : ℕ) → j < k → length (word_at words j) ≡ width_at net.nodes j) → (node_bits [] (map (word_of v) ins) (map (word_of v) words) n).width ≡ node_width net n
built_width net k (Input i) ins words v r b f h = width_map v ins i (input_at net.inputs i).1 (f.widths i r)
built_width net k (Un op a) ins words v r b f h = ap (result_width op) (width_map v words a (width_at net.nodes a) (h a r.1))
built_width net k (Bin op a b' signed) ins words v r b f h = ap (result_width op) (width_map v words a (width_at net.nodes a) (h a r.1))
built_width net k (Reg i) ins words v r b f h = absurd (let e : length net.registers ≡ 0 = ap length b in omega arith)
built_width net k (Const w) ins words v r b f h = refl
built_width net k (Mux c a b') ins words v r b f h = if_width ((bits_at (map (word_of v) words) c).value == 0) (bits_at (map (word_of v) words) a) (bits_at (map (word_of v) words) b') (width_at net.nodes a) (width_map v words a (width_at net.nodes a) (h a r.1)) (width_map v words b' (width_at net.nodes a) (h b' r.2 ∙ sym r.3))
built_width net k (Slice a low width) ins words v r b f h = refl
built_width net k (Cat a b') ins words v r b f h = omega (arith, width_map v words a (width_at net.nodes a) (h a r.0), width_map v words b' (width_at net.nodes b') (h b' r.1))
built_width net k (Ext a width signed) ins words v r b f h = refl

pub record AllWords (net : Net) (old now : Nodes) (ins : List (List Edge)) (k : ℕ) (words : List (List Edge)) : Type 0 where
  pub grows : Grows old now
  pub words_are : HasWords net k (length now) words
  pub is : (v : ℕ → Bool) → IsValuation now v → map (word_of v) words ≡ values_from [] (map (word_of v) ins) [] (take k net.nodes)

words_step : (net : Net) (k m n : ℕ) (words : List (List Edge)) (es : List Edge) → HasWords net k m words → m ≤ n → AllBelow n es → length es ≡ width_at net.nodes k → HasWords net (k + 1) n (words ++ es ∷ [])
words_step net k m n words es h le below len = record {
  count = omega (arith, h.count, length-append words (es ∷ []));
  widths = λ j lt. at_end words es [] (λ (j : ℕ) (x : List Edge). length x ≡ width_at net.nodes j) (λ j lt. h.widths j (omega (arith, h.count))) (len ∙ ap (width_at net.nodes) (sym h.count)) j (omega (arith, h.count, length-append words (es ∷ [])));
  below = λ j lt. at_end words es [] (λ (j : ℕ) (x : List Edge). AllBelow n x) (λ j lt i less. omega (arith, h.below j (omega (arith, h.count)) i less)) below j (omega (arith, h.count, length-append words (es ∷ [])));
}

pub all_step : (net : Net) (old now new : Nodes) (k : ℕ) (ins before words words' : List (List Edge)) (es : List Edge) → before ≡ words → words' ≡ words ++ es ∷ [] → IsGraph new → k < length net.nodes → IsNode net k (node_at net.nodes k) → net.registers ≡ [] → FitsPorts net.inputs ins → AllWords net old now ins k words → GivesWord now new es (λ v. node_bits [] (map (word_of v) ins) (map (word_of v) before) (node_at net.nodes k).node) → AllWords net old new ins (k + 1) words'
all_step net old now new k ins before words words' es p q graph lt node built fits h g =
    let n : Node = (node_at net.nodes k).node in
    let is : (v : ℕ → Bool) → IsValuation new v → word_of v es ≡ node_bits [] (map (word_of v) ins) (map (word_of v) words) n = λ v val. g.is v val ∙ ap (λ (b : List (List Edge)). node_bits [] (map (word_of v) ins) (map (word_of v) b) n) p in
    let x = exists new (λ _. false) graph in
    let len : length es ≡ width_at net.nodes k = ap (λ (b : Bits). b.width) (is x.0 x.1) ∙ (built_width net k n ins words x.0 node.right built fits h.words_are.widths ∙ sym node.same) in
    let s : take (k + 1) net.nodes ≡ take k net.nodes ++ node_at net.nodes k ∷ [] = rw add-one (take-suc net.nodes k _ lt) in
    subst (AllWords net old new ins (k + 1)) (sym q) (record {
      grows = grows_trans old now new h.grows g.grows;
      words_are = words_step net k (length now) (length new) words es h.words_are g.grows.more g.edges len;
      is = λ v val.
          let inputs : List Bits = map (word_of v) ins in
          let e : map (word_of v) words ≡ values_from [] inputs [] (take k net.nodes) = h.is v (valuation_back now new v g.grows val) in
          map-append (word_of v) words (es ∷ []) ∙
          (ap (λ (b : Bits). map (word_of v) words ++ b ∷ []) (is v val) ∙
          (ap (λ (ws : List Bits). ws ++ node_bits [] inputs ws n ∷ []) e ∙
          (sym (values_from-snoc [] inputs [] (take k net.nodes) (node_at net.nodes k)) ∙ ap (values_from [] inputs []) (sym s))));
    })

length_edges : (k n : ℕ) → length (edges_from k n) ≡ n
length_edges k zero = refl
length_edges k (suc n) = ap suc (length_edges (k + 1) n)

edges_below : (k n m : ℕ) → k + n ≤ m → AllBelow m (edges_from k n)
edges_below k zero m h i lt = absurd (omega arith)
edges_below k (suc n) m h zero lt = omega arith
edges_below k (suc n) m h (suc i) lt = edges_below (k + 1) n m (omega arith) i (omega arith)

port_widths : (k : ℕ) (p : List ℕ × ℕ) (ps : List (List ℕ × ℕ)) → ((i : ℕ) → i < length ps → length (word_at (edge_words (k + p.1) ps) i) ≡ (input_at ps i).1) → (i : ℕ) → i < length (p ∷ ps) → length (word_at (edge_words k (p ∷ ps)) i) ≡ (input_at (p ∷ ps) i).1
port_widths k p ps h zero lt = length_edges k p.1
port_widths k p ps h (suc i) lt = h i (omega arith)

pub fits_ports : (k : ℕ) (ps : List (List ℕ × ℕ)) → FitsPorts ps (edge_words k ps)
fits_ports k [] = record { count = refl; widths = λ i lt. absurd (omega arith) }
fits_ports k (p ∷ ps) =
    let r = fits_ports (k + p.1) ps in
    record { count = ap suc r.count; widths = port_widths k p ps r.widths }

pub words_below : (k : ℕ) (ps : List (List ℕ × ℕ)) (m : ℕ) → k + count_bits ps ≤ m → (i : ℕ) → AllBelow m (word_at (edge_words k ps) i)
words_below k [] m h i j lt = absurd (omega arith)
words_below k (p ∷ ps) m h zero j lt = edges_below k p.1 m (omega arith) j lt
words_below k (p ∷ ps) m h (suc i) j lt = words_below (k + p.1) ps m (omega arith) i j lt

edges_bits : (v : ℕ → Bool) (k n : ℕ) → edge_bits v (edges_from k n) ≡ bits_from v k n
edges_bits v k zero = refl
edges_bits v k (suc n) = ap (λ (bs : List Bool). v k ∷ bs) (edges_bits v (k + 1) n)

word_bits : (v : ℕ → Bool) (k n : ℕ) → (let a : Bits = record { width = n; value = number (bits_from v k n) } in word_of v (edges_from k n) ≡ a)
word_bits v k n = rw (length_edges k n, edges_bits v k n) refl

inputs_bits : (v : ℕ → Bool) (k : ℕ) (ps : List (List ℕ × ℕ)) → map (word_of v) (edge_words k ps) ≡ words_from v k (map (λ input. input.1) ps)
inputs_bits v k [] = refl
inputs_bits v k (p ∷ ps) = rw (word_bits v k p.1, inputs_bits v (k + p.1) ps) refl

bits_same : (v w : ℕ → Bool) (k n : ℕ) → ((i : ℕ) → k ≤ i → i < k + n → w i ≡ v i) → bits_from w k n ≡ bits_from v k n
bits_same v w k zero h = refl
bits_same v w k (suc n) h = rw (h k (omega arith) (omega arith), bits_same v w (k + 1) n (λ i le lt. h i (omega arith) (omega arith))) refl

inputs_same : (v w : ℕ → Bool) (k : ℕ) (ps : List (List ℕ × ℕ)) → ((i : ℕ) → k ≤ i → i < k + count_bits ps → w i ≡ v i) → words_from w k (map (λ input. input.1) ps) ≡ words_from v k (map (λ input. input.1) ps)
inputs_same v w k [] h = refl
inputs_same v w k (p ∷ ps) h = rw (bits_same v w k p.1 (λ i le lt. h i le (omega arith)), inputs_same v w (k + p.1) ps (λ i le lt. h i (omega arith) (omega arith))) refl

one_edge : (v : ℕ → Bool) (es : List Edge) → length es ≡ 1 → number (edge_bits v es) ≡ bit (edge_bit v (edge_at es 0))
one_edge v [] h = absurd (omega arith)
one_edge v (e ∷ []) h = zero-add (bit (edge_bit v e))
one_edge v (e ∷ f ∷ es) h = absurd (omega arith)

of_one : (b : Bool) → bit b ≡ 1 → b ≡ true
of_one true h = refl
of_one false h = absurd (omega arith)

pub encoding : (net : Net) (goal : ℕ) (first nodes : Nodes) (ins words : List (List Edge)) (edge : Edge) (bits : ℕ) (set : SetValue) → AreClauses set.vars set.clauses → length first ≡ 1 + count_bits net.inputs → IsOpen first → Grows first nodes → IsGraph nodes → ins ≡ edge_words 1 net.inputs → HasWords net (length net.nodes) (length nodes) words → ((v : ℕ → Bool) → IsValuation nodes v → map (word_of v) words ≡ values_of net [] (map (word_of v) ins)) → goal < length net.nodes → width_at net.nodes goal ≡ 1 → edge ≡ edge_at (word_at words goal) 0 → bits ≡ count_bits net.inputs → Encodes nodes bits edge set → (IsDecidedAtRest set bits → IsDecidedBy set bits) → IsEncoding net goal set
encoding net goal first nodes ins words edge bits set clauses len open_ grows graph is_in have is within one at count enc law =
    let goal_is : (v : ℕ → Bool) → IsValuation nodes v → goal_at net goal (input_words net v) ≡ bit (edge_bit v edge) = λ v val.
    let e : values_of net [] (input_words net v) ≡ map (word_of v) words = ap (values_of net []) (sym (inputs_bits v 1 net.inputs)) ∙ (ap (λ (x : List (List Edge)). values_of net [] (map (word_of v) x)) (sym is_in) ∙ sym (is v val)) in
    let w : length (word_at words goal) ≡ 1 = have.widths goal within ∙ one in
    ap (λ (bs : List Bits). (bits_at bs goal).value) e ∙ (ap (λ (b : Bits). b.value) (at_map v words goal) ∙ (one_edge v (word_at words goal) w ∙ ap (λ (x : Edge). bit (edge_bit v x)) (sym at))) in
    record {
      vars = subst (λ (n : ℕ). n ≤ set.vars) count enc.vars;
      meets = λ v h.
          let w : ℕ → Bool = from_one v in
          let s = enc.sound w refl (satisfies_same v w (same_above v) set.vars set.clauses clauses h) in
          let same : input_words net w ≡ input_words net v = inputs_same v w 1 net.inputs (λ i le lt. same_above v i le) in
          ap (goal_at net goal) (sym same) ∙ (goal_is w s.0 ∙ ap bit s.1);
      met = λ v h.
          let x = exists nodes v graph in
          let agree : (k : ℕ) → 1 ≤ k → k ≤ count_bits net.inputs → x.0 k ≡ v k = λ k some le. x.2 k some (grows.same k (omega (arith, len)) ∙ open_ k (omega (arith, len))) in
          let same : input_words net x.0 ≡ input_words net v = inputs_same v x.0 1 net.inputs (λ i le lt. agree i le (omega arith)) in
          let e : bit (edge_bit x.0 edge) ≡ 1 = sym (goal_is x.0 x.1) ∙ (ap (λ (bs : List Bits). (bits_at (values_of net [] bs) goal).value) same ∙ h) in
          (x.0, enc.complete x.0 x.1 (of_one (edge_bit x.0 edge) e), agree);
      decided = subst (λ (n : ℕ). IsDecidedBy set n) count (law enc.decided);
      no_empty = enc.no_empty;
    }

pub open_more : (now new : Nodes) → new ≡ now ++ None ∷ [] → IsOpen now → IsOpen new
open_more now new p h =
    subst IsOpen (sym p) (λ k lt. at_end now None None (λ (k : ℕ) (o : Option Gate). o ≡ None) h refl k lt)

pub open_step : (now new : Nodes) (es es' : List Edge) (e : Edge) (w i first : ℕ) → i < w → new ≡ now ++ None ∷ [] → e ≡ record { node = length now; neg = false } → es' ≡ es ++ e ∷ [] → es ++ edges_from (length now) (w - i) ≡ edges_from first w → es' ++ edges_from (length new) (w - (i + 1)) ≡ edges_from first w
open_step now new es es' e w i first lt p q r h =
    let left : w - i ≡ suc (w - (i + 1)) = omega arith in
    let len : length new ≡ length now + 1 = ap length p ∙ length-append now (None ∷ []) in
    let x : List Edge = edges_from (length now + 1) (w - (i + 1)) in
    let a : es' ++ edges_from (length new) (w - (i + 1)) ≡ (es ++ e ∷ []) ++ x = ap (λ (l : List Edge). l ++ edges_from (length new) (w - (i + 1))) r ∙ ap (λ (n : ℕ). (es ++ e ∷ []) ++ edges_from n (w - (i + 1))) len in
    let b : (es ++ e ∷ []) ++ x ≡ es ++ (e ∷ x) = append_assoc es (e ∷ []) x in
    let c : es ++ (e ∷ x) ≡ es ++ edges_from (length now) (suc (w - (i + 1))) = ap (λ (f : Edge). es ++ (f ∷ x)) q in
    a ∙ (b ∙ (c ∙ (ap (λ (n : ℕ). es ++ edges_from (length now) n) (sym left) ∙ h)))
