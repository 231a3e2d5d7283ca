-- The values of a graph's nodes in a cycle are a world that obeys the graph.
use Rattle.std.proofs.Common.{◌≡◌, ℕ, zero, suc, ◌+◌, ◌<◌, ◌^◌, ◌==◌, List, [], ◌∷◌, ◌++◌, length, refl, sym, ◌∙◌, ap, subst, arith, append_assoc}
use Rattle.std.specs.Prelude.{if◌then◌else◌}
use Rattle.std.proofs.lemmas.List.{append-nil, length-append, get_or_append_left, get_or_at}
use Rattle.lv_bits.specs.Words.{Bits}
use Rattle.lv_bits.specs.Values.{unary_of, binary_of}
use Rattle.lv_netlist.specs.declared.node.Node as declared
use Rattle.lv_netlist.specs.declared.node.Node.TheVariants.{Input, Reg, Const, Un, Bin, Mux, Slice, Cat, Ext}
use Rattle.lv_netlist.specs.declared.node.Typed.{Typed}
use Rattle.lv_netlist.specs.Net.{Net, IsNet, IsRight, node_at}
use Rattle.lv_netlist.specs.Run.{no_bits, bits_at, node_bits, values_from, values_of}
use Rattle.lv_netlist.specs.Fits.{FitsInputs, FitsState, AreWords}
use Rattle.lv_netlist.proofs.Words.{values_fit}
use Rattle.lv_values.specs.Worlds.{Obeys}

-- the values of operands below k are those of any list that begins alike
same_operands : (net : Net) (state inputs before after : List Bits) (n : declared.Node) → IsRight net (length before) n → node_bits state inputs before n ≡ node_bits state inputs (before ++ after) n
same_operands net s i b a (Input j) r = refl
same_operands net s i b a (Reg j) r = refl
same_operands net s i b a (Const w) r = refl
same_operands net s i b a (Un op x) r = ap (unary_of op) (sym (get_or_append_left b a no_bits x r.1))
same_operands net s i b a (Bin op x y signed) r =
    ap (λ (z : Bits). binary_of op signed z (bits_at b y)) (sym (get_or_append_left b a no_bits x r.1)) ∙
    ap (λ (z : Bits). binary_of op signed (bits_at (b ++ a) x) z) (sym (get_or_append_left b a no_bits y r.2))
same_operands net s i b a (Mux c x y) r =
    ap (λ (z : Bits). if z.value == 0 then bits_at b y else bits_at b x) (sym (get_or_append_left b a no_bits c r.0)) ∙
    (ap (λ (z : Bits). if (bits_at (b ++ a) c).value == 0 then z else bits_at b x) (sym (get_or_append_left b a no_bits y r.2)) ∙
    ap (λ (z : Bits). if (bits_at (b ++ a) c).value == 0 then bits_at (b ++ a) y else z) (sym (get_or_append_left b a no_bits x r.1)))
same_operands net s i b a (Slice x low width) r = ap (λ (z : Bits). node_bits s i (z ∷ []) (Slice 0 low width)) (sym (get_or_append_left b a no_bits x r.0))
same_operands net s i b a (Cat x y) r =
    ap (λ (z : Bits). node_bits s i (z ∷ bits_at b y ∷ []) (Cat 0 1)) (sym (get_or_append_left b a no_bits x r.0)) ∙
    ap (λ (z : Bits). node_bits s i (bits_at (b ++ a) x ∷ z ∷ []) (Cat 0 1)) (sym (get_or_append_left b a no_bits y r.1))
same_operands net s i b a (Ext x width signed) r = ap (λ (z : Bits). node_bits s i (z ∷ []) (Ext 0 width signed)) (sym (get_or_append_left b a no_bits x r.0))

-- what is computed of the rest goes behind
longer : (s i before : List Bits) (ns : List Typed) → (after : List Bits) × (values_from s i before ns ≡ before ++ after)
longer s i before [] = ([], sym (append-nil before))
longer s i before (n ∷ ns) =
    let x : Bits = node_bits s i before n.node in
    let r : (after : List Bits) × (values_from s i (before ++ x ∷ []) ns ≡ (before ++ x ∷ []) ++ after) = longer s i (before ++ x ∷ []) ns in
    (x ∷ r.0, r.1 ∙ append_assoc before (x ∷ []) r.0)

each_value : (net : Net) (s i before : List Bits) (ns : List Typed) → ((j : ℕ) → j < length ns → IsRight net (length before + j) (node_at ns j).node) → (j : ℕ) → j < length ns →
    bits_at (values_from s i before ns) (length before + j) ≡ node_bits s i (values_from s i before ns) (node_at ns j).node
each_value net s i before [] right j lt = absurd (omega arith)
each_value net s i before (n ∷ ns) right zero lt =
    let x : Bits = node_bits s i before n.node in
    let r = longer s i (before ++ x ∷ []) ns in
    let whole : values_from s i (before ++ x ∷ []) ns ≡ before ++ x ∷ r.0 = r.1 ∙ append_assoc before (x ∷ []) r.0 in
    let at : length before + 0 ≡ length before = omega arith in
    let ok : IsRight net (length before) n.node = subst (λ (k : ℕ). IsRight net k n.node) at (right 0 (omega arith)) in
    ap (λ (vs : List Bits). bits_at vs (length before + 0)) whole ∙ (ap (bits_at (before ++ x ∷ r.0)) at ∙ (get_or_at before x r.0 no_bits (length before) refl ∙
    (same_operands net s i before (x ∷ r.0) n.node ok ∙ ap (λ (vs : List Bits). node_bits s i vs n.node) (sym whole))))
each_value net s i before (n ∷ ns) right (suc j) lt =
    let x : Bits = node_bits s i before n.node in
    let more : length (before ++ x ∷ []) ≡ length before + 1 = length-append before (x ∷ []) in
    let e : (k : ℕ) → length (before ++ x ∷ []) + k ≡ length before + suc k = λ k. omega (arith, more) in
    ap (bits_at (values_from s i (before ++ x ∷ []) ns)) (sym (e j)) ∙
    each_value net s i (before ++ x ∷ []) ns (λ k h. subst (λ (m : ℕ). IsRight net m (node_at ns k).node) (sym (e k)) (right (suc k) (omega arith))) j (omega arith)

pub cycle-obeys : (net : Net) (state inputs : List Bits) → IsNet net → FitsState net state → AreWords state → FitsInputs net inputs → AreWords inputs →
    Obeys net (record { state = state; inputs = inputs; values = values_of net state inputs })
cycle-obeys net s i n f fw g gw =
    let fit = values_fit net s i f fw g gw n in
    record {
      values = λ k lt.
          let e : 0 + k ≡ k = omega arith in
          ap (bits_at (values_of net s i)) (sym e) ∙ each_value net s i [] net.nodes (λ j h. subst (λ (m : ℕ). IsRight net m (node_at net.nodes j).node) (let z : j ≡ 0 + j = omega arith in z)
          (n.nodes j h).right) k lt;
      widths = λ k lt. fit.0.widths k lt;
      fits = λ k lt. subst (λ (m : ℕ). (bits_at (values_of net s i) k).value < 2 ^ m) (fit.0.widths k lt) (fit.1 k (omega (arith, fit.0.count)));
    }
