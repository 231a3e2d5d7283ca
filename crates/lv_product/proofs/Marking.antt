-- A node whose operands read one part alone does so itself.
use Rattle.std.proofs.Common.{◌≡◌, ℕ, ◌+◌, ◌<◌, ◌≤◌, Bool, true, false, not, ◌&&◌, List, [], ◌∷◌, ◌++◌, length, refl, sym, ◌∙◌, ap, subst, arith, length-append, true≢false}
use Rattle.lv_bits.specs.Words.{Bits}
use Rattle.lv_netlist.specs.declared.node.Node.{Node}
use Rattle.lv_netlist.specs.declared.node.Node.TheVariants.{Input, Reg, Const, Un, Bin, Mux, Slice, Cat, Ext}
use Rattle.lv_netlist.specs.Net.{Net, node_at, IsNode, IsRight}
use Rattle.lv_netlist.specs.Run.{values_of, node_bits, bits_at}
use Rattle.lv_unroll.proofs.Copying.{at_end}
use Rattle.lv_product.specs.Tasks.{IsStateNode, IsInputNode}
use Rattle.lv_product.specs.Marks.{marked_at, is_pure, SamePart, IsPure, AreMarks}
use Rattle.lv_product.proofs.Trimmed.{earlier, value_before, value_of}

first_true : (x y : Bool) → (x && y) ≡ true → x ≡ true
first_true true y e = refl
first_true false y e = e

second_true : (x y : Bool) → (x && y) ≡ true → y ≡ true
second_true true y e = e
second_true false y e = cc

of_inputs : (state : Bool) (s i z j : List Bits) (k : ℕ) → not state ≡ true → SamePart state s i z j → bits_at i k ≡ bits_at j k
of_inputs true s i z j k t h = absurd (true≢false (sym t))
of_inputs false s i z j k t h = ap (λ (l : List Bits). bits_at l k) h

of_state : (state : Bool) (s i z j : List Bits) (k : ℕ) → state ≡ true → SamePart state s i z j → bits_at s k ≡ bits_at z k
of_state true s i z j k t h = ap (λ (l : List Bits). bits_at l k) h
of_state false s i z j k t h = absurd (true≢false (sym t))

module _ (state : Bool) (net : Net) (k : ℕ) (marks : List Bool) (h : AreMarks state net k marks) (le : k ≤ length net.nodes) (s i z j : List Bits)
    (same : SamePart state s i z j) where
  operand : (a : ℕ) → a < k → marked_at marks a ≡ true → bits_at (earlier net s i k) a ≡ bits_at (earlier net z j k) a
  operand a lt t = sym (value_before net s i a k lt le) ∙ (h.are a lt t s i z j same ∙ value_before net z j a k lt le)

  pure_bits : (n : Node) → IsRight net k n → is_pure state marks n ≡ true →
      node_bits s i (earlier net s i k) n ≡ node_bits z j (earlier net z j k) n
  pure_bits (Input x) r t = of_inputs state s i z j x t same
  pure_bits (Reg x) r t = of_state state s i z j x t same
  pure_bits (Const w) r t = refl
  pure_bits (Un op a) r t = rw (operand a r.1 t) refl
  pure_bits (Bin op a b signed) r t =
      rw (operand a r.1 (first_true (marked_at marks a) (marked_at marks b) t), operand b r.2 (second_true (marked_at marks a) (marked_at marks b) t)) refl
  pure_bits (Mux c a b) r t =
      let two : (marked_at marks c && marked_at marks a) ≡ true = first_true (marked_at marks c && marked_at marks a) (marked_at marks b) t in
      rw (
        operand c r.0 (first_true (marked_at marks c) (marked_at marks a) two),
        operand a r.1 (second_true (marked_at marks c) (marked_at marks a) two),
        operand b r.2 (second_true (marked_at marks c && marked_at marks a) (marked_at marks b) t),
      ) refl
  pure_bits (Slice a low width) r t = rw (operand a r.0 t) refl
  pure_bits (Cat a b) r t =
      rw (operand a r.0 (first_true (marked_at marks a) (marked_at marks b) t), operand b r.1 (second_true (marked_at marks a) (marked_at marks b) t)) refl
  pure_bits (Ext a width signed) r t = rw (operand a r.0 t) refl

pub marks_step : (state : Bool) (net : Net) (k : ℕ) (pure : Bool) (marks before marks' : List Bool) (n m : Node) → k < length net.nodes →
    IsNode net k (node_at net.nodes k) → n ≡ (node_at net.nodes k).node → before ≡ marks → m ≡ n → pure ≡ is_pure state before m →
    marks' ≡ marks ++ pure ∷ [] → AreMarks state net k marks → AreMarks state net (k + 1) marks'
marks_step state net k pure marks before marks' n m lt node en eb em ep e h =
    let le : k ≤ length net.nodes = omega arith in
    let is : (node_at net.nodes k).node ≡ n = sym en in
    let right : IsRight net k n = subst (IsRight net k) is node.right in
    let test : pure ≡ is_pure state marks n = ep ∙ (ap (λ (l : List Bool). is_pure state l m) eb ∙ ap (is_pure state marks) em) in
    let last : pure ≡ true → IsPure state net k = λ t s i z j same.
    value_of net s i k lt ∙ (ap (node_bits s i (earlier net s i k)) is ∙ (pure_bits state net k marks h le s i z j same n right (sym test ∙ t) ∙
    (ap (node_bits z j (earlier net z j k)) (sym is) ∙ sym (value_of net z j k lt)))) in
    let more : length (marks ++ pure ∷ []) ≡ k + 1 = omega (arith, length-append marks (pure ∷ []), h.count) in
    subst (AreMarks state net (k + 1)) (sym e) (record {
      count = more;
      are = λ a l. at_end marks pure false (λ (a : ℕ) (t : Bool). t ≡ true → IsPure state net a) (λ a l. h.are a (omega (arith, h.count)))
          (subst (λ (x : ℕ). pure ≡ true → IsPure state net x) (sym h.count) last) a (omega (arith, more));
    })

pub marks_none : (state : Bool) (net : Net) (marks : List Bool) → marks ≡ [] → AreMarks state net 0 marks
marks_none state net marks e = subst (AreMarks state net 0) (sym e) (record { count = refl; are = λ a lt. absurd (omega arith) })

pub state_marked : (net : Net) (n : ℕ) (marks : List Bool) → n ≡ length net.nodes → AreMarks true net n marks → (k : ℕ) → k < length net.nodes →
    marked_at marks k ≡ true → IsStateNode net k
state_marked net n marks e h k lt t = (lt, λ s i j hs hi hj. ap (λ (b : Bits). b.value) (h.are k (omega arith) t s i s j refl))

pub input_marked : (net : Net) (n : ℕ) (marks : List Bool) → n ≡ length net.nodes → AreMarks false net n marks → (k : ℕ) → k < length net.nodes →
    marked_at marks k ≡ true → IsInputNode net k
input_marked net n marks e h k lt t = (lt, λ s z i hs hz hi. ap (λ (b : Bits). b.value) (h.are k (omega arith) t s i z i refl))
