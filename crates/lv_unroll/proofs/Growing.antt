-- A builder that gains nodes.
use Rattle.std.proofs.Common.{◌≡◌, ℕ, ◌+◌, ◌==◌, Bool, true, false, not, List, [], ◌∷◌, ◌++◌, length, refl, sym, ◌∙◌, ap, subst, arith, length-append}
use Rattle.std.proofs.Math.ListN.{get_or-append}
use Rattle.std.proofs.Math.Seq.{get_or-append_seam}
use Rattle.lv_bits.specs.Words.{Bits}
use Rattle.lv_bits.specs.Values.{bit}
use Rattle.lv_netlist.specs.declared.node.Node.{Node}
use Rattle.lv_netlist.specs.declared.node.Typed.{Typed}
use Rattle.lv_netlist.specs.Net.{Net, node_width, with_node}
use Rattle.lv_netlist.specs.Run.{values_of, values_from, node_bits, bits_at}
use Rattle.lv_netlist.proofs.Words.{values_from-snoc}
use Rattle.lv_unroll.specs.Wires.{word_in, number_in, is_on, Extends, GivesWord, GivesTest}

pub extends_refl : (net : Net) → Extends net net
extends_refl net = record { more = omega arith; inputs = refl; registers = refl; widths = λ k h. refl; words = λ ws k h. refl }

pub extends_trans : (a b c : Net) → Extends a b → Extends b c → Extends a c
extends_trans a b c p q = record {
  more = omega (arith, p.more, q.more);
  inputs = q.inputs ∙ p.inputs;
  registers = q.registers ∙ p.registers;
  widths = λ k h. q.widths k (omega (arith, p.more)) ∙ p.widths k h;
  words = λ ws k h. q.words ws k (omega (arith, p.more)) ∙ p.words ws k h;
}

-- as many values as nodes
length_values : (state inputs before : List Bits) (ns : List Typed) → length (values_from state inputs before ns) ≡ length before + length ns
length_values state inputs before [] = omega arith
length_values state inputs before (n ∷ ns) =
    omega (
      arith,
      length_values state inputs (before ++ node_bits state inputs before n.node ∷ []) ns,
      length-append before
          (node_bits state inputs before n.node ∷ []),
    )

length_of : (net : Net) (ws : List Bits) → length (values_of net [] ws) ≡ length net.nodes
length_of net ws = omega (arith, length_values [] ws [] net.nodes)

-- what one node more gives
pub node_gives : (old new : Net) (at : ℕ) (node : Node) → new ≡ with_node old (record { node = node; width = node_width old node }) → at ≡ length old.nodes →
    GivesWord old new at (node_width old node) (λ ws. node_bits [] ws (values_of old [] ws) node)
unfolding word_in
node_gives old new at node e h =
    let t : Typed = record { node = node; width = node_width old node } in
    let grown : Net = with_node old t in
    let all : (ws : List Bits) → values_of grown [] ws ≡ values_of old [] ws ++ node_bits [] ws (values_of old [] ws) node ∷ [] =
    λ ws. values_from-snoc [] ws [] old.nodes t in
    let gives : GivesWord old grown (length old.nodes) (node_width old node) (λ ws. node_bits [] ws (values_of old [] ws) node) = record {
      extends = record {
        more = omega (arith, length-append old.nodes (t ∷ []));
        inputs = refl;
        registers = refl;
        widths = λ k lt. ap (λ (x : Typed). x.width) (get_or-append old.nodes (t ∷ []) _ k lt);
        words = λ ws k lt. ap (λ (vs : List Bits). bits_at vs k) (all ws) ∙
            get_or-append (values_of old [] ws) (node_bits [] ws (values_of old [] ws) node ∷ []) _ k (omega (arith, length_of old ws));
      };
      within = omega (arith, length-append old.nodes (t ∷ []));
      width = ap (λ (x : Typed). x.width) (get_or-append_seam old.nodes t [] _);
      is = λ ws.
          ap (λ (vs : List Bits). bits_at vs (length old.nodes)) (all ws) ∙
          (ap (bits_at (values_of old [] ws ++ node_bits [] ws (values_of old [] ws) node ∷ [])) (sym (length_of old ws)) ∙
          get_or-append_seam (values_of old [] ws) (node_bits [] ws (values_of old [] ws) node) [] _);
    } in
    subst (λ (n : Net). GivesWord old n at (node_width old node) (λ ws. node_bits [] ws (values_of old [] ws) node)) (sym e)
    (subst (λ (k : ℕ). GivesWord old grown k (node_width old node) (λ ws. node_bits [] ws (values_of old [] ws) node)) (sym h) gives)

on_bit : (b : Bool) → not (bit b == 0) ≡ b
on_bit true = refl
on_bit false = refl

-- a node whose number is that of a test
pub test_of :
    (old new : Net) (at w : ℕ) (word : List Bits → Bits) (test : List Bits → Bool) → w ≡ 1 → ((ws : List Bits) → (word ws).value ≡ bit (test ws)) →
    GivesWord old new at w word → GivesTest old new at test
unfolding is_on number_in
test_of old new at w word test one e g = record {
  extends = g.extends;
  within = g.within;
  width = g.width ∙ one;
  is = λ ws. ap (λ (b : Bits). b.value) (g.is ws) ∙ e ws;
  on = λ ws. ap (λ (n : ℕ). not (n == 0)) (ap (λ (b : Bits). b.value) (g.is ws) ∙ e ws) ∙ on_bit (test ws);
}
