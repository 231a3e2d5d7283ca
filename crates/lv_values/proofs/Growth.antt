-- A graph that grows keeps what it says.
use Rattle.std.proofs.Common.{◌≡◌, ℕ, ◌+◌, ◌<◌, ◌≤◌, ◌^◌, ◌/◌, ◌%◌, [], ◌∷◌, length, refl, sym, ◌∙◌, ap, subst, arith, length-append}
use Rattle.std.proofs.Math.ListN.{get_or-append}
use Rattle.std.proofs.Math.Seq.{get_or-append_seam}
use Rattle.std.proofs.Math.Nat.{mod-eq_of_lt}
use Rattle.lv_bits.specs.Words.{Bits}
use Rattle.lv_netlist.specs.declared.node.Node as declared
use Rattle.lv_netlist.specs.declared.node.Typed.{Typed}
use Rattle.lv_netlist.specs.Net.{Net, node_at, with_node, node_width}
use Rattle.lv_netlist.specs.Run.{bits_at, node_bits}
use Rattle.lv_values.specs.declared.value.Value.{Value}
use Rattle.lv_values.specs.declared.value.Value.TheVariants.{Known, Node}
use Rattle.lv_values.specs.Worlds.{World, Obeys, Grows, Gives, IsIn, width_of, number, bits_of}

pub grows-refl : (net : Net) → Grows net net
grows-refl net = record { more = omega arith; same = λ k h. refl; inputs = refl; registers = refl }

pub grows-trans : (a b c : Net) → Grows a b → Grows b c → Grows a c
grows-trans a b c g h = record {
  more = omega (arith, g.more, h.more);
  same = λ k lt. h.same k (omega (arith, g.more)) ∙ g.same k lt;
  inputs = h.inputs ∙ g.inputs;
  registers = h.registers ∙ g.registers;
}

pub obeys-before : (old new : Net) (w : World) → Grows old new → Obeys new w → Obeys old w
obeys-before old new w g o = record {
  values = λ k lt. o.values k (omega (arith, g.more)) ∙ ap (λ (t : Typed). node_bits w.state w.inputs w.values t.node) (g.same k lt);
  widths = λ k lt. o.widths k (omega (arith, g.more)) ∙ ap (λ (t : Typed). t.width) (g.same k lt);
  fits = λ k lt. subst (λ (t : Typed). (bits_at w.values k).value < 2 ^ t.width) (g.same k lt) (o.fits k (omega (arith, g.more)));
}

pub in-later : (old new : Net) (r : Value) → Grows old new → IsIn old r → IsIn new r
in-later old new (Known x) g h = h
in-later old new (Node k width) g h = (omega (arith, g.more, h.0), ap (λ (t : Typed). t.width) (g.same k h.0) ∙ h.1)

pub gives-later : (old mid new : Net) (r : Value) (W : ℕ) (f : World → ℕ) → Gives old mid r W f → Grows mid new → Gives old new r W f
gives-later old mid new r W f h g = record {
  grows = grows-trans old mid new h.grows g;
  in_new = in-later mid new r g h.in_new;
  width = h.width;
  is = λ w o. h.is w (obeys-before mid new w g o);
}

pub gives-same : (net : Net) (r : Value) → IsIn net r → Gives net net r (width_of r) (λ w. number w r)
gives-same net r h = record { grows = grows-refl net; in_new = h; width = refl; is = λ w o. refl }

-- the value is less than its width allows
pub number-lt : (net : Net) (r : Value) (w : World) → IsIn net r → Obeys net w → number w r < 2 ^ width_of r
number-lt net (Known x) w h o = h
number-lt net (Node k width) w h o = subst (λ (n : ℕ). (bits_at w.values k).value < 2 ^ n) h.1 (o.fits k h.0)

pub number-width : (net : Net) (r : Value) (w : World) → IsIn net r → Obeys net w → (bits_of w r).width ≡ width_of r
number-width net (Known x) w h o = refl
number-width net (Node k width) w h o = o.widths k h.0 ∙ h.1

-- ---- one node more

pub grows-node : (net : Net) (t : Typed) → Grows net (with_node net t)
grows-node net t = record {
  more = omega (arith, length-append net.nodes (t ∷ []));
  same = λ k h. get_or-append net.nodes (t ∷ []) _ k h;
  inputs = refl;
  registers = refl;
}

pub new_at : (net : Net) (t : Typed) → node_at (with_node net t).nodes (length net.nodes) ≡ t
new_at net t = get_or-append_seam net.nodes t [] _

pub gives-node : (old new : Net) (n : declared.Node) (k W : ℕ) → new ≡ with_node old (record { node = n; width = node_width old n }) → k ≡ length old.nodes → W ≡ node_width old n →
    Gives old new (Node k W) W (λ w. (node_bits w.state w.inputs w.values n).value)
gives-node old new n k W e i h =
    let t : Typed = record { node = n; width = node_width old n } in
    let made : Gives old (with_node old t) (Node (length old.nodes) (node_width old n)) (node_width old n) (λ w. (node_bits w.state w.inputs w.values n).value) = record {
      grows = grows-node old t;
      in_new = (omega (arith, length-append old.nodes (t ∷ [])), ap (λ (x : Typed). x.width) (new_at old t));
      width = refl;
      is = λ w o. ap (λ (x : Bits). x.value) (o.values (length old.nodes) (omega (arith, length-append old.nodes (t ∷ []))) ∙ ap (λ (x : Typed). node_bits w.state w.inputs w.values x.node) (new_at old t));
    } in
    subst (λ (z : Net). Gives old z (Node k W) W (λ w. (node_bits w.state w.inputs w.values n).value)) (sym e)
    (subst (λ (z : ℕ). Gives old (with_node old t) (Node z W) W (λ w. (node_bits w.state w.inputs w.values n).value)) (sym i)
    (subst (λ (z : ℕ). Gives old (with_node old t) (Node (length old.nodes) z) z (λ w. (node_bits w.state w.inputs w.values n).value)) (sym h) made))

whole : (x low width : ℕ) → low ≡ 0 → x < 2 ^ width → x / 2 ^ low % 2 ^ width ≡ x
whole x low width e h =
    let one_is : 2 ^ low ≡ 1 = ap (λ n. 2 ^ n) e in
    let same : x / 2 ^ low ≡ x = rw one_is (omega arith) in
    rw same (mod-eq_of_lt h)

pub gives-whole : (net : Net) (r : Value) (low width : ℕ) → IsIn net r → width ≡ width_of r → low + width ≤ width_of r → Gives net net r width (λ w. number w r / 2 ^ low % 2 ^ width)
gives-whole net r low width h e i = record {
  grows = grows-refl net;
  in_new = h;
  width = sym e;
  is = λ w o. sym (whole (number w r) low width (omega arith) (subst (λ (n : ℕ). number w r < 2 ^ n) (sym e) (number-lt net r w h o)));
}

-- the same value, as long as the graph is obeyed
pub gives-is : {old new : Net} {r : Value} {W V : ℕ} {f h : World → ℕ} → Gives old new r W f → W ≡ V → ((w : World) → Obeys new w → f w ≡ h w) → Gives old new r V h
gives-is g e i = record { grows = g.grows; in_new = g.in_new; width = g.width ∙ e; is = λ w o. g.is w o ∙ i w o }

-- one call after another
pub gives-then : {old mid new : Net} {x r : Value} {W V : ℕ} {f : World → ℕ} {h : World → ℕ} → Gives old mid x W f → Gives mid new r V h → Gives old new r V h
gives-then {old} {mid} {new} g k = record { grows = grows-trans old mid new g.grows k.grows; in_new = k.in_new; width = k.width; is = k.is }
