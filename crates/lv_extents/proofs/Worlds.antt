-- A graph without inputs and registers has values.
use Rattle.std.proofs.Common.{◌≡◌, ℕ, zero, suc, ◌+◌, ◌^◌, ◌<◌, ◌≤◌, List, [], ◌∷◌, ◌++◌, length, take, refl, sym, ◌∙◌, ap, subst, arith, length-append}
use Rattle.std.specs.Prelude.{if◌then◌else◌, ◌==◌}
use Rattle.std.proofs.Math.ListN.{get_or-append}
use Rattle.std.proofs.Math.Seq.{get_or-append_seam}
use Rattle.lv_bits.specs.Words.{Bits}
use Rattle.lv_bits.specs.Values.{unary_of, binary_of}
use Rattle.lv_const.proofs.WalkReads.{two-same}
use Rattle.lv_netlist.specs.declared.node.Node.{Node}
use Rattle.lv_netlist.specs.declared.node.Node.TheVariants.{Input, Reg, Const, Un, Bin, Mux, Slice, Cat, Ext}
use Rattle.lv_netlist.specs.declared.node.Typed.{Typed}
use Rattle.lv_netlist.specs.Net.{Net, node_at, IsRight, IsNet}
use Rattle.lv_netlist.specs.Run.{bits_at, node_bits, values_from, values_of}
use Rattle.lv_netlist.specs.Fits.{FitsInputs, FitsState, FitsNodes, AreWords}
use Rattle.lv_netlist.proofs.Words.{values_fit}
use Rattle.lv_values.specs.Worlds.{World, Obeys}

abbrev from : List Bits → List Typed → List Bits
from before ns = values_from [] [] before ns

abbrev with_one : List Bits → Typed → List Bits
with_one before t = before ++ node_bits [] [] before t.node ∷ []

one-longer : (before : List Bits) (t : Typed) → length (with_one before t) ≡ suc (length before)
one-longer before t = omega (arith, length-append before (node_bits [] [] before t.node ∷ []))

keeps : (before : List Bits) (ns : List Typed) (j : ℕ) → j < length before → bits_at (from before ns) j ≡ bits_at before j
keeps before [] j lt = refl
keeps before (t ∷ ns) j lt =
    let l = one-longer before t in
    keeps (with_one before t) ns j (omega (arith, l)) ∙ get_or-append before (node_bits [] [] before t.node ∷ []) _ j lt

-- a node's value is made of those of the nodes before it
at : (before : List Bits) (ns : List Typed) (k : ℕ) → k < length ns → bits_at (from before ns) (length before + k) ≡ node_bits [] [] (from before (take k ns)) (node_at ns k).node
at before [] k lt = absurd (omega arith)
at before (t ∷ ns) zero lt =
    let l = one-longer before t in
    let e : length before + 0 ≡ length before = omega arith in
    ap (bits_at (from before (t ∷ ns))) e ∙ (keeps (with_one before t) ns (length before) (omega (arith, l)) ∙ get_or-append_seam before (node_bits [] [] before t.node) [] _)
at before (t ∷ ns) (suc k) lt =
    let l = one-longer before t in
    let e : length before + suc k ≡ length (with_one before t) + k = omega (arith, l) in
    ap (bits_at (from before (t ∷ ns))) e ∙ at (with_one before t) ns k (omega arith)

prefix : (before : List Bits) (ns : List Typed) (k j : ℕ) → j < length before + k → k ≤ length ns → bits_at (from before (take k ns)) j ≡ bits_at (from before ns) j
prefix before ns zero j lt le = sym (keeps before ns j (omega arith))
prefix before [] (suc k) j lt le = absurd (omega arith)
prefix before (t ∷ ns) (suc k) j lt le = let l = one-longer before t in prefix (with_one before t) ns k j (omega (arith, l)) (omega arith)

alike : (net : Net) (k : ℕ) (xs ys : List Bits) → ((j : ℕ) → j < k → bits_at xs j ≡ bits_at ys j) → (n : Node) → IsRight net k n → node_bits [] [] xs n ≡ node_bits [] [] ys n
alike net k xs ys h (Input i) r = refl
alike net k xs ys h (Reg i) r = refl
alike net k xs ys h (Const w) r = refl
alike net k xs ys h (Un op a) r = ap (unary_of op) (h a r.1)
alike net k xs ys h (Bin op a b signed) r = two-same (binary_of op signed) (h a r.1) (h b r.2)
alike net k xs ys h (Mux c a b) r =
    ap (λ (x : Bits). if x.value == 0 then bits_at xs b else bits_at xs a) (h c r.0) ∙
    two-same (λ (x y : Bits). if (bits_at ys c).value == 0 then y else x) (h a r.1) (h b r.2)
alike net k xs ys h (Slice a low width) r = ap (λ (x : Bits). node_bits [] [] (x ∷ []) (Slice 0 low width)) (h a r.0)
alike net k xs ys h (Cat a b) r = two-same (λ (x y : Bits). node_bits [] [] (x ∷ y ∷ []) (Cat 0 1)) (h a r.0) (h b r.1)
alike net k xs ys h (Ext a width signed) r = ap (λ (x : Bits). node_bits [] [] (x ∷ []) (Ext 0 width signed)) (h a r.0)

module _ (net : Net) (n : IsNet net) (noin : net.inputs ≡ []) (noreg : net.registers ≡ []) where
  abbrev values : List Bits
  values = values_of net [] []

  state : FitsState net []
  state = record { count = sym (ap length noreg); widths = λ i lt. absurd (omega (arith, ap length noreg)) }

  inputs : FitsInputs net []
  inputs = record { count = sym (ap length noin); widths = λ i lt. absurd (omega (arith, ap length noin)) }

  no_words : AreWords []
  no_words i lt = absurd (omega arith)

  fit : FitsNodes net (length net.nodes) values × AreWords values
  fit = values_fit net [] [] state no_words inputs no_words n

  abbrev pub world : World
  world = record { state = []; inputs = []; values = values }

  from-none : (k : ℕ) → k ≡ length {A = Bits} [] + k
  from-none k = omega arith

  pub obeys : Obeys net world
  obeys = record {
    values = λ k lt.
        ap (bits_at values) (from-none k) ∙ (at [] net.nodes k lt ∙ alike net k (from [] (take k net.nodes)) values (λ j h. prefix [] net.nodes k j (omega (arith, h)) (omega (arith, lt)))
        (node_at net.nodes k).node (n.nodes k lt).right);
    widths = λ k lt. fit.0.widths k lt;
    fits = λ k lt. subst (λ (w : ℕ). (bits_at values k).value < 2 ^ w) (fit.0.widths k lt) (fit.1 k (omega (arith, fit.0.count)));
  }
