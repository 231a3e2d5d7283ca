-- The nodes in order, and the registers in order.
use Rattle.std.proofs.Common.{◌≡◌, ℕ, ◌+◌, ◌<◌, ◌≤◌, List, [], ◌∷◌, ◌++◌, length, take, map, set, get_or, refl, sym, ◌∙◌, ap, subst, arith, add-one, length-append, Some, None, inl, inr}
use Rattle.std.proofs.Math.Seq.{take-suc, take-suc-set, get_or-append_seam}
use Rattle.std.proofs.Math.ListN.{get_or-append}
use Rattle.std.proofs.lemmas.Bool.{cases_lt}
use Rattle.lv_bits.specs.Words.{Bits}
use Rattle.lv_netlist.specs.declared.node.Typed.{Typed}
use Rattle.lv_netlist.specs.Net.{Net, node_at, width_at, register_at}
use Rattle.lv_netlist.proofs.Words.{values_from-snoc}
use Rattle.lv_netlist.specs.Run.{values_from, node_bits, bits_at, next_bits}
use Rattle.lv_netlist.specs.Fits.{FitsNodes, FitsState}
use Rattle.std.proofs.lemmas.Bool.{cases_eq}
use Rattle.std.proofs.lemmas.List.{get_or-set_same, get_or-set_other, length-set, map-append}
use Rattle.lv_netlist.specs.declared.node.Register.{Register}

-- one node more
pub values_step : (state inputs : List Bits) (ns : List Typed) (k : ℕ) (values : List Bits) (w : Bits) → k < length ns → length values ≡ length ns → take k values ≡ values_from state inputs [] (take k ns) → w ≡ node_bits state inputs (take k values) (node_at ns k).node → take (k + 1) (set values k w) ≡ values_from state inputs [] (take (k + 1) ns)
values_step state inputs ns k values w h len e is =
    let lt : k < length values = omega arith in
    let p : take (k + 1) (set values k w) ≡ take k values ++ w ∷ [] = rw add-one (take-suc-set values k w lt) in
    let q : take (k + 1) ns ≡ take k ns ++ node_at ns k ∷ [] = rw add-one (take-suc ns k _ h) in
    let r : w ≡ node_bits state inputs (values_from state inputs [] (take k ns)) (node_at ns k).node = is ∙ ap (λ (v : List Bits). node_bits state inputs v (node_at ns k).node) e in
    p ∙ (ap (λ (v : List Bits). v ++ w ∷ []) e ∙ (ap (λ (x : Bits). values_from state inputs [] (take k ns) ++ x ∷ []) r ∙ (sym (values_from-snoc state inputs [] (take k ns) (node_at ns k)) ∙ ap (values_from state inputs []) (sym q))))

pub fits_step : (net : Net) (k : ℕ) (values : List Bits) (w : Bits) → FitsNodes net k values → w.width ≡ width_at net.nodes k → FitsNodes net (k + 1) (values ++ w ∷ [])
fits_step net k values w f is = record {
  count = omega (arith, f.count, length-append values (w ∷ []));
  widths = λ j h. elim (cases_lt j k) [
    | inl lt ↦ ap (λ (b : Bits). b.width) (get_or-append values (w ∷ []) _ j (omega (arith, f.count))) ∙ f.widths j lt
    | inr ge ↦
        let e : length values ≡ j = omega (arith, f.count) in
        let e' : k ≡ j = omega (arith, f.count) in
        let last : (bits_at (values ++ w ∷ []) (length values)).width ≡ width_at net.nodes k = ap (λ (b : Bits). b.width) (get_or-append_seam values w [] _) ∙ is in
        subst (λ (i : ℕ). (bits_at (values ++ w ∷ []) i).width ≡ width_at net.nodes j) e (last ∙ ap (width_at net.nodes) e')
  ];
}
