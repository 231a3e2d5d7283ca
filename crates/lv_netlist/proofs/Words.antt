-- The values of a graph's nodes are words of their widths, and so is the next state.
use Rattle.std.proofs.Common.{◌≡◌, ◌≢◌, ℕ, zero, suc, ◌+◌, ◌^◌, ◌<◌, ◌≤◌, inl, inr, Bool, true, false, cond, nat_eq, List, [], ◌∷◌, ◌++◌, length, take, refl, sym, ◌∙◌, ap, subst, arith, length-append, Option, Some, None}
use Rattle.std.proofs.Math.ListN.{get_or-append}
use Rattle.std.proofs.Math.Seq.{take-suc, take-length, get_or-append_seam}
use Rattle.std.proofs.lemmas.Bool.{cases_lt}
use Rattle.std.proofs.lemmas.List.{get_or-map, length-map}
use Rattle.std.proofs.lemmas.Nat.{mod_below, pow_pos}
use Rattle.lv_bits.specs.Words.{Bits}
use Rattle.lv_bits.specs.Values.{result_width}
use Rattle.lv_bits.proofs.Fits.{unary_lt, binary_lt, extended_lt}
use Rattle.lv_bits.proofs.Shifts.{join_lt}
use Rattle.lv_netlist.specs.declared.node.Node.{Node}
use Rattle.lv_netlist.specs.declared.node.Node.TheVariants.{Input, Reg, Const, Un, Bin, Mux, Slice, Cat, Ext}
use Rattle.lv_netlist.specs.declared.node.Typed.{Typed}
use Rattle.lv_netlist.specs.declared.node.Register.{Register}
use Rattle.lv_netlist.specs.Net.{Net, node_at, width_at, register_at, register_next, register_width, node_width, IsRight, HoldsWord, IsNode, IsNet, HasNexts}
use Rattle.lv_netlist.specs.Run.{no_bits, bits_at, node_bits, values_from, values_of, next_bits, next_state}
use Rattle.lv_netlist.specs.Fits.{FitsInputs, FitsState, FitsNodes, AreWords}

-- one node more
pub values_from-snoc : (state inputs before : List Bits) (ns : List Typed) (t : Typed) → values_from state inputs before (ns ++ t ∷ []) ≡ values_from state inputs before ns ++ node_bits state inputs (values_from state inputs before ns) t.node ∷ []
values_from-snoc state inputs before [] t = refl
values_from-snoc state inputs before (n ∷ ns) t = values_from-snoc state inputs (before ++ node_bits state inputs before n.node ∷ []) ns t

-- a word of this width
abbrev IsOf : ℕ → Bits → Type 0
IsOf w b = (b.width ≡ w) × (b.value < 2 ^ b.width)

module _ (net : Net) (state inputs : List Bits) (s : FitsState net state) (sw : AreWords state) (i : FitsInputs net inputs) (iw : AreWords inputs) where
  module _ (k : ℕ) (before : List Bits) (b : FitsNodes net k before) (bw : AreWords before) where
    below : (j : ℕ) → j < k → IsOf (width_at net.nodes j) (bits_at before j)
    below j lt = (b.widths j lt, bw j (omega (arith, b.count)))

    chosen_is : (c : Bool) (x y : Bits) (w : ℕ) → IsOf w x → IsOf w y → IsOf w (cond c x y)
    chosen_is true x y w p q = p
    chosen_is false x y w p q = q

    as_wide : (w v a : ℕ) → w ≡ v → a < 2 ^ w → a < 2 ^ v
    as_wide w v a e h = subst (λ (z : ℕ). a < 2 ^ z) e h

    pub node_is : (n : Node) → IsRight net k n → HoldsWord n → IsOf (node_width net n) (node_bits state inputs before n)
    node_is (Input j) r h = (i.widths j r, iw j (omega (arith, i.count)))
    node_is (Reg j) r h = (s.widths j r, sw j (omega (arith, s.count)))
    node_is (Const w) r h = (refl, h)
    node_is (Un op a) r h = let p = below a r.1 in (ap (result_width op) p.0, unary_lt op _ _ p.1)
    node_is (Bin op a c signed) r h =
        let p = below a r.1 in
        let q = below c r.2 in
        (ap (result_width op) p.0, binary_lt op signed _ _ _ p.1 (λ apart. as_wide _ _ _ (q.0 ∙ (sym (r.3 apart) ∙ sym p.0)) q.1))
    node_is (Mux c x y) r h =
        let p = below x r.1 in
        let q = below y r.2 in
        chosen_is (nat_eq (bits_at before c).value 0) (bits_at before y) (bits_at before x) (width_at net.nodes x) (q.0 ∙ sym r.3, q.1) p
    node_is (Slice a low width) r h = (refl, mod_below _ (2 ^ width) (pow_pos width))
    node_is (Cat a c) r h =
        let p = below a r.0 in
        let q = below c r.1 in
        let w : (bits_at before a).width + (bits_at before c).width ≡ width_at net.nodes a + width_at net.nodes c = omega (arith, p.0, q.0) in
        (w, join_lt _ _ _ _ p.1 q.1)
    node_is (Ext a width signed) r h =
        let p = below a r.0 in
        (refl, extended_lt signed _ width _ (omega (arith, p.0, r.1)) p.1)

  -- one word more at the end
  snoc : (k : ℕ) (values : List Bits) (x : Bits) → FitsNodes net k values → AreWords values → IsOf (width_at net.nodes k) x → FitsNodes net (k + 1) (values ++ x ∷ []) × AreWords (values ++ x ∷ [])
  snoc k values x f w is = (
    record {
      count = omega (arith, f.count, length-append values (x ∷ []));
      widths = λ j h. elim (cases_lt j k) [
        | inl lt ↦ ap (λ (b : Bits). b.width) (get_or-append values (x ∷ []) _ j (omega (arith, f.count))) ∙ f.widths j lt
        | inr ge ↦
            let e : length values ≡ j = omega (arith, f.count) in
            let e' : k ≡ j = omega (arith, f.count) in
            let last : (bits_at (values ++ x ∷ []) (length values)).width ≡ width_at net.nodes k = ap (λ (b : Bits). b.width) (get_or-append_seam values x [] _) ∙ is.0 in
            subst (λ (i : ℕ). (bits_at (values ++ x ∷ []) i).width ≡ width_at net.nodes j) e (last ∙ ap (width_at net.nodes) e')
      ];
    },
    λ j h. elim (cases_lt j (length values)) [
      | inl lt ↦ subst (λ (b : Bits). b.value < 2 ^ b.width) (sym (get_or-append values (x ∷ []) _ j lt)) (w j lt)
      | inr ge ↦
          let e : length values ≡ j = omega (arith, length-append values (x ∷ [])) in
          subst (λ (i : ℕ). (bits_at (values ++ x ∷ []) i).value < 2 ^ (bits_at (values ++ x ∷ []) i).width) e
          (subst (λ (b : Bits). b.value < 2 ^ b.width) (sym (get_or-append_seam values x [] _)) is.1)
    ],
  )

  module _ (n : IsNet net) where
    first : (k : ℕ) → k ≤ length net.nodes → FitsNodes net k (values_from state inputs [] (take k net.nodes)) × AreWords (values_from state inputs [] (take k net.nodes))
    first zero h = (record { count = refl; widths = λ j lt. absurd (omega arith) }, λ j lt. absurd (omega arith))
    first (suc k) h =
        let rest = first k (omega arith) in
        let t : Typed = node_at net.nodes k in
        let before : List Bits = values_from state inputs [] (take k net.nodes) in
        let node : IsNode net k t = n.nodes k (omega arith) in
        let is = node_is k before rest.0 rest.1 t.node node.right node.word in
        let more = snoc k before (node_bits state inputs before t.node) rest.0 rest.1 (is.0 ∙ sym node.same, is.1) in
        let e : take (suc k) net.nodes ≡ take k net.nodes ++ t ∷ [] = take-suc net.nodes k _ (omega arith) in
        let e' : k + 1 ≡ suc k = omega arith in
        let all : values_from state inputs [] (take (suc k) net.nodes) ≡ before ++ node_bits state inputs before t.node ∷ [] =
        ap (values_from state inputs []) e ∙ values_from-snoc state inputs [] (take k net.nodes) t in (
          subst (λ (l : List Bits). FitsNodes net (suc k) l) (sym all) (subst (λ (m : ℕ). FitsNodes net m (before ++ node_bits state inputs before t.node ∷ [])) e' more.0),
          subst AreWords (sym all) more.1,
        )

    -- each node has a word of its width
    pub values_fit : FitsNodes net (length net.nodes) (values_of net state inputs) × AreWords (values_of net state inputs)
    values_fit = subst (λ (l : List Typed). FitsNodes net (length net.nodes) (values_from state inputs [] l) × AreWords (values_from state inputs [] l)) (take-length net.nodes) (first (length net.nodes) (omega arith))

    next_is : (values : List Bits) (r : List ℕ × Register) (o : Option ℕ) (P : Bits → Type 0) → r.1.next ≡ o → o ≢ None → ((m : ℕ) → o ≡ Some m → P (bits_at values m)) → P (next_bits values r)
    next_is values r None P e some h = absurd (some refl)
    next_is values r (Some m) P e some h =
        subst (λ (o : Option ℕ). P (elim o [ Some m ↦ bits_at values m | None ↦ no_bits ])) (sym e) (h m refl)

    -- and so has each register in the next state
    pub next_fits : HasNexts net → FitsState net (next_state net (values_of net state inputs)) × AreWords (next_state net (values_of net state inputs))
    next_fits nexts =
        let values : List Bits = values_of net state inputs in
        let count : length (next_state net values) ≡ length net.registers = length-map net.registers (next_bits values) in
        let is = λ (j : ℕ) (lt : j < length net.registers). subst (IsOf (register_width net j)) (sym (get_or-map (next_bits values) net.registers j _ _ lt)) (
        next_is values (register_at net.registers j) (register_next net j) (IsOf (register_width net j)) refl (nexts j lt) (λ m e.
        let next = (n.registers j lt).next m e in
        (values_fit.0.widths m next.0 ∙ next.1, values_fit.1 m (omega (arith, values_fit.0.count, next.0))))) in
        (record { count = count; widths = λ j lt. (is j lt).0 }, λ j lt. (is j (omega (arith, count))).1)
