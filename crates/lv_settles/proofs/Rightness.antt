-- What the rules say of each part.
use Rattle.std.proofs.Common.{◌≡◌, ◌⊎◌, inl, inr, ℕ, ◌+◌, true, false, ◌&&◌, not, List, [], ◌∷◌, refl, sym, ap, ◌∙◌, arith, Some}
use Rattle.std.specs.Prelude.{filter, slice_get}
use Rattle.std.specs.List.{list_any}
use Rattle.lv_source.specs.Names.{Declared, is_variable_sort, is_input_sort, Sort, Input, Net, Variable, Clock, Constant, Index, Other}
use Rattle.lv_source.specs.Places.{Bit, has_bit, whole}
use Rattle.lv_source.specs.PartRules as r
use Rattle.lv_source.specs.ScopeRules.{same_sign}
use Rattle.lv_source.specs.Parts.{At}
use Rattle.lv_source.specs.Views.{View, Way, Continuous, Combinational, Edge, is_edge, is_combinational, is_continuous, aimed_at, at_views, view_driven, view_read, is_wrong_view, is_two_view, is_two_view_but, is_mixed_view, is_register_view, is_wired_view, is_undriven_view}
use Rattle.lv_source.proofs.Tests.{decide, and-left, and-right, and-both, or-none_left, or-none_right, not-true}
use Rattle.lv_source.proofs.Facts.{numbered_at, at_any, any_at}
use Rattle.lv_source.proofs.Settles.{none_has}
use Rattle.lv_source.proofs.Unique.{clash, bit_with, some_bit_with}
use Rattle.lv_settles.specs.Rules.{AreRight}
use Rattle.lv_settles.proofs.Carried.{OneDriver}
use Rattle.lv_settles.proofs.Lists.{told_none, other_any, any_filtered, filtered_any}

way_of_edge : (w : Way) → is_edge w ≡ true → not (is_continuous w) ≡ true
way_of_edge Continuous h = cc
way_of_edge Combinational h = cc
way_of_edge (Edge s p) h = refl

comb_no_edge : (w : Way) → is_combinational w ≡ true → is_edge w ≡ false
comb_no_edge Continuous h = cc
comb_no_edge Combinational h = refl
comb_no_edge (Edge s p) h = cc

other_continuous : (w : Way) → is_edge w ≡ false → is_combinational w ≡ false → not (is_continuous w) ≡ false
other_continuous Continuous h k = refl
other_continuous Combinational h k = cc
other_continuous (Edge s p) h k = cc

variable_no_input : (s : Sort) → is_variable_sort s ≡ true → is_input_sort s ≡ false
variable_no_input Input h = cc
variable_no_input Net h = refl
variable_no_input Variable h = refl
variable_no_input Clock h = refl
variable_no_input (Constant x) h = refl
variable_no_input (Index g) h = refl
variable_no_input Other h = refl

module _ (ds : List Declared) (vs : List View) (right : AreRight ds vs) where
  none_at : (f : ℕ → View → List At) → at_views vs f ≡ [] → (k : ℕ) (p : View) → slice_get vs k ≡ Some p → f k p ≡ []
  none_at f h k p e =
      let z : 0 + k ≡ k = omega arith in
      ap (λ i. f i p) (sym z) ∙ numbered_at (λ kv. f kv.0 kv.1) vs 0 h k p e

  module _ (k : ℕ) (p : View) (e : slice_get vs k ≡ Some p) where
    pub no_wrong : is_wrong_view ds p ≡ false
    no_wrong = told_none (is_wrong_view ds p) p.at _ (none_at (λ k v. r.told_if (is_wrong_view ds v) (aimed_at v)) right.wrong k p e)

    pub no_two : is_two_view ds vs k p ≡ false
    no_two = told_none (is_two_view ds vs k p) p.at _ (none_at (λ k v. r.told_if (is_two_view ds vs k v) (aimed_at v)) right.two k p e)

    pub no_undriven : is_undriven_view ds vs p ≡ false
    no_undriven = told_none (is_undriven_view ds vs p) p.at [] (none_at (λ k v. r.told_if (is_undriven_view ds vs v) (v.at ∷ [])) right.undriven k p e)

    no_mixed : list_any (is_mixed_view vs p) ds ≡ false
    no_mixed = or-none_right (is_two_view_but ds vs k p) (list_any (is_mixed_view vs p) ds) no_two

    no_shared : list_any (view_driven (r.others k vs)) p.drives ≡ false
    no_shared = or-none_left _ _ (or-none_left _ _ (or-none_left _ _ no_two))

    no_input : list_any (λ x. is_input_sort x.sort && r.touches p.drives x) ds ≡ false
    no_input = or-none_right _ _ (or-none_left _ (list_any (is_mixed_view vs p) ds) no_two)

  pub one_driver : OneDriver vs
  one_driver = record {
    one = λ k l p q e g apart b own. elim (decide (has_bit q.drives b)) [
      | inr n ↦ n
      | inl taken ↦ clash (list_any (view_driven (r.others k vs)) p.drives)
          (bit_with (view_driven (r.others k vs)) p.drives b own (other_any (λ w. has_bit w.drives b) vs k l q g (λ same. apart (sym same)) taken)) (no_shared k p e)
    ];
  }

  -- a signal that is no input and no register isn't driven at a clock's edge
  pub not_clocked : (i : ℕ) (x : Declared) → slice_get ds i ≡ Some x → is_wired_view vs x ≡ true → (b : Bit) → has_bit (whole x) b ≡ true →
      (k : ℕ) (p : View) → slice_get vs k ≡ Some p → has_bit p.drives b ≡ true → is_edge p.way ≡ true → ⊥
  not_clocked i x ex wired b inside k p ep own edge =
      let no_in : is_input_sort x.sort ≡ false = not-true (is_input_sort x.sort) (and-left (not (is_input_sort x.sort)) (not (is_register_view vs x)) wired) in
      let no_register : is_register_view vs x ≡ false = not-true (is_register_view vs x) (and-right (not (is_input_sort x.sort)) (not (is_register_view vs x)) wired) in
      let touched : r.touches p.drives x ≡ true = bit_with (has_bit (whole x)) p.drives b own inside in
      elim (decide (is_variable_sort x.sort)) [
        | inl variable ↦ (
            let combs : list_any (view_driven (filter (λ v. is_combinational v.way) vs)) (whole x) ≡ true =
            elim (decide (list_any (view_driven (filter (λ v. is_combinational v.way) vs)) (whole x))) [
              | inl y ↦ y
              | inr n ↦ clash (is_register_view vs x) (and-both (is_variable_sort x.sort) _ variable (ap not n)) no_register
            ] in
            let c : (b : Bit) × (has_bit (whole x) b ≡ true) × (view_driven (filter (λ v. is_combinational v.way) vs) b ≡ true) =
            some_bit_with (view_driven (filter (λ v. is_combinational v.way) vs)) (whole x) combs in
            let q : (j : ℕ) × (q : View) × (slice_get vs j ≡ Some q) × ((is_combinational q.way && has_bit q.drives c.0) ≡ true) =
            any_at (λ q. is_combinational q.way && has_bit q.drives c.0) vs (filtered_any (λ v. is_combinational v.way) (λ q. has_bit q.drives c.0) vs c.2) in
            let comb : is_combinational q.1.way ≡ true = and-left (is_combinational q.1.way) (has_bit q.1.drives c.0) q.3 in
            let touches : r.touches q.1.drives x ≡ true =
            bit_with (has_bit (whole x)) q.1.drives c.0 (and-right (is_combinational q.1.way) (has_bit q.1.drives c.0) q.3) c.1 in
            let unlike : not (same_sign (is_edge p.way) (is_edge q.1.way)) ≡ true =
            ap (λ z. not (same_sign z (is_edge q.1.way))) edge ∙ ap (λ z. not (same_sign true z)) (comb_no_edge q.1.way comb) in
            let other : list_any (λ w. r.touches w.drives x && not (same_sign (is_edge p.way) (is_edge w.way))) vs ≡ true =
            at_any (λ w. r.touches w.drives x && not (same_sign (is_edge p.way) (is_edge w.way))) vs q.0 q.1 q.2 (and-both _ _ touches unlike) in
            let mixed : is_mixed_view vs p x ≡ true = and-both _ _ (and-both (is_variable_sort x.sort) (r.touches p.drives x) variable touched) other in
            clash (list_any (is_mixed_view vs p) ds) (at_any (is_mixed_view vs p) ds i x ex mixed) (no_mixed k p ep))
        | inr net ↦ (
            let unlike : not (same_sign (not (is_continuous p.way)) (is_variable_sort x.sort)) ≡ true =
            ap (λ z. not (same_sign z (is_variable_sort x.sort))) (way_of_edge p.way edge) ∙ ap (λ z. not (same_sign true z)) net in
            let wrong : list_any (λ x. r.touches p.drives x && not (same_sign (not (is_continuous p.way)) (is_variable_sort x.sort)) && not (is_input_sort x.sort)) ds ≡ true =
            at_any (λ x. r.touches p.drives x && not (same_sign (not (is_continuous p.way)) (is_variable_sort x.sort)) && not (is_input_sort x.sort)) ds i x ex
            (and-both _ _ (and-both _ _ touched unlike) (ap not no_in)) in
            clash _ wrong (or-none_right _ _ (no_wrong k p ep)))
      ]

  -- nothing without a clock drives a register or an input
  pub not_driven : (i : ℕ) (x : Declared) (b : Bit) → slice_get ds i ≡ Some x → has_bit (whole x) b ≡ true → (is_register_view vs x ≡ true) ⊎ (is_input_sort x.sort ≡ true) →
      (k : ℕ) (p : View) → slice_get vs k ≡ Some p → is_edge p.way ≡ false → has_bit p.drives b ≡ false
  not_driven i x b ex inside w k p ep edge = elim (decide (has_bit p.drives b)) [
    | inr n ↦ n
    | inl own ↦ (
        let touched : r.touches p.drives x ≡ true = bit_with (has_bit (whole x)) p.drives b own inside in
        elim w [
          | inr input ↦ clash (list_any (λ x. is_input_sort x.sort && r.touches p.drives x) ds)
              (at_any (λ x. is_input_sort x.sort && r.touches p.drives x) ds i x ex (and-both (is_input_sort x.sort) (r.touches p.drives x) input touched)) (no_input k p ep)
          | inl register ↦ (
              let variable : is_variable_sort x.sort ≡ true = and-left (is_variable_sort x.sort) _ register in
              let no_comb : list_any (view_driven (filter (λ v. is_combinational v.way) vs)) (whole x) ≡ false =
              not-true (list_any (view_driven (filter (λ v. is_combinational v.way) vs)) (whole x)) (and-right (is_variable_sort x.sort) _ register) in
              elim (decide (is_combinational p.way)) [
                | inl comb ↦ clash (view_driven (filter (λ v. is_combinational v.way) vs) b)
                    (any_filtered (λ v. is_combinational v.way) (λ w. has_bit w.drives b) vs k p ep comb own)
                    (none_has (view_driven (filter (λ v. is_combinational v.way) vs)) (whole x) b no_comb inside)
                | inr plain ↦ (
                    let unlike : not (same_sign (not (is_continuous p.way)) (is_variable_sort x.sort)) ≡ true =
                    ap (λ z. not (same_sign z (is_variable_sort x.sort))) (other_continuous p.way edge plain) ∙ ap (λ z. not (same_sign false z)) variable in
                    let no_in : is_input_sort x.sort ≡ false = variable_no_input x.sort variable in
                    let wrong : list_any (λ x. r.touches p.drives x && not (same_sign (not (is_continuous p.way)) (is_variable_sort x.sort)) && not (is_input_sort x.sort)) ds ≡ true =
                    at_any (λ x. r.touches p.drives x && not (same_sign (not (is_continuous p.way)) (is_variable_sort x.sort)) && not (is_input_sort x.sort)) ds i x ex
                    (and-both _ _ (and-both _ _ touched unlike) (ap not no_in)) in
                    clash _ wrong (or-none_right _ _ (no_wrong k p ep)))
              ])
        ])
  ]

  -- a bit of a signal that is no input and no register, which no part without a clock drives, is driven by none and read by none
  pub idle : (i : ℕ) (x : Declared) (b : Bit) → slice_get ds i ≡ Some x → has_bit (whole x) b ≡ true → is_wired_view vs x ≡ true →
      ((k : ℕ) (p : View) → slice_get vs k ≡ Some p → is_edge p.way ≡ false → has_bit p.drives b ≡ false) → (not (view_driven vs b) && not (view_read vs b)) ≡ true
  idle i x b ex inside wired free =
      let undriven : view_driven vs b ≡ false = elim (decide (view_driven vs b)) [
        | inr n ↦ n
        | inl some ↦ (
            let p : (k : ℕ) × (p : View) × (slice_get vs k ≡ Some p) × (has_bit p.drives b ≡ true) = any_at (λ p. has_bit p.drives b) vs some in
            elim (decide (is_edge p.1.way)) [
              | inl edge ↦ absurd (not_clocked i x ex wired b inside p.0 p.1 p.2 p.3 edge)
              | inr plain ↦ clash (has_bit p.1.drives b) p.3 (free p.0 p.1 p.2 plain)
            ])
      ] in
      let unread : view_read vs b ≡ false = elim (decide (view_read vs b)) [
        | inr n ↦ n
        | inl some ↦ (
            let p : (k : ℕ) × (p : View) × (slice_get vs k ≡ Some p) × (has_bit p.reads b ≡ true) = any_at (λ p. has_bit p.reads b) vs some in
            let bad : list_any (λ b. has_bit (whole x) b && not (view_driven vs b)) p.1.reads ≡ true =
            bit_with (λ b. has_bit (whole x) b && not (view_driven vs b)) p.1.reads b p.3 (and-both (has_bit (whole x) b) (not (view_driven vs b)) inside (ap not undriven)) in
            clash (is_undriven_view ds vs p.1)
            (at_any (λ x. is_wired_view vs x && list_any (λ b. has_bit (whole x) b && not (view_driven vs b)) p.1.reads) ds i x ex (and-both _ _ wired bad))
            (no_undriven p.0 p.1 p.2))
      ] in
      and-both (not (view_driven vs b)) (not (view_read vs b)) (ap not undriven) (ap not unread)
