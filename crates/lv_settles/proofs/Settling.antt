-- What the parts leave in an order is settled, and the one such valuation.
use Rattle.std.proofs.Common.{◌≡◌, ◌⊎◌, inl, inr, ℕ, suc, ◌/◌, ◌%◌, ◌^◌, ◌<◌, ◌≤◌, true, false, ◌&&◌, not, List, [], ◌∷◌, sym, ap, ◌∙◌, arith, subst, Some, None}
use Rattle.std.specs.Prelude.{flat_map, filter, slice_get, bytes_eq, All}
use Rattle.std.specs.List.{list_any}
use Rattle.std.proofs.lemmas.Bool.{cases_lt}
use Rattle.std.proofs.lemmas.Nat.Bits.{same_from_bits, bit_at_above, bit_at-zero}
use mathlib.Core.Path.{fun_ext}
use Rattle.lv_ast.specs.Names.{Name}
use Rattle.lv_source.specs.Names.{Declared, Valuation, width_of, is_input_sort}
use Rattle.lv_source.specs.Places.{Bit, bit_at, has_bit, whole, cells}
use Rattle.lv_source.specs.Parts.{width_from}
use Rattle.lv_source.specs.Views.{View, is_edge, view_driven, view_read, is_register_view, is_wired_view, IsViewSettled, idle_view_bits}
use Rattle.lv_source.proofs.Tests.{decide, and-left, and-right, and-both, not-true, or-left, or-right, name-itself}
use Rattle.lv_source.proofs.Each.{Each}
use Rattle.lv_source.proofs.Facts.{all_at, all_bits, all_names, cells_any, whole_any, at_any}
use Rattle.lv_source.proofs.Within.{cells_have}
use Rattle.lv_source.proofs.Unique.{clash}
use Rattle.lv_settles.specs.Lawful.{AreLawful}
use Rattle.lv_settles.specs.Orders.{IsOrder, carried}
use Rattle.lv_settles.specs.Rules.{AreRight, AreApart, IsStart, SameStart, register_names, input_names}
use Rattle.lv_settles.proofs.Ordered.{run, Plain, Ordered, run_keeps, run_settles, run_meets}
use Rattle.lv_settles.proofs.Carried.{picked, picked_at, each_picked, carried_run, order_stands, plain_parts, free_bit, taken_bit}
use Rattle.lv_settles.proofs.Lists.{below_power, cell_of, all_bits_by, all_by, whole_of, cells_named, signal_of}
use Rattle.lv_settles.proofs.Rightness.{one_driver, not_driven, idle}
use Rattle.lv_settles.proofs.Cells.{width_is}
use Rattle.lv_source.proofs.Refused.{In}
use Rattle.lv_source.proofs.Kids.{in_index}
use Rattle.std.proofs.lemmas.List.Elements.{All-nil, All-cons}

-- the index of a signal
pub index_of : {A : Type 0} (x : A) (xs : List A) → In x xs → (i : ℕ) × (slice_get xs i ≡ Some x)
index_of x [] h = absurd h
index_of x (y ∷ ys) (inl e) = (0, ap Some e)
index_of x (y ∷ ys) (inr h) = let r : (i : ℕ) × (slice_get ys i ≡ Some x) = index_of x ys h in (suc r.0, r.1)

pub all_of : (P : Name → Type 0) (ns : List Name) → ((n : Name) → list_any (bytes_eq n) ns ≡ true → P n) → All P ns
all_of P [] f = All-nil P
all_of P (n ∷ ns) f = All-cons P n ns (f n (or-left (bytes_eq n n) (list_any (bytes_eq n) ns) (name-itself n))) (all_of P ns (λ m h. f m (or-right (bytes_eq m n) (list_any (bytes_eq m) ns) h)))

module _ (ds : List Declared) (vs : List View) (order : List ℕ) (laws : AreLawful ds vs) (right : AreRight ds vs) (o : IsOrder vs order) where
  abbrev ws : List View
  ws = picked vs order

  plain : Each (Plain ds) ws
  plain = plain_parts vs ds laws order o

  ordered : Ordered ws
  ordered = order_stands vs order o (one_driver ds vs right)

  module _ (v : Valuation) where
    abbrev left : Valuation
    left = carried vs order v

    left_is : left ≡ run ws v
    left_is = carried_run vs order v

    -- a bit that no part without a clock drives is left
    left_keeps : (b : Bit) → ((k : ℕ) (p : View) → slice_get vs k ≡ Some p → is_edge p.way ≡ false → has_bit p.drives b ≡ false) → bit_at left b ≡ bit_at v b
    left_keeps b f = ap (λ (u : Valuation). bit_at u b) left_is ∙ run_keeps ds ws plain v b (free_bit vs ds laws order o b f)

    module _ (start : IsStart ds vs v) where
      high : (name : Name) (i : ℕ) → width_from ds name ≤ i → left name / 2 ^ i % 2 ≡ 0
      high name i h =
          let b : Bit = record { name = name; place = i } in
          left_keeps b (λ k p e w. elim (decide (has_bit p.drives b)) [
            | inr n ↦ n
            | inl own ↦ absurd (let t : i < width_from ds name = (laws.each k p e).within b own in omega arith)
          ]) ∙ bit_at_above (v name) (width_from ds name) i (start.fits name) h

      -- a register and an input keep what they begin with
      pub start_kept : (i : ℕ) (x : Declared) (name : Name) → slice_get ds i ≡ Some x → list_any (bytes_eq name) (cells x) ≡ true →
          (is_register_view vs x ≡ true) ⊎ (is_input_sort x.sort ≡ true) → width_from ds name ≡ width_of x → left name ≡ v name
      start_kept i x name e c g width = same_from_bits (left name) (v name) (λ j.
          (let b : Bit = record { name = name; place = j } in
          left_keeps b (λ k p ep w. elim (cases_lt j (width_of x)) [
            | inl below ↦ not_driven ds vs right i x b e (cells_have (width_of x) j (cells x) name c below) g k p ep w
            | inr above ↦ elim (decide (has_bit p.drives b)) [
              | inr n ↦ n
              | inl own ↦ absurd (let t : j < width_from ds name = (laws.each k p ep).within b own in omega arith)
            ]
          ])))

      pub left_fits : (name : Name) → left name < 2 ^ width_from ds name
      left_fits name = below_power (left name) (width_from ds name) (high name)

      left_holds : All (λ w. (name : Name) → w.after left name ≡ left name) (filter (λ w. not (is_edge w.way)) vs)
      left_holds = all_by (λ (w : View). (name : Name) → w.after left name ≡ left name) (λ (w : View). not (is_edge w.way)) vs (λ k p e c.
          (let at : (i : ℕ) × (slice_get order i ≡ Some k) = o.all k p e (not-true (is_edge p.way) c) in
          subst (λ (u : Valuation). (name : Name) → p.after u name ≡ u name) (sym left_is)
          (picked_at vs (λ w. (name : Name) → w.after (run ws v) name ≡ run ws v name) order (run_settles ds ws plain ordered v) at.0 k p at.1 e)))

      module _ (apart : AreApart ds) where
        -- a signal that is no input and no register begins with 0
        rest_zero : (i : ℕ) (x : Declared) (name : Name) → slice_get ds i ≡ Some x → is_wired_view vs x ≡ true → list_any (bytes_eq name) (cells x) ≡ true → v name ≡ 0
        rest_zero i x name e wired c = start.rest name
            (elim (decide (list_any (bytes_eq name) (register_names ds vs))) [
              | inr n ↦ n
              | inl m ↦ (
                  let y : (i : ℕ) × (y : Declared) × (slice_get ds i ≡ Some y) × (is_register_view vs y ≡ true) × (list_any (bytes_eq name) (cells y) ≡ true) = cell_of
                  (is_register_view vs) ds name m in
                  let same : y.1 ≡ x = apart.apart y.0 i y.1 x name y.2 e y.4 c in
                  clash (is_register_view vs x) (ap (is_register_view vs) (sym same) ∙
                  y.3) (not-true (is_register_view vs x) (and-right (not (is_input_sort x.sort)) (not (is_register_view vs x)) wired)))
            ])
            (elim (decide (list_any (bytes_eq name) (input_names ds))) [
              | inr n ↦ n
              | inl m ↦ (
                  let y : (i : ℕ) × (y : Declared) × (slice_get ds i ≡ Some y) × (is_input_sort y.sort ≡ true) × (list_any (bytes_eq name) (cells y) ≡ true) = cell_of
                  (λ y. is_input_sort y.sort) ds name m in
                  let same : y.1 ≡ x = apart.apart y.0 i y.1 x name y.2 e y.4 c in
                  clash (is_input_sort x.sort) (ap (λ (z : Declared). is_input_sort z.sort) (sym same) ∙ y.3)
                  (not-true (is_input_sort x.sort) (and-left (not (is_input_sort x.sort)) (not (is_register_view vs x)) wired)))
            ])

        left_idle : All (λ b. bit_at left b ≡ 0) (idle_view_bits ds vs)
        left_idle = all_bits_by (λ b. bit_at left b ≡ 0) (λ b. not (view_driven vs b) && not (view_read vs b)) (flat_map whole (filter (is_wired_view vs) ds)) (λ b h t.
            (let x : (i : ℕ) × (x : Declared) × (slice_get ds i ≡ Some x) × (is_wired_view vs x ≡ true) × (has_bit (whole x) b ≡ true) = whole_of (is_wired_view vs) ds b h in
            let undriven : view_driven vs b ≡ false = not-true (view_driven vs b) (and-left (not (view_driven vs b)) (not (view_read vs b)) t) in
            left_keeps b (λ k p e w. elim (decide (has_bit p.drives b)) [
              | inr n ↦ n
              | inl own ↦ clash (view_driven vs b) (at_any (λ q. has_bit q.drives b) vs k p e own) undriven
            ]) ∙ (ap (λ n. n / 2 ^ b.place % 2) (rest_zero x.0 x.1 b.name x.2 x.3 (cells_named (width_of x.1) (cells x.1) b x.4)) ∙ bit_at-zero b.place)))

        width_of_name : (i : ℕ) (x : Declared) (name : Name) → slice_get ds i ≡ Some x → list_any (bytes_eq name) (cells x) ≡ true → width_from ds name ≡ width_of x
        width_of_name i x name e c = width_is ds name x (in_index x ds i e) (λ y j h.
            (let k : (k : ℕ) × (slice_get ds k ≡ Some y) = index_of y ds j in apart.apart k.0 i y x name k.1 e h c)) c

        -- registers and inputs keep their values
        pub keeps_start : SameStart ds vs v left
        keeps_start = record {
          registers = all_of (λ name. v name ≡ left name) (register_names ds vs) (λ name h.
              (let x : (i : ℕ) × (x : Declared) × (slice_get ds i ≡ Some x) × (is_register_view vs x ≡ true) × (list_any (bytes_eq name) (cells x) ≡ true) = cell_of (is_register_view vs) ds name h in
              sym (start_kept x.0 x.1 name x.2 x.4 (inl x.3) (width_of_name x.0 x.1 name x.2 x.4))));
          inputs = all_of (λ name. v name ≡ left name) (input_names ds) (λ name h.
              (let x : (i : ℕ) × (x : Declared) × (slice_get ds i ≡ Some x) × (is_input_sort x.sort ≡ true) × (list_any (bytes_eq name) (cells x) ≡ true) = cell_of
              (λ x. is_input_sort x.sort) ds name h in
              sym (start_kept x.0 x.1 name x.2 x.4 (inr x.3) (width_of_name x.0 x.1 name x.2 x.4))));
        }

        pub settles : IsViewSettled ds vs left
        settles = record { fits = left_fits; holds = left_holds; idle = left_idle }

        -- ---- it is the one

        module _ (w : Valuation) (settled : IsViewSettled ds vs w) (same : SameStart ds vs v w) where
          past : (b : Bit) → width_from ds b.name ≤ b.place → bit_at v b ≡ bit_at w b
          past b h = bit_at_above (v b.name) (width_from ds b.name) b.place (start.fits b.name) h ∙ sym (bit_at_above (w b.name) (width_from ds b.name) b.place (settled.fits b.name) h)

          by_name : (b : Bit) → v b.name ≡ w b.name → bit_at v b ≡ bit_at w b
          by_name b h = ap (λ n. n / 2 ^ b.place % 2) h

          -- a bit that no part without a clock drives
          free_same : (b : Bit) → ((k : ℕ) (p : View) → slice_get vs k ≡ Some p → is_edge p.way ≡ false → has_bit p.drives b ≡ false) → bit_at v b ≡ bit_at w b
          free_same b free = elim (signal_of ds b.name) [
            | inl none ↦ past b (omega arith)
            | inr s ↦ (
                let x : Declared = s.1 in
                elim (cases_lt b.place (width_of x)) [
                  | inr above ↦ past b (let e : width_from ds b.name ≡ width_of x = s.4 in omega arith)
                  | inl below ↦ (
                      let inside : has_bit (whole x) b ≡ true = cells_have (width_of x) b.place (cells x) b.name s.3 below in
                      elim (decide (is_input_sort x.sort)) [
                        | inl input ↦ by_name b (all_names (λ n. v n ≡ w n) (input_names ds) same.inputs b.name (cells_any (λ x. is_input_sort x.sort) ds s.0 x b.name s.2 input s.3))
                        | inr no_in ↦ elim (decide (is_register_view vs x)) [
                          | inl register ↦ by_name b (all_names (λ n. v n ≡ w n) (register_names ds vs) same.registers b.name (cells_any (is_register_view vs) ds s.0 x b.name s.2 register s.3))
                          | inr plain ↦ (
                              let wired : is_wired_view vs x ≡ true = and-both (not (is_input_sort x.sort)) (not (is_register_view vs x)) (ap not no_in) (ap not plain) in
                              let zero : bit_at w b ≡ 0 = all_bits (λ b. bit_at w b ≡ 0) (λ b. not (view_driven vs b) && not (view_read vs b)) (flat_map whole (filter
                              (is_wired_view vs) ds)) settled.idle b
                              (whole_any (is_wired_view vs) ds s.0 x b s.2 wired inside) (idle ds vs right s.0 x b s.2 inside wired free) in
                              ap (λ n. n / 2 ^ b.place % 2) (rest_zero s.0 x b.name s.2 wired s.3) ∙ (bit_at-zero b.place ∙ sym zero))
                        ]
                      ])
                ])
          ]

          holds : Each (λ p. (name : Name) → p.after w name ≡ w name) ws
          holds = each_picked vs (λ p. (name : Name) → p.after w name ≡ w name) order (λ i k p e g.
              all_at (λ p. (name : Name) → p.after w name ≡ w name) (λ p. not (is_edge p.way)) vs settled.holds k p g
              (ap not (let r : (q : View) × (slice_get vs k ≡ Some q) × (is_edge q.way ≡ false) = o.parts i k e in
              ap (λ z. elim z [ None ↦ false | Some q ↦ is_edge q.way ]) (sym g ∙ r.1) ∙ r.2)))

          pub meets : left ≡ w
          meets = fun_ext (λ name. ap (λ (u : Valuation). u name) left_is ∙
              run_meets ds ws plain ordered v w holds (λ b n. free_same b (taken_bit vs ds laws order o b n)) name)
