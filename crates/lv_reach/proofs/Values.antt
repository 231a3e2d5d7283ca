-- What depends on none of some signals has one value in all settled valuations that differ in these alone.
use Rattle.std.proofs.Common.{◌≡◌, ◌⊎◌, inl, inr, ℕ, ◌/◌, ◌%◌, ◌^◌, ◌<◌, ◌≤◌, Bool, true, false, ◌&&◌, ◌||◌, not, List, [], ◌∷◌, refl, sym, ap, ◌∙◌, arith, subst, Some}
use Rattle.std.specs.Prelude.{flat_map, filter, slice_get, bytes_eq, All, Contains}
use Rattle.std.specs.List.{list_any}
use Rattle.std.proofs.lemmas.Bool.{cases_lt}
use Rattle.std.proofs.lemmas.Nat.Bits.{bit_at_above}
use Rattle.lv_ast.specs.declared.expr.Expr.{Expr}
use Rattle.lv_source.specs.Names.{Names, Declared, Valuation, width_of, is_input_sort}
use Rattle.lv_source.specs.Places.{Bit, bit_at, has_bit, same_bit, whole, cells}
use Rattle.lv_source.specs.Meaning.{own, own_width, own_signed, reads_of}
use Rattle.lv_source.specs.Parts.{width_from}
use Rattle.lv_source.specs.Views.{View, IsViewSettled, is_edge, is_combinational, view_driven, view_read, is_register_view, is_wired_view}
use Rattle.lv_source.proofs.Each.{Each}
use Rattle.lv_source.proofs.Facts.{some_same, all_at, all_bits, whole_any}
use Rattle.lv_source.proofs.Kids.{in_index}
use Rattle.lv_source.proofs.Readings.{faithful}
use Rattle.lv_source.proofs.Refused.{in_contains}
use Rattle.lv_source.proofs.Tests.{decide, and-left, and-both, or-split, same_bits, has-head}
use Rattle.lv_source.proofs.Unique.{clash}
use Rattle.lv_source.proofs.Within.{cells_have}
use Rattle.lv_settles.specs.Lawful.{AreLawful, is_outside}
use Rattle.lv_settles.specs.Orders.{IsOrder}
use Rattle.lv_settles.specs.Rules.{AreRight, AreApart}
use Rattle.lv_settles.proofs.Carried.{picked, each_picked, order_stands, plain_parts, taken_bit}
use Rattle.lv_settles.proofs.Lists.{signal_of}
use Rattle.lv_settles.proofs.Ordered.{Plain, Ordered, driven}
use Rattle.lv_settles.proofs.Rightness.{one_driver, idle}
use Rattle.lv_reach.specs.Fanout.{Reaches, direct, through, DependsOn, SameBut}

-- ---- parts one after another

module _ (ds : List Declared) (free : Bit → Type 0) where
  -- what it drives is free only where what it reads is
  abbrev Closed : View → Type 0
  Closed p = (b c : Bit) → has_bit p.drives b ≡ true → has_bit p.reads c ≡ true → free b → free c

  abbrev Stays : Valuation → View → Type 0
  Stays v p = (name : List ℕ) → p.after v name ≡ v name

  outside-read : (p : View) (b : Bit) → is_outside p b ≡ true → has_bit p.reads b ≡ true
  outside-read p b h = and-left (has_bit p.reads b) (not (is_combinational p.way && has_bit p.drives b)) h

  free-same : (ws : List View) (v w : Valuation) → Each (Plain ds) ws → Ordered ws → Each Closed ws → Each (Stays v) ws → Each (Stays w) ws →
      ((b : Bit) → free b → driven ws b ≡ false → bit_at v b ≡ bit_at w b) → (b : Bit) → free b → bit_at v b ≡ bit_at w b
  free-same [] v w p o c s t start b f = start b f refl
  free-same (x ∷ ws) v w p o c s t start b f = free-same ws v w p.1 o.1 c.1 s.1 t.1 (λ z g n. elim (decide (has_bit x.drives z)) [
    | inr none ↦ start z g (ap (λ d. d || driven ws z) none ∙ n)
    | inl own ↦
        ap (λ m. m / 2 ^ z.place % 2) (sym (s.0 z.name)) ∙
        (p.0.law.follows p.0.way v w (λ y out. start y (c.0 z y own (outside-read x y out) g) (o.0.reads y out)) z own ∙
        ap (λ m. m / 2 ^ z.place % 2) (t.0 z.name))
  ]) b f

-- ---- bits that none of the signals reaches

module _ (ds : List Declared) (vs : List View) (order : List ℕ) (is : Declared → Bool) (laws : AreLawful ds vs) (right : AreRight ds vs) (apart : AreApart ds) (o : IsOrder vs order)
    (v w : Valuation) (sv : IsViewSettled ds vs v) (sw : IsViewSettled ds vs w) (same : SameBut ds vs is v w) where
  -- no such signal's bit comes into it
  abbrev Free : Bit → Type 0
  Free b = DependsOn ds vs is (b ∷ []) → ⊥

  one-bit : (b z : Bit) → has_bit (b ∷ []) z ≡ true → z ≡ b
  one-bit b z h = elim (or-split (same_bit z b) false h) [ inl e ↦ same_bits z b e | inr n ↦ clash false n refl ]

  -- what comes into a bit that a part reads comes into what it drives
  longer : (k : ℕ) (p : View) (b c : Bit) → slice_get vs k ≡ Some p → is_edge p.way ≡ false → has_bit p.drives b ≡ true → has_bit p.reads c ≡ true →
      {z : Bit} → Reaches vs (c ∷ []) z → Reaches vs (b ∷ []) z
  longer k p b c e way d r {z = z} (direct h) = through k p e way (direct (has-head b [])) d (ap (has_bit p.reads) (one-bit c z h) ∙ r)
  longer k p b c e way d r (through l q g u more x y) = through l q g u (longer k p b c e way d r more) x y

  closed : (k : ℕ) (p : View) → slice_get vs k ≡ Some p → is_edge p.way ≡ false → Closed ds Free p
  closed k p e way b c d r f = λ (x, z, listed, h, inside, reach). f (x, z, listed, h, inside, longer k p b c e way d r reach)

  edge-of : (i k : ℕ) (p : View) → slice_get order i ≡ Some k → slice_get vs k ≡ Some p → is_edge p.way ≡ false
  edge-of i k p e g =
      let r : (q : View) × (slice_get vs k ≡ Some q) × (is_edge q.way ≡ false) = o.parts i k e in
      ap (λ (z : View). is_edge z.way) (some_same p r.0 (sym g ∙ r.1)) ∙ r.2

  abbrev ws : List View
  ws = picked vs order

  all-closed : Each (Closed ds Free) ws
  all-closed = each_picked vs (Closed ds Free) order (λ i k p e g. closed k p g (edge-of i k p e g))

  stays : (u : Valuation) → IsViewSettled ds vs u → Each (Stays ds Free u) ws
  stays u s = each_picked vs (Stays ds Free u) order (λ i k p e g. all_at (Stays ds Free u) (λ (q : View). not (is_edge q.way)) vs s.holds k p g (ap not (edge-of i k p e g)))

  past : (b : Bit) → width_from ds b.name ≤ b.place → bit_at v b ≡ bit_at w b
  past b h = bit_at_above (v b.name) (width_from ds b.name) b.place (sv.fits b.name) h ∙ sym (bit_at_above (w b.name) (width_from ds b.name) b.place (sw.fits b.name) h)

  by-name : (b : Bit) → v b.name ≡ w b.name → bit_at v b ≡ bit_at w b
  by-name b h = ap (λ n. n / 2 ^ b.place % 2) h

  zero-at : (u : Valuation) → IsViewSettled ds vs u → (k : ℕ) (x : Declared) (b : Bit) → slice_get ds k ≡ Some x → is_wired_view vs x ≡ true → has_bit (whole x) b ≡ true →
      (not (view_driven vs b) && not (view_read vs b)) ≡ true → bit_at u b ≡ 0
  zero-at u s k x b e wired inside n = all_bits (λ b. bit_at u b ≡ 0) (λ b. not (view_driven vs b) && not (view_read vs b)) (flat_map whole (filter (is_wired_view vs) ds)) s.idle b
      (whole_any (is_wired_view vs) ds k x b e wired inside) n

  -- a free bit that no part without a clock drives
  free-start : (b : Bit) → Free b → driven ws b ≡ false → bit_at v b ≡ bit_at w b
  free-start b f n = elim (signal_of ds b.name) [
    | inl none ↦ past b (omega arith)
    | inr s ↦ (
        let x : Declared = s.1 in
        let listed : Contains ds x = in_contains x ds (in_index x ds s.0 s.2) in
        elim (cases_lt b.place (width_of x)) [
          | inr above ↦ past b (let e : width_from ds b.name ≡ width_of x = s.4 in omega arith)
          | inl below ↦ (
              let inside : has_bit (whole x) b ≡ true = cells_have (width_of x) b.place (cells x) b.name s.3 below in
              elim (decide (is x)) [
                | inl such ↦ absurd (f (x, b, listed, such, inside, direct (has-head b [])))
                | inr kept ↦ elim (decide (is_input_sort x.sort)) [
                  | inl input ↦ by-name b (same.inputs x b.name listed kept input s.3)
                  | inr no_in ↦ elim (decide (is_register_view vs x)) [
                    | inl register ↦ by-name b (same.registers x b.name listed kept register s.3)
                    | inr plain ↦ (
                        let wired : is_wired_view vs x ≡ true = and-both (not (is_input_sort x.sort)) (not (is_register_view vs x)) (ap not no_in) (ap not plain) in
                        let none : (not (view_driven vs b) && not (view_read vs b)) ≡ true = idle ds vs right s.0 x b s.2 inside wired (taken_bit vs ds laws order o b n) in
                        zero-at v sv s.0 x b s.2 wired inside none ∙ sym (zero-at w sw s.0 x b s.2 wired inside none))
                  ]
                ]
              ])
        ])
  ]

  free-bits : (b : Bit) → Free b → bit_at v b ≡ bit_at w b
  free-bits = free-same ds Free ws v w (plain_parts vs ds laws order o) (order_stands vs order o (one_driver ds vs right)) all-closed (stays v sv) (stays w sw) free-start

  wider : (bs : List Bit) (b : Bit) → has_bit bs b ≡ true → {z : Bit} → Reaches vs (b ∷ []) z → Reaches vs bs z
  wider bs b h {z = z} (direct k) = direct (ap (has_bit bs) (one-bit b z k) ∙ h)
  wider bs b h (through l q g u more x y) = through l q g u (wider bs b h more) x y

  pub one-value : (names : Names) (e : Expr) → (DependsOn ds vs is (reads_of names e) → ⊥) → own names e v ≡ own names e w
  one-value names e f = (faithful names e).same v w
      (λ b h. free-bits b (λ (x, z, listed, k, inside, reach). f (x, z, listed, k, inside, wider (reads_of names e) b h reach)))
      (own_width names e) (own_signed names e)
