-- What the parts of an expression give together, over a table.
use Rattle.std.proofs.Common.{◌≡◌, ℕ, ◌+◌, ◌*◌, ◌<◌, ◌^◌, Bool, List, [], ◌∷◌, length, map, take, refl, sym, ◌∙◌, ap, arith, get_or}
use Rattle.lv_bits.specs.Values.{extended}
use Rattle.lv_netlist.specs.Net.{Net}
use Rattle.lv_source.specs.Names.{Valuation}
use Rattle.lv_source.specs.Values.{Meaning, own_value, widths, joined, repeated}
use Rattle.lv_flat.specs.Cells.{Cell}
use Rattle.lv_flat.specs.declared.expr.FlatExpr.{FlatExpr}
use Rattle.lv_flat.specs.Signals.{Signals}
use Rattle.lv_flat.specs.Judged.{meaning}
use Rattle.lv_values.specs.declared.value.Value.{Value}
use Rattle.lv_values.specs.declared.value.Value.TheVariants.{Known, Node}
use Rattle.lv_values.specs.Worlds.{World, Gives, IsIn, IsKnown, width_of, number}
use Rattle.lv_values.proofs.Growth.{grows-trans, obeys-before}
use Rattle.lv_lower_exprs.specs.Tables.{Means}
use Rattle.lv_lower_exprs.specs.Divided.{known_of}
use Rattle.lv_lower_exprs.proofs.Meant.{means-same, means-one, means-two}
use Rattle.lv_lower_exprs.proofs.Joining.{widths-more, joined-more, one-more}

known-number : (w : World) (r : Value) → IsKnown r → number w r ≡ known_of r
known-number w (Known x) h = refl
known-number w (Node k width) h = absurd h

module _ {cells : List Cell} {table : List ℕ} where
  -- of known values
  pub means-divided : {old mid new : Net} {p q r : Value} {W : ℕ} {g h : Valuation → ℕ} (f : ℕ → ℕ → ℕ → ℕ) → Means old mid p cells table W g → Means mid new q cells table W h → IsKnown p → IsKnown q →
      r ≡ Known (record { width = width_of p; value = f (width_of p) (known_of p) (known_of q) }) → known_of r < 2 ^ width_of r → Means old new r cells table W (λ v. f W (g v) (h v))
  means-divided {old} {mid} {new} {p} {q} {r} {W} {g} {h} f m n kp kq e lt = record {
    grows = grows-trans old mid new m.grows n.grows;
    in_new = inside r e lt;
    width = ap width_of e ∙ m.width;
    is = λ w v o s.
        let o0 = obeys-before mid new w n.grows o in
        let a : known_of p ≡ g v = sym (known-number w p kp) ∙ m.is w v o0 s in
        let b : known_of q ≡ h v = sym (known-number w q kq) ∙ n.is w v o s in
        ap (number w) e ∙ (ap (λ k. f k (known_of p) (known_of q)) m.width ∙ (ap (λ k. f W k (known_of q)) a ∙ ap (f W (g v)) b));
  }
    where
      inside : {x : _} (r : Value) → r ≡ Known x → known_of r < 2 ^ width_of r → IsIn new r
      inside (Known y) e lt = lt
      inside (Node k width) e lt = cc

  -- bits side by side, at a width
  pub means-joined : {old mid new : Net} {x r : Value} {V W : ℕ} (T : Bool) {f F : Valuation → ℕ} → Means old mid x cells table V f → Gives mid new r W (λ w. extended T (width_of x) W (number w x)) →
      ((v : Valuation) → extended T V W (f v) ≡ F v) → Means old new r cells table W F
  means-joined {x = x} {V = V} {W = W} T {f = f} m e i =
      means-same (means-one (λ n. extended T (width_of x) W n) m e) refl (λ v. ap (λ k. extended T k W (f v)) m.width ∙ i v)

  pub means-repeated : {old mid last new : Net} {x y r : Value} {V W : ℕ} (n : ℕ) (T : Bool) {f F : Valuation → ℕ} → Means old mid x cells table V f → Gives mid last y (n * width_of x) (λ w. repeated n (width_of x) (number w x)) →
      Gives last new r W (λ w. extended T (width_of y) W (number w y)) → ((v : Valuation) → extended T (n * V) W (repeated n V (f v)) ≡ F v) → Means old new r cells table W F
  means-repeated {x = x} {y = y} {V = V} {W = W} n T {f = f} m g e i =
      means-joined T (means-same (means-one (λ k. repeated n (width_of x) k) m g) (ap (λ k. n * k) m.width) (λ v. ap (λ k. repeated n k (f v)) m.width)) e i

  pub means-first : {old new : Net} {x : Value} {W : ℕ} {T : Bool} (S : Signals) (es : List FlatExpr) (e : FlatExpr) → 0 < length es → e ≡ get_or es 0 e → W ≡ (meaning S e).width → T ≡ (meaning S e).signed →
      Means old new x cells table W (λ v. (meaning S e).value W T v) → Means old new x cells table (widths (map (meaning S) (take 1 es))) (λ v. joined v (map (meaning S) (take 1 es)))
  means-first {T = T} S es e lt i w t m =
      let p : map (meaning S) (take 1 es) ≡ meaning S e ∷ [] = one-more S (meaning S) es 0 e lt i in
      means-same m (w ∙ sym (ap widths p ∙ one_wide (meaning S e))) (λ v.
      ap (λ k. (meaning S e).value k T v) w ∙ (ap (λ k. (meaning S e).value (meaning S e).width k v) t ∙ sym (ap (joined v) p ∙ one_joined v (meaning S e))))
    where
      one_wide : (m : Meaning) → widths (m ∷ []) ≡ m.width
      one_wide m = omega arith

      one_joined : (v : Valuation) (m : Meaning) → joined v (m ∷ []) ≡ own_value m v
      one_joined v m = let z : 2 ^ widths [] ≡ 1 = refl in omega (arith, z)

  pub means-next : {old mid last new : Net} {acc x r : Value} {i j W : ℕ} {T : Bool} (S : Signals) (es : List FlatExpr) (e : FlatExpr) → i < length es → e ≡ get_or es i e → j ≡ i + 1 → W ≡ (meaning S e).width → T ≡ (meaning S e).signed →
      Means old mid acc cells table (widths (map (meaning S) (take i es))) (λ v. joined v (map (meaning S) (take i es))) → Means mid last x cells table W (λ v. (meaning S e).value W T v) →
      Gives last new r (width_of acc + width_of x) (λ w. number w acc * 2 ^ width_of x + number w x) →
      Means old new r cells table (widths (map (meaning S) (take j es))) (λ v. joined v (map (meaning S) (take j es)))
  means-next {acc = acc} {x = x} {i = i} {j = j} {W = W} {T = T} S es e lt ie je we te m n g =
      let ms : List Meaning = map (meaning S) (take i es) in
      let wide : width_of x ≡ (meaning S e).width = n.width ∙ we in
      let k : take (i + 1) es ≡ take j es = ap (λ a. take a es) (sym je) in
      means-same (means-two (λ a b. a * 2 ^ width_of x + b) m n g)
      (ap (λ a. a + width_of x) m.width ∙ (ap (λ a. widths ms + a) wide ∙ (widths-more S es i e lt ie ∙ ap (λ a. widths (map (meaning S) a)) k)))
      (λ v. ap (λ a. joined v ms * 2 ^ a + (meaning S e).value W T v) wide ∙
      (ap (λ a. joined v ms * 2 ^ (meaning S e).width + (meaning S e).value a T v) we ∙ (ap (λ a. joined v ms * 2 ^ (meaning S e).width + (meaning S e).value (meaning S e).width a v) te ∙
      (joined-more S v es i e lt ie ∙ ap (λ a. joined v (map (meaning S) a)) k))))
