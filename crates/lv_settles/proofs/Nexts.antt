-- Each bit ends as the one part with a clock that drives it leaves it.
use Rattle.std.proofs.Common.{◌≡◌, ℕ, zero, suc, Bool, true, false, ◌&&◌, List, [], ◌∷◌, refl, ap, ◌∙◌, arith, Option, Some, None}
use Rattle.std.specs.Prelude.{slice_get, find, cond, if◌then◌else◌}
use Rattle.lv_source.specs.Names.{Declared, Valuation}
use Rattle.lv_source.specs.Places.{Bit, bit_at, has_bit}
use Rattle.lv_source.specs.Views.{View, is_edge, left_view_bit, next_view_bit}
use Rattle.lv_settles.specs.Clocked.{IsOverlay, Overlay, AreOverlays, views_in, overlaid}
use Rattle.lv_settles.specs.Rules.{AreRight}
use Rattle.lv_settles.proofs.Carried.{OneDriver}
use Rattle.lv_settles.proofs.Rightness.{one_driver}

view_at : (ps : List Overlay) (k : ℕ) (p : Overlay) → slice_get ps k ≡ Some p → slice_get (views_in ps) k ≡ Some p.0
view_at [] k p e = cc
view_at (x ∷ xs) zero p e = ap (λ (o : Option Overlay). elim o [ None ↦ None | Some q ↦ Some q.0 ]) e
view_at (x ∷ xs) (suc k) p e = view_at xs k p e

module _ (v : Valuation) (b : Bit) where
  abbrev Fits : List Overlay → Type 0
  Fits ps = (k : ℕ) (p : Overlay) → slice_get ps k ≡ Some p → is_edge p.0.way ≡ true → IsOverlay v p.0 p.1

  abbrev Lone : List Overlay → Type 0
  Lone ps = (k l : ℕ) (p q : Overlay) → slice_get ps k ≡ Some p → slice_get ps l ≡ Some q → (k ≡ l → ⊥) → has_bit p.0.drives b ≡ true → has_bit q.0.drives b ≡ false

  -- where no part drives it
  kept : (ps : List Overlay) → Fits ps → ((k : ℕ) (p : Overlay) → slice_get ps k ≡ Some p → has_bit p.0.drives b ≡ false) → (u : Valuation) → bit_at (overlaid ps u) b ≡ bit_at u b
  kept [] f n u = refl
  kept (p ∷ ps) f n u =
      kept ps (λ k q e. f (suc k) q e) (λ k q e. n (suc k) q e) (if is_edge p.0.way then p.1 u else u) ∙
      elim (is_edge p.0.way) as (λ c. is_edge p.0.way ≡ c → bit_at (if c then p.1 u else u) b ≡ bit_at u b) [
        | true ↦ λ e. (f 0 p refl e).keeps u b (n 0 p refl)
        | false ↦ λ e. refl
      ] refl

  abbrev driver : View → Bool
  driver w = is_edge w.way && has_bit w.drives b

  suc_apart : (k l : ℕ) → (k ≡ l → ⊥) → suc k ≡ suc l → ⊥
  suc_apart k l n e = n (omega arith)

  step : (p : Overlay) (ps : List Overlay) (u : Valuation) → Fits (p ∷ ps) → Lone (p ∷ ps) → bit_at u b ≡ bit_at v b → (c d : Bool) → is_edge p.0.way ≡ c → has_bit p.0.drives b ≡ d →
      ((t : Valuation) → bit_at t b ≡ bit_at v b → bit_at (overlaid ps t) b ≡ left_view_bit v b (find driver (views_in ps))) →
      bit_at (overlaid ps (if c then p.1 u else u)) b ≡ left_view_bit v b (cond (c && d) (Some p.0) (find driver (views_in ps)))
  step p ps u f l same false d e g h = h u same
  step p ps u f l same true false e g h = h (p.1 u) ((f 0 p refl e).keeps u b g ∙ same)
  step p ps u f l same true true e g h =
      kept ps (λ k q i. f (suc k) q i) (λ k q i. l 0 (suc k) p q refl i (λ z. (let z : 0 ≡ suc k = z in omega arith)) g) (p.1 u) ∙
      ((f 0 p refl e).bitwise u v b same ∙ (f 0 p refl e).leaves b)

  next_bits : (ps : List Overlay) → Fits ps → Lone ps → (u : Valuation) → bit_at u b ≡ bit_at v b → bit_at (overlaid ps u) b ≡ left_view_bit v b (find driver (views_in ps))
  next_bits [] f l u same = same
  next_bits (p ∷ ps) f l u same =
      step p ps u f l same (is_edge p.0.way) (has_bit p.0.drives b) refl refl
      (next_bits ps (λ k q e. f (suc k) q e) (λ k m p q e g n. l (suc k) (suc m) p q e g (suc_apart k m n)))

pub nexts : (ds : List Declared) (ps : List Overlay) (v : Valuation) → AreRight ds (views_in ps) → AreOverlays v ps → (b : Bit) → bit_at (overlaid ps v) b ≡ next_view_bit (views_in ps) v b
nexts ds ps v right o b =
    let d : OneDriver (views_in ps) = one_driver ds (views_in ps) right in
    next_bits v b ps o.each (λ k l p q e g n. d.one k l p.0 q.0 (view_at ps k p e) (view_at ps l q g) n b) v refl
