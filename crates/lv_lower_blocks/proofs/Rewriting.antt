-- Tables some of whose nodes are exchanged, one after another.
use Rattle.std.proofs.Common.{◌≡◌, ℕ, ◌+◌, ◌<◌, ◌≤◌, ◌≢◌, inl, inr, List, length, refl, ◌∙◌, ap, subst, arith, get_or-set_same, get_or-set_other, length-set}
use Rattle.std.specs.Prelude.{slice_index, slice_set}
use Rattle.std.proofs.lemmas.Bool.{cases_lt}
use Rattle.lv_netlist.specs.declared.node.Typed.{Typed}
use Rattle.lv_netlist.specs.Net.{Net, width_at}
use Rattle.lv_flat.specs.Cells.{Cell, cell_at}
use Rattle.lv_values.specs.Worlds.{World, Obeys, Grows}
use Rattle.lv_values.proofs.Growth.{grows-refl, grows-trans, obeys-before}
use Rattle.lv_lower_exprs.specs.Tables.{IsTable, value_at}
use Rattle.lv_lower_blocks.specs.Rewritten.{Rewrites}

pub width-later : (old new : Net) (k : ℕ) → Grows old new → k < length old.nodes → width_at new.nodes k ≡ width_at old.nodes k
width-later old new k g lt = ap (λ (x : Typed). x.width) (g.same k lt)

pub rewrites-none : (old : Net) (t : List ℕ) (lo : ℕ) (f : World → ℕ → ℕ) → Rewrites old old t t lo lo f
rewrites-none old t lo f = record {
  grows = grows-refl old;
  count = refl;
  within = λ i h g. absurd (omega arith);
  widths = λ i h g. absurd (omega arith);
  is = λ w o i h g. absurd (omega arith);
  below = λ i h. refl;
  above = λ i h. refl;
}

module _ (old new last : Net) (a t : List ℕ) (lo k m n : ℕ) (f : World → ℕ → ℕ) (r : Rewrites old new a t lo k f) (g : Grows new last) (from : lo ≤ k) (lt : k < length a) (e : m ≡ k + 1) where
  here : slice_index (slice_set t k n) k ≡ n
  here = get_or-set_same t k n 0 (omega (arith, r.count))

  other : (i : ℕ) → i ≢ k → slice_index (slice_set t k n) i ≡ slice_index t i
  other i ne = get_or-set_other t k i n 0 ne

  -- the next node is exchanged too
  pub rewrites-next : n < length last.nodes → width_at last.nodes n ≡ width_at old.nodes (slice_index a k) → ((w : World) → Obeys last w → value_at w n ≡ f w k) →
      Rewrites old last a (slice_set t k n) lo m f
  rewrites-next inside wide is = record {
    grows = grows-trans old new last r.grows g;
    count = length-set t k n ∙ r.count;
    within = λ i h l. elim (cases_lt i k) [
      | inl less ↦ (let ne : i ≢ k = omega arith in omega (arith, other i ne, r.within i h less, g.more))
      | inr more ↦ (let s : k ≡ i = omega (arith, e) in subst (λ (j : ℕ). slice_index (slice_set t k n) j < length last.nodes) s (omega (arith, here, inside)))
    ];
    widths = λ i h l. elim (cases_lt i k) [
      | inl less ↦ (let ne : i ≢ k = omega arith in ap (width_at last.nodes) (other i ne) ∙ (width-later new last (slice_index t i) g (r.within i h less) ∙ r.widths i h less))
      | inr more ↦ (let s : k ≡ i = omega (arith, e) in
          subst (λ (j : ℕ). width_at last.nodes (slice_index (slice_set t k n) j) ≡ width_at old.nodes (slice_index a j)) s (ap (width_at last.nodes) here ∙ wide))
    ];
    is = λ w o i h l. elim (cases_lt i k) [
      | inl less ↦ (let ne : i ≢ k = omega arith in ap (value_at w) (other i ne) ∙ r.is w (obeys-before new last w g o) i h less)
      | inr more ↦ (let s : k ≡ i = omega (arith, e) in subst (λ (j : ℕ). value_at w (slice_index (slice_set t k n) j) ≡ f w j) s (ap (value_at w) here ∙ is w o))
    ];
    below = λ i h. (let ne : i ≢ k = omega arith in other i ne) ∙ r.below i h;
    above = λ i h. (let ne : i ≢ k = omega (arith, e) in other i ne) ∙ r.above i (omega (arith, e));
  }

-- the next node has that value already
module _ (old new : Net) (a t : List ℕ) (lo k m : ℕ) (f : World → ℕ → ℕ) (r : Rewrites old new a t lo k f) (e : m ≡ k + 1) where
  stays : slice_index t k ≡ slice_index a k
  stays = r.above k (omega arith)

  pub rewrites-stay : slice_index a k < length old.nodes → ((w : World) → Obeys new w → value_at w (slice_index a k) ≡ f w k) → Rewrites old new a t lo m f
  rewrites-stay inside is = record {
    grows = r.grows;
    count = r.count;
    within = λ i h l. elim (cases_lt i k) [
      | inl less ↦ r.within i h less
      | inr more ↦ (let s : k ≡ i = omega (arith, e) in subst (λ (j : ℕ). slice_index t j < length new.nodes) s (omega (arith, stays, inside, r.grows.more)))
    ];
    widths = λ i h l. elim (cases_lt i k) [
      | inl less ↦ r.widths i h less
      | inr more ↦ (let s : k ≡ i = omega (arith, e) in subst (λ (j : ℕ). width_at new.nodes (slice_index t j) ≡ width_at old.nodes (slice_index a j)) s
          (ap (width_at new.nodes) stays ∙ width-later old new (slice_index a k) r.grows inside))
    ];
    is = λ w o i h l. elim (cases_lt i k) [
      | inl less ↦ r.is w o i h less
      | inr more ↦ (let s : k ≡ i = omega (arith, e) in subst (λ (j : ℕ). value_at w (slice_index t j) ≡ f w j) s (ap (value_at w) stays ∙ is w o))
    ];
    below = r.below;
    above = λ i h. r.above i (omega (arith, e));
  }

-- it is a table again
module _ {old new : Net} {cells : List Cell} {a t : List ℕ} {lo hi : ℕ} {f : World → ℕ → ℕ} (r : Rewrites old new a t lo hi f) (h : IsTable old cells a) where
  kept-within : (i : ℕ) → i < length cells → slice_index t i ≡ slice_index a i → slice_index t i < length new.nodes
  kept-within i lt e = omega (arith, e, h.within i lt, r.grows.more)

  kept-widths : (i : ℕ) → i < length cells → slice_index t i ≡ slice_index a i → width_at new.nodes (slice_index t i) ≡ (cell_at cells i).width
  kept-widths i lt e = ap (width_at new.nodes) e ∙ (width-later old new (slice_index a i) r.grows (h.within i lt) ∙ h.widths i lt)

  pub rewritten-table : IsTable new cells t
  rewritten-table = record {
    count = r.count ∙ h.count;
    within = λ i lt. elim (cases_lt i lo) [
      | inl less ↦ kept-within i lt (r.below i less)
      | inr more ↦ elim (cases_lt i hi) [ inl inside ↦ r.within i more inside | inr past ↦ kept-within i lt (r.above i past) ]
    ];
    widths = λ i lt. elim (cases_lt i lo) [
      | inl less ↦ kept-widths i lt (r.below i less)
      | inr more ↦ elim (cases_lt i hi) [ inl inside ↦ r.widths i more inside ∙ h.widths i lt | inr past ↦ kept-widths i lt (r.above i past) ]
    ];
  }
