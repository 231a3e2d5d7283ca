-- Two tables of which a node chooses.
use Rattle.std.proofs.Common.{◌≡◌, true, false, ℕ, ◌+◌, ◌<◌, ◌==◌, List, length, refl, sym, ◌∙◌, ap, arith}
use Rattle.std.specs.Prelude.{if◌then◌else◌, slice_index, slice_set}
use Rattle.lv_bits.specs.Words.{Bits}
use Rattle.lv_netlist.specs.declared.node.Node.TheVariants.{Mux}
use Rattle.lv_netlist.specs.Net.{Net, width_at, with_node, node_width}
use Rattle.lv_netlist.specs.Run.{bits_at}
use Rattle.lv_flat.specs.Cells.{Cell}
use Rattle.lv_values.specs.Worlds.{Grows}
use Rattle.lv_values.proofs.Growth.{gives-node}
use Rattle.lv_lower_exprs.specs.Tables.{IsTable, value_at}
use Rattle.lv_lower_exprs.proofs.Meant.{table-later}
use Rattle.lv_lower_blocks.specs.Rewritten.{Rewrites, Muxes, AreAlike, chosen_at, MayBeTable}
use Rattle.lv_lower_blocks.proofs.Rewriting.{rewrites-next, rewrites-stay, width-later}

cond_value : (x : ℕ) (p q : Bits) → (if x == 0 then q else p).value ≡ (if x == 0 then q.value else p.value)
cond_value x p q = elim (x == 0) as (λ c. (if c then q else p).value ≡ (if c then q.value else p.value)) [ true ↦ refl | false ↦ refl ]

pub mux_added : (old new : Net) (c x y m : ℕ) → new ≡ with_node old (record { node = Mux c x y; width = node_width old (Mux c x y) }) → m ≡ length old.nodes → Muxes old new c x y m
mux_added old new c x y m e i =
    let g = gives-node old new (Mux c x y) m (node_width old (Mux c x y)) e i refl in
    record { grows = g.grows; within = g.in_new.0; width = g.in_new.1; is = λ w o. g.is w o ∙ cond_value (value_at w c) (bits_at w.values x) (bits_at w.values y) }

if_same : (x y : ℕ) → y ≡ (if x == 0 then y else y)
if_same x y = elim (x == 0) as (λ c. y ≡ (if c then y else y)) [ true ↦ refl | false ↦ refl ]

module _ (old new : Net) (c : ℕ) (a b t : List ℕ) (k m : ℕ) (alike : AreAlike old a b) (r : Rewrites old new a t 0 k (chosen_at c a b)) (lt : k < length a) (e : m ≡ k + 1) where
  here : slice_index t k ≡ slice_index a k
  here = r.above k (omega arith)

  -- both are one there
  pub merges-same : slice_index t k ≡ slice_index b k → Rewrites old new a t 0 m (chosen_at c a b)
  merges-same h =
      rewrites-stay old new a t 0 k m (chosen_at c a b) r e (alike.left k lt) (λ w o.
      if_same (value_at w c) (value_at w (slice_index a k)) ∙ ap (λ (x : ℕ). if value_at w c == 0 then value_at w x else value_at w (slice_index a k)) (sym here ∙ h))

  -- a node chooses there
  pub merges-more : (last : Net) (n : ℕ) → Muxes new last c (slice_index t k) (slice_index b k) n → Rewrites old last a (slice_set t k n) 0 m (chosen_at c a b)
  merges-more last n x =
      rewrites-next old new last a t 0 k m n (chosen_at c a b) r x.grows (omega arith) lt e x.within
      (x.width ∙ (ap (width_at new.nodes) here ∙ width-later old new (slice_index a k) r.grows (alike.left k lt)))
      (λ w o. x.is w o ∙ ap (λ (y : ℕ). if value_at w c == 0 then value_at w (slice_index b k) else value_at w y) here)

module _ {cells : List Cell} where
  pub tables-alike : {net : Net} {a b : List ℕ} → IsTable net cells a → IsTable net cells b → AreAlike net a b
  tables-alike p q = record {
    count = p.count ∙ sym q.count;
    left = λ i h. p.within i (omega (arith, p.count));
    right = λ i h. q.within i (omega (arith, p.count));
    widths = λ i h. p.widths i (omega (arith, p.count)) ∙ sym (q.widths i (omega (arith, p.count)));
  }

  pub may-be-later : {old new : Net} {t : List ℕ} → Grows old new → MayBeTable old cells t → MayBeTable new cells t
  may-be-later g h = record { is = λ i. table-later g (h.is i) }

  pub may-be-alike : {net : Net} {a b : List ℕ} → MayBeTable net cells a → MayBeTable net cells b → length a ≡ length b → AreAlike net a b
  may-be-alike {net} {a} {b} p q e = record {
    count = e;
    left = λ i h. (both i h).left i h;
    right = λ i h. (both i h).right i h;
    widths = λ i h. (both i h).widths i h;
  }
    where
      both : (i : ℕ) → i < length a → AreAlike net a b
      both i h = tables-alike (p.is (omega arith)) (q.is (omega (arith, e)))
