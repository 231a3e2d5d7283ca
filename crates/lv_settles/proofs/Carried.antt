-- An order of the parts as a list of parts.
use Rattle.std.proofs.Common.{◌≡◌, ℕ, zero, suc, ◌+◌, ◌≤◌, true, false, ◌||◌, List, [], ◌∷◌, refl, sym, ap, ◌∙◌, arith, subst, Option, Some, None}
use Rattle.std.specs.Prelude.{slice_get}
use Rattle.lv_source.specs.Names.{Declared, Valuation}
use Rattle.lv_source.specs.Places.{Bit, has_bit}
use Rattle.lv_source.specs.Views.{View, is_edge}
use Rattle.lv_source.proofs.Each.{Each}
use Rattle.lv_source.proofs.Facts.{some_same}
use Rattle.lv_source.proofs.Settles.{none_each}
use Rattle.lv_settles.specs.Lawful.{is_outside, AreLawful}
use Rattle.lv_settles.specs.Orders.{IsOrder, after_one, carried}
use Rattle.lv_settles.proofs.Ordered.{driven, run, Ordered, Plain}

abbrev one : Option View → List View
one None = []
one (Some p) = p ∷ []

abbrev with_one : Option View → List View → List View
with_one None ws = ws
with_one (Some p) ws = p ∷ ws

-- the parts of these numbers
abbrev pub picked : List View → List ℕ → List View
picked vs [] = []
picked vs (k ∷ ks) = with_one (slice_get vs k) (picked vs ks)

run_with : (o : Option View) (ws : List View) (v : Valuation) → run (with_one o ws) v ≡ run ws (after_one o v)
run_with None ws v = refl
run_with (Some p) ws v = refl

pub carried_run : (vs : List View) (ks : List ℕ) (v : Valuation) → carried vs ks v ≡ run (picked vs ks) v
carried_run vs [] v = refl
carried_run vs (k ∷ ks) v = carried_run vs ks (after_one (slice_get vs k) v) ∙ sym (run_with (slice_get vs k) (picked vs ks) v)

none_driven : (ws : List View) (b : Bit) → Each (λ w. has_bit w.drives b ≡ false) ws → driven ws b ≡ false
none_driven [] b h = refl
none_driven (w ∷ ws) b h = ap (λ c. c || driven ws b) h.0 ∙ none_driven ws b h.1

-- what holds of each part whose number is among these
pub each_picked : (vs : List View) (P : View → Type 0) (ks : List ℕ) →
    ((i k : ℕ) (p : View) → slice_get ks i ≡ Some k → slice_get vs k ≡ Some p → P p) → Each P (picked vs ks)
each_picked vs P [] f = tt
each_picked vs P (k ∷ ks) f =
    let rest : Each P (picked vs ks) = each_picked vs P ks (λ i m p e g. f (suc i) m p e g) in
    elim (slice_get vs k) as (λ o. slice_get vs k ≡ o → Each P (with_one o (picked vs ks))) [
      | None ↦ λ e. rest
      | Some p ↦ λ e. (f 0 k p refl e, rest)
    ] refl

-- the part of a number that is among these
pub picked_at : (vs : List View) (P : View → Type 0) (ks : List ℕ) → Each P (picked vs ks) → (i k : ℕ) (p : View) →
    slice_get ks i ≡ Some k → slice_get vs k ≡ Some p → P p
picked_at vs P [] h i k p e g = cc
picked_at vs P (x ∷ ks) h zero k p e g =
    let same : x ≡ k = some_same x k e in
    let at : slice_get vs x ≡ Some p = ap (slice_get vs) same ∙ g in
    elim (slice_get vs x) as (λ o. o ≡ Some p → Each P (with_one o (picked vs ks)) → P p) [
      | None ↦ λ a b. cc
      | Some q ↦ λ a b. subst P (some_same q p a) b.0
    ] at h
picked_at vs P (x ∷ ks) h (suc i) k p e g =
    elim (slice_get vs x) as (λ o. Each P (with_one o (picked vs ks)) → P p) [
      | None ↦ λ b. picked_at vs P ks b i k p e g
      | Some q ↦ λ b. picked_at vs P ks b.1 i k p e g
    ] h

module _ (vs : List View) where
  -- of the numbers, what an order says
  record Stands (ks : List ℕ) : Type 0 where
    reads : (i j k l : ℕ) (p q : View) → i ≤ j → slice_get ks i ≡ Some k → slice_get ks j ≡ Some l →
        slice_get vs k ≡ Some p → slice_get vs l ≡ Some q → (b : Bit) → is_outside p b ≡ true → has_bit q.drives b ≡ false
    drives : (i j k l : ℕ) (p q : View) → i + 1 ≤ j → slice_get ks i ≡ Some k → slice_get ks j ≡ Some l →
        slice_get vs k ≡ Some p → slice_get vs l ≡ Some q → (b : Bit) → has_bit p.drives b ≡ true → has_bit q.drives b ≡ false

  rest_stands : (k : ℕ) (ks : List ℕ) → Stands (k ∷ ks) → Stands ks
  rest_stands k ks h = record {
    reads = λ i j m l p q o. h.reads (suc i) (suc j) m l p q (omega arith);
    drives = λ i j m l p q o. h.drives (suc i) (suc j) m l p q (omega arith);
  }

  ordered_with : (k : ℕ) (ks : List ℕ) → Stands (k ∷ ks) → (o : Option View) → slice_get vs k ≡ o → Ordered (picked vs ks) → Ordered (with_one o (picked vs ks))
  ordered_with k ks h None e r = r
  ordered_with k ks h (Some p) e r = (
    record {
      reads = λ b out.
          ap (λ c. c || driven (picked vs ks) b) (h.reads 0 0 k k p p (omega arith) refl refl e e b out) ∙
          none_driven (picked vs ks) b (each_picked vs (λ w. has_bit w.drives b ≡ false) ks (λ i m q a g. h.reads 0 (suc i) k m p q (omega arith) refl a e g b out));
      drives = λ b own.
          none_driven (picked vs ks) b (each_picked vs (λ w. has_bit w.drives b ≡ false) ks (λ i m q a g. h.drives 0 (suc i) k m p q (omega arith) refl a e g b own));
    },
    r,
  )

  ordered : (ks : List ℕ) → Stands ks → Ordered (picked vs ks)
  ordered [] h = tt
  ordered (k ∷ ks) h = ordered_with k ks h (slice_get vs k) refl (ordered ks (rest_stands k ks h))

  -- no two parts without a clock drive one bit
  pub record OneDriver : Type 0 where
    pub one : (k l : ℕ) (p q : View) → slice_get vs k ≡ Some p → slice_get vs l ≡ Some q → (k ≡ l → ⊥) → (b : Bit) → has_bit p.drives b ≡ true → has_bit q.drives b ≡ false

  pub order_stands : (ks : List ℕ) → IsOrder vs ks → OneDriver → Ordered (picked vs ks)
  order_stands ks o d = ordered ks (record {
    reads = λ i j k l p q le e g. o.apart i j k l p q le e g;
    drives = λ i j k l p q lt e g a c. d.one k l p q a c (λ same. (let t : i ≡ j = o.once i j k e (g ∙ ap (λ z. Some z) (sym same)) in omega arith));
  })

  module _ (ds : List Declared) (laws : AreLawful ds vs) (ks : List ℕ) (o : IsOrder vs ks) where
    edge_of : (i k : ℕ) (p : View) → slice_get ks i ≡ Some k → slice_get vs k ≡ Some p → is_edge p.way ≡ false
    edge_of i k p e g =
        let r : (q : View) × (slice_get vs k ≡ Some q) × (is_edge q.way ≡ false) = o.parts i k e in
        ap (λ (z : View). is_edge z.way) (some_same p r.0 (sym g ∙ r.1)) ∙ r.2

    pub plain_parts : Each (Plain ds) (picked vs ks)
    plain_parts = each_picked vs (Plain ds) ks (λ i k p e g. record { law = laws.each k p g; way = edge_of i k p e g })

    -- a bit that no part without a clock drives
    pub free_bit : (b : Bit) → ((k : ℕ) (p : View) → slice_get vs k ≡ Some p → is_edge p.way ≡ false → has_bit p.drives b ≡ false) → driven (picked vs ks) b ≡ false
    free_bit b f = none_driven (picked vs ks) b (each_picked vs (λ w. has_bit w.drives b ≡ false) ks (λ i k p e g. f k p g (edge_of i k p e g)))

    -- and the other way round
    pub taken_bit : (b : Bit) → driven (picked vs ks) b ≡ false → (k : ℕ) (p : View) → slice_get vs k ≡ Some p → is_edge p.way ≡ false → has_bit p.drives b ≡ false
    taken_bit b n k p e w =
        let r : (i : ℕ) × (slice_get ks i ≡ Some k) = o.all k p e w in
        picked_at vs (λ w. has_bit w.drives b ≡ false) ks (none_each (λ (w : View). has_bit w.drives b) (picked vs ks) n) r.0 k p r.1 e
