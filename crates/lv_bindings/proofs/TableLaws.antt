-- Numbers of signals by name.
use Rattle.std.proofs.Common.{◌≡◌, ◌⊎◌, inl, inr, ℕ, zero, suc, ◌+◌, ◌<◌, ◌≤◌, arith, Bool, true, false, List, [], ◌∷◌, ◌++◌, map, length, get_or, take, refl, sym, ap, ◌∙◌, subst, Option, Some, None}
use Rattle.std.specs.Prelude.{slice_get, slice_set}
use Rattle.std.proofs.lemmas.Option.{slice_get_within}
use Rattle.std.proofs.lemmas.List.{length-map}
use Rattle.lv_bindings.specs.declared.table.Binding.{Binding}
use Rattle.lv_bindings.specs.declared.table.Binding.TheVariants as b
use Rattle.lv_bindings.specs.declared.order.Standing.{Standing}
use Rattle.lv_bindings.specs.Order.{Seen, seen}
use Rattle.lv_bindings.specs.Tables.{bound_at, assigned}
use Rattle.lv_bindings.proofs.Lists.{three_ways, length-take, take-read, got-or-past, get-set_same, get-set_other, length-set}

assigned_last : (k : ℕ) (zs : List Seen) (z : Seen) (bs : List Binding) → assigned k (zs ++ z ∷ []) bs ≡ bound_at (assigned k zs bs) z.number (k + length zs)
assigned_last k [] z bs = (let e : k ≡ k + 0 = omega arith in ap (bound_at bs z.number) e)
assigned_last k (y ∷ zs) z bs =
    (let e : suc k + length zs ≡ k + suc (length zs) = omega arith in
    assigned_last (suc k) zs z (bound_at bs y.number k) ∙ ap (bound_at (assigned (suc k) zs (bound_at bs y.number k)) z.number) e)

pub assigned_more : (first : ℕ) (order : List Standing) (k : ℕ) (z : Standing) (bs : List Binding) → k < length order → z ≡ get_or order k z →
    bound_at (assigned first (map seen (take k order)) bs) z.number (first + k) ≡ assigned first (map seen (take (k + 1) order)) bs
assigned_more first order k z bs l e =
    let n : length (map seen (take k order)) ≡ k = length-map (take k order) seen ∙ length-take k order (omega arith) in
    ap (λ i. bound_at (assigned first (map seen (take k order)) bs) z.number (first + i)) (sym n) ∙
    sym (assigned_last first (map seen (take k order)) (seen z) bs) ∙ ap (λ zs. assigned first zs bs) (sym (take-read seen order k z l e))

-- ---- what stands there

abbrev pub HasNone : List Seen → ℕ → Type 0
HasNone zs i = (j : ℕ) (z : Seen) → slice_get zs j ≡ Some z → z.number ≡ i → ⊥

-- one of these signals, by its number
pub record IsAssigned (k : ℕ) (zs : List Seen) (i : ℕ) (x : Binding) : Type 0 where
  pub place : ℕ
  pub signal : Seen
  pub is : slice_get zs place ≡ Some signal
  pub number : signal.number ≡ i
  pub bound : x ≡ b.Signal (k + place)

behind : (k : ℕ) (y : Seen) (zs : List Seen) (i : ℕ) (x : Binding) → IsAssigned (suc k) zs i x → IsAssigned k (y ∷ zs) i x
behind k y zs i x h = record {
  place = suc h.place;
  signal = h.signal;
  is = h.is;
  number = h.number;
  bound = h.bound ∙ (let e : suc k + h.place ≡ k + suc h.place = omega arith in ap (λ n. b.Signal n) e);
}

none_first : (y : Seen) (zs : List Seen) (i : ℕ) → (y.number ≡ i → ⊥) → HasNone zs i → HasNone (y ∷ zs) i
none_first y zs i n h zero z e q = n (let a : y ≡ z = cc in ap (λ (w : Seen). w.number) a ∙ q)
none_first y zs i n h (suc j) z e q = h j z e q

same_or_not : (a c : ℕ) → (a ≡ c) ⊎ (a ≡ c → ⊥)
same_or_not a c = elim (three_ways a c) [ inl e ↦ inl e | inr (inl l) ↦ inr (λ e. omega arith) | inr (inr l) ↦ inr (λ e. omega arith) ]

first_set : (k : ℕ) (y : Seen) (zs : List Seen) (bs : List Binding) (i : ℕ) (x : Binding) → y.number ≡ i → slice_get (bound_at bs y.number k) i ≡ Some x →
    IsAssigned k (y ∷ zs) i x
first_set k y zs bs i x n h =
    let l : i < length bs = subst (λ m. i < m) (length-set bs y.number (b.Signal k)) (slice_get_within (bound_at bs y.number k) i x h) in
    let g : slice_get (bound_at bs y.number k) i ≡ Some (b.Signal k) =
    subst (λ m. slice_get (bound_at bs m k) i ≡ Some (b.Signal k)) (sym n) (get-set_same bs i (b.Signal k) l) in
    let e : x ≡ b.Signal k = cc in
    record { place = 0; signal = y; is = refl; number = n; bound = e ∙ (let z : k ≡ k + 0 = omega arith in ap (λ n. b.Signal n) z) }

pub assigned_at : (k : ℕ) (zs : List Seen) (bs : List Binding) (i : ℕ) (x : Binding) → slice_get (assigned k zs bs) i ≡ Some x →
    ((slice_get bs i ≡ Some x) × HasNone zs i) ⊎ IsAssigned k zs i x
assigned_at k [] bs i x h = inl (h, λ j z e q. absurd (cc))
assigned_at k (y ∷ zs) bs i x h = elim (assigned_at (suc k) zs (bound_at bs y.number k) i x h) [
  | inl p ↦ elim (same_or_not y.number i) [
    | inl e ↦ inr (first_set k y zs bs i x e p.0)
    | inr n ↦ inl (sym (get-set_other bs y.number i (b.Signal k) n) ∙ p.0, none_first y zs i n p.1)
  ]
  | inr a ↦ inr (behind k y zs i x a)
]

pub length_assigned : (k : ℕ) (zs : List Seen) (bs : List Binding) → length (assigned k zs bs) ≡ length bs
length_assigned k [] bs = refl
length_assigned k (y ∷ zs) bs = length_assigned (suc k) zs (bound_at bs y.number k) ∙ length-set bs y.number (b.Signal k)
