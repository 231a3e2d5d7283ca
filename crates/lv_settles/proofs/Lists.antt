-- Bits, names and elements of lists that are filtered.
use Rattle.std.proofs.Common.{◌≡◌, ◌⊎◌, inl, inr, ℕ, zero, suc, ◌/◌, ◌%◌, ◌^◌, ◌<◌, ◌≤◌, Bool, true, false, ◌&&◌, ◌||◌, ◌==◌, List, [], ◌∷◌, ◌++◌, map, refl, sym, ap, ◌∙◌, subst, Some}
use Rattle.std.specs.Prelude.{flat_map, filter, cond, slice_get, bytes_eq, All, if◌then◌else◌}
use Rattle.std.specs.List.{list_any, range_with_len}
use Rattle.std.proofs.lemmas.Bool.{cases_lt}
use Rattle.std.proofs.lemmas.Nat.Bits.{same_from_bits, bit_at_above, bit_at-lt}
use Rattle.std.proofs.lemmas.List.Elements.{All-nil, All-cons}
use Rattle.lv_ast.specs.Names.{Name}
use Rattle.lv_source.specs.Names.{Declared, width_of}
use Rattle.lv_source.specs.Places.{Bit, has_bit, same_bit, whole, cells, bits_below}
use Rattle.lv_source.specs.Parts.{At, width_from}
use Rattle.lv_source.specs.PartRules as r
use Rattle.lv_source.proofs.Tests.{and-right, or-left, or-right, or-split, any-split, has-head, name-itself, same_name}
use Rattle.lv_source.proofs.Facts.{some_same, at_any}
use Rattle.lv_source.proofs.Numbers.{number_of_bits, number_lt, number_bit}

-- a number that has no bits from w on
pub below_power : (n w : ℕ) → ((i : ℕ) → w ≤ i → n / 2 ^ i % 2 ≡ 0) → n < 2 ^ w
below_power n w h =
    let f : ℕ → ℕ = λ i. n / 2 ^ i % 2 in
    let two : (i : ℕ) → f i < 2 = λ i. bit_at-lt n i in
    let same : number_of_bits f w ≡ n = same_from_bits (number_of_bits f w) n (λ i. elim (cases_lt i w) [
      | inl below ↦ number_bit f two w i below
      | inr over ↦ bit_at_above (number_of_bits f w) w i (number_lt f two w) over ∙ sym (h i over)
    ]) in
    subst (λ (x : ℕ). x < 2 ^ w) same (number_lt f two w)

pub told_none : (b : Bool) (a : At) (ats : List At) → r.told_if b (a ∷ ats) ≡ [] → b ≡ false
told_none true a ats h = cc
told_none false a ats h = refl

none_left : {A : Type 0} (xs ys : List A) → xs ++ ys ≡ [] → xs ≡ []
none_left [] ys h = refl
none_left (x ∷ xs) ys h = cc

-- where each element gives something
pub filtered_none : {A B : Type 0} (f : A → List B) (q : A → Bool) (xs : List A) → ((x : A) → f x ≡ [] → ⊥) → flat_map f (filter q xs) ≡ [] → list_any q xs ≡ false
filtered_none f q [] n h = refl
filtered_none f q (x ∷ xs) n h = elim (q x) as (λ c. flat_map f (cond c (x ∷ filter q xs) (filter q xs)) ≡ [] → (c || list_any q xs) ≡ false) [
  | true ↦ λ k. absurd (n x (none_left (f x) (flat_map f (filter q xs)) k))
  | false ↦ λ k. filtered_none f q xs n k
] h

-- an element of the other part of a list
pub other_any : {A : Type 0} (t : A → Bool) (xs : List A) (k j : ℕ) (q : A) → slice_get xs j ≡ Some q → (j ≡ k → ⊥) → t q ≡ true → list_any t (r.others k xs) ≡ true
other_any t [] k j q e n h = cc
other_any t (p ∷ ps) zero zero q e n h = absurd (n refl)
other_any t (p ∷ ps) zero (suc j) q e n h = at_any t ps j q e h
other_any t (p ∷ ps) (suc k) zero q e n h = or-left (t p) (list_any t (r.others k ps)) (ap t (some_same p q e) ∙ h)
other_any t (p ∷ ps) (suc k) (suc j) q e n h = or-right (t p) (list_any t (r.others k ps)) (other_any t ps k j q e (λ i. n (ap suc i)) h)

pub any_filtered : {A : Type 0} (q t : A → Bool) (ps : List A) (k : ℕ) (p : A) → slice_get ps k ≡ Some p → q p ≡ true → t p ≡ true → list_any t (filter q ps) ≡ true
any_filtered q t [] k p e h i = cc
any_filtered q t (x ∷ xs) zero p e h i =
    let same : x ≡ p = some_same x p e in
    ap (λ c. list_any t (cond c (x ∷ filter q xs) (filter q xs))) (ap q same ∙ h) ∙ or-left (t x) (list_any t (filter q xs)) (ap t same ∙ i)
any_filtered q t (x ∷ xs) (suc k) p e h i = elim (q x) as (λ c. list_any t (cond c (x ∷ filter q xs) (filter q xs)) ≡ true) [
  | true ↦ or-right (t x) (list_any t (filter q xs)) (any_filtered q t xs k p e h i)
  | false ↦ any_filtered q t xs k p e h i
]

-- a part of the filtered list is one of the list
pub filtered_any : {A : Type 0} (q t : A → Bool) (ps : List A) → list_any t (filter q ps) ≡ true → list_any (λ p. q p && t p) ps ≡ true
filtered_any q t [] h = cc
filtered_any q t (p ∷ ps) h = elim (q p) as (λ c. list_any t (cond c (p ∷ filter q ps) (filter q ps)) ≡ true → ((c && t p) || list_any (λ p. q p && t p) ps) ≡ true) [
  | true ↦ λ k. elim (or-split (t p) (list_any t (filter q ps)) k) [ inl e ↦ or-left (t p) _ e | inr e ↦ or-right (t p) _ (filtered_any q t ps e) ]
  | false ↦ λ k. filtered_any q t ps k
] h

-- the signals that have one of the names
pub cell_of : (q : Declared → Bool) (ds : List Declared) (n : Name) → list_any (bytes_eq n) (flat_map cells (filter q ds)) ≡ true →
    (i : ℕ) × (x : Declared) × (slice_get ds i ≡ Some x) × (q x ≡ true) × (list_any (bytes_eq n) (cells x) ≡ true)
cell_of q [] n h = cc
cell_of q (x ∷ xs) n h = elim (q x) as (λ c. q x ≡ c → list_any (bytes_eq n) (flat_map cells (cond c (x ∷ filter q xs) (filter q xs))) ≡ true →
    (i : ℕ) × (y : Declared) × (slice_get (x ∷ xs) i ≡ Some y) × (q y ≡ true) × (list_any (bytes_eq n) (cells y) ≡ true)) [
      | true ↦ λ e k. elim (any-split (bytes_eq n) (cells x) (flat_map cells (filter q xs)) k) [
        | inl m ↦ (0, x, refl, e, m)
        | inr m ↦ (let rest : (i : ℕ) × (y : Declared) × (slice_get xs i ≡ Some y) × (q y ≡ true) × (list_any (bytes_eq n) (cells y) ≡ true) = cell_of q xs n m in
            (suc rest.0, rest.1, rest.2, rest.3, rest.4))
      ]
      | false ↦ λ e k. (let rest : (i : ℕ) × (y : Declared) × (slice_get xs i ≡ Some y) × (q y ≡ true) × (list_any (bytes_eq n) (cells y) ≡ true) = cell_of q xs n k in
          (suc rest.0, rest.1, rest.2, rest.3, rest.4))
    ] refl h

pub all_bits_by : (P : Bit → Type 0) (q : Bit → Bool) (bs : List Bit) → ((b : Bit) → has_bit bs b ≡ true → q b ≡ true → P b) → All P (filter q bs)
all_bits_by P q [] f = All-nil P
all_bits_by P q (b ∷ bs) f = elim (q b) as (λ c. q b ≡ c → All P (cond c (b ∷ filter q bs) (filter q bs))) [
  | true ↦ λ e. All-cons P b (filter q bs) (f b (has-head b bs) e) (all_bits_by P q bs (λ x h k. f x (or-right (same_bit x b) (has_bit bs x) h) k))
  | false ↦ λ e. all_bits_by P q bs (λ x h k. f x (or-right (same_bit x b) (has_bit bs x) h) k)
] refl

pub all_by : {A : Type 0} (P : A → Type 0) (q : A → Bool) (ps : List A) → ((k : ℕ) (p : A) → slice_get ps k ≡ Some p → q p ≡ true → P p) → All P (filter q ps)
all_by P q [] f = All-nil P
all_by P q (p ∷ ps) f = elim (q p) as (λ c. q p ≡ c → All P (cond c (p ∷ filter q ps) (filter q ps))) [
  | true ↦ λ e. All-cons P p (filter q ps) (f 0 p refl e) (all_by P q ps (λ k x g h. f (suc k) x g h))
  | false ↦ λ e. all_by P q ps (λ k x g h. f (suc k) x g h)
] refl

pub whole_of : (q : Declared → Bool) (ds : List Declared) (b : Bit) → has_bit (flat_map whole (filter q ds)) b ≡ true →
    (i : ℕ) × (x : Declared) × (slice_get ds i ≡ Some x) × (q x ≡ true) × (has_bit (whole x) b ≡ true)
whole_of q [] b h = cc
whole_of q (x ∷ xs) b h = elim (q x) as (λ c. q x ≡ c → has_bit (flat_map whole (cond c (x ∷ filter q xs) (filter q xs))) b ≡ true →
    (i : ℕ) × (y : Declared) × (slice_get (x ∷ xs) i ≡ Some y) × (q y ≡ true) × (has_bit (whole y) b ≡ true)) [
      | true ↦ λ e k. elim (any-split (same_bit b) (whole x) (flat_map whole (filter q xs)) k) [
        | inl m ↦ (0, x, refl, e, m)
        | inr m ↦ (let rest : (i : ℕ) × (y : Declared) × (slice_get xs i ≡ Some y) × (q y ≡ true) × (has_bit (whole y) b ≡ true) = whole_of q xs b m in (suc rest.0, rest.1, rest.2, rest.3, rest.4))
      ]
      | false ↦ λ e k. (let rest : (i : ℕ) × (y : Declared) × (slice_get xs i ≡ Some y) × (q y ≡ true) × (has_bit (whole y) b ≡ true) = whole_of q xs b k in
          (suc rest.0, rest.1, rest.2, rest.3, rest.4))
    ] refl h

below_named : (ks : List ℕ) (n : Name) (b : Bit) → has_bit (map (λ k. record { name = n; place = k }) ks) b ≡ true → b.name ≡ n
below_named [] n b h = cc
below_named (k ∷ ks) n b h =
    let c : Bit = record { name = n; place = k } in
    elim (or-split (same_bit b c) (has_bit (map (λ k. record { name = n; place = k }) ks) b) h) [
      | inl e ↦ same_name b.name n (and-right (b.place == k) (bytes_eq b.name n) e)
      | inr e ↦ below_named ks n b e
    ]

pub cells_named : (width : ℕ) (names : List Name) (b : Bit) → has_bit (flat_map (bits_below width) names) b ≡ true → list_any (bytes_eq b.name) names ≡ true
cells_named width [] b h = cc
cells_named width (n ∷ ns) b h = elim (any-split (same_bit b) (bits_below width n) (flat_map (bits_below width) ns) h) [
  | inl m ↦ or-left (bytes_eq b.name n) (list_any (bytes_eq b.name) ns) (ap (λ x. bytes_eq x n) (below_named (range_with_len 0 width) n b m) ∙ name-itself n)
  | inr m ↦ or-right (bytes_eq b.name n) (list_any (bytes_eq b.name) ns) (cells_named width ns b m)
]

-- a name that is no signal, or a signal that has it
pub signal_of : (ds : List Declared) (name : Name) →
    (width_from ds name ≡ 0) ⊎ ((k : ℕ) × (x : Declared) × (slice_get ds k ≡ Some x) × (list_any (bytes_eq name) (cells x) ≡ true) × (width_from ds name ≡ width_of x))
signal_of [] name = inl refl
signal_of (x ∷ ds) name = elim (list_any (bytes_eq name) (cells x)) as (λ c. list_any (bytes_eq name) (cells x) ≡ c →
    ((if c then width_of x else width_from ds name) ≡ 0) ⊎ ((k : ℕ) × (y : Declared) × (slice_get (x ∷ ds) k ≡ Some y) × (list_any (bytes_eq name) (cells y) ≡ true) ×
    ((if c then width_of x else width_from ds name) ≡ width_of y))) [
      | true ↦ λ e. inr (0, x, refl, e, refl)
      | false ↦ λ e. elim (signal_of ds name) [ inl h ↦ inl h | inr h ↦ inr (suc h.0, h.1, h.2, h.3, h.4) ]
    ] refl
