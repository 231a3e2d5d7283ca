-- The bits that a name with selects stands for are bits of its signal.
use Rattle.std.proofs.Common.{◌≡◌, inl, inr, ℕ, zero, suc, ◌+◌, ◌-◌, ◌<◌, ◌≤◌, Bool, true, false, not, List, [], ◌∷◌, map, refl, sym, ap, ◌∙◌, arith, Option, Some, None}
use Rattle.std.specs.Prelude.{flat_map, bytes_eq, if◌then◌else◌, ℤ, pos, negsuc, decimal, reverse, nat_lt}
use Rattle.std.specs.List.{list_any, range_with_len}
use Rattle.std.proofs.lemmas.Bool.Decides.{nat_tests}
use Rattle.lv_ast.specs.Names.{Name, at_index}
use Rattle.lv_source.specs.Names.{Bounds, Declared, Valuation, low, high, size, width_of}
use Rattle.lv_source.specs.Values.{Chosen}
use Rattle.lv_source.specs.Places.{Bit, Place, has_bit, same_bit, some_bit, place_bits, place_of, place_by, element, bits_of, bit_place, all_bits, falls, within, rising, lowest, count_of, whole, cells, cells_by, bits_below, nowhere_place}
use Rattle.lv_source.proofs.Each.{Each, each-imp, each-join}
use Rattle.lv_source.proofs.Tests.{or-split, or-left, any-left, any-right, any-map, any-range, name-itself, same_name, bit-itself, same_bits}

abbrev pub InWidth : ℕ → Option ℕ → Type 0
InWidth n None = Unit {0}
InWidth n (Some k) = k < n

-- ---- bits of a whole signal

pub below_has : (width k : ℕ) (name : Name) → k < width → has_bit (bits_below width name) (record { name = name; place = k }) ≡ true
below_has width k name h =
    let b : Bit = record { name = name; place = k } in
    let f : ℕ → Bit = λ i. record { name = name; place = i } in
    let p : ℕ → Bool = λ i. same_bit b (f i) in
    let e : 0 + k ≡ k = omega arith in
    sym (any-map (same_bit b) f (range_with_len 0 width)) ∙ any-range p 0 width k h (ap p e ∙ bit-itself b)

pub cells_have : (width k : ℕ) (names : List Name) (name : Name) → list_any (bytes_eq name) names ≡ true → k < width →
    has_bit (flat_map (bits_below width) names) (record { name = name; place = k }) ≡ true
cells_have width k [] name c h = cc
cells_have width k (n ∷ ns) name c h =
    let b : Bit = record { name = name; place = k } in
    elim (or-split (bytes_eq name n) (list_any (bytes_eq name) ns) c) [
      | inl e ↦ any-left (same_bit b) (bits_below width n) (flat_map (bits_below width) ns)
          (ap (λ (m : Name). has_bit (bits_below width m) b) (sym (same_name name n e)) ∙ below_has width k name h)
      | inr e ↦ any-right (same_bit b) (bits_below width n) (flat_map (bits_below width) ns) (cells_have width k ns name e h)
    ]

inside : (d : Declared) (name : Name) → list_any (bytes_eq name) (cells d) ≡ true → (bits : List (Option ℕ)) → Each (InWidth (width_of d)) bits →
    (b : Bit) → has_bit (flat_map (some_bit name) bits) b ≡ true → has_bit (whole d) b ≡ true
inside d name c [] w b h = cc
inside d name c (None ∷ ks) w b h = inside d name c ks w.1 b h
inside d name c (Some k ∷ ks) w b h =
    let a : Bit = record { name = name; place = k } in
    elim (or-split (same_bit b a) (has_bit (flat_map (some_bit name) ks) b) h) [
      | inl e ↦ ap (has_bit (whole d)) (same_bits b a e) ∙ cells_have (width_of d) k (cells d) name c w.0
      | inr e ↦ inside d name c ks w.1 b e
    ]

pub outside : (bits : List (Option ℕ)) (b : Bit) → has_bit (place_bits (nowhere_place bits)) b ≡ true → ⊥
outside [] b h = cc
outside (k ∷ ks) b h = outside ks b h

-- ---- places in the width

grown : (n : ℕ) (o : Option ℕ) → InWidth n o → InWidth (suc n) o
grown n None h = tt
grown n (Some k) h = omega arith

all_within : (n : ℕ) → Each (InWidth n) (all_bits n)
all_within zero = tt
all_within (suc n) =
    each-join (InWidth (suc n)) (all_bits n) (Some n ∷ []) (each-imp (InWidth n) (InWidth (suc n)) (all_bits n) (grown n) (all_within n)) (let e : n < suc n = omega arith in (e, tt))

placed : (b : Bounds) (i : ℕ) → within (low b) (high b) i ≡ true → (if falls b then i - b.right else b.right - i) < size b
placed b i h = elim (nat_lt b.left b.right) as (λ c. nat_lt b.left b.right ≡ c → (if not c then i - b.right else b.right - i) < size b) [
  | true ↦ λ e. grind (arith, nat_tests, h)
  | false ↦ λ e. grind (arith, nat_tests, h)
] refl

bit_within : (b : Bounds) (z : ℤ) → InWidth (size b) (bit_place b z)
bit_within b (negsuc i) = tt
bit_within b (pos i) = elim (within (low b) (high b) i) as (λ c. within (low b) (high b) i ≡ c → InWidth (size b) (if c then Some (if falls b then i - b.right else b.right - i) else None)) [
  | true ↦ λ e. placed b i e
  | false ↦ λ e. tt
] refl

each_within : (b : Bounds) (zs : List ℤ) → Each (InWidth (size b)) (map (bit_place b) zs)
each_within b [] = tt
each_within b (z ∷ zs) = (bit_within b z, each_within b zs)

bits_within : (d : Declared) (ss : List Chosen) (v : Valuation) → Each (InWidth (width_of d)) (bits_of d ss v)
bits_within d [] v = all_within (width_of d)
bits_within d (s ∷ ss) v = each_within d.bounds (if falls d.bounds then rising (lowest s v) (count_of s) else reverse (rising (lowest s v) (count_of s)))

cell_has : (b : Bounds) (path : Name) (i : ℕ) → within (low b) (high b) i ≡ true → list_any (bytes_eq (at_index path (decimal i))) (cells_by (Some b) path) ≡ true
cell_has b path i h =
    let name : ℕ → Name = λ k. at_index path (decimal k) in
    let p : ℕ → Bool = λ k. bytes_eq (name i) (name k) in
    let above : low b ≤ i = grind (arith, nat_tests, h) in
    let below : i ≤ high b = grind (arith, nat_tests, h) in
    let fits : i - low b < size b = omega arith in
    let e : low b + (i - low b) ≡ i = omega arith in
    sym (any-map (bytes_eq (name i)) name (range_with_len (low b) (size b))) ∙ any-range p (low b) (size b) (i - low b) fits (ap p e ∙ name-itself (name i))

element_within : (d : Declared) (b : Bounds) → d.array ≡ Some b → (z : ℤ) (ss : List Chosen) (v : Valuation) (x : Bit) →
    has_bit (place_bits (element d b z ss v)) x ≡ true → has_bit (whole d) x ≡ true
element_within d b e (negsuc i) ss v x h = absurd (outside (bits_of d ss v) x h)
element_within d b e (pos i) ss v x h =
    elim (within (low b) (high b) i) as (λ c. within (low b) (high b) i ≡ c →
    has_bit (place_bits (if c then (let p : Place = record { name = at_index d.path (decimal i); bits = bits_of d ss v } in p) else nowhere_place (bits_of d ss v))) x ≡ true → has_bit (whole d) x ≡ true) [
      | true ↦ λ k j. inside d (at_index d.path (decimal i)) (ap (λ o. list_any (bytes_eq (at_index d.path (decimal i))) (cells_by o d.path)) e ∙ cell_has b d.path i k) (bits_of d ss v) (bits_within d ss v) x j
      | false ↦ λ k j. absurd (outside (bits_of d ss v) x j)
    ] refl h

place_by_within : (d : Declared) (o : Option Bounds) → d.array ≡ o → (ss : List Chosen) (v : Valuation) (x : Bit) →
    has_bit (place_bits (place_by o d ss v)) x ≡ true → has_bit (whole d) x ≡ true
place_by_within d None e ss v x h =
    inside d d.path (ap (λ o. list_any (bytes_eq d.path) (cells_by o d.path)) e ∙ or-left (bytes_eq d.path d.path) false (name-itself d.path)) (bits_of d ss v) (bits_within d ss v) x h
place_by_within d (Some b) e [] v x h = absurd (outside (all_bits (width_of d)) x h)
place_by_within d (Some b) e (s ∷ ss) v x h = element_within d b e (lowest s v) ss v x h

pub place_within : (d : Declared) (ss : List Chosen) (v : Valuation) (x : Bit) → has_bit (place_bits (place_of d ss v)) x ≡ true → has_bit (whole d) x ≡ true
place_within d ss v x h = place_by_within d d.array refl ss v x h
