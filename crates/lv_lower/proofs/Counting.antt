-- The bits of all registers, signal by signal.
use Rattle.std.proofs.Common.{◌≡◌, inl, inr, ℕ, zero, suc, ◌+◌, ◌*◌, ◌<◌, Bool, true, false, List, [], ◌∷◌, length, map, take, refl, sym, ap, ◌∙◌, arith, get_or, Option, Some, None}
use Rattle.std.specs.Prelude.{filter, cond, flat_map, bytes_eq}
use Rattle.std.specs.List.{list_any, range_with_len}
use Rattle.std.proofs.Math.Nat.{suc-mul}
use Rattle.std.proofs.lemmas.List.{length-append, length-map}
use Rattle.lv_ast.specs.Names.{Name}
use Rattle.lv_source.specs.Names.{Bounds, Declared, Sort, Input, Net, Variable, Clock, Constant, Index, Other, is_variable_sort, is_signal_sort, width_of, low, size}
use Rattle.lv_source.specs.Places.{Bit, bits_below, cells, cells_by}
use Rattle.lv_source.specs.Parts.{is_signal, width_from}
use Rattle.lv_source.specs.Views.{View, is_register_view, register_view_bits}
use Rattle.lv_source.proofs.Refused.{In}
use Rattle.lv_source.proofs.Summaries.{flat-join}
use Rattle.lv_source.proofs.Tests.{and-left, name-itself, or-left, or-right}
use Rattle.lv_flat.specs.Cells.{all_cells, AreDistinct}
use Rattle.lv_flat.specs.Signals.{Signals}
use Rattle.lv_lower_blocks.specs.Aimed.{cell_count}
use Rattle.lv_settles.specs.Rules.{signals_in}
use Rattle.lv_settles.proofs.Cells.{same_signal, width_is}
use Rattle.lv_lower.specs.Bits.{signal_bits, bits_if, bits_of}
use Rattle.lv_lower.proofs.Beginning.{in_signals}

pub bits-more : (fs : List Bool) (S : Signals) (i : ℕ) (f : Bool) (d : Declared) → i < length fs → i < length S → f ≡ get_or fs i f → d ≡ get_or S i d →
    bits_of (take (i + 1) fs) (take (i + 1) S) ≡ bits_of (take i fs) (take i S) + bits_if f d
bits-more [] S i f d h l e g = absurd (omega arith)
bits-more (x ∷ fs) [] i f d h l e g = absurd (omega arith)
bits-more (x ∷ fs) (y ∷ S) zero f d h l e g =
    let a : bits_if x y ≡ bits_if f d = ap (λ z. bits_if z y) (sym e) ∙ ap (bits_if f) (sym g) in
    (let z : bits_if x y + 0 ≡ 0 + bits_if f d = omega arith in z)
bits-more (x ∷ fs) (y ∷ S) (suc i) f d h l e g =
    let r : bits_of (take (i + 1) fs) (take (i + 1) S) ≡ bits_of (take i fs) (take i S) + bits_if f d = bits-more fs S i f d (omega arith) (omega arith) e g in
    let n : suc i + 1 ≡ suc (i + 1) = omega arith in
    let z : bits_if x y + bits_of (take (i + 1) fs) (take (i + 1) S) ≡ bits_if x y + bits_of (take i fs) (take i S) + bits_if f d = omega arith in
    ap (λ k. bits_of (take k (x ∷ fs)) (take k (y ∷ S))) n ∙ z

-- ---- the bits of one signal

range-count : (a n : ℕ) → length (range_with_len a n) ≡ n
range-count a zero = refl
range-count a (suc n) = ap suc (range-count (a + 1) n)

below-count : (width : ℕ) (name : Name) → length (bits_below width name) ≡ width
below-count width name = length-map (range_with_len 0 width) _ ∙ range-count 0 width

cells-count : (o : Option Bounds) (path : Name) → length (cells_by o path) ≡ cell_count o
cells-count None path = refl
cells-count (Some b) path = length-map (range_with_len (low b) (size b)) _ ∙ range-count (low b) (size b)

module _ (ss : List Declared) where
  abbrev bits : Name → List Bit
  bits name = bits_below (width_from ss name) name

  names-count : (w : ℕ) (ns : List Name) → ((n : Name) → list_any (bytes_eq n) ns ≡ true → width_from ss n ≡ w) → length (flat_map bits ns) ≡ length ns * w
  names-count w [] f = omega arith
  names-count w (n ∷ ns) f =
      let one : length (bits n) ≡ w = below-count (width_from ss n) n ∙ f n (or-left (bytes_eq n n) (list_any (bytes_eq n) ns) (name-itself n)) in
      let rest : length (flat_map bits ns) ≡ length ns * w = names-count w ns (λ m h. f m (or-right (bytes_eq m n) (list_any (bytes_eq m) ns) h)) in
      let all : length (flat_map bits (n ∷ ns)) ≡ length (bits n) + length (flat_map bits ns) = length-append (bits n) (flat_map bits ns) in
      let end : suc (length ns) * w ≡ length ns * w + w = suc-mul (length ns) w in
      let sum : length (flat_map bits (n ∷ ns)) ≡ length ns * w + w = omega arith in
      sum ∙ sym end

  abbrev Knows : Declared → Type 0
  Knows d = (n : Name) → list_any (bytes_eq n) (cells d) ≡ true → width_from ss n ≡ width_of d

  signal-count : (d : Declared) → Knows d → length (flat_map bits (cells d)) ≡ signal_bits d
  signal-count d f = names-count (width_of d) (cells d) f ∙ ap (λ n. n * width_of d) (cells-count d.array d.path)

  module _ (vs : List View) where
    abbrev counted : List Declared → List Bit
    counted xs = flat_map bits (flat_map cells (filter (is_register_view vs) xs))

    variable_signal : (s : Sort) → is_variable_sort s ≡ true → is_signal_sort s ≡ true
    variable_signal Input h = cc
    variable_signal Net h = cc
    variable_signal Variable h = refl
    variable_signal Clock h = cc
    variable_signal (Constant x) h = cc
    variable_signal (Index g) h = cc
    variable_signal Other h = cc

    all-counted : (xs : List Declared) → ((d : Declared) → In d xs → is_signal d ≡ true → Knows d) →
        bits_of (map (is_register_view vs) xs) xs ≡ length (counted (filter is_signal xs))
    all-counted [] f = refl
    all-counted (d ∷ xs) f =
        let rest : bits_of (map (is_register_view vs) xs) xs ≡ length (counted (filter is_signal xs)) = all-counted xs (λ x i h. f x (inr i) h) in
        elim (is_signal d) as (λ c. is_signal d ≡ c → bits_if (is_register_view vs d) d + bits_of (map (is_register_view vs) xs) xs ≡
        length (counted (cond c (d ∷ filter is_signal xs) (filter is_signal xs)))) [
          | true ↦ λ e. elim (is_register_view vs d) as (λ r. bits_if r d + bits_of (map (is_register_view vs) xs) xs ≡
              length (flat_map bits (flat_map cells (cond r (d ∷ filter (is_register_view vs) (filter is_signal xs)) (filter (is_register_view vs) (filter is_signal xs)))))) [
                | true ↦ ap (λ z. signal_bits d + z) rest ∙ (ap (λ z. z + length (counted (filter is_signal xs))) (sym (signal-count d (f d (inl refl) e))) ∙
                    (sym (length-append (flat_map bits (cells d)) (counted (filter is_signal xs))) ∙
                    ap (λ (bs : List Bit). length bs) (sym (flat-join bits (cells d) (flat_map cells (filter (is_register_view vs) (filter is_signal xs)))))))
                | false ↦ (let z : 0 + bits_of (map (is_register_view vs) xs) xs ≡ length (counted (filter is_signal xs)) = omega arith in z)
              ]
          | false ↦ λ e. elim (is_register_view vs d) as (λ r. is_register_view vs d ≡ r → bits_if r d + bits_of (map (is_register_view vs) xs) xs ≡ length (counted (filter is_signal xs))) [
            | true ↦ λ h. absurd (let t : true ≡ false = sym (variable_signal d.sort (and-left (is_variable_sort d.sort) _ h)) ∙ e in cc)
            | false ↦ λ h. (let z : 0 + bits_of (map (is_register_view vs) xs) xs ≡ length (counted (filter is_signal xs)) = omega arith in z)
          ] refl
        ] refl

pub bits-are : (S : Signals) (vs : List View) → AreDistinct (all_cells S) → bits_of (map (is_register_view vs) S) S ≡ length (register_view_bits (signals_in S) vs)
bits-are S vs distinct = all-counted (signals_in S) vs S (λ d i h n c.
    (let j : In d (signals_in S) = in_signals S d i h in
    width_is (signals_in S) n d j (λ y k e. same_signal S distinct y d n k j e c) c))
