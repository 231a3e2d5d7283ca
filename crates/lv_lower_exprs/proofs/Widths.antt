-- How many bits a name has doesn't depend on the values of its indices.
use Rattle.std.proofs.Common.{◌≡◌, ℕ, suc, zero, Bool, true, false, List, [], ◌∷◌, length, map, reverse, refl, sym, ◌∙◌, ap, Option, Some, None}
use Rattle.std.proofs.lemmas.List.{length-map, length-reverse}
use Rattle.std.specs.Prelude.{sum, if◌then◌else◌, ℤ, pos, negsuc, ◌+ℤ◌, decimal}
use Rattle.lv_ast.specs.Names.{at_index}
use Rattle.lv_source.specs.Names.{Declared, Bounds, Valuation, known, low, high, is_signal_sort}
use Rattle.lv_source.specs.Values.{Chosen, nowhere}
use Rattle.lv_source.specs.Places.{Place, falls, within, rising, bit_place, bits_from, count_of, lowest, bits_of, element, place_by, place_of, nowhere_place}
use Rattle.lv_source.specs.Meaning.{meant}
use Rattle.lv_source.specs.Effect.{Piece, aimed, piece_place, places, bits_in}

rising_length : (z : ℤ) (n : ℕ) → length (rising z n) ≡ n
rising_length z zero = refl
rising_length z (suc n) = ap suc (rising_length (z +ℤ pos 1) n)

pub from_length : (b : Bounds) (z : ℤ) (n : ℕ) → length (bits_from b z n) ≡ n
from_length b z n = elim (falls b) as (λ c. length (map (bit_place b) (if c then rising z n else reverse (rising z n))) ≡ n) [
  | true ↦ length-map (rising z n) (bit_place b) ∙ rising_length z n
  | false ↦ length-map (reverse (rising z n)) (bit_place b) ∙ (length-reverse (rising z n) ∙ rising_length z n)
]

bits_of_length : (d : Declared) (ss : List Chosen) (v w : Valuation) → length (bits_of d ss v) ≡ length (bits_of d ss w)
bits_of_length d [] v w = refl
bits_of_length d (s ∷ ss) v w = from_length d.bounds (lowest s v) (count_of s) ∙ sym (from_length d.bounds (lowest s w) (count_of s))

nowhere_length : (bits : List (Option ℕ)) → length (nowhere_place bits).bits ≡ length bits
nowhere_length bits = length-map bits (λ k. None)

element_length : (d : Declared) (b : Bounds) (z : ℤ) (ss : List Chosen) (v : Valuation) → length (element d b z ss v).bits ≡ length (bits_of d ss v)
element_length d b (negsuc i) ss v = nowhere_length (bits_of d ss v)
element_length d b (pos i) ss v =
    elim (within (low b) (high b) i) as (λ c. length (if c then (let p : Place = record { name = at_index d.path (decimal i); bits = bits_of d ss v } in p) else nowhere_place (bits_of d ss v)).bits ≡ length (bits_of d ss v)) [
      | true ↦ refl
      | false ↦ nowhere_length (bits_of d ss v)
    ]

place_length : (o : Option Bounds) (d : Declared) (ss : List Chosen) (v w : Valuation) → length (place_by o d ss v).bits ≡ length (place_by o d ss w).bits
place_length None d ss v w = bits_of_length d ss v w
place_length (Some b) d [] v w = refl
place_length (Some b) d (s ∷ ss) v w = element_length d b (lowest s v) ss v ∙ (bits_of_length d ss v w ∙ sym (element_length d b (lowest s w) ss w))

aimed_length : (c : Bool) (p q : Place) → length p.bits ≡ length q.bits → length (aimed c p).bits ≡ length (aimed c q).bits
aimed_length true p q h = h
aimed_length false p q h = nowhere_length p.bits ∙ (h ∙ sym (nowhere_length q.bits))

piece_length : (v w : Valuation) (p : Piece) → length (piece_place v p).bits ≡ length (piece_place w p).bits
piece_length v w p =
    let d : Declared = known p.declared in
    aimed_length (is_signal_sort d.sort) (place_of d (map meant p.choices) v) (place_of d (map meant p.choices) w) (place_length d.array d (map meant p.choices) v w)

lengths_fixed : (v : Valuation) (ps : List Piece) → map (λ (p : Place). length p.bits) (places v ps) ≡ map (λ (p : Place). length p.bits) (places nowhere ps)
lengths_fixed v [] = refl
lengths_fixed v (p ∷ ps) =
    ap (λ n. n ∷ map (λ (p : Place). length p.bits) (places v ps)) (piece_length v nowhere p) ∙ ap (λ ns. length (piece_place nowhere p).bits ∷ ns) (lengths_fixed v ps)

pub bits_fixed : (v : Valuation) (ps : List Piece) → bits_in (places v ps) ≡ bits_in (places nowhere ps)
bits_fixed v ps = ap sum (lengths_fixed v ps)
