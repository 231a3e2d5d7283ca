-- How many bits a select names.
use Rattle.std.proofs.Common.{◌≡◌, ℕ, zero, suc, true, false, if◌then◌else◌, length, map, reverse, ap, ◌∙◌, refl}
use Rattle.std.specs.Prelude.{ℤ, pos, ◌+ℤ◌}
use Rattle.std.proofs.lemmas.List.{length-map, length-reverse}
use Rattle.lv_source.specs.Names.{Bounds}
use Rattle.lv_source.specs.Places.{bit_place, rising, bits_from, falls}

rising_length : (z : ℤ) (n : ℕ) → length (rising z n) ≡ n
rising_length z zero = refl
rising_length z (suc n) = ap suc (rising_length (z +ℤ pos 1) n)

pub from_length : (b : Bounds) (z : ℤ) (n : ℕ) → length (bits_from b z n) ≡ n
from_length b z n = elim (falls b) as (λ c. length (map (bit_place b) (if c then rising z n else reverse (rising z n))) ≡ n) [
  | true ↦ length-map (rising z n) (bit_place b) ∙ rising_length z n
  | false ↦ length-map (reverse (rising z n)) (bit_place b) ∙ (length-reverse (rising z n) ∙ rising_length z n)
]
