-- Tests and numbers.
use Rattle.std.proofs.Common.{◌≡◌, ℕ, ◌≤◌, ◌<◌, ◌^◌, Bool, true, false, refl, inl, inr, ◌⊎◌}
use Rattle.lv_bits.specs.Values.{extended}
use Rattle.lv_bits.proofs.Fits.{extended_lt}

pub split : (b : Bool) → (b ≡ true) ⊎ (b ≡ false)
split true = inl refl
split false = inr refl

pub extended_fits : (signed : Bool) (w W a : ℕ) → w ≤ W → a < 2 ^ w → extended signed w W a < 2 ^ W
extended_fits signed w W a h k = extended_lt signed w W a h k
