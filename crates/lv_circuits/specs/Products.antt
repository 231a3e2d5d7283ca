-- Sums whose highest bits are left out.
use Rattle.std.specs.Prelude.{◌≡◌, ℕ, ◌+◌, ◌*◌}

-- the whole is above the part by a multiple of the modulus
abbrev pub IsMultipleAbove : ℕ → ℕ → ℕ → Type 0
IsMultipleAbove whole part modulus = (times : ℕ) × (part + times * modulus ≡ whole)
