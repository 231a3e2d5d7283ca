-- Numbers and words by their bits.
use Rattle.std.specs.Prelude.{ℕ, zero, suc, ◌+◌, ◌*◌, Bool, List, [], ◌∷◌, map}
use Rattle.lv_bits.specs.Words.{Bits}
use Rattle.lv_bits.specs.Values.{bit}

-- the number that these bits mean, the lowest bit first
abbrev pub number : List Bool → ℕ
number [] = 0
number (b ∷ bs) = number bs * 2 + bit b

-- the values of the variables from k on, the lowest bit first
abbrev pub bits_from : (ℕ → Bool) → ℕ → ℕ → List Bool
bits_from values k zero = []
bits_from values k (suc n) = values k ∷ bits_from values (k + 1) n

-- the words of these widths whose bits are the variables from k on
abbrev pub words_from : (ℕ → Bool) → ℕ → List ℕ → List Bits
words_from values k [] = []
words_from values k (w ∷ ws) = record { width = w; value = number (bits_from values k w) } ∷ words_from values (k + w) ws

-- the widths of words
abbrev pub widths_of : List Bits → List ℕ
widths_of words = map (λ word. word.width) words
