-- Bytes as words.
use Rattle.std.specs.Prelude.{◌≡◌, ℕ, ◌≤◌, ◌<◌, ◌+◌, ◌*◌, ◌-◌, ◌^◌, Bool, ◌||◌, if◌then◌else◌, ◌==◌, true, List, [], ◌∷◌, ◌++◌, take, drop, length, get_or, Option, Some, None}
use Rattle.lv_cert.specs.Words.{Word, word}
use Rattle.lv_cert.specs.Parts.{State}

abbrev pub is_end : ℕ → Bool
is_end c = (c == 32) || (c == 10)

-- the words that end in these bytes, where w began the first
abbrev pub cut : List ℕ → List ℕ → List Word
cut w [] = []
cut w (c ∷ cs) = if is_end c then word w (c == 10) ∷ cut [] cs else cut (w ++ c ∷ []) cs

-- what stands behind the last of them
abbrev pub rest_of : List ℕ → List ℕ → List ℕ
rest_of w [] = w
rest_of w (c ∷ cs) = if is_end c then rest_of [] cs else rest_of (w ++ c ∷ []) cs

abbrev pub state_of : List ℕ → ℕ → State
state_of bytes line = record { words = cut [] bytes; rest = rest_of [] bytes; line = line }

abbrev pub IsAtEnd : State → Type 0
IsAtEnd state = (state.words ≡ []) × (state.rest ≡ [])

-- a decimal digit
abbrev pub IsDigit : ℕ → Type 0
IsDigit letter = (48 ≤ letter) × (letter ≤ 57)

-- no digit, or one with which the number doesn't fit 128 bits
abbrev pub IsTooMuch : ℕ → ℕ → Type 0
IsTooMuch number letter = IsDigit letter → 2 ^ 128 ≤ number * 10 + (letter - 48)

-- neither a space nor a newline is among the first i bytes
pub record IsAt (bytes : List ℕ) (i : ℕ) : Type 0 where
  pub words : cut [] bytes ≡ cut (take i bytes) (drop i bytes)
  pub tail : rest_of [] bytes ≡ rest_of (take i bytes) (drop i bytes)

-- where the first word ends, or that none does
abbrev pub IsEnd : List ℕ → Option ℕ → Type 0
IsEnd bytes None = cut [] bytes ≡ []
IsEnd bytes (Some i) = (i < length bytes) × (is_end (get_or bytes i 0) ≡ true) × IsAt bytes i
