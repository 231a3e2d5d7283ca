-- Words and the text that lines of them are.
use Rattle.std.specs.Prelude.{ℕ, Bool, true, false, if◌then◌else◌, List, [], ◌∷◌, ◌++◌, flat_map}

-- a word, and whether it is the last of its line
pub record Word : Type 0 where
  pub letters : List ℕ
  pub last : Bool

abbrev pub word : List ℕ → Bool → Word
word letters last = record { letters = letters; last = last }

-- a space stands behind a word, a newline behind the last of a line
abbrev pub end_of : Bool → ℕ
end_of last = if last then 10 else 32

abbrev pub spelled : Word → List ℕ
spelled w = w.letters ++ end_of w.last ∷ []

-- the words of a line
abbrev pub marked : List (List ℕ) → List Word
marked [] = []
marked (w ∷ []) = word w true ∷ []
marked (w ∷ v ∷ ws) = word w false ∷ marked (v ∷ ws)

-- the words of lines
abbrev pub words_of : List (List (List ℕ)) → List Word
words_of lines = flat_map marked lines

-- the text of words
abbrev pub spell : List Word → List ℕ
spell ws = flat_map spelled ws

-- the text of lines
abbrev pub text_of : List (List (List ℕ)) → List ℕ
text_of lines = spell (words_of lines)
