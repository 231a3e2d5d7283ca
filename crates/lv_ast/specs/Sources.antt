-- The text of a design: the bytes of its files in order, with one newline byte between two.
use Rattle.std.specs.Prelude.{ℕ, List, [], ◌∷◌, ◌++◌}

abbrev pub source_text : List (List ℕ) → List ℕ
source_text [] = []
source_text (bytes ∷ []) = bytes
source_text (bytes ∷ more ∷ rest) = bytes ++ 10 ∷ source_text (more ∷ rest)
