-- Tables of words as code has them.
use Rattle.std.specs.Prelude.{ℕ, Bool, ◌==◌, List, bytes_eq}
use Rattle.std.specs.List.{list_any, slice_split}

-- whether a text of words between spaces has this one
abbrev pub is_listed : List ℕ → List ℕ → Bool
is_listed words name = list_any (bytes_eq name) (slice_split (λ c. c == 32) words)
