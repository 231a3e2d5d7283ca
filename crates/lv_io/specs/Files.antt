-- What a shelf tells of its files, and how a call changes them.
use Rattle.std.specs.Prelude.{◌≡◌, ◌≢◌, ◌<◌, ◌⊎◌, ℕ, List, ◌++◌, length, Option, Some, None, IfSome, IsSomeAnd}

-- the bytes of the file that has a name, where there is one
abbrev pub Files : Type 0
Files = List ℕ → Option (List ℕ)

-- where files are told, the named file is these bytes
abbrev pub HoldsFile : List ℕ → List ℕ → Option Files → Type 0
HoldsFile name bytes told = IfSome told (λ files. files name ≡ Some bytes)

-- where files are told, no file has the name
abbrev pub IsAbsent : List ℕ → Option Files → Type 0
IsAbsent name told = IfSome told (λ files. files name ≡ None)

-- where files are told, the named file has more bytes than the limit
abbrev pub IsLonger : List ℕ → ℕ → Option Files → Type 0
IsLonger name limit told = IfSome told (λ files. IsSomeAnd (files name) (λ bytes. limit < length bytes))

-- the files are told both times, and R relates them, or they are told neither time
abbrev pub AreTold : (Files → Files → Type 0) → Option Files → Option Files → Type 0
AreTold R (Some before) (Some after) = R before after
AreTold R (Some before) None = ⊥
AreTold R None (Some after) = ⊥
AreTold R None None = Unit {0}

-- no file but the named one has changed
abbrev pub ChangesOnly : List ℕ → Option Files → Option Files → Type 0
ChangesOnly name = AreTold (λ before after. (other : List ℕ) → other ≢ name → after other ≡ before other)

-- the named file holds the first of these bytes
pub record HoldsPart (name bytes : List ℕ) (files : Files) : Type 0 where
  pub part : List ℕ
  pub rest : List ℕ
  pub whole : bytes ≡ part ++ rest
  pub holds : files name ≡ Some part

-- the named file is as before, or holds the first of these bytes
abbrev pub StaysOrHoldsPart : List ℕ → List ℕ → Option Files → Option Files → Type 0
StaysOrHoldsPart name bytes = AreTold (λ before after. (after name ≡ before name) ⊎ HoldsPart name bytes after)
