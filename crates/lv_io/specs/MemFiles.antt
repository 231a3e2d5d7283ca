-- The shelf in memory: its files, its calls and what they answer.
use Rattle.std.specs.Prelude.{◌≡◌, ◌≢◌, ◌<◌, ◌≤◌, ◌⊎◌, ◌==◌, ℕ, zero, suc, List, [], ◌∷◌, length, Bool, true, false, if◌then◌else◌, bytes_eq, Option, Some, None, Result, Ok, Err}
use Rattle.std.specs.List.{list_any}
use Rattle.lv_io.specs.Causes.{risen}
use Rattle.lv_io.specs.Files.{Files}
use Rattle.lv_io.specs.Outside.{ShelfState}
use Rattle.lv_io.specs.declared.mem_shelf.NamedFile.{NamedFile}
use Rattle.lv_io.specs.declared.mem_shelf.MemShelf.{MemShelf}
use Rattle.lv_io.specs.declared.shelf.ShelfError.{ShelfError}
use Rattle.lv_io.specs.declared.shelf.ShelfError.TheVariants.{Missing, Failed, TooLong, NoMemory}

-- the bytes of the first file that has the name
abbrev pub lookup : List NamedFile → Files
lookup [] name = None
lookup (file ∷ files) name = if bytes_eq file.name name then Some file.bytes else lookup files name

-- the first file that has the name stands at this place
abbrev pub StandsAt : List NamedFile → List ℕ → ℕ → Type 0
StandsAt [] name place = ⊥
StandsAt (file ∷ files) name zero = file.name ≡ name
StandsAt (file ∷ files) name (suc place) = (file.name ≢ name) × StandsAt files name place

abbrev pub files_of : MemShelf → Files
files_of shelf = lookup shelf.files.items

-- the numbers of the calls that are to fail
abbrev pub fails_of : MemShelf → List ℕ
fails_of shelf = shelf.fails.items

-- the number of the next call
abbrev pub calls_of : MemShelf → ℕ
calls_of shelf = shelf.calls

abbrev pub faults_of : MemShelf → ℕ
faults_of shelf = shelf.faults

abbrev pub misses_of : MemShelf → ℕ
misses_of shelf = shelf.misses

abbrev pub overlong_of : MemShelf → ℕ
overlong_of shelf = shelf.overlong

abbrev pub state_of : MemShelf → ShelfState
state_of shelf = record { files = Some (files_of shelf); faults = faults_of shelf; misses = misses_of shelf; overlong = overlong_of shelf }

-- the next call is to fail
abbrev pub is_listed : MemShelf → Bool
is_listed shelf = list_any (λ call. call == calls_of shelf) (fails_of shelf)

-- the answer to a read, by whether the call is to fail and by the file
abbrev pub Reads : Bool → Option (List ℕ) → ℕ → Result (List ℕ) ShelfError → Type 0
Reads true file limit result = result ≡ Err Failed
Reads false None limit result = result ≡ Err Missing
Reads false (Some bytes) limit result =
    (limit < length bytes → result ≡ Err TooLong) × (length bytes ≤ limit → (result ≡ Ok bytes) ⊎ (result ≡ Err NoMemory))

-- the answer to a write, by whether the call is to fail
abbrev pub Writes : Bool → Result (Unit {0}) ShelfError → Type 0
Writes true result = result ≡ Err Failed
Writes false result = (result ≡ Ok tt) ⊎ (result ≡ Err NoMemory)

-- the count after an answer: it rose where that is this refusal, and is as before elsewhere
abbrev pub MovesAt : {T : Type 0} → ShelfError → Result T ShelfError → ℕ → ℕ → Type 0
MovesAt refusal (Ok x) before now = now ≡ before
MovesAt refusal (Err e) before now = (e ≡ refusal → now ≡ risen before) × ((e ≡ refusal → ⊥) → now ≡ before)

-- one call later, with the same list of calls that are to fail
pub record CountsCall (before now : MemShelf) : Type 0 where
  pub fails : fails_of now ≡ fails_of before
  pub calls : calls_of now ≡ risen (calls_of before)

-- no call was made and nothing was counted
pub record KeepsCounts (before now : MemShelf) : Type 0 where
  pub fails : fails_of now ≡ fails_of before
  pub calls : calls_of now ≡ calls_of before
  pub faults : faults_of now ≡ faults_of before
  pub misses : misses_of now ≡ misses_of before
  pub overlong : overlong_of now ≡ overlong_of before
