-- Files that are read within their limits, the contract of one, and the joined text of some; and why not.
use Rattle.std.specs.Prelude.{◌≡◌, ℕ, ◌<◌, ◌≤◌, List, ◌∷◌, ◌++◌, length, Option}
use Rattle.std.specs.List.{AllZip}
use Rattle.lv_io.specs.declared.shelf.ShelfError.{ShelfError}
use Rattle.lv_io.specs.declared.shelf.ShelfError.TheVariants as s
use Rattle.lv_io.specs.Causes.{Rose}
use Rattle.lv_io.specs.Files.{Files, HoldsFile, IsAbsent, IsLonger}
use Rattle.lv_io.specs.Outside.{ShelfState}
use Rattle.lv_ast.specs.Sources.{source_text}
use Rattle.lv_contract.specs.declared.contract.Contract.{Contract}
use Rattle.lv_contract.specs.declared.error.ContractError.TheVariants as error
use Rattle.lv_contract.specs.declared.need.Need.{Need}
use Rattle.lv_contract.specs.Says.{IsContractFile}
use Rattle.lv_contract.specs.Refusals.{IsRefusal}
use Rattle.lv_steps.specs.declared.ended.Unread.{Unread}
use Rattle.lv_steps.specs.declared.ended.Unread.TheVariants as u
use Rattle.lv_steps.specs.declared.ended.Ended.{Ended}
use Rattle.lv_steps.specs.declared.ended.Ended.TheVariants as t

-- ---- one file

-- where files are told, the named file is these bytes, within the limit
pub record IsRead (limit : ℕ) (told : Option Files) (name bytes : List ℕ) : Type 0 where
  pub held : HoldsFile name bytes told
  pub short : length bytes ≤ limit

-- why a read wasn't answered
abbrev pub IsCause : ℕ → List ℕ → ShelfState → ShelfState → ShelfError → Type 0
IsCause limit name before after s.Missing = Rose before.misses after.misses × IsAbsent name before.files
IsCause limit name before after s.TooLong = Rose before.overlong after.overlong × IsLonger name limit before.files
IsCause limit name before after s.Failed = Rose before.faults after.faults
IsCause limit name before after s.NoMemory = Unit {0}

-- why one of some files isn't read
abbrev pub IsUnread : ℕ → (List ℕ → Type 0) → ShelfState → ShelfState → Unread → Type 0
IsUnread limit IsName before after (u.Missing name) = IsName name × Rose before.misses after.misses × IsAbsent name before.files
IsUnread limit IsName before after (u.TooLong name) = IsName name × Rose before.overlong after.overlong × IsLonger name limit before.files
IsUnread limit IsName before after (u.Failed name) = IsName name × Rose before.faults after.faults
IsUnread limit IsName before after u.NoMemory = Unit {0}

-- ---- the contract of a file

abbrev pub IsContract : Need → List ℕ → Contract → Type 0
IsContract need bytes c = IsContractFile bytes need c

-- the bytes are refused, and then they say no contract
abbrev pub IsNoContract : Need → List ℕ → Ended → Type 0
IsNoContract need bytes (t.Contract e) = IsRefusal bytes need e × ((c : Contract) → IsContractFile bytes need c → e ≡ error.NoMemory)
IsNoContract need bytes _ = ⊥

-- ---- the files of a design

-- each named file is read within the limit
abbrev pub AreRead : ℕ → Option Files → List (List ℕ) → List (List ℕ) → Type 0
AreRead limit told names parts = AllZip (IsRead limit told) names parts

-- the name stands in a list, and the files before it are read
pub record IsNext (limit : ℕ) (told : Option Files) (names : List (List ℕ)) (name : List ℕ) : Type 0 where
  pub front : List (List ℕ)
  pub rest : List (List ℕ)
  pub stands : names ≡ front ++ name ∷ rest
  pub parts : List (List ℕ)
  pub read : AreRead limit told front parts

abbrev pub AreUnread : ℕ → (List ℕ → Type 0) → ShelfState → ShelfState → Ended → Type 0
AreUnread limit IsName before after (t.File unread) = IsUnread limit IsName before after unread
AreUnread limit IsName before after _ = ⊥

-- the parts with newline bytes between them are this text, within the limit
pub record IsJoined (limit : ℕ) (parts : List (List ℕ)) (text : List ℕ) : Type 0 where
  pub joined : text ≡ source_text parts
  pub short : length text ≤ limit

-- they are longer, and so long
abbrev pub IsUnjoined : ℕ → List (List ℕ) → Ended → Type 0
IsUnjoined limit parts (t.Source n) = (n ≡ length (source_text parts)) × (limit < n)
IsUnjoined limit parts t.NoMemory = Unit {0}
IsUnjoined limit parts _ = ⊥
