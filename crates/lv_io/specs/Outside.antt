-- What is seen of files and an output from outside.
use Rattle.std.specs.Prelude.{◌≡◌, ℕ, ◌≤◌, ◌⊎◌, List, Option}
use Rattle.lv_io.specs.Causes.{Rose}
use Rattle.lv_io.specs.Files.{Files}

-- the files, where the shelf tells them; how often the outside failed, a file was missing and one was too long
pub record ShelfState : Type 0 where
  pub files : Option Files
  pub faults : ℕ
  pub misses : ℕ
  pub overlong : ℕ

-- the bytes that the sink was given, where it tells them, and how often it failed
pub record SinkState : Type 0 where
  pub given : Option (List ℕ)
  pub faults : ℕ

-- a shelf and a sink
pub record Outside : Type 0 where
  pub shelf : ShelfState
  pub sink : SinkState

abbrev pub outside : ShelfState → SinkState → Outside
outside shelf sink = record { shelf = shelf; sink = sink }

-- the files stay, and no count falls
pub record Goes (before after : ShelfState) : Type 0 where
  pub files : after.files ≡ before.files
  pub faults : before.faults ≤ after.faults
  pub misses : before.misses ≤ after.misses
  pub overlong : before.overlong ≤ after.overlong

-- a read, a write or the output failed between two moments
abbrev pub HasFault : Outside → Outside → Type 0
HasFault before after = Rose before.shelf.faults after.shelf.faults ⊎ Rose before.sink.faults after.sink.faults
