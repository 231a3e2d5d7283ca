-- The steps of a run up to syntax, as a chain.
use Rattle.std.specs.Prelude.{◌≡◌, ℕ, List}
use Rattle.lv_io.specs.Outside.{ShelfState}
use Rattle.lv_ast.specs.declared.item.Source.{Source}
use Rattle.lv_contract.specs.declared.contract.Contract.{Contract}
use Rattle.lv_contract.specs.declared.need.Need.{Need}
use Rattle.lv_steps.specs.declared.files.Limits.{Limits}
use Rattle.lv_steps.specs.Step.{Step, followed_by, keeping}
use Rattle.lv_steps.specs.Files.{IsRead, AreRead, AreUnread, IsNext, IsContract, IsNoContract, IsJoined, IsUnjoined}
use Rattle.lv_steps.specs.Texts.{Lexed, IsLexed, IsUnlexed, IsFolded, IsUnfolded, IsSpelled, IsUnspelled}

-- ---- tokens, directives, syntax

abbrev pub lexes : Step (List ℕ) Lexed
lexes = record { Passes = IsLexed; Refuses = IsUnlexed }

abbrev pub folds : Step Lexed Lexed
folds = record { Passes = IsFolded; Refuses = IsUnfolded }

abbrev pub spells : Step Lexed Source
spells = record { Passes = λ folded source. IsSpelled folded.text folded.list source; Refuses = λ folded e. IsUnspelled folded.text folded.list e }

-- from the text to the source
abbrev pub reads_source : Step (List ℕ) Source
reads_source = followed_by lexes (followed_by folds spells)

-- ---- files

module _ (limits : Limits) (before after : ShelfState) where
  abbrev pub reads_contract_file : Step (List ℕ) (List ℕ)
  reads_contract_file = record {
    Passes = IsRead limits.file before.files;
    Refuses = λ file e. AreUnread limits.file (λ name. name ≡ file) before after e;
  }

  abbrev pub reads_files : Step Contract (List (List ℕ))
  reads_files = record {
    Passes = λ c parts. AreRead limits.file before.files c.files parts;
    Refuses = λ c e. AreUnread limits.file (IsNext limits.file before.files c.files) before after e;
  }

  abbrev pub joins : Step (List (List ℕ)) (List ℕ)
  joins = record { Passes = IsJoined limits.text; Refuses = IsUnjoined limits.text }

  -- from the contract to the text, and to the source
  abbrev pub reads_text : Step Contract (List ℕ)
  reads_text = followed_by reads_files joins

  abbrev pub reads_design : Step Contract Source
  reads_design = followed_by reads_text reads_source

-- ---- all of them

abbrev pub says : Need → Step (List ℕ) Contract
says need = record { Passes = IsContract need; Refuses = IsNoContract need }

module _ (limits : Limits) (need : Need) (before after : ShelfState) where
  abbrev pub reads_contract : Step (List ℕ) Contract
  reads_contract = followed_by (reads_contract_file limits before after) (says need)

  -- from the name of the contract file to its contract and the source
  abbrev pub reads_input : Step (List ℕ) (Contract × Source)
  reads_input = keeping reads_contract (reads_design limits before after)
