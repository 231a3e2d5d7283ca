-- What a run promises, each of a status.
use Rattle.std.specs.Prelude.{◌≡◌, ℕ, List, Some}
use Rattle.lv_io.specs.Given.{Gains}
use Rattle.lv_io.specs.Outside.{ShelfState, SinkState, Outside}
use Rattle.lv_ast.specs.declared.item.Module.{Module}
use Rattle.lv_ast.specs.declared.item.Source.{Source}
use Rattle.lv_contract.specs.declared.contract.Contract.{Contract}
use Rattle.lv_contract.specs.declared.named.PortText.{PortText}
use Rattle.lv_first.specs.FirstContract.{trees_of}
use Rattle.lv_first.specs.Verdicts.{IsTask, IsSafe, IsKept}
use Rattle.lv_run.specs.declared.answer.Answer.{Answer}
use Rattle.lv_run.specs.Answers.{IsInput, IsAnswer, IsReported, printed_text}

-- the sink was given the text of one answer to the words, or a part of it, and the status says so
pub record Reports (words : List (List ℕ)) (before after : Outside) (code : ℕ) : Type 0 where
  pub answer : Answer
  pub answers : IsAnswer words before.shelf after.shelf answer
  pub reported : IsReported answer before.sink after.sink code

-- a file holds a contract and a source of the form that is decided
pub record HoldsTask (before : ShelfState) (file : List ℕ) : Type 0 where
  pub contract : Contract
  pub source : Source
  pub input : IsInput before file contract source
  pub port : PortText
  pub tree : Module
  pub task : IsTask contract source port tree

-- the machine of that source is safe
pub record IsVerified (before : ShelfState) (file : List ℕ) : Type 0 where
  pub holds : HoldsTask before file
  pub safe : IsSafe holds.tree holds.contract.clock holds.contract.lookahead (trees_of holds.contract holds.port)

-- the list of all candidates proves it
pub record IsKeptIn (before : ShelfState) (file : List ℕ) : Type 0 where
  pub holds : HoldsTask before file
  pub kept : IsKept holds.tree holds.contract.clock holds.contract.lookahead (trees_of holds.contract holds.port)

-- that list does not
pub record IsUnproved (before : ShelfState) (file : List ℕ) : Type 0 where
  pub holds : HoldsTask before file
  pub unproved : IsKept holds.tree holds.contract.clock holds.contract.lookahead (trees_of holds.contract holds.port) → ⊥

-- the sink was given the canonical text of the source that a file lists
pub record IsPrinted (before after : Outside) (file : List ℕ) : Type 0 where
  pub contract : Contract
  pub source : Source
  pub input : IsInput before.shelf file contract source
  pub gains : Gains before.sink.given after.sink.given (printed_text source)
