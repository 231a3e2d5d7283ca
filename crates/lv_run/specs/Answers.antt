-- What a run answers, and when each answer comes.
use Rattle.std.specs.Prelude.{◌≡◌, ℕ, List, None, ◌⊎◌}
use Rattle.lv_io.specs.Causes.{Rose}
use Rattle.lv_io.specs.Given.{Gains, GainsPart}
use Rattle.lv_io.specs.Outside.{ShelfState, SinkState, Outside}
use Rattle.lv_ast.specs.declared.item.Source.{Source}
use Rattle.lv_contract.specs.declared.contract.Contract.{Contract}
use Rattle.lv_contract.specs.declared.need.Need.TheVariants as need
use Rattle.lv_first.specs.declared.judging.Verdict.{Verdict}
use Rattle.lv_first.specs.Verdicts.{IsJudged}
use Rattle.lv_print.specs.Written as written
use Rattle.lv_print.specs.Sources.{source_tokens}
use Rattle.lv_steps.specs.declared.ended.Ended.{Ended}
use Rattle.lv_steps.specs.declared.files.Limits.{Limits}
use Rattle.lv_steps.specs.Step.{Step}
use Rattle.lv_steps.specs.Chain.{reads_input}
use Rattle.lv_words.specs.declared.modes.Asked.TheVariants as asked
use Rattle.lv_words.specs.Lines.{IsAsked}
use Rattle.lv_run.specs.declared.answer.Answer.{Answer}
use Rattle.lv_run.specs.declared.answer.Answer.TheVariants as a
use Rattle.lv_run.specs.Texts.{told_of}

-- ---- the words: two modes are built

abbrev pub Verifies : List (List ℕ) → List ℕ → Type 0
Verifies words file = IsAsked words (asked.Verify file None)

abbrev pub Prints : List (List ℕ) → List ℕ → Type 0
Prints words file = IsAsked words (asked.Print file)

-- the words ask to verify or to print this file
abbrev pub IsFor : List (List ℕ) → List ℕ → Type 0
IsFor words file = Verifies words file ⊎ Prints words file

-- some file
pub record IsCommandLine (words : List (List ℕ)) : Type 0 where
  pub file : List ℕ
  pub asks : IsFor words file

-- ---- the steps of a run

-- 4,194,304 bytes
abbrev pub run_limits : Limits
run_limits = record { file = 4194304; text = 4194304 }

abbrev pub steps : ShelfState → ShelfState → Step (List ℕ) (Contract × Source)
steps before after = reads_input run_limits need.Nothing before after

-- the contract of a file, and the source that the files which it lists spell, all within their limits
abbrev pub IsInput : ShelfState → List ℕ → Contract → Source → Type 0
IsInput before file c s = (steps before before).Passes file (c, s)

-- why a run ends at a step: all before it pass
abbrev pub IsEnd : ShelfState → ShelfState → List ℕ → Ended → Type 0
IsEnd before after file e = (steps before after).Refuses file e

-- ---- answers and their causes

-- the canonical text of a source
abbrev pub printed_text : Source → List ℕ
printed_text s = written.text_of (source_tokens s)

pub data IsAnswer (words : List (List ℕ)) (before after : ShelfState) : Answer → Type 0 where
  judged : (file : List ℕ) (c : Contract) (s : Source) (v : Verdict) → Verifies words file → IsInput before file c s → IsJudged c s v → IsAnswer words before after (a.Judged v)
  printed : (file : List ℕ) (c : Contract) (s : Source) → Prints words file → IsInput before file c s → IsAnswer words before after (a.Printed (printed_text s))
  ended : (file : List ℕ) (e : Ended) → IsFor words file → IsEnd before after file e → IsAnswer words before after (a.Ended e)
  usage : (IsCommandLine words → ⊥) → IsAnswer words before after a.Usage
  no_memory : IsAnswer words before after a.NoMemory

-- what the sink was given of an answer's text, and the status
pub data IsReported (answer : Answer) (before after : SinkState) : ℕ → Type 0 where
  -- all of it
  told : Gains before.given after.given (told_of answer).text → IsReported answer before after (told_of answer).code
  -- a part, as the sink failed
  cut : GainsPart before.given after.given (told_of answer).text → Rose before.faults after.faults → IsReported answer before after 6
  -- nothing, for want of memory
  unwritten : after.given ≡ before.given → IsReported answer before after 7
