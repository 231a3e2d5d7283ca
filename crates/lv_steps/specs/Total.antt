-- An input passes a step or is refused by it, for a cause of its own.
use Rattle.std.specs.Prelude.{◌≡◌, ℕ, ◌||◌, not, Bool, true, List, Some, ◌⊎◌}
use Rattle.lv_io.specs.Causes.{Rose}
use Rattle.lv_io.specs.Files.{Files}
use Rattle.lv_io.specs.Outside.{ShelfState}
use Rattle.lv_contract.specs.declared.need.Need.{Need}
use Rattle.lv_steps.specs.declared.ended.Ended.{Ended}
use Rattle.lv_steps.specs.declared.files.Limits.{Limits}
use Rattle.lv_steps.specs.Step.{Step}
use Rattle.lv_steps.specs.Texts.{Lexed, IsLexed, IsFolded}
use Rattle.lv_steps.specs.Chain.{says, spells, reads_input}
use Rattle.lv_steps.specs.Exact.{is_want, is_fault}

-- a cause in the input itself: neither want of memory nor a read that failed
abbrev pub is_own : Ended → Bool
is_own e = not (is_want e || is_fault e)

-- what the step passes on, or why it refuses
abbrev pub IsAnswered : {In Out : Type 0} → Step In Out → In → Type 0
IsAnswered {In} {Out} step x = ((y : Out) × step.Passes x y) ⊎ ((e : Ended) × step.Refuses x e × (is_own e ≡ true))

abbrev pub IsTotal : {In Out : Type 0} → Step In Out → Type 0
IsTotal {In} {Out} step = (x : In) → IsAnswered step x

-- the grammar leaves out no token list that the steps before it pass on
abbrev pub GrammarAnswers : Type 0
GrammarAnswers = (text : List ℕ) (lexed folded : Lexed) → IsLexed text lexed → IsFolded lexed folded → IsAnswered spells folded

-- where files are told, and a missing and a long one were counted: all steps together leave no name of a contract file out, if its
-- contract and the grammar leave nothing out
abbrev pub StepsAreTotal : Type 0
StepsAreTotal = (limits : Limits) (need : Need) (before after : ShelfState) (files : Files) → before.files ≡ Some files → Rose before.misses after.misses →
    Rose before.overlong after.overlong → IsTotal (says need) → GrammarAnswers → IsTotal (reads_input limits need before after)
