-- No input passes a step in two ways, and none that passes is refused.
use Rattle.std.specs.Prelude.{◌≡◌, ℕ, Bool, true, false, List, Some, ◌⊎◌}
use Rattle.lv_io.specs.Causes.{Rose}
use Rattle.lv_io.specs.Files.{Files}
use Rattle.lv_io.specs.Outside.{ShelfState}
use Rattle.lv_ast.specs.declared.item.Source.{Source}
use Rattle.lv_contract.specs.declared.contract.Contract.{Contract}
use Rattle.lv_contract.specs.declared.need.Need.{Need}
use Rattle.lv_contract.specs.declared.error.ContractError.TheVariants as contract
use Rattle.lv_exprs.specs.declared.error.SyntaxError.TheVariants as syntax
use Rattle.lv_lexer.specs.declared.error.LexError.TheVariants as lex
use Rattle.lv_lexer.specs.declared.error.DirectiveError.TheVariants as directive
use Rattle.lv_steps.specs.declared.ended.Unread.TheVariants as u
use Rattle.lv_steps.specs.declared.ended.Ended.{Ended}
use Rattle.lv_steps.specs.declared.ended.Ended.TheVariants as t
use Rattle.lv_steps.specs.declared.files.Limits.{Limits}
use Rattle.lv_steps.specs.Step.{Step}
use Rattle.lv_steps.specs.Chain.{reads_input}

-- want of memory
abbrev pub is_want : Ended → Bool
is_want (t.File u.NoMemory) = true
is_want (t.Contract contract.NoMemory) = true
is_want (t.Tokens lex.NoMemory) = true
is_want (t.Directives directive.NoMemory) = true
is_want (t.Syntax syntax.NoMemory place) = true
is_want t.NoMemory = true
is_want _ = false

-- a read that failed
abbrev pub is_fault : Ended → Bool
is_fault (t.File (u.Failed name)) = true
is_fault _ = false

-- what may come in place of any answer
abbrev pub IsExcused : ShelfState → ShelfState → Ended → Type 0
IsExcused before after e = (is_want e ≡ true) ⊎ ((is_fault e ≡ true) × Rose before.faults after.faults)

-- like inputs pass as like outputs, and what passes is refused only by such an excuse
pub record IsExact {In Out : Type 0} (step : Step In Out) (Excused : Ended → Type 0) (Like : In → In → Type 0) (Same : Out → Out → Type 0) : Type 0 where
  pub one : (x z : In) (y w : Out) → Like x z → step.Passes x y → step.Passes z w → Same y w
  pub apart : (x z : In) (y : Out) (e : Ended) → Like x z → step.Passes x y → step.Refuses z e → Excused e

-- they have one source, and contracts that list the same files
abbrev pub IsSameDesign : Contract × Source → Contract × Source → Type 0
IsSameDesign p q = (p.0.files ≡ q.0.files) × (p.1 ≡ q.1)

abbrev pub StepsAreExact : Type 0
StepsAreExact = (limits : Limits) (need : Need) (before after : ShelfState) (files : Files) → before.files ≡ Some files →
    IsExact (reads_input limits need before after) (IsExcused before after) (λ x z. x ≡ z) IsSameDesign
