-- What the reading of one token leaves.
use Rattle.std.specs.Prelude.{◌≡◌, ℕ, true, false, if◌then◌else◌, List, Result, MatchResult}
use Rattle.lv_ast.specs.Folds.{Step, Macro, followed}
use Rattle.lv_ast.specs.Folds as folds
use Rattle.lv_ast.specs.declared.tokens.Token.{Token}
use Rattle.lv_lexer.specs.declared.error.DirectiveError.{DirectiveError}
use Rattle.lv_lexer.specs.declared.folds.Directive.{Directive}
use Rattle.lv_lexer.specs.declared.folds.Directive.TheVariants.{Define, Undef, Ifdef, Ifndef, Use, Dropped}
use Rattle.lv_lexer.specs.declared.folds.Fold.{Fold}
use Rattle.lv_lexer.specs.Readings.{done, IsFoldAnswer}
use Rattle.lv_lexer.specs.Shown.{top_first}
use Rattle.lv_lexer.specs.Tables.{Keeps}

pub record Stepped (old new : Fold) (s : Step) (count : ℕ) : Type 0 where
  pub reading : followed (done old.out) s.reading ≡ done new.out
  pub macros : Keeps new.macros s.macros
  pub branches : top_first new.branches ≡ s.branches
  pub taken : count ≡ s.taken

-- the step, or why it is refused
abbrev pub Steps : Fold → Step → Result ℕ DirectiveError → Fold → Type 0
Steps old s result new = MatchResult result (Stepped old new s) (IsFoldAnswer (followed (done old.out) s.reading))

-- with the name on the line
abbrev pub named_step : List ℕ → List Macro → List folds.Branch → Token → List Token → (List ℕ → Step) → Step
named_step text ms bs t ts f = folds.with_name text ms bs t ts f (folds.line_name text ms bs t ts)

-- what a directive does with the name on its line
abbrev pub by_name : Directive → List ℕ → List Macro → List folds.Branch → Token → List Token → List ℕ → Step
by_name Define text ms bs t ts name = folds.defined text ms bs t ts name
by_name Undef text ms bs t ts name = folds.undefined text ms bs t ts name
by_name Ifdef text ms bs t ts name = folds.begun text ms bs t ts true name
by_name Ifndef text ms bs t ts name = folds.begun text ms bs t ts false name
by_name _ text ms bs t ts name = folds.elsif_step text ms bs t ts bs name

-- what a directive or a use does where tokens are read
abbrev pub read_step : Directive → List ℕ → List Macro → List folds.Branch → Token → List Token → Step
read_step Use text ms bs t ts = folds.gives text ms bs t ts (folds.expansion text ms 64 t)
read_step Dropped text ms bs t ts = folds.passed text ms bs t ts (folds.line_count ts) bs
read_step d text ms bs t ts = named_step text ms bs t ts (by_name d text ms bs t ts)

abbrev pub if_read : Directive → List ℕ → List Macro → List folds.Branch → Token → List Token → Step
if_read d text ms bs t ts = if folds.is_read bs then read_step d text ms bs t ts else folds.passed text ms bs t ts 0 bs

-- the list is what was read and what reading the rest gives
pub record Folding (text : List ℕ) (list : List Token) (fold : Fold) (left : List Token) : Type 0 where
  pub macros : List Macro
  pub keeps : Keeps fold.macros macros
  pub same : folds.reading_of text list ≡ followed (done fold.out) (folds.reading_from text 0 macros (top_first fold.branches) left)
