-- What the code's directives and branches stand for.
use Rattle.std.specs.Prelude.{List, [], ◌∷◌, ◌++◌, Option, Some, None}
use Rattle.lv_ast.specs.Folds as folds
use Rattle.lv_ast.specs.declared.tokens.Token.{Token}
use Rattle.lv_lexer.specs.declared.folds.Directive.{Directive}
use Rattle.lv_lexer.specs.declared.folds.Directive.TheVariants.{Define, Undef, Ifdef, Ifndef, Elsif, Else, Endif, Dropped, Use}
use Rattle.lv_lexer.specs.declared.folds.Branch.{Branch}

abbrev pub directive_shown : Directive → folds.Directive
directive_shown Define = folds.Define
directive_shown Undef = folds.Undef
directive_shown Ifdef = folds.Ifdef
directive_shown Ifndef = folds.Ifndef
directive_shown Elsif = folds.Elsif
directive_shown Else = folds.Else
directive_shown Endif = folds.Endif
directive_shown Dropped = folds.Dropped
directive_shown Use = folds.Use

abbrev pub branch_shown : Branch → folds.Branch
branch_shown b = record { taken = b.taken; kept = b.kept; last = b.last }

abbrev pub first_of : List Token → Option Token
first_of [] = None
first_of (t ∷ ts) = Some t

-- the open conditionals, the innermost first
abbrev pub top_first : List Branch → List folds.Branch
top_first [] = []
top_first (b ∷ bs) = top_first bs ++ branch_shown b ∷ []
