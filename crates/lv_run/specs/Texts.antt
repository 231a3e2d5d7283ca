-- The status and the text of each answer.
use Rattle.std.specs.Prelude.{◌≡◌, ℕ, suc, List, [], ◌∷◌, ◌++◌, length, flat_map, codes, decimal}
use Rattle.lv_ast.specs.Names.{Name}
use Rattle.lv_contract.specs.declared.error.ContractError.{ContractError}
use Rattle.lv_contract.specs.declared.error.ContractError.TheVariants as contract
use Rattle.lv_exprs.specs.declared.error.SyntaxError.{SyntaxError}
use Rattle.lv_exprs.specs.declared.error.SyntaxError.TheVariants as syntax
use Rattle.lv_first.specs.declared.judging.Verdict.{Verdict}
use Rattle.lv_first.specs.declared.judging.Verdict.TheVariants as v
use Rattle.lv_lexer.specs.declared.error.LexError.{LexError}
use Rattle.lv_lexer.specs.declared.error.LexError.TheVariants as lex
use Rattle.lv_lexer.specs.declared.error.DirectiveError.{DirectiveError}
use Rattle.lv_lexer.specs.declared.error.DirectiveError.TheVariants as directive
use Rattle.lv_steps.specs.declared.ended.Ended.{Ended}
use Rattle.lv_steps.specs.declared.ended.Ended.TheVariants as t
use Rattle.lv_steps.specs.declared.ended.Unread.{Unread}
use Rattle.lv_steps.specs.declared.ended.Unread.TheVariants as u
use Rattle.lv_run.specs.declared.answer.Answer.{Answer}
use Rattle.lv_run.specs.declared.answer.Answer.TheVariants as a
use Rattle.lv_run.specs.declared.told.Message.{Message}

-- an exit status and a text
pub record Tells : Type 0 where
  pub code : ℕ
  pub text : List ℕ

-- the code's pair of both
pub record IsTold (tells : Tells) (told : Message) : Type 0 where
  pub code : told.code ≡ tells.code
  pub text : told.text.items ≡ tells.text

abbrev pub line : List ℕ → List ℕ
line text = text ++ 10 ∷ []

-- one line
abbrev pub says : ℕ → List ℕ → Tells
says code text = record { code = code; text = line text }

-- want of memory
abbrev pub silent : Tells
silent = record { code = 7; text = [] }

abbrev pub keep_line : Name → List ℕ
keep_line q = line (codes "keep eq " ++ q)

-- two numbers, as that of a token and its place
abbrev pub placed : ℕ → ℕ → List ℕ
placed k place = decimal k ++ codes " " ++ decimal place

abbrev pub accepted_text : ℕ → List Name → List ℕ
accepted_text lookahead registers =
    line (codes "accepted") ++ line (codes "lookahead " ++ decimal lookahead) ++ line (codes "kept " ++ decimal (suc (length registers))) ++
    flat_map keep_line registers ++ line (codes "keep aligned")

abbrev pub told_of_file : Unread → Tells
told_of_file (u.Missing name) = says 3 (codes "refused missing " ++ name)
told_of_file (u.TooLong name) = says 3 (codes "refused long " ++ name)
told_of_file (u.Failed name) = says 6 (codes "fault read " ++ name)
told_of_file u.NoMemory = silent

abbrev pub told_of_contract : ContractError → Tells
told_of_contract contract.Toml = says 3 (codes "refused toml")
told_of_contract (contract.Key key) = says 3 (codes "refused key " ++ key)
told_of_contract (contract.Value key) = says 3 (codes "refused value " ++ key)
told_of_contract (contract.Expr key entry byte) = says 3 (codes "refused expr " ++ (key ++ codes " " ++ placed entry byte))
told_of_contract contract.NoMemory = silent

abbrev pub told_of_tokens : LexError → Tells
told_of_tokens (lex.BadByte place) = says 3 (codes "refused byte " ++ decimal place)
told_of_tokens (lex.BadLiteral place) = says 3 (codes "refused literal " ++ decimal place)
told_of_tokens (lex.Unclosed place) = says 3 (codes "refused unclosed " ++ decimal place)
told_of_tokens (lex.TooMany count) = says 3 (codes "refused tokens " ++ decimal count)
told_of_tokens lex.NoMemory = silent

abbrev pub told_of_directives : DirectiveError → Tells
told_of_directives (directive.UnknownMacro place) = says 3 (codes "refused macro " ++ decimal place)
told_of_directives (directive.Unbalanced place) = says 3 (codes "refused unbalanced " ++ decimal place)
told_of_directives (directive.Malformed place) = says 3 (codes "refused malformed " ++ decimal place)
told_of_directives (directive.Depth place) = says 3 (codes "refused macro-depth " ++ decimal place)
told_of_directives (directive.TooMany count) = says 3 (codes "refused tokens " ++ decimal count)
told_of_directives directive.NoMemory = silent

abbrev pub told_of_syntax : SyntaxError → ℕ → Tells
told_of_syntax (syntax.Syntax k) place = says 3 (codes "refused syntax " ++ placed k place)
told_of_syntax (syntax.Depth k) place = says 3 (codes "refused depth " ++ placed k place)
told_of_syntax syntax.NoMemory place = silent

abbrev pub told_of_end : Ended → Tells
told_of_end (t.File unread) = told_of_file unread
told_of_end (t.Contract error) = told_of_contract error
told_of_end (t.Source count) = says 3 (codes "refused limit source " ++ decimal count)
told_of_end (t.Tokens error) = told_of_tokens error
told_of_end (t.Directives error) = told_of_directives error
told_of_end (t.Syntax error place) = told_of_syntax error place
told_of_end t.NoMemory = silent

abbrev pub told_of_verdict : Verdict → Tells
told_of_verdict (v.Proved lookahead registers) = record { code = 0; text = accepted_text lookahead registers }
told_of_verdict v.Unproved = says 1 (codes "unproved")
told_of_verdict v.Other = says 3 (codes "refused unbuilt")

abbrev pub told_of : Answer → Tells
told_of (a.Judged verdict) = told_of_verdict verdict
told_of (a.Printed text) = record { code = 0; text = text }
told_of (a.Ended ended) = told_of_end ended
told_of a.Usage = says 2 (codes "usage: leave MODE FILE [--out NAME]")
told_of a.NoMemory = silent
