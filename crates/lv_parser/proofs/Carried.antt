-- An answer for the part that is left, where its tree is that of the whole.
use Rattle.std.proofs.Common.{ℕ, List, Result, Ok, Err}
use Rattle.lv_ast.specs.declared.tokens.Token.{Token}
use Rattle.lv_exprs.specs.declared.error.SyntaxError.{SyntaxError}
use Rattle.lv_grammars.specs.Grammar.{Gram}
use Rattle.lv_grammars.specs.Spelling.{Limit}
use Rattle.lv_grammar.specs.Shapes.{base}
use Rattle.lv_parser.specs.Answers.{Answer}
use Rattle.lv_parser.specs.Paths.{Path}
use Rattle.lv_parser.proofs.Paths.{last, refuse_last}

pub carried : {text : List ℕ} {tokens : List Token} {d : ℕ → Limit} {A : Type 0} {g h : Gram base A} {at us : ℕ} → Path text tokens d g at h us (λ y. y) →
    (r : Result (A × ℕ) SyntaxError) → Answer text tokens d h us r → Answer text tokens d g at r
carried w (Ok x) a = last w a
carried w (Err e) a = refuse_last w a
