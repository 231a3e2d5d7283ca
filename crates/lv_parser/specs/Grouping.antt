-- How far a reader of a list has come whose entries form groups.
use Rattle.std.specs.Prelude.{◌≡◌, ℕ, List, ◌++◌, Option}
use Rattle.lv_ast.specs.declared.tokens.Token.{Token}
use Rattle.lv_grammars.specs.Grammar.{Gram, both, many, perhaps}
use Rattle.lv_grammars.specs.Spelling.{Limit}
use Rattle.lv_grammars.specs.At.{Standing}
use Rattle.lv_grammar.specs.Lexemes.{Lexeme}
use Rattle.lv_grammar.specs.Shapes.{base}
use Rattle.lv_grammar.specs.Leaves.{all, within}
use Rattle.lv_grammar.specs.Rules.{comma, grouped, groups, all_groups}
use Rattle.lv_parser.specs.Answers.{from}
use Rattle.lv_parser.specs.Paths.{Path}

-- from token `at` to `us`, entries are read that form these groups, of which the last may go on
pub record Grouped (text : List ℕ) (tokens : List Token) (d : ℕ → Limit) {H X P : Type 0} (f : H → List X → P) (parts : P → H × List X) (h : Gram base H) (x : Gram base X) (at us : ℕ) (done : List P) (last : P) : Type 0 where
  pub header : H
  pub first : X
  pub behind_first : ℕ
  pub others : List (Lexeme × (Option H × X))
  pub begun : Path text tokens d (grouped f h x) at (many (both comma (both (perhaps h) x))) behind_first (λ es. all_groups f (header, (first, es)))
  pub standing : Standing base (all text) (within text d) (both comma (both (perhaps h) x)) (from text tokens behind_first) (from text tokens us) others
  pub are : (es : List (Lexeme × (Option H × X))) → all_groups f (header, (first, others ++ es)) ≡ done ++ groups f (parts last).0 (parts last).1 es
