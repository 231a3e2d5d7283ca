-- How far a reader of the whole source has come.
use Rattle.std.specs.Prelude.{◌≡◌, ℕ, List, ◌∷◌}
use Rattle.lv_ast.specs.declared.tokens.Token.{Token}
use Rattle.lv_ast.specs.declared.item.Module.{Module}
use Rattle.lv_grammars.specs.Grammar.{many}
use Rattle.lv_grammars.specs.At.{Standing}
use Rattle.lv_grammar.specs.Shapes.{base}
use Rattle.lv_grammar.specs.Leaves.{all, low, limits}
use Rattle.lv_grammar.specs.Rules.{module_rule, source_rule, source_of}
use Rattle.lv_parser.specs.Answers.{from}
use Rattle.lv_parser.specs.Paths.{Path}

-- of a source, up to token `us`, these modules are read
pub record Sourced (text : List ℕ) (tokens : List Token) (us : ℕ) (xs : List Module) : Type 0 where
  pub first : Module
  pub behind_first : ℕ
  pub others : List Module
  pub begun : Path text tokens limits source_rule 0 (many module_rule) behind_first (λ ys. source_of (first, ys))
  pub standing : Standing base (all text) (low text) module_rule (from text tokens behind_first) (from text tokens us) others
  pub are : xs ≡ first ∷ others
