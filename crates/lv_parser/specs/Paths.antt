-- How far a reader has come.
use Rattle.std.specs.Prelude.{◌≡◌, ℕ, List}
use Rattle.lv_ast.specs.declared.tokens.Token.{Token}
use Rattle.lv_grammars.specs.Grammar.{Gram, both, many, one}
use Rattle.lv_grammars.specs.Spelling.{Limit}
use Rattle.lv_grammars.specs.At.{Way, Standing, StandingUntil}
use Rattle.lv_grammar.specs.Lexemes.{Lexeme}
use Rattle.lv_grammar.specs.Shapes.{Shape, base, table}
use Rattle.lv_grammar.specs.Leaves.{all, within}
use Rattle.lv_grammar.specs.Rules.{comma, list, first_and_others}
use Rattle.lv_parser.specs.Answers.{from}

-- from token `at` on, of the grammar g, the reader stands at token `us`, where h is left; a tree y of it makes `build y`
pub record Path (text : List ℕ) (tokens : List Token) (d : ℕ → Limit) {A : Type 0} (g : Gram base A) (at : ℕ) {B : Type 0} (h : Gram base B) (us : ℕ) (build : B → A) : Type 0 where
  pub way : Way base table (all text) (within text d) g (from text tokens at) (within text d) h (from text tokens us) build

-- of a list with commas, from token `at` to `us`, these are read
pub record Listed (text : List ℕ) (tokens : List Token) (d : ℕ → Limit) {A : Type 0} (x : Gram base A) (at us : ℕ) (xs : List A) : Type 0 where
  pub first : A
  pub behind_first : ℕ
  pub others : List (Lexeme × A)
  pub begun : Path text tokens d (list x) at (many (both comma x)) behind_first (λ ys. first_and_others (first, ys))
  pub standing : Standing base (all text) (within text d) (both comma x) (from text tokens behind_first) (from text tokens us) others
  pub are : xs ≡ first_and_others (first, others)

-- of any number of these up to a token, from token `at` to `us`, these are read
pub record Taken (text : List ℕ) (tokens : List Token) (d : ℕ → Limit) {A : Type 0} (x : Gram base A) (p : Shape) (at us : ℕ) (xs : List A) : Type 0 where
  pub standing : StandingUntil base (all text) (within text d) x (one p) (from text tokens at) (from text tokens us) xs

-- any number of these, from token `at` to `us`, are read
pub record Counted (text : List ℕ) (tokens : List Token) (d : ℕ → Limit) {A : Type 0} (x : Gram base A) (at us : ℕ) (xs : List A) : Type 0 where
  pub standing : Standing base (all text) (within text d) x (from text tokens at) (from text tokens us) xs
