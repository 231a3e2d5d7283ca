-- What the text of a design spells: its tokens by longest match, as the directives leave them, and their grammar; and why nothing.
use Rattle.std.specs.Prelude.{◌≡◌, ℕ, ◌≤◌, true, List, length, slice_get, Option, Some, None}
use Rattle.lv_ast.specs.TokenLists.{IsTokenListOf, are_tokens}
use Rattle.lv_ast.specs.Folds.{reading_of, counted}
use Rattle.lv_ast.specs.declared.tokens.Token.{Token}
use Rattle.lv_ast.specs.declared.item.Source.{Source}
use Rattle.lv_lexer.specs.Refusals.{IsLexRefusal}
use Rattle.lv_lexer.specs.Readings.{IsFoldRefusal}
use Rattle.lv_parser.specs.Answers.{IsSource, RefusesSource}
use Rattle.lv_exprs.specs.declared.error.SyntaxError.{SyntaxError}
use Rattle.lv_exprs.specs.declared.error.SyntaxError.TheVariants as e
use Rattle.lv_steps.specs.declared.ended.Ended.{Ended}
use Rattle.lv_steps.specs.declared.ended.Ended.TheVariants as t

-- tokens over a text
pub record Lexed : Type 0 where
  pub text : List ℕ
  pub list : List Token

-- the text has this token list, with at most 500,000 tokens, and each literal fits
pub record IsLexed (text : List ℕ) (lexed : Lexed) : Type 0 where
  pub same : lexed.text ≡ text
  pub listed : IsTokenListOf text lexed.list
  pub whole : are_tokens lexed.text lexed.list ≡ true
  pub few : length lexed.list ≤ 500000

abbrev pub IsUnlexed : List ℕ → Ended → Type 0
IsUnlexed text (t.Tokens x) = IsLexRefusal text x
IsUnlexed text _ = ⊥

-- the directives leave these tokens, with at most 500,000 tokens and uses of macros
pub record IsFolded (lexed folded : Lexed) : Type 0 where
  pub same : folded.text ≡ lexed.text
  pub unstopped : (reading_of lexed.text lexed.list).stop ≡ None
  pub few : counted (reading_of lexed.text lexed.list) ≤ 500000
  pub left : folded.list ≡ (reading_of lexed.text lexed.list).tokens

abbrev pub IsUnfolded : Lexed → Ended → Type 0
IsUnfolded lexed (t.Directives x) = IsFoldRefusal (reading_of lexed.text lexed.list) x
IsUnfolded lexed _ = ⊥

abbrev pub start_or : ℕ → Option Token → ℕ
start_or end None = end
start_or end (Some token) = token.start

-- where a token begins in the text; behind the last one, the text's length
abbrev pub place_at : List ℕ → List Token → ℕ → ℕ
place_at text tokens k = start_or (length text) (slice_get tokens k)

abbrev pub place_of : List ℕ → List Token → SyntaxError → ℕ
place_of text tokens (e.Syntax k) = place_at text tokens k
place_of text tokens (e.Depth k) = place_at text tokens k
place_of text tokens e.NoMemory = 0

abbrev pub IsSpelled : List ℕ → List Token → Source → Type 0
IsSpelled text tokens source = IsSource text tokens source

-- with the place of the token that is told
abbrev pub IsUnspelled : List ℕ → List Token → Ended → Type 0
IsUnspelled text tokens (t.Syntax x place) = RefusesSource text tokens x × (place ≡ place_of text tokens x)
IsUnspelled text tokens _ = ⊥
