-- What reading a text has come to, and why a text is refused.
use Rattle.std.specs.Prelude.{◌≡◌, ℕ, ◌≤◌, true, List, length}
use Rattle.lv_ast.specs.TokenLists.{AreTokensFrom, are_tokens, BeginsWithMore, IsBadByte, IsBadLiteral, IsUnclosed}
use Rattle.lv_ast.specs.declared.tokens.Token.{Token}
use Rattle.lv_lexer.specs.declared.error.LexError.{LexError}
use Rattle.lv_lexer.specs.declared.error.LexError.TheVariants.{BadByte, BadLiteral, Unclosed, TooMany, NoMemory}

-- the tokens of a text up to a place
pub record Stand (text : List ℕ) (tokens : List Token) (place : ℕ) : Type 0 where
  pub list : AreTokensFrom text 0 tokens place
  pub whole : are_tokens text tokens ≡ true
  pub few : length tokens ≤ 500000

abbrev pub IsLexRefusal : List ℕ → LexError → Type 0
IsLexRefusal text (BadByte p) = IsBadByte text p
IsLexRefusal text (BadLiteral p) = IsBadLiteral text p
IsLexRefusal text (Unclosed p) = IsUnclosed text p
IsLexRefusal text (TooMany n) = (n ≡ 500001) × BeginsWithMore 500000 text
IsLexRefusal text NoMemory = Unit {0}

-- what a text that begins with more tokens than the limit may be refused as
abbrev pub IsRefusalOfMany : LexError → Type 0
IsRefusalOfMany (BadByte p) = ⊥
IsRefusalOfMany (BadLiteral p) = Unit {0}
IsRefusalOfMany (Unclosed p) = ⊥
IsRefusalOfMany (TooMany n) = n ≡ 500001
IsRefusalOfMany NoMemory = Unit {0}
