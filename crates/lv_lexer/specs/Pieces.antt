-- What stands at the front of a text.
use Rattle.std.specs.Prelude.{◌≡◌, ◌==◌, ◌+◌, ◌*◌, if◌then◌else◌, ℕ, true, false, List, take, Some, None}
use Rattle.lv_ast.specs.Literals.{part_digit}
use Rattle.lv_ast.specs.Tokens.{kind_of, fits}
use Rattle.lv_ast.specs.declared.literals.DigitPart.{DigitPart}
use Rattle.lv_ast.specs.TokenLists.{Opening, opening, gap_length, IsFirstToken}
use Rattle.lv_ast.specs.TokenLists as lists
use Rattle.lv_ast.specs.declared.tokens.Kind.{Kind}
use Rattle.lv_lexer.specs.declared.scan.Start.{Start}
use Rattle.lv_lexer.specs.declared.scan.Start.TheVariants as start
use Rattle.lv_lexer.specs.declared.scan.Piece.{Piece}
use Rattle.lv_lexer.specs.declared.scan.Piece.TheVariants.{Gap, Token, BadLiteral, BadByte, Unclosed}

-- the number a with one more digit
abbrev pub with_digit : DigitPart → ℕ → ℕ → ℕ → ℕ
with_digit part base a c = if c == 95 then a else a * base + part_digit part base c

abbrev pub opening_of : Start → Opening
opening_of start.Other = lists.Nothing
opening_of (start.Comment n) = lists.Comment n
opening_of start.Endless = lists.Endless

pub record IsBadLiteralFront (s : List ℕ) : Type 0 where
  pub kind : Kind
  pub length : ℕ
  pub first : IsFirstToken s kind length
  pub high : fits kind (take length s) ≡ false

pub record IsBadFront (s : List ℕ) : Type 0 where
  pub no_comment : opening s ≡ lists.Nothing
  pub no_gap : gap_length s ≡ None
  pub no_token : (m : ℕ) → kind_of (take m s) ≡ None

abbrev pub IsPiece : List ℕ → Piece → Type 0
IsPiece s (Gap n) = gap_length s ≡ Some n
IsPiece s (Token k n) = IsFirstToken s k n × (fits k (take n s) ≡ true)
IsPiece s BadLiteral = IsBadLiteralFront s
IsPiece s BadByte = IsBadFront s
IsPiece s Unclosed = opening s ≡ lists.Endless
