-- Expressions in the strings of a contract file.
use Rattle.std.specs.Prelude.{◌≡◌, ℕ, ◌+◌, ◌≤◌, true, false, nat_lt, if◌then◌else◌, List, length, take, Option, Some, None, slice_get}
use Rattle.lv_ast.specs.declared.expr.Expr.{Expr}
use Rattle.lv_ast.specs.declared.expr.Expr.TheVariants.{Lit}
use Rattle.lv_ast.specs.declared.expr.Literal.{Literal}
use Rattle.lv_ast.specs.declared.tokens.Token.{Token}
use Rattle.lv_ast.specs.TokenLists.{IsTokenListOf, are_tokens}
use Rattle.lv_exprs.specs.Forms as forms
use Rattle.lv_exprs.specs.Forms.{Form, IsExpr, Begins, is_free}
use Rattle.lv_exprs.specs.Heights.{height}
use Rattle.lv_exprs.specs.Reading.{IsTooHigh}
use Rattle.lv_exprs.specs.Symbols.{symbols}
use Rattle.lv_exprs.specs.Trees.{tree}
use Rattle.lv_lexer.specs.declared.error.LexError.{LexError}
use Rattle.lv_lexer.specs.declared.error.LexError.TheVariants.{BadByte, BadLiteral, Unclosed, TooMany, NoMemory}
use Rattle.lv_lexer.specs.Refusals.{IsLexRefusal}
use Rattle.lv_contract.specs.declared.expression.Unread.{Unread}
use Rattle.lv_contract.specs.declared.expression.Unread.TheVariants.{At}
use Rattle.lv_contract.specs.declared.expression.Unread.TheVariants as u

-- the tokens of a text, at most 500,000, with no literal above 128 bits
pub record AreTokens (text : List ℕ) (tokens : List Token) : Type 0 where
  pub list : IsTokenListOf text tokens
  pub whole : are_tokens text tokens ≡ true
  pub few : length tokens ≤ 500000

-- the form spells the whole text
pub record IsForm (text : List ℕ) (tokens : List Token) (form : Form) : Type 0 where
  pub lexed : AreTokens text tokens
  pub expr : IsExpr true form
  pub spells : forms.text form ≡ symbols text tokens

-- the text is an expression with this tree: names may be paths, it is no higher than 200, and no literal has free bits
pub record IsExpression (text : List ℕ) (expr : Expr) : Type 0 where
  pub tokens : List Token
  pub form : Form
  pub spelled : IsForm text tokens form
  pub bound : is_free form ≡ false
  pub low : height form ≤ 200
  pub tree : tree text form ≡ expr

-- ---- the byte of a text that is no expression

-- what a refusal of `lex` carries
abbrev pub number_in : LexError → Option ℕ
number_in (BadByte p) = Some p
number_in (BadLiteral p) = Some p
number_in (Unclosed p) = Some p
number_in (TooMany n) = Some n
number_in NoMemory = None

pub record IsUnlexed (text : List ℕ) (byte : ℕ) : Type 0 where
  pub error : LexError
  pub refused : IsLexRefusal text error
  pub carried : number_in error ≡ Some byte

-- the place of the token with number k
pub record IsPlace (text : List ℕ) (byte k : ℕ) (tokens : List Token) : Type 0 where
  pub lexed : AreTokens text tokens
  pub token : Token
  pub stands : slice_get tokens k ≡ Some token
  pub place : token.start ≡ byte

-- no expression's spelling goes on with the token there
pub record EndsAt (text : List ℕ) (byte : ℕ) : Type 0 where
  pub k : ℕ
  pub tokens : List Token
  pub place : IsPlace text byte k tokens
  pub ends : Begins true (take (k + 1) (symbols text tokens)) → ⊥

-- some expression's spelling begins with the tokens up to there, and each such expression is too high
pub record IsTooHighAt (text : List ℕ) (byte : ℕ) : Type 0 where
  pub k : ℕ
  pub tokens : List Token
  pub place : IsPlace text byte k tokens
  pub high : IsTooHigh 200 true (symbols text tokens) k

-- a literal with free bits begins there
pub record IsFreeAt (text : List ℕ) (byte : ℕ) : Type 0 where
  pub tokens : List Token
  pub form : Form
  pub spelled : IsForm text tokens form
  pub free : is_free form ≡ true
  pub literal : Literal
  pub tree : tree text form ≡ Lit literal
  pub place : literal.place ≡ byte

pub data IsByteOf (text : List ℕ) (byte : ℕ) : Type 0 where
  unlexed_at : IsUnlexed text byte → IsByteOf text byte
  ends_at : EndsAt text byte → IsByteOf text byte
  too_high_at : IsTooHighAt text byte → IsByteOf text byte
  free_at : IsFreeAt text byte → IsByteOf text byte
  length_at : byte ≡ length text → IsByteOf text byte

-- the text is no expression, and this is such a byte
pub record IsNoExpression (text : List ℕ) (byte : ℕ) : Type 0 where
  pub none : (expr : Expr) → IsExpression text expr → ⊥
  pub at : IsByteOf text byte

-- ---- what the reader answers

abbrev pub unlexed : LexError → Unread
unlexed (BadByte p) = At p
unlexed (BadLiteral p) = At p
unlexed (Unclosed p) = At p
unlexed (TooMany n) = At n
unlexed NoMemory = u.NoMemory

abbrev pub IsUnreadAt : List ℕ → Unread → Type 0
IsUnreadAt text u.NoMemory = Unit {0}
IsUnreadAt text (At byte) = IsNoExpression text byte

abbrev pub start_or : ℕ → Option Token → ℕ
start_or place None = place
start_or place (Some token) = token.start

-- the place of a token, or the text's length behind the last
abbrev pub place_of : List ℕ → List Token → ℕ → ℕ
place_of text tokens k = start_or (length text) (slice_get tokens k)

abbrev pub free_place : Expr → Option ℕ
free_place (Lit literal) = if nat_lt 0 literal.wild then Some literal.place else None
free_place _ = None
