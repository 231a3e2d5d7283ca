-- The token list of a text, and the places that reading it reaches.
use Rattle.std.specs.Prelude.{◌≡◌, ℕ, suc, ◌+◌, ◌-◌, ◌<◌, ◌≤◌, Bool, false, ◌&&◌, if◌then◌else◌, ◌==◌, nat_le, List, [], ◌∷◌, length, take, drop, Option, Some, None}
use Rattle.std.specs.List.{list_all}
use Rattle.lv_ast.specs.Tokens.{is_blank, kind_of, fits, token_bytes}
use Rattle.lv_ast.specs.declared.tokens.Kind.{Kind}
use Rattle.lv_ast.specs.declared.tokens.Kind.TheVariants.{Name, Escaped, Word, System, Tick, Number, Based, Mark, Line, Join}
use Rattle.lv_ast.specs.declared.tokens.Token.{Token}

-- ---- white space and comments

-- the bytes before the first newline
unfoldable pub line_length : List ℕ → ℕ
line_length [] = 0
line_length (c ∷ cs) = if c == 10 then 0 else suc (line_length cs)

abbrev pub longer : ℕ → Option ℕ → Option ℕ
longer n None = None
longer n (Some m) = Some (n + m)

-- the bytes up to the first `*/` and with it
unfoldable pub block_length : List ℕ → Option ℕ
block_length [] = None
block_length (c ∷ []) = None
block_length (c ∷ d ∷ cs) = if (c == 42) && (d == 47) then Some 2 else longer 1 (block_length (d ∷ cs))

-- what begins at the front of a text, as far as comments go
pub data Opening : Type 0 where
  Nothing : Opening
  -- `//` to the end of its line, or `/*` to the first `*/`
  Comment : (bytes : ℕ) → Opening
  -- `/*` without an end
  Endless : Opening

abbrev pub block_comment : Option ℕ → Opening
block_comment None = Endless
block_comment (Some n) = Comment (2 + n)

unfoldable pub opening : List ℕ → Opening
opening [] = Nothing
opening (c ∷ []) = Nothing
opening (c ∷ d ∷ cs) =
    if (c == 47) && (d == 47) then Comment (2 + line_length cs)
    else (if (c == 47) && (d == 42) then block_comment (block_length cs) else Nothing)

abbrev pub blank_length : List ℕ → Option ℕ
blank_length [] = None
blank_length (c ∷ cs) = if is_blank c then Some 1 else None

abbrev pub opening_length : Opening → List ℕ → Option ℕ
opening_length Nothing s = blank_length s
opening_length (Comment n) s = Some n
opening_length Endless s = None

-- the bytes of the white space or of the comment at the front
unfoldable pub gap_length : List ℕ → Option ℕ
gap_length s = opening_length (opening s) s

-- only white space and comments stand from place p to place q. A newline outside of a block comment is no gap: it is a token
pub data IsGap (text : List ℕ) : ℕ → ℕ → Type 0 where
  none : {p q : ℕ} → p ≡ q → IsGap text p q
  more : {p q : ℕ} (n : ℕ) → gap_length (drop p text) ≡ Some n → IsGap text (p + n) q → IsGap text p q

-- ---- tokens

-- the token at the front of a text: n bytes of kind k, and no longer token is there
pub record IsFirstToken (s : List ℕ) (k : Kind) (n : ℕ) : Type 0 where
  pub no_comment : opening s ≡ Nothing
  pub within : n ≤ length s
  pub whole : kind_of (take n s) ≡ Some k
  pub longest : (m : ℕ) → n < m → m ≤ length s → kind_of (take m s) ≡ None

pub record IsTokenAt (text : List ℕ) (t : Token) : Type 0 where
  pub rises : t.start ≤ t.end
  pub first : IsFirstToken (drop t.start text) t.kind (t.end - t.start)

-- these tokens stand from place p to place q, with white space and comments before, between and after them
abbrev pub AreTokensFrom : List ℕ → ℕ → List Token → ℕ → Type 0
AreTokensFrom text p [] q = IsGap text p q
AreTokensFrom text p (t ∷ ts) q = IsGap text p t.start × IsTokenAt text t × AreTokensFrom text t.end ts q

-- the token list of a text
abbrev pub IsTokenListOf : List ℕ → List Token → Type 0
IsTokenListOf text ts = AreTokensFrom text 0 ts (length text)

-- a place is reached where whole tokens, comments and white space lead to it, each as long as it can be in the whole text
abbrev pub IsReached : List ℕ → ℕ → Type 0
IsReached text p = (ts : List Token) × AreTokensFrom text 0 ts p

-- the text begins with more than n tokens
pub record BeginsWithMore (n : ℕ) (text : List ℕ) : Type 0 where
  pub tokens : List Token
  pub place : ℕ
  pub stand : AreTokensFrom text 0 tokens place
  pub many : n < length tokens

-- ---- where a text has no token list, or one that isn't taken

-- neither white space nor a comment nor a token begins at p
pub record IsBadByte (text : List ℕ) (p : ℕ) : Type 0 where
  pub reached : IsReached text p
  pub within : p < length text
  pub no_comment : opening (drop p text) ≡ Nothing
  pub no_gap : gap_length (drop p text) ≡ None
  pub no_token : (n : ℕ) → kind_of (take n (drop p text)) ≡ None

-- the block comment that begins at p never ends
pub record IsUnclosed (text : List ℕ) (p : ℕ) : Type 0 where
  pub reached : IsReached text p
  pub endless : opening (drop p text) ≡ Endless

-- the number or based token that begins at p doesn't fit
pub record IsBadLiteral (text : List ℕ) (p : ℕ) : Type 0 where
  pub token : Token
  pub place : token.start ≡ p
  pub reached : IsReached text p
  pub stands : IsTokenAt text token
  pub high : fits token.kind (token_bytes text token) ≡ false

-- ---- what the type `Tokens` keeps

abbrev pub kind_number : Kind → ℕ
kind_number Name = 0
kind_number Escaped = 1
kind_number Word = 2
kind_number System = 3
kind_number Tick = 4
kind_number Number = 5
kind_number Based = 6
kind_number Mark = 7
kind_number Line = 8
kind_number Join = 9

abbrev pub is_kind : Option Kind → Kind → Bool
is_kind None k = false
is_kind (Some j) k = kind_number j == kind_number k

-- a span of the text whose bytes are one whole token of its kind, and a literal that fits
unfoldable pub is_token : List ℕ → Token → Bool
is_token text t = nat_le t.start t.end && nat_le t.end (length text) && is_kind (kind_of (token_bytes text t)) t.kind && fits t.kind (token_bytes text t)

abbrev pub are_tokens : List ℕ → List Token → Bool
are_tokens text ts = list_all (is_token text) ts
