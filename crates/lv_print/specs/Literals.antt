-- How a literal is written (IEEE 1364-2005, section 3.5): a plain one in decimal, else with its size, `s` where it is signed, and
-- hexadecimal digits, or binary ones with `?` where it has free bits.
use Rattle.std.specs.Prelude.{ℕ, zero, suc, ◌+◌, ◌-◌, ◌/◌, ◌%◌, ◌^◌, min, nat_lt, Bool, ◌&&◌, if◌then◌else◌, ◌==◌, List, [], ◌∷◌, ◌++◌, Option, Some, None, codes}
use Rattle.lv_ast.specs.declared.expr.Literal.{Literal}
use Rattle.lv_ast.specs.declared.tokens.Kind.TheVariants as k
use Rattle.lv_print.specs.Written.{Written, written}

abbrev pub glyph : ℕ → ℕ
glyph d = if nat_lt d 10 then 48 + d else 87 + d

-- the digits of n without leading zeros: those of n / base, and the last one. A number of 128 bits has at most 128
unfoldable pub digits : ℕ → ℕ → ℕ → List ℕ
digits base zero n = []
digits base (suc k) n = (if nat_lt n base then [] else digits base k (n / base)) ++ (glyph (n % base) ∷ [])

abbrev pub decimal : ℕ → List ℕ
decimal n = digits 10 128 n

abbrev pub hexadecimal : ℕ → List ℕ
hexadecimal n = digits 16 128 n

-- ---- free bits

abbrev pub free_glyph : ℕ → ℕ → ℕ
free_glyph value wild = if wild % 2 == 1 then 63 else 48 + value % 2

-- the lowest k binary digits
unfoldable pub free_digits : ℕ → ℕ → ℕ → List ℕ
free_digits zero value wild = []
free_digits (suc k) value wild = free_digits k (value / 2) (wild / 2) ++ (free_glyph value wild ∷ [])

-- the width up to which a leftmost free digit frees the bits above it
abbrev pub digits_width : Option ℕ → ℕ
digits_width None = 128
digits_width (Some n) = min n 128

-- the lowest k digits give a literal back: above them its value has no bits, and its free bits are all or none, as the leftmost digit says
unfoldable pub gives_back : ℕ → ℕ → ℕ → ℕ → Bool
gives_back width value wild k =
    (value / 2 ^ k == 0) && (wild / 2 ^ k == (if wild / 2 ^ (k - 1) % 2 == 1 then (2 ^ width - 1) / 2 ^ k else 0))

-- the first number from k on that passes a test, or the one behind n that don't
unfoldable pub first_from : (ℕ → Bool) → ℕ → ℕ → ℕ
first_from f zero k = k
first_from f (suc n) k = if f k then k else first_from f n (k + 1)

-- as few digits as give a literal back, at least one
abbrev pub fewest : ℕ → ℕ → ℕ → ℕ
fewest width value wild = first_from (gives_back width value wild) 127 1

-- ---- literals

abbrev pub sign_letter : Bool → List ℕ
sign_letter signed = if signed then codes "s" else []

abbrev pub base_and_digits : Literal → List ℕ
base_and_digits l =
    if nat_lt 0 l.wild then codes "b" ++ free_digits (fewest (digits_width l.size) l.value l.wild) l.value l.wild
    else codes "h" ++ hexadecimal l.value

abbrev pub based_token : Literal → Written
based_token l = written k.Based (codes "'" ++ (sign_letter l.signed ++ base_and_digits l))

abbrev pub number_token : ℕ → Written
number_token n = written k.Number (decimal n)

abbrev pub size_tokens : Option ℕ → List Written
size_tokens None = []
size_tokens (Some n) = number_token n ∷ []

unfoldable pub literal_tokens : Literal → List Written
literal_tokens l = if l.plain then number_token l.value ∷ [] else size_tokens l.size ++ (based_token l ∷ [])
