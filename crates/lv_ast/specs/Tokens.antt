-- The tokens of a text, by their bytes (IEEE 1364-2005, section 3, as far as this profile takes it).
use Rattle.std.specs.Prelude.{ℕ, ◌-◌, ◌*◌, ◌+◌, ◌^◌, Bool, false, not, ◌&&◌, ◌||◌, if◌then◌else◌, ◌==◌, nat_lt, List, [], ◌∷◌, bytes_eq, slice_range, Option, Some, None, codes}
use Rattle.std.specs.List.{list_any, list_all}
use Rattle.lv_ast.specs.Names.{is_between, is_letter, is_inner, is_keyword}
use Rattle.lv_ast.specs.declared.tokens.Kind.{Kind}
use Rattle.lv_ast.specs.declared.tokens.Kind.TheVariants.{Name, Escaped, Word, System, Tick, Number, Based, Mark, Line, Join}
use Rattle.lv_ast.specs.declared.tokens.Token.{Token}

-- ---- classes of bytes

-- space, tab, form feed and carriage return: white space but the newline
unfoldable pub is_blank : ℕ → Bool
is_blank c = (c == 32) || (c == 9) || (c == 12) || (c == 13)

unfoldable pub is_digit : ℕ → Bool
is_digit c = is_between 48 57 c

unfoldable pub is_number_byte : ℕ → Bool
is_number_byte c = is_digit c || (c == 95)

-- the bytes of an escaped name: those that are printed, but the space
unfoldable pub is_printed : ℕ → Bool
is_printed c = is_between 33 126 c

-- the digits that stand for free bits
unfoldable pub is_free : ℕ → Bool
is_free c = (c == 63) || (c == 90) || (c == 122)

-- the letter of a signed literal
unfoldable pub is_sign : ℕ → Bool
is_sign c = (c == 115) || (c == 83)

-- what a digit stands for, and 16 where it is none
unfoldable pub digit_value : ℕ → ℕ
digit_value c = if is_between 48 57 c then c - 48 else (if is_between 97 102 c then c - 87 else (if is_between 65 70 c then c - 55 else 16))

-- the base that a letter names, and 0 where it names none
unfoldable pub base_of : ℕ → ℕ
base_of c =
    if (c == 98) || (c == 66) then 2
    else (if (c == 111) || (c == 79) then 8
    else (if (c == 100) || (c == 68) then 10
    else (if (c == 104) || (c == 72) then 16 else 0)))

-- a decimal digit is never free
unfoldable pub is_base_digit : ℕ → ℕ → Bool
is_base_digit base c = nat_lt (digit_value c) base || (not (base == 10) && is_free c)

unfoldable pub is_base_byte : ℕ → ℕ → Bool
is_base_byte base c = (c == 95) || is_base_digit base c

-- ---- whole tokens

-- a letter or `_`, then letters, digits, `_` and `$`
unfoldable pub is_word : List ℕ → Bool
is_word [] = false
is_word (c ∷ cs) = is_letter c && list_all is_inner cs

unfoldable pub without_sign : List ℕ → List ℕ
without_sign [] = []
without_sign (c ∷ cs) = if is_sign c then cs else c ∷ cs

unfoldable pub without_blanks : List ℕ → List ℕ
without_blanks [] = []
without_blanks (c ∷ cs) = if is_blank c then without_blanks cs else c ∷ cs

-- one or more digits of the base and `_`, not `_` first
unfoldable pub is_digits : ℕ → List ℕ → Bool
is_digits base [] = false
is_digits base (c ∷ cs) = is_base_digit base c && list_all (is_base_byte base) cs

-- the letter of a base, white space without a newline, and digits
unfoldable pub is_base_and_digits : List ℕ → Bool
is_base_and_digits [] = false
is_base_and_digits (c ∷ cs) = not (base_of c == 0) && is_digits (base_of c) (without_blanks cs)

abbrev pub marks : List (List ℕ)
marks =
    codes "(" ∷ codes ")" ∷ codes "[" ∷ codes "]" ∷ codes "{" ∷ codes "}" ∷ codes "," ∷ codes ";" ∷ codes ":" ∷ codes "." ∷ codes "#" ∷ codes "@" ∷
    codes "=" ∷ codes "?" ∷ codes "+" ∷ codes "-" ∷ codes "*" ∷ codes "/" ∷ codes "%" ∷ codes "~" ∷ codes "!" ∷ codes "&" ∷ codes "|" ∷ codes "^" ∷
    codes "<" ∷ codes ">" ∷ codes "<=" ∷ codes ">=" ∷ codes "==" ∷ codes "!=" ∷ codes "&&" ∷ codes "||" ∷ codes "<<" ∷ codes ">>" ∷ codes "<<<" ∷
    codes ">>>" ∷ codes "~&" ∷ codes "~|" ∷ codes "~^" ∷ codes "^~" ∷ codes "+:" ∷ codes "-:" ∷ []

unfoldable pub is_mark : List ℕ → Bool
is_mark s = list_any (bytes_eq s) marks

-- the newline, or the carriage return and the newline, that a backslash joins lines at
abbrev pub is_line_end : List ℕ → Bool
is_line_end s = bytes_eq s (10 ∷ []) || bytes_eq s (13 ∷ 10 ∷ [])

abbrev pub kind_if : Bool → Kind → Option Kind
kind_if b k = if b then Some k else None

-- what follows a backslash: a line's end, or the bytes of a name
unfoldable pub after_backslash : List ℕ → Option Kind
after_backslash [] = None
after_backslash (c ∷ cs) = if is_line_end (c ∷ cs) then Some Join else kind_if (list_all is_printed (c ∷ cs)) Escaped

-- the kind of a whole token, by its first byte; none where the bytes are no token
unfoldable pub kind_of : List ℕ → Option Kind
kind_of [] = None
kind_of (c ∷ cs) =
    if is_letter c then kind_if (is_word (c ∷ cs)) (if is_keyword (c ∷ cs) then Word else Name)
    else (if is_digit c then kind_if (list_all is_number_byte cs) Number
    else (if c == 92 then after_backslash cs
    else (if c == 36 then kind_if (is_word cs) System
    else (if c == 96 then kind_if (is_word cs) Tick
    else (if c == 39 then kind_if (is_base_and_digits (without_sign cs)) Based
    else (if c == 10 then kind_if (bytes_eq cs []) Line
    else kind_if (is_mark (c ∷ cs)) Mark))))))

-- ---- literals

-- the number that digits of a base stand for after the number a: f says what a digit counts, and `_` is passed over
unfoldable pub digits_number : (ℕ → ℕ) → ℕ → ℕ → List ℕ → ℕ
digits_number f base a [] = a
digits_number f base a (c ∷ cs) = digits_number f base (if c == 95 then a else a * base + f c) cs

-- a free digit counts 0 in the value, and all ones among the free bits, where another counts 0
abbrev pub value_digit : ℕ → ℕ
value_digit c = if is_free c then 0 else digit_value c

abbrev pub free_digit : ℕ → ℕ → ℕ
free_digit base c = if is_free c then base - 1 else 0

abbrev pub digits_value : ℕ → List ℕ → ℕ
digits_value base cs = digits_number value_digit base 0 cs

abbrev pub digits_free : ℕ → List ℕ → ℕ
digits_free base cs = digits_number (free_digit base) base 0 cs

-- of a based token: whether `s` stands in it, its base and its digits
unfoldable pub based_signed : List ℕ → Bool
based_signed [] = false
based_signed (c ∷ []) = false
based_signed (c ∷ d ∷ cs) = is_sign d

abbrev pub tail : List ℕ → List ℕ
tail [] = []
tail (c ∷ cs) = cs

abbrev pub head_base : List ℕ → ℕ
head_base [] = 0
head_base (c ∷ cs) = base_of c

unfoldable pub based_base : List ℕ → ℕ
based_base s = head_base (without_sign (tail s))

unfoldable pub based_digits : List ℕ → List ℕ
based_digits s = without_blanks (tail (without_sign (tail s)))

-- the value of a number or of a based token, and its free bits as they are written
abbrev pub literal_value : Kind → List ℕ → ℕ
literal_value Number s = digits_value 10 s
literal_value Based s = digits_value (based_base s) (based_digits s)
literal_value _ s = 0

abbrev pub literal_free : Kind → List ℕ → ℕ
literal_free Based s = digits_free (based_base s) (based_digits s)
literal_free _ s = 0

-- no significant and no written free bit is above bit 127
unfoldable pub fits : Kind → List ℕ → Bool
fits k s = nat_lt (literal_value k s) (2 ^ 128) && nat_lt (literal_free k s) (2 ^ 128)

-- ---- tokens in a text

abbrev pub token_bytes : List ℕ → Token → List ℕ
token_bytes text t = slice_range text t.start t.end
