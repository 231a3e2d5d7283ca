-- The longest fronts of a text that pass a test.
use Rattle.std.specs.Prelude.{◌≡◌, ℕ, suc, ◌<◌, ◌≤◌, Bool, true, false, not, ◌&&◌, nat_le, if◌then◌else◌, ◌==◌, List, [], ◌∷◌, length, take, codes, Option, Some, None, MatchOption}
use Rattle.std.specs.List.{list_any}
use Rattle.lv_ast.specs.Names.{is_inner, is_letter, is_keyword}
use Rattle.lv_ast.specs.Tokens.{is_blank, is_digit, is_number_byte, is_printed, is_base_byte, is_word, is_mark}
use Rattle.lv_ast.specs.declared.tokens.Kind.{Kind}
use Rattle.lv_ast.specs.declared.tokens.Kind.TheVariants.{Word, Name}
use Rattle.lv_lexer.specs.declared.bytes.Lead.{Lead}
use Rattle.lv_lexer.specs.declared.bytes.Lead.TheVariants.{Letter, Digit, Backslash, Dollar, Accent, Apostrophe, Newline, Other}
use Rattle.lv_lexer.specs.declared.bytes.Class.{Class}
use Rattle.lv_lexer.specs.declared.bytes.Class.TheVariants.{Blank, Inner, Number, Printed, Digits, Comment}

-- what each class of bytes is
abbrev pub belongs : Class → ℕ → Bool
belongs Blank c = is_blank c
belongs Inner c = is_inner c
belongs Number c = is_number_byte c
belongs Printed c = is_printed c
belongs (Digits base) c = is_base_byte base c
belongs Comment c = not (c == 10)

abbrev pub begins : ℕ → List ℕ → Bool
begins c [] = false
begins c (d ∷ ds) = d == c

abbrev pub begins_blank : List ℕ → Bool
begins_blank [] = false
begins_blank (c ∷ cs) = is_blank c

-- how many bytes at the front pass
unfoldable pub front_length : (ℕ → Bool) → List ℕ → ℕ
front_length p [] = 0
front_length p (c ∷ cs) = if p c then suc (front_length p cs) else 0

-- n bytes at the front pass, and no more
pub record IsLongest (test : List ℕ → Bool) (s : List ℕ) (n : ℕ) : Type 0 where
  pub within : n ≤ length s
  pub passes : test (take n s) ≡ true
  pub longest : (m : ℕ) → n < m → m ≤ length s → test (take m s) ≡ false

-- how many bytes at the front pass at most; none where no front passes
abbrev pub IsFront : (List ℕ → Bool) → List ℕ → Option ℕ → Type 0
IsFront test s result = MatchOption result ((m : ℕ) → test (take m s) ≡ false) (IsLongest test s)

-- n bytes at the front are of kind k, and no more are of any
pub record IsLongestOf (kind : List ℕ → Option Kind) (s : List ℕ) (k : Kind) (n : ℕ) : Type 0 where
  pub within : n ≤ length s
  pub whole : kind (take n s) ≡ Some k
  pub longest : (m : ℕ) → n < m → m ≤ length s → kind (take m s) ≡ None

-- the longest bytes at the front that are of a kind, with their kind; none where no front is
abbrev pub IsFound : (List ℕ → Option Kind) → List ℕ → Option (Kind × ℕ) → Type 0
IsFound kind s result = MatchOption result ((m : ℕ) → kind (take m s) ≡ None) (λ found. IsLongestOf kind s found.0 found.1)

-- whether n bytes stand at the front, and are a mark
abbrev pub mark_front : List ℕ → ℕ → Bool
mark_front s n = nat_le n (length s) && is_mark (take n s)

-- the bytes that begin a mark of two or three bytes
abbrev pub is_head : ℕ → Bool
is_head c = list_any (λ h. h == c) (codes "<>=!&|~^+-")

-- the longest name or keyword at the front
pub record IsNamed (s : List ℕ) (k : Kind) (n : ℕ) : Type 0 where
  pub longest : IsLongest is_word s n
  pub kind : k ≡ (if is_keyword (take n s) then Word else Name)

-- what a token is by its first byte
abbrev pub lead_of : ℕ → Lead
lead_of c =
    if is_letter c then Letter
    else (if is_digit c then Digit
    else (if c == 92 then Backslash
    else (if c == 36 then Dollar
    else (if c == 96 then Accent
    else (if c == 39 then Apostrophe
    else (if c == 10 then Newline else Other))))))
