-- A token ends before a space, a newline, and, where it is a number, an apostrophe: no token goes on over them.
use Rattle.std.proofs.Common.{◌≡◌, ℕ, nat_lt, Bool, true, false, not, ◌&&◌, ◌||◌, if◌then◌else◌, ◌==◌, List, [], ◌∷◌, ◌++◌, bytes_eq, Option, Some, None, refl, sym, ap, ◌∙◌, subst, true≢false}
use Rattle.std.specs.List.{list_any, list_all}
use Rattle.std.proofs.lemmas.Bool.{eqb-true}
use Rattle.std.proofs.lemmas.Option.{none-some}
use Rattle.std.proofs.lemmas.Slice.Eq.{bytes_eq-Decides}
use Rattle.lv_ast.specs.Names.{is_letter, is_inner, is_keyword}
use Rattle.lv_ast.specs.Tokens.{is_blank, is_digit, is_number_byte, is_printed, is_free, is_sign, digit_value, base_of, is_base_digit, is_base_byte, is_word, without_sign, without_blanks, is_digits, is_base_and_digits, marks, is_mark, is_line_end, kind_if, after_backslash, kind_of}
use Rattle.lv_ast.specs.TokenLists.{opening, Nothing}
use Rattle.lv_ast.specs.declared.tokens.Kind.{Kind}
use Rattle.lv_ast.specs.declared.tokens.Kind.TheVariants as k
use Rattle.lv_print.specs.Written.{is_kind}

-- the kinds of tokens that are written
abbrev pub is_ordinary : Kind → Bool
is_ordinary k.Tick = false
is_ordinary k.Line = false
is_ordinary k.Join = false
is_ordinary _ = true

-- a space or a newline
pub data IsGapByte : ℕ → Type 0 where
  space : IsGapByte 32
  newline : IsGapByte 10

no-bytes : kind_of [] ≡ None
unfolding kind_of
no-bytes = refl

-- ---- a test of each byte

all-stops : (p : ℕ → Bool) (xs u : List ℕ) (c : ℕ) → p c ≡ false → list_all p (xs ++ (c ∷ u)) ≡ false
all-stops p [] u c h = ap (λ b. b && list_all p u) h
all-stops p (x ∷ xs) u c h = elim (p x) as (λ b. (b && list_all p (xs ++ (c ∷ u))) ≡ false) [ true ↦ all-stops p xs u c h | false ↦ refl ]

false-behind : (a b : Bool) → b ≡ false → (a && b) ≡ false
false-behind true b h = h
false-behind false b h = refl

inner-stop : (c : ℕ) → IsGapByte c → is_inner c ≡ false
inner-stop _ space = refl
inner-stop _ newline = refl

number-stop : (c : ℕ) → IsGapByte c → is_number_byte c ≡ false
unfolding is_number_byte is_digit
number-stop _ space = refl
number-stop _ newline = refl

apostrophe-stop : is_number_byte 39 ≡ false
unfolding is_number_byte is_digit
apostrophe-stop = refl

printed-stop : (c : ℕ) → IsGapByte c → is_printed c ≡ false
unfolding is_printed
printed-stop _ space = refl
printed-stop _ newline = refl

-- ---- kinds

if-some : (b : Bool) (k j : Kind) → kind_if b k ≡ Some j → b ≡ true
if-some true k j h = refl
if-some false k j h = absurd (none-some j h)

if-none : (b : Bool) (k : Kind) → b ≡ false → kind_if b k ≡ None
if-none b k h = ap (λ z. kind_if z k) h

word-stops : (s u : List ℕ) (c : ℕ) → is_inner c ≡ false → is_word s ≡ true → is_word (s ++ (c ∷ u)) ≡ false
unfolding is_word
word-stops [] u c h e = absurd (true≢false (sym e))
word-stops (x ∷ xs) u c h e = false-behind (is_letter x) _ (all-stops is_inner xs u c h)

-- ---- behind a backslash

end-not : (x : ℕ) (ys : List ℕ) → is_printed x ≡ true → is_line_end (x ∷ ys) ≡ false
unfolding is_printed
end-not x ys h =
    elim (x == 10) as (λ b. x == 10 ≡ b → ((b && bytes_eq ys []) || ((x == 13) && bytes_eq ys (10 ∷ []))) ≡ false) [
      | true ↦ λ e. absurd (true≢false (sym h ∙ ap is_printed (eqb-true x 10 e)))
      | false ↦ λ _.
          elim (x == 13) as (λ b. x == 13 ≡ b → (b && bytes_eq ys (10 ∷ [])) ≡ false) [
            | true ↦ λ e. absurd (true≢false (sym h ∙ ap is_printed (eqb-true x 13 e)))
            | false ↦ λ _. refl
          ] refl
    ] refl

first-true : (a b : Bool) → (a && b) ≡ true → a ≡ true
first-true true b h = refl
first-true false b h = absurd (true≢false (sym h))

second-true : (a b : Bool) → (a && b) ≡ true → b ≡ true
second-true true b h = h
second-true false b h = absurd (true≢false (sym h))

join-not : (j : Kind) → Some k.Join ≡ Some j → is_ordinary j ≡ true → ⊥
join-not k.Name h e = cc
join-not k.Escaped h e = cc
join-not k.Word h e = cc
join-not k.System h e = cc
join-not k.Tick h e = true≢false (sym e)
join-not k.Number h e = cc
join-not k.Based h e = cc
join-not k.Mark h e = cc
join-not k.Line h e = true≢false (sym e)
join-not k.Join h e = true≢false (sym e)

line-not : (j : Kind) (b : Bool) → kind_if b k.Line ≡ Some j → is_ordinary j ≡ true → ⊥
line-not j false h e = none-some j h
line-not k.Name true h e = cc
line-not k.Escaped true h e = cc
line-not k.Word true h e = cc
line-not k.System true h e = cc
line-not k.Tick true h e = true≢false (sym e)
line-not k.Number true h e = cc
line-not k.Based true h e = cc
line-not k.Mark true h e = cc
line-not k.Line true h e = true≢false (sym e)
line-not k.Join true h e = true≢false (sym e)

backslash-stops : (s u : List ℕ) (c : ℕ) (j : Kind) → IsGapByte c → is_ordinary j ≡ true → after_backslash s ≡ Some j → after_backslash (s ++ (c ∷ u)) ≡ None
unfolding after_backslash
backslash-stops [] u c j g o = λ h. absurd (none-some j h)
backslash-stops (x ∷ xs) u c j g o =
    elim (is_line_end (x ∷ xs)) as (λ b. (if b then Some k.Join else kind_if (list_all is_printed (x ∷ xs)) k.Escaped) ≡ Some j → after_backslash (x ∷ (xs ++ (c ∷ u))) ≡ None) [
      | true ↦ λ h. absurd (join-not j h o)
      | false ↦ λ h.
          let all : list_all is_printed (x ∷ xs) ≡ true = if-some _ k.Escaped j h in
          let no : is_line_end (x ∷ (xs ++ (c ∷ u))) ≡ false = end-not x (xs ++ (c ∷ u)) (first-true (is_printed x) _ all) in
          ap (λ b. if b then Some k.Join else kind_if (list_all is_printed (x ∷ (xs ++ (c ∷ u)))) k.Escaped) no ∙ if-none _ k.Escaped (all-stops is_printed (x ∷ xs) u c (printed-stop c g))
    ]

-- ---- based tokens

blanks-behind : (s v : List ℕ) (d : ℕ) (ds : List ℕ) → without_blanks s ≡ d ∷ ds → without_blanks (s ++ v) ≡ (d ∷ ds) ++ v
unfolding without_blanks
blanks-behind [] v d ds = λ h. absurd (cc)
blanks-behind (x ∷ xs) v d ds =
    elim (is_blank x) as (λ b. (if b then without_blanks xs else x ∷ xs) ≡ d ∷ ds → (if b then without_blanks (xs ++ v) else x ∷ (xs ++ v)) ≡ (d ∷ ds) ++ v) [
      | true ↦ λ h. blanks-behind xs v d ds h
      | false ↦ λ h. ap (λ z. z ++ v) h
    ]

base-small : (c : ℕ) → nat_lt 16 (base_of c) ≡ false
unfolding base_of
base-small c =
    elim ((c == 98) || (c == 66)) as (λ b. nat_lt 16 (if b then 2 else (if (c == 111) || (c == 79) then 8 else (if (c == 100) || (c == 68) then 10 else (if (c == 104) || (c == 72) then 16
    else 0)))) ≡ false) [
      | true ↦ refl
      | false ↦ elim ((c == 111) || (c == 79)) as (λ b. nat_lt 16 (if b then 8 else (if (c == 100) || (c == 68) then 10 else (if (c == 104) || (c == 72) then 16 else 0))) ≡ false) [
        | true ↦ refl
        | false ↦ elim ((c == 100) || (c == 68)) as (λ b. nat_lt 16 (if b then 10 else (if (c == 104) || (c == 72) then 16 else 0)) ≡ false) [
          | true ↦ refl
          | false ↦ elim ((c == 104) || (c == 72)) as (λ b. nat_lt 16 (if b then 16 else 0) ≡ false) [ true ↦ refl | false ↦ refl ]
        ]
      ]
    ]

nothing-or : (a b : Bool) → a ≡ false → b ≡ false → (a || b) ≡ false
nothing-or a b h e = ap (λ z. z || b) h ∙ e

digit-stop : (b c : ℕ) → IsGapByte c → is_base_byte (base_of b) c ≡ false
unfolding is_base_byte is_base_digit is_free digit_value
digit-stop b _ space = nothing-or _ _ (base-small b) (false-behind (not (base_of b == 10)) false refl)
digit-stop b _ newline = nothing-or _ _ (base-small b) (false-behind (not (base_of b == 10)) false refl)

digits-stop : (b : ℕ) (s u : List ℕ) (c : ℕ) → IsGapByte c → is_digits (base_of b) (without_blanks s) ≡ true → is_digits (base_of b) (without_blanks (s ++ (c ∷ u))) ≡ false
unfolding is_digits
digits-stop b s u c g =
    elim (without_blanks s) as (λ z. without_blanks s ≡ z → is_digits (base_of b) z ≡ true → is_digits (base_of b) (without_blanks (s ++ (c ∷ u))) ≡ false) [
      | [] ↦ λ e h. absurd (true≢false (sym h))
      | ◌∷◌ d ds ↦ λ e h. ap (is_digits (base_of b)) (blanks-behind s (c ∷ u) d ds e) ∙ false-behind (is_base_digit (base_of b) d) _ (all-stops (is_base_byte (base_of b)) ds u c (digit-stop b c g))
    ] refl

base-stops : (s u : List ℕ) (c : ℕ) → IsGapByte c → is_base_and_digits s ≡ true → is_base_and_digits (s ++ (c ∷ u)) ≡ false
unfolding is_base_and_digits
base-stops [] u c g h = absurd (true≢false (sym h))
base-stops (b ∷ s) u c g h = false-behind (not (base_of b == 0)) _ (digits-stop b s u c g (second-true (not (base_of b == 0)) _ h))

no-base : is_base_and_digits (without_sign []) ≡ false
unfolding is_base_and_digits without_sign
no-base = refl

sign-behind : (x : ℕ) (xs v : List ℕ) → without_sign (x ∷ (xs ++ v)) ≡ without_sign (x ∷ xs) ++ v
unfolding without_sign
sign-behind x xs v = elim (is_sign x) as (λ b. (if b then xs ++ v else x ∷ (xs ++ v)) ≡ (if b then xs else x ∷ xs) ++ v) [ true ↦ refl | false ↦ refl ]

based-stops : (s u : List ℕ) (c : ℕ) → IsGapByte c → is_base_and_digits (without_sign s) ≡ true → is_base_and_digits (without_sign (s ++ (c ∷ u))) ≡ false
based-stops [] u c g h = absurd (true≢false (sym h ∙ no-base))
based-stops (x ∷ xs) u c g h = ap is_base_and_digits (sign-behind x xs (c ∷ u)) ∙ base-stops (without_sign (x ∷ xs)) u c g h

-- ---- marks

-- no mark has this byte
abbrev lacks : ℕ → List ℕ → Bool
lacks c m = list_all (λ d. not (d == c)) m

in-it : (b u : List ℕ) (c : ℕ) → not (c == c) ≡ false → lacks c (b ++ (c ∷ u)) ≡ false
in-it b u c h = all-stops (λ d. not (d == c)) b u c h

none-has : (ms : List (List ℕ)) (b u : List ℕ) (c : ℕ) → not (c == c) ≡ false → list_all (lacks c) ms ≡ true → list_any (bytes_eq (b ++ (c ∷ u))) ms ≡ false
none-has [] b u c h e = refl
none-has (m ∷ ms) b u c h e =
    elim (bytes_eq (b ++ (c ∷ u)) m) as (λ z. bytes_eq (b ++ (c ∷ u)) m ≡ z → (z || list_any (bytes_eq (b ++ (c ∷ u))) ms) ≡ false) [
      | true ↦ λ q. absurd (true≢false (sym (first-true (lacks c m) _ e) ∙ ap (lacks c) (sym ((bytes_eq-Decides (b ++ (c ∷ u)) m).0 q)) ∙ in-it b u c h))
      | false ↦ λ _. none-has ms b u c h (second-true (lacks c m) _ e)
    ] refl

mark-stops : (b u : List ℕ) (c : ℕ) → IsGapByte c → is_mark (b ++ (c ∷ u)) ≡ false
unfolding is_mark
mark-stops b u _ space = none-has marks b u 32 refl refl
mark-stops b u _ newline = none-has marks b u 10 refl refl

-- ---- all kinds

-- the kind by what is said of the first byte
abbrev kind_by : Bool → Bool → Bool → Bool → Bool → Bool → Bool → List ℕ → List ℕ → Option Kind
kind_by letter digit backslash dollar accent apostrophe line s cs =
    if letter then kind_if (is_word s) (if is_keyword s then k.Word else k.Name)
    else (if digit then kind_if (list_all is_number_byte cs) k.Number
    else (if backslash then after_backslash cs
    else (if dollar then kind_if (is_word cs) k.System
    else (if accent then kind_if (is_word cs) k.Tick
    else (if apostrophe then kind_if (is_base_and_digits (without_sign cs)) k.Based
    else (if line then kind_if (bytes_eq cs []) k.Line
    else kind_if (is_mark s) k.Mark))))))

pub stops : (s u : List ℕ) (c : ℕ) (j : Kind) → IsGapByte c → is_ordinary j ≡ true → kind_of s ≡ Some j → kind_of (s ++ (c ∷ u)) ≡ None
unfolding kind_of
stops [] u c j g o = λ h. absurd (none-some j h)
stops (x ∷ xs) u c j g o =
    let v : List ℕ = xs ++ (c ∷ u) in
    elim (is_letter x) as (λ l. kind_by l (is_digit x) (x == 92) (x == 36) (x == 96) (x == 39) (x == 10) (x ∷ xs) xs ≡ Some j →
    kind_by l (is_digit x) (x == 92) (x == 36) (x == 96) (x == 39) (x == 10) (x ∷ v) v ≡ None) [
      | true ↦ λ h. if-none _ _ (word-stops (x ∷ xs) u c (inner-stop c g) (if-some _ _ j h))
      | false ↦ elim (is_digit x) as (λ l. kind_by false l (x == 92) (x == 36) (x == 96) (x == 39) (x == 10) (x ∷ xs) xs ≡ Some j →
          kind_by false l (x == 92) (x == 36) (x == 96) (x == 39) (x == 10) (x ∷ v) v ≡ None) [
            | true ↦ λ h. if-none _ _ (all-stops is_number_byte xs u c (number-stop c g))
            | false ↦ elim (x == 92) as (λ l. kind_by false false l (x == 36) (x == 96) (x == 39) (x == 10) (x ∷ xs) xs ≡ Some j →
                kind_by false false l (x == 36) (x == 96) (x == 39) (x == 10) (x ∷ v) v ≡ None) [
                  | true ↦ λ h. backslash-stops xs u c j g o h
                  | false ↦ elim (x == 36) as (λ l. kind_by false false false l (x == 96) (x == 39) (x == 10) (x ∷ xs) xs ≡ Some j →
                      kind_by false false false l (x == 96) (x == 39) (x == 10) (x ∷ v) v ≡ None) [
                        | true ↦ λ h. if-none _ _ (word-stops xs u c (inner-stop c g) (if-some _ _ j h))
                        | false ↦ elim (x == 96) as (λ l. kind_by false false false false l (x == 39) (x == 10) (x ∷ xs) xs ≡ Some j → kind_by false false false false l (x == 39) (x == 10) (x ∷ v) v ≡ None) [
                          | true ↦ λ h. if-none _ _ (word-stops xs u c (inner-stop c g) (if-some _ _ j h))
                          | false ↦ elim (x == 39) as (λ l. kind_by false false false false false l (x == 10) (x ∷ xs) xs ≡ Some j → kind_by false false false false false l (x == 10) (x ∷ v) v ≡ None) [
                            | true ↦ λ h. if-none _ _ (based-stops xs u c g (if-some _ _ j h))
                            | false ↦ elim (x == 10) as (λ l. kind_by false false false false false false l (x ∷ xs) xs ≡ Some j → kind_by false false false false false false l (x ∷ v) v ≡ None) [
                              | true ↦ λ h. absurd (line-not j _ h o)
                              | false ↦ λ h. if-none _ _ (mark-stops (x ∷ xs) u c g)
                            ]
                          ]
                        ]
                      ]
                ]
          ]
    ]

-- ---- a number ends before an apostrophe

not-number : (b : Bool) (j : Kind) → is_kind j k.Number ≡ false → kind_if b j ≡ Some k.Number → ⊥
not-number false j n h = none-some k.Number h
not-number true j n h = (let e : j ≡ k.Number = cc in true≢false (sym (ap (λ z. is_kind z k.Number) e) ∙ n))

not-number_word : (b w : Bool) → kind_if b (if w then k.Word else k.Name) ≡ Some k.Number → ⊥
not-number_word b true h = not-number b k.Word refl h
not-number_word b false h = not-number b k.Name refl h

not-number_behind : (s : List ℕ) → after_backslash s ≡ Some k.Number → ⊥
unfolding after_backslash
not-number_behind [] = λ h. none-some k.Number h
not-number_behind (x ∷ xs) =
    elim (is_line_end (x ∷ xs)) as (λ b. (if b then Some k.Join else kind_if (list_all is_printed (x ∷ xs)) k.Escaped) ≡ Some k.Number → ⊥) [
      | true ↦ λ h. not-number true k.Join refl h
      | false ↦ λ h. not-number _ k.Escaped refl h
    ]

pub number_stops : (s u : List ℕ) → kind_of s ≡ Some k.Number → kind_of (s ++ (39 ∷ u)) ≡ None
unfolding kind_of
number_stops [] u = λ h. absurd (none-some k.Number h)
number_stops (x ∷ xs) u =
    let v : List ℕ = xs ++ (39 ∷ u) in
    elim (is_letter x) as (λ l. kind_by l (is_digit x) (x == 92) (x == 36) (x == 96) (x == 39) (x == 10) (x ∷ xs) xs ≡ Some k.Number →
    kind_by l (is_digit x) (x == 92) (x == 36) (x == 96) (x == 39) (x == 10) (x ∷ v) v ≡ None) [
      | true ↦ λ h. absurd (not-number_word _ _ h)
      | false ↦ elim (is_digit x) as (λ l. kind_by false l (x == 92) (x == 36) (x == 96) (x == 39) (x == 10) (x ∷ xs) xs ≡ Some k.Number →
          kind_by false l (x == 92) (x == 36) (x == 96) (x == 39) (x == 10) (x ∷ v) v ≡ None) [
            | true ↦ λ h. if-none _ _ (all-stops is_number_byte xs u 39 apostrophe-stop)
            | false ↦ elim (x == 92) as (λ l. kind_by false false l (x == 36) (x == 96) (x == 39) (x == 10) (x ∷ xs) xs ≡ Some k.Number →
                kind_by false false l (x == 36) (x == 96) (x == 39) (x == 10) (x ∷ v) v ≡ None) [
                  | true ↦ λ h. absurd (not-number_behind xs h)
                  | false ↦ elim (x == 36) as (λ l. kind_by false false false l (x == 96) (x == 39) (x == 10) (x ∷ xs) xs ≡ Some k.Number →
                      kind_by false false false l (x == 96) (x == 39) (x == 10) (x ∷ v) v ≡ None) [
                        | true ↦ λ h. absurd (not-number _ k.System refl h)
                        | false ↦ elim (x == 96) as (λ l. kind_by false false false false l (x == 39) (x == 10) (x ∷ xs) xs ≡ Some k.Number →
                            kind_by false false false false l (x == 39) (x == 10) (x ∷ v) v ≡ None) [
                              | true ↦ λ h. absurd (not-number _ k.Tick refl h)
                              | false ↦ elim (x == 39) as (λ l. kind_by false false false false false l (x == 10) (x ∷ xs) xs ≡ Some k.Number → kind_by false false false false false l (x == 10) (x ∷ v) v ≡ None) [
                                | true ↦ λ h. absurd (not-number _ k.Based refl h)
                                | false ↦ elim (x == 10) as (λ l. kind_by false false false false false false l (x ∷ xs) xs ≡ Some k.Number → kind_by false false false false false false l (x ∷ v) v ≡ None) [
                                  | true ↦ λ h. absurd (not-number _ k.Line refl h)
                                  | false ↦ λ h. absurd (not-number _ k.Mark refl h)
                                ]
                              ]
                            ]
                      ]
                ]
          ]
    ]

-- ---- no comment begins where a token does

-- what stands behind a token of a kind
pub data IsRest (j : Kind) : List ℕ → Type 0 where
  at_end : IsRest j []
  at_gap : (c : ℕ) (u : List ℕ) → IsGapByte c → IsRest j (c ∷ u)
  at_base : (u : List ℕ) → j ≡ k.Number → IsRest j (39 ∷ u)

opening-other : (x : ℕ) (v : List ℕ) → (x == 47) ≡ false → opening (x ∷ v) ≡ Nothing
unfolding opening
opening-other x [] h = refl
opening-other x (y ∷ v) h = rw h refl

alone : (y : ℕ) (ys : List ℕ) → kind_of (47 ∷ y ∷ ys) ≡ None
unfolding kind_of is_mark is_digit
alone y ys = refl

slash-end : opening (47 ∷ []) ≡ Nothing
unfolding opening
slash-end = refl

slash-gap : (c : ℕ) (u : List ℕ) → IsGapByte c → opening (47 ∷ c ∷ u) ≡ Nothing
unfolding opening
slash-gap _ u space = refl
slash-gap _ u newline = refl

slash-base : (u : List ℕ) → opening (47 ∷ 39 ∷ u) ≡ Nothing
unfolding opening
slash-base u = refl

slash-rest : (j : Kind) (r : List ℕ) → IsRest j r → opening (47 ∷ r) ≡ Nothing
slash-rest j _ at_end = slash-end
slash-rest j _ (at_gap c u g) = slash-gap c u g
slash-rest j _ (at_base u e) = slash-base u

slash-opens : (xs r : List ℕ) (j i : Kind) → kind_of (47 ∷ xs) ≡ Some j → IsRest i r → opening (47 ∷ (xs ++ r)) ≡ Nothing
slash-opens [] r j i h e = slash-rest i r e
slash-opens (y ∷ ys) r j i h e = absurd (none-some j (sym (alone y ys) ∙ h))

pub opens : (s r : List ℕ) (j i : Kind) → kind_of s ≡ Some j → IsRest i r → opening (s ++ r) ≡ Nothing
opens [] r j i h e = absurd (none-some j (sym no-bytes ∙ h))
opens (x ∷ xs) r j i h e =
    elim (x == 47) as (λ b. x == 47 ≡ b → opening (x ∷ (xs ++ r)) ≡ Nothing) [
      | true ↦ λ q.
          let f : x ≡ 47 = eqb-true x 47 q in
          ap (λ z. opening (z ∷ (xs ++ r))) f ∙ slash-opens xs r j i (subst (λ z. kind_of (z ∷ xs) ≡ Some j) f h) e
      | false ↦ λ q. opening-other x (xs ++ r) q
    ] refl
