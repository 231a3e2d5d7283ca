-- Whole tokens give names that can be written, and literals whose free bits are apart from their value.
use Rattle.std.proofs.Common.{eq-eqb, ◌≡◌, ℕ, ◌+◌, ◌-◌, ◌*◌, ◌/◌, ◌%◌, ◌^◌, ◌<◌, ◌≤◌, nat_lt, Bool, true, false, not, ◌&&◌, ◌||◌, if◌then◌else◌, ◌==◌, List, [], ◌∷◌, length, bytes_eq, Option, Some, None, refl, sym, ap, ◌∙◌, subst, arith, true≢false}
use Rattle.std.specs.Prelude.{slice_range, codes}
use Rattle.std.specs.List.{list_all}
use Rattle.std.proofs.lemmas.Bool.{eqb-true, ltb-true, ltb-false, leb-true}
use Rattle.std.proofs.lemmas.Option.{none-some}
use Rattle.std.proofs.lemmas.Nat.Bits.{bit_at-zero, bit_at_cat_low, bit_at_cat_high}
use Rattle.std.proofs.Math.Pow.{pow_pos}
use Rattle.std.proofs.Math.Nat.{mod-lt}
use Rattle.lv_ast.specs.Names.{is_letter, is_inner, is_keyword, is_simple}
use Rattle.lv_ast.specs.Tokens.{token_bytes, is_digit, is_number_byte, is_free, digit_value, base_of, digits_number, value_digit, free_digit, based_base, based_digits, is_base_digit, is_base_byte, is_word, without_sign, without_blanks, is_digits, is_base_and_digits, is_mark, is_line_end, is_printed, kind_if, after_backslash, kind_of, fits}
use Rattle.lv_ast.specs.Tokens as tok
use Rattle.lv_ast.specs.TokenLists.{kind_number, is_kind, is_token, are_tokens}
use Rattle.lv_ast.specs.declared.tokens.Kind.{Kind}
use Rattle.lv_ast.specs.declared.tokens.Kind.TheVariants as k
use Rattle.lv_ast.specs.declared.tokens.Token.{Token}
use Rattle.lv_exprs.specs.declared.symbol.Symbol.{Symbol}
use Rattle.lv_exprs.specs.declared.symbol.Symbol.TheVariants as t
use Rattle.lv_exprs.specs.Literals.{leads_free, above, based_of}
use Rattle.lv_exprs.specs.Symbols.{one_mark, one_sign, two_marks, two_signs, three_signs, mark_symbol, system_symbol, behind, kind_symbol, symbols}
use Rattle.lv_print.specs.Written.{Written, written}
use Rattle.lv_print.proofs.DigitBack.{both}
use Rattle.lv_print.proofs.FreeBack.{Apart, apart_cut}
use Rattle.lv_print.proofs.Spelled.{IsWritable, slice_behind, slice_long}
use Rattle.lv_print.proofs.ExprBack.{AreGivenBits, Good, AllGood}

not-true : (b : Bool) → not b ≡ true → b ≡ false
not-true true h = absurd (true≢false (sym h))
not-true false h = refl

zero-one : (a : ℕ) → a ≡ 0 → a ≡ 1 → ⊥
zero-one a e f = omega (arith, e, f)

no-bytes : kind_of [] ≡ None
unfolding kind_of
no-bytes = refl

same-number : (j : Kind) → (kind_number j == kind_number j) ≡ true
same-number j = eq-eqb _ _ refl

-- ---- marks and system names are no names and no numbers

abbrev is_other : Symbol → Bool
is_other (t.Name n) = false
is_other (t.Number n) = false
is_other (t.Based b) = false
is_other _ = true

other-if : (b : Bool) (x y : Symbol) → is_other x ≡ true → is_other y ≡ true → is_other (if b then x else y) ≡ true
other-if true x y h k = h
other-if false x y h k = k

one-mark : (a : ℕ) → is_other (one_mark a) ≡ true
one-mark a =
    other-if (a == 40) _ _ refl (
    other-if (a == 41) _ _ refl (
    other-if (a == 91) _ _ refl (
    other-if (a == 93) _ _ refl (
    other-if (a == 123) _ _ refl (
    other-if (a == 125) _ _ refl (
    other-if (a == 44) _ _ refl (
    other-if (a == 58) _ _ refl (
    other-if (a == 46) _ _ refl (
    other-if (a == 63) _ _ refl (
    refl))))))))))

one-sign : (a : ℕ) → is_other (one_sign a) ≡ true
one-sign a =
    other-if (a == 43) _ _ refl (
    other-if (a == 45) _ _ refl (
    other-if (a == 42) _ _ refl (
    other-if (a == 47) _ _ refl (
    other-if (a == 37) _ _ refl (
    other-if (a == 126) _ _ refl (
    other-if (a == 33) _ _ refl (
    other-if (a == 38) _ _ refl (
    other-if (a == 124) _ _ refl (
    other-if (a == 94) _ _ refl (
    other-if (a == 60) _ _ refl (
    other-if (a == 62) _ _ refl (
    one-mark a))))))))))))

two-marks : (a b : ℕ) → is_other (two_marks a b) ≡ true
two-marks a b =
    other-if ((a == 60) && (b == 61)) _ _ refl (
    other-if ((a == 62) && (b == 61)) _ _ refl (
    other-if ((a == 61) && (b == 61)) _ _ refl (
    other-if ((a == 33) && (b == 61)) _ _ refl (
    other-if ((a == 38) && (b == 38)) _ _ refl (
    other-if ((a == 124) && (b == 124)) _ _ refl (
    other-if ((a == 60) && (b == 60)) _ _ refl (
    other-if ((a == 62) && (b == 62)) _ _ refl (
    refl))))))))

two-signs : (a b : ℕ) → is_other (two_signs a b) ≡ true
two-signs a b =
    other-if ((a == 126) && (b == 38)) _ _ refl (
    other-if ((a == 126) && (b == 124)) _ _ refl (
    other-if ((a == 126) && (b == 94)) _ _ refl (
    other-if ((a == 94) && (b == 126)) _ _ refl (
    other-if ((a == 43) && (b == 58)) _ _ refl (
    other-if ((a == 45) && (b == 58)) _ _ refl (
    two-marks a b))))))

three-signs : (a b c : ℕ) → is_other (three_signs a b c) ≡ true
three-signs a b c =
    other-if ((a == 60) && (b == 60) && (c == 60)) _ _ refl (
    other-if ((a == 62) && (b == 62) && (c == 62)) _ _ refl (
    refl))

mark-other : (s : List ℕ) → is_other (mark_symbol s) ≡ true
mark-other [] = refl
mark-other (a ∷ []) = one-sign a
mark-other (a ∷ b ∷ []) = two-signs a b
mark-other (a ∷ b ∷ c ∷ []) = three-signs a b c
mark-other (a ∷ b ∷ c ∷ e ∷ s) = refl

system-other : (s : List ℕ) → is_other (system_symbol s) ≡ true
system-other s = other-if (bytes_eq s (codes "$signed")) _ _ refl (other-if (bytes_eq s (codes "$unsigned")) _ _ refl refl)

good-symbol : (text : List ℕ) (x : Symbol) → is_other x ≡ true → Good text x
good-symbol text (t.Name n) h = absurd (true≢false (sym h))
good-symbol text (t.Number n) h = absurd (true≢false (sym h))
good-symbol text (t.Based b) h = absurd (true≢false (sym h))
good-symbol text (t.Cast b) h = tt
good-symbol text (t.Sign s) h = tt
good-symbol text (t.Divider r) h = tt
good-symbol text t.Question h = tt
good-symbol text t.Dot h = tt
good-symbol text t.Comma h = tt
good-symbol text t.LeftParen h = tt
good-symbol text t.RightParen h = tt
good-symbol text t.LeftBracket h = tt
good-symbol text t.RightBracket h = tt
good-symbol text t.LeftBrace h = tt
good-symbol text t.RightBrace h = tt
good-symbol text t.Other h = tt

-- ---- the first byte of a token of a kind

data Lead (x : ℕ) (xs : List ℕ) (j : Kind) : Type 0 where
  by_letter : kind_if (is_word (x ∷ xs)) (if is_keyword (x ∷ xs) then k.Word else k.Name) ≡ Some j → Lead x xs j
  by_digit : kind_if (list_all is_number_byte xs) k.Number ≡ Some j → Lead x xs j
  by_backslash : x ≡ 92 → after_backslash xs ≡ Some j → Lead x xs j
  by_dollar : kind_if (is_word xs) k.System ≡ Some j → Lead x xs j
  by_accent : kind_if (is_word xs) k.Tick ≡ Some j → Lead x xs j
  by_apostrophe : x ≡ 39 → kind_if (is_base_and_digits (without_sign xs)) k.Based ≡ Some j → Lead x xs j
  by_line : kind_if (bytes_eq xs []) k.Line ≡ Some j → Lead x xs j
  by_mark : kind_if (is_mark (x ∷ xs)) k.Mark ≡ Some j → Lead x xs j

-- by the two cases of a test
by-test : {A : Type 0} (b : Bool) {u v : Option Kind} (j : Kind) → (b ≡ true → u ≡ Some j → A) → (b ≡ false → v ≡ Some j → A) → (if b then u else v) ≡ Some j → A
by-test true j f g h = f refl h
by-test false j f g h = g refl h

lead : (x : ℕ) (xs : List ℕ) (j : Kind) → kind_of (x ∷ xs) ≡ Some j → Lead x xs j
unfolding kind_of
lead x xs j =
    by-test (is_letter x) j (λ _ h. by_letter h) (λ _.
    by-test (is_digit x) j (λ _ h. by_digit h) (λ _.
    by-test (x == 92) j (λ e h. by_backslash (eqb-true x 92 e) h) (λ _.
    by-test (x == 36) j (λ _ h. by_dollar h) (λ _.
    by-test (x == 96) j (λ _ h. by_accent h) (λ _.
    by-test (x == 39) j (λ e h. by_apostrophe (eqb-true x 39 e) h) (λ _.
    by-test (x == 10) j (λ _ h. by_line h) (λ _ h. by_mark h)))))))

if-kind : (b : Bool) (i j : Kind) → kind_if b i ≡ Some j → (b ≡ true) × (i ≡ j)
if-kind true i j h = (refl, cc)
if-kind false i j h = absurd (none-some j h)

abbrev other_kind : Kind → Kind → Type 0
other_kind i j = (kind_number i == kind_number j) ≡ false

not-kind : (b : Bool) (i j : Kind) → other_kind i j → kind_if b i ≡ Some j → ⊥
not-kind b i j n h = (let e : i ≡ j = (if-kind b i j h).1 in true≢false (sym (same-number i) ∙ ap (λ z. kind_number i == kind_number z) e ∙ n))

word-or-name : (b w : Bool) (j : Kind) → other_kind k.Word j → other_kind k.Name j → kind_if b (if w then k.Word else k.Name) ≡ Some j → ⊥
word-or-name b true j n m h = not-kind b k.Word j n h
word-or-name b false j n m h = not-kind b k.Name j m h

-- ---- names

simple-by : (b w : Bool) → kind_if b (if w then k.Word else k.Name) ≡ Some k.Name → (b ≡ true) × (w ≡ false)
simple-by b true h = absurd (not-kind b k.Word k.Name refl h)
simple-by b false h = ((if-kind b k.Name k.Name h).0, refl)

backslash-kind : (xs : List ℕ) (j : Kind) → other_kind k.Join j → other_kind k.Escaped j → after_backslash xs ≡ Some j → ⊥
unfolding after_backslash
backslash-kind [] j n m = λ h. none-some j h
backslash-kind (x ∷ xs) j n m =
    elim (is_line_end (x ∷ xs)) as (λ b. (if b then Some k.Join else kind_if (list_all is_printed (x ∷ xs)) k.Escaped) ≡ Some j → ⊥) [
      | true ↦ λ h. not-kind true k.Join j n h
      | false ↦ λ h. not-kind _ k.Escaped j m h
    ]

simple-name : (x : ℕ) (xs : List ℕ) → kind_of (x ∷ xs) ≡ Some k.Name → is_simple (x ∷ xs) ≡ true
unfolding is_word
simple-name x xs h =
    elim (lead x xs k.Name h) [
      | by_letter e ↦ (let q = simple-by (is_word (x ∷ xs)) (is_keyword (x ∷ xs)) e in ap (λ b. b && not (is_keyword (x ∷ xs))) q.0 ∙ ap not q.1)
      | by_digit e ↦ absurd (not-kind _ k.Number k.Name refl e)
      | by_backslash a e ↦ absurd (backslash-kind xs k.Name refl refl e)
      | by_dollar e ↦ absurd (not-kind _ k.System k.Name refl e)
      | by_accent e ↦ absurd (not-kind _ k.Tick k.Name refl e)
      | by_apostrophe a e ↦ absurd (not-kind _ k.Based k.Name refl e)
      | by_line e ↦ absurd (not-kind _ k.Line k.Name refl e)
      | by_mark e ↦ absurd (not-kind _ k.Mark k.Name refl e)
    ]

-- a simple name is a whole token
simple-kind : (s : List ℕ) → is_simple s ≡ true → kind_of s ≡ Some k.Name
unfolding kind_of is_word
simple-kind [] h = absurd (true≢false (sym h))
simple-kind (x ∷ xs) h =
    let q = both (is_letter x && list_all is_inner xs) (not (is_keyword (x ∷ xs))) h in
    let r = both (is_letter x) (list_all is_inner xs) q.0 in
    let n : is_keyword (x ∷ xs) ≡ false = not-true _ q.1 in
    rw (r.0, r.1, n) refl

abbrev written-by : Bool → List ℕ → Written
written-by b s = if b then written k.Name s else written k.Escaped (92 ∷ s)

writable-by : (s : List ℕ) (b : Bool) → is_simple s ≡ b → (b ≡ false → kind_of (92 ∷ s) ≡ Some k.Escaped) → IsWritable s
writable-by s true e h = record { kind = ap (λ b. kind_of (written-by b s).bytes) e ∙ simple-kind s e ∙ ap (λ b. Some (written-by b s).kind) (sym e) }
writable-by s false e h = record { kind = ap (λ b. kind_of (written-by b s).bytes) e ∙ h refl ∙ ap (λ b. Some (written-by b s).kind) (sym e) }

escaped-by : (xs : List ℕ) → kind_of (92 ∷ xs) ≡ Some k.Escaped → IsWritable xs
escaped-by xs h = writable-by xs (is_simple xs) refl (λ _. h)

pub name_writable : (s : List ℕ) → kind_of s ≡ Some k.Name → IsWritable s
name_writable [] h = absurd (none-some k.Name (sym no-bytes ∙ h))
name_writable (x ∷ xs) h = writable-by (x ∷ xs) (is_simple (x ∷ xs)) refl (λ f. absurd (true≢false (sym (simple-name x xs h) ∙ f)))

escaped-first : (x : ℕ) (xs : List ℕ) → kind_of (x ∷ xs) ≡ Some k.Escaped → x ≡ 92
escaped-first x xs h =
    elim (lead x xs k.Escaped h) [
      | by_letter e ↦ absurd (word-or-name _ _ k.Escaped refl refl e)
      | by_digit e ↦ absurd (not-kind _ k.Number k.Escaped refl e)
      | by_backslash a e ↦ a
      | by_dollar e ↦ absurd (not-kind _ k.System k.Escaped refl e)
      | by_accent e ↦ absurd (not-kind _ k.Tick k.Escaped refl e)
      | by_apostrophe a e ↦ absurd (not-kind _ k.Based k.Escaped refl e)
      | by_line e ↦ absurd (not-kind _ k.Line k.Escaped refl e)
      | by_mark e ↦ absurd (not-kind _ k.Mark k.Escaped refl e)
    ]

-- an escaped name, by its whole token
pub escaped_writable : (s : List ℕ) → kind_of s ≡ Some k.Escaped → IsWritable (tok.tail s)
escaped_writable [] h = absurd (none-some k.Escaped (sym no-bytes ∙ h))
escaped_writable (x ∷ xs) h = escaped-by xs (subst (λ z. kind_of (z ∷ xs) ≡ Some k.Escaped) (escaped-first x xs h) h)

escaped-name : (text : List ℕ) (start end : ℕ) (s : List ℕ) → slice_range text start end ≡ s → end < 2 ^ 64 → kind_of s ≡ Some k.Escaped → IsWritable (slice_range text (behind start) end)
escaped-name text start end [] e l h = absurd (none-some k.Escaped (sym no-bytes ∙ h))
escaped-name text start end (x ∷ xs) e l h =
    let f : x ≡ 92 = escaped-first x xs h in
    let less : start < end = slice_long text text start end x xs e in
    let b : behind start ≡ start + 1 = omega (arith, less, l) in
    let rest : slice_range text (behind start) end ≡ xs = ap (λ z. slice_range text z end) b ∙ slice_behind text text start end x xs e in
    subst IsWritable (sym rest) (escaped-by xs (subst (λ z. kind_of (z ∷ xs) ≡ Some k.Escaped) f h))

-- ---- based tokens

or-second : (a b : Bool) → a ≡ false → (a || b) ≡ true → b ≡ true
or-second true b f h = absurd (true≢false f)
or-second false b f h = h

and-second : (a b : Bool) → b ≡ false → (a && b) ≡ false
and-second true b h = h
and-second false b h = refl

or-false : (a b : Bool) → b ≡ false → (a || b) ≡ true → a ≡ true
or-false true b f h = refl
or-false false b f h = absurd (true≢false (sym h ∙ f))

free-values : (c : ℕ) → is_free c ≡ true → digit_value c ≡ 16
unfolding is_free digit_value
free-values c =
    elim (c == 63) as (λ b. c == 63 ≡ b → (b || (c == 90) || (c == 122)) ≡ true → digit_value c ≡ 16) [
      | true ↦ λ e h. ap digit_value (eqb-true c 63 e)
      | false ↦ λ _. elim (c == 90) as (λ b. c == 90 ≡ b → (b || (c == 122)) ≡ true → digit_value c ≡ 16) [
        | true ↦ λ e h. ap digit_value (eqb-true c 90 e)
        | false ↦ λ _ h. ap digit_value (eqb-true c 122 h)
      ] refl
    ] refl

-- a digit that is neither free nor passed over is less than its base
digit-less : (base c : ℕ) → is_base_byte base c ≡ true → (c == 95) ≡ false → is_free c ≡ false → digit_value c < base
unfolding is_base_byte is_base_digit
digit-less base c h p f =
    let v : (nat_lt (digit_value c) base || (not (base == 10) && is_free c)) ≡ true = or-second (c == 95) _ p h in
    ltb-true (digit_value c) base (or-false _ _ (and-second (not (base == 10)) (is_free c) f) v)

apart-none : (w : ℕ) → Apart 0 w
apart-none w = record { bits = λ i _. bit_at-zero i }

apart-whole : (v : ℕ) → Apart v 0
apart-whole v = record { bits = λ i e. absurd (zero-one _ (bit_at-zero i) e) }

apart-bits : (j a w b f : ℕ) → Apart a w → Apart b f → b < 2 ^ j → f < 2 ^ j → (i : ℕ) → ((w * 2 ^ j + f) / 2 ^ i) % 2 ≡ 1 → ((a * 2 ^ j + b) / 2 ^ i) % 2 ≡ 0
apart-bits j a w b f h g bl fl i =
    elim (nat_lt i j) as (λ z. nat_lt i j ≡ z → ((w * 2 ^ j + f) / 2 ^ i) % 2 ≡ 1 → ((a * 2 ^ j + b) / 2 ^ i) % 2 ≡ 0) [
      | true ↦ λ z e. (let l : i < j = ltb-true i j z in bit_at_cat_low a j b i l ∙ g.bits i (sym (bit_at_cat_low w j f i l) ∙ e))
      | false ↦ λ z e. (let l : j ≤ i = ltb-false i j z in bit_at_cat_high a j b i bl l ∙ h.bits (i - j) (sym (bit_at_cat_high w j f i fl l) ∙ e))
    ] refl

apart-step : (j a w b f : ℕ) → Apart a w → Apart b f → b < 2 ^ j → f < 2 ^ j → Apart (a * 2 ^ j + b) (w * 2 ^ j + f)
apart-step j a w b f h g bl fl = record { bits = apart-bits j a w b f h g bl fl }

apart-digit : (j c a w : ℕ) → is_base_byte (2 ^ j) c ≡ true → (c == 95) ≡ false → Apart a w → Apart (a * 2 ^ j + value_digit c) (w * 2 ^ j + free_digit (2 ^ j) c)
apart-digit j c a w h p r =
    let s : 0 < 2 ^ j = pow_pos j in
    elim (is_free c) as (λ z. is_free c ≡ z → Apart (a * 2 ^ j + (if z then 0 else digit_value c)) (w * 2 ^ j + (if z then 2 ^ j - 1 else 0))) [
      | true ↦ λ _. apart-step j a w 0 (2 ^ j - 1) r (apart-none (2 ^ j - 1)) s (omega (arith, s))
      | false ↦ λ z. apart-step j a w (digit_value c) 0 r (apart-whole (digit_value c)) (digit-less (2 ^ j) c h p z) s
    ] refl

apart-digits : (j : ℕ) (s : List ℕ) (a w : ℕ) → list_all (is_base_byte (2 ^ j)) s ≡ true → Apart a w → Apart (digits_number value_digit (2 ^ j) a s) (digits_number (free_digit (2 ^ j)) (2 ^ j) w s)
unfolding digits_number
apart-digits j [] a w h r = r
apart-digits j (c ∷ s) a w h r =
    let q = both (is_base_byte (2 ^ j) c) (list_all (is_base_byte (2 ^ j)) s) h in
    apart-digits j s _ _ q.1 (elim (c == 95) as (λ z. (c == 95) ≡ z → Apart (if z then a else a * 2 ^ j + value_digit c) (if z then w else w * 2 ^ j + free_digit (2 ^ j) c)) [
      | true ↦ λ _. r
      | false ↦ λ z. apart-digit j c a w q.0 z r
    ] refl)

-- no decimal digit is free
ten-free : (c : ℕ) → is_base_byte 10 c ≡ true → (c == 95) ≡ false → is_free c ≡ false
unfolding is_base_byte is_base_digit
ten-free c h p =
    let v : (nat_lt (digit_value c) 10 || false) ≡ true = or-second (c == 95) _ p h in
    let l : digit_value c < 10 = ltb-true (digit_value c) 10 (or-false _ false refl v) in
    elim (is_free c) as (λ z. is_free c ≡ z → z ≡ false) [
      | true ↦ λ z. absurd (let e : digit_value c ≡ 16 = free-values c z in omega (arith, l, e))
      | false ↦ λ z. refl
    ] refl

ten-wild : (s : List ℕ) → list_all (is_base_byte 10) s ≡ true → digits_number (free_digit 10) 10 0 s ≡ 0
unfolding digits_number
ten-wild [] h = refl
ten-wild (c ∷ s) h =
    let q = both (is_base_byte 10 c) (list_all (is_base_byte 10) s) h in
    elim (c == 95) as (λ z. (c == 95) ≡ z → digits_number (free_digit 10) 10 (if z then 0 else 0 * 10 + free_digit 10 c) s ≡ 0) [
      | true ↦ λ _. ten-wild s q.1
      | false ↦ λ z. ap (λ b. digits_number (free_digit 10) 10 (0 * 10 + (if b then 10 - 1 else 0)) s) (ten-free c q.0 z) ∙ ten-wild s q.1
    ] refl

ten-leads : (s : List ℕ) → list_all (is_base_byte 10) s ≡ true → leads_free s ≡ false
ten-leads [] h = refl
ten-leads (c ∷ s) h =
    let q = both (is_base_byte 10 c) (list_all (is_base_byte 10) s) h in
    elim (c == 95) as (λ z. (c == 95) ≡ z → (if z then leads_free s else is_free c) ≡ false) [
      | true ↦ λ _. ten-leads s q.1
      | false ↦ λ z. ten-free c q.0 z
    ] refl

ten-apart : (s : List ℕ) → list_all (is_base_byte 10) s ≡ true → Apart (digits_number value_digit 10 0 s) (digits_number (free_digit 10) 10 (above s) s)
ten-apart s h =
    let e : digits_number (free_digit 10) 10 (above s) s ≡ 0 = ap (λ b. digits_number (free_digit 10) 10 (if b then 2 ^ 128 - 1 else 0) s) (ten-leads s h) ∙ ten-wild s h in
    subst (Apart (digits_number value_digit 10 0 s)) (sym e) (apart-whole _)

digits-bytes : (base : ℕ) (s : List ℕ) → is_digits base s ≡ true → list_all (is_base_byte base) s ≡ true
unfolding is_digits is_base_byte
digits-bytes base [] h = refl
digits-bytes base (c ∷ s) h =
    let q = both (is_base_digit base c) (list_all (is_base_byte base) s) h in
    ap (λ b. b && list_all (is_base_byte base) s) (elim (c == 95) as (λ b. (b || is_base_digit base c) ≡ true) [ true ↦ refl | false ↦ q.0 ]) ∙ q.1

-- the bases
data IsBase (n : ℕ) : Type 0 where
  power : (j : ℕ) → n ≡ 2 ^ j → IsBase n
  ten : n ≡ 10 → IsBase n

base-if : (b : Bool) (m : ℕ) {n : ℕ} → IsBase m → ((n == 0) ≡ false → IsBase n) → ((if b then m else n) == 0) ≡ false → IsBase (if b then m else n)
base-if true m h k e = h
base-if false m h k e = k e

is-base : (c : ℕ) → (base_of c == 0) ≡ false → IsBase (base_of c)
unfolding base_of
is-base c =
    base-if ((c == 98) || (c == 66)) 2 (power 1 refl) (base-if ((c == 111) || (c == 79)) 8 (power 3 refl)
    (base-if ((c == 100) || (c == 68)) 10 (ten refl) (base-if ((c == 104) || (c == 72)) 16 (power 4 refl) (λ e. absurd (true≢false e)))))

AreApart : ℕ → List ℕ → Type 0
AreApart base s = Apart (digits_number value_digit base 0 s) (digits_number (free_digit base) base (above s) s)

apart-by : (base : ℕ) (s : List ℕ) → IsBase base → list_all (is_base_byte base) s ≡ true → AreApart base s
unfolding AreApart
apart-by base s (power j e) h = subst (λ z. AreApart z s) (sym e) (apart-digits j s 0 (above s) (ap (λ z. list_all (is_base_byte z) s) (sym e) ∙ h) (apart-none (above s)))
apart-by base s (ten e) h = subst (λ z. AreApart z s) (sym e) (ten-apart s (ap (λ z. list_all (is_base_byte z) s) (sym e) ∙ h))

-- from the letter of the base on
apart-body : (s : List ℕ) → is_base_and_digits s ≡ true → AreApart (tok.head_base s) (without_blanks (tok.tail s))
unfolding is_base_and_digits
apart-body [] h = absurd (true≢false (sym h))
apart-body (b ∷ s) h =
    let q = both (not (base_of b == 0)) (is_digits (base_of b) (without_blanks s)) h in
    apart-by (base_of b) (without_blanks s) (is-base b (not-true _ q.0)) (digits-bytes (base_of b) (without_blanks s) q.1)

based-first : (x : ℕ) (xs : List ℕ) → kind_of (x ∷ xs) ≡ Some k.Based → is_base_and_digits (without_sign xs) ≡ true
based-first x xs h =
    elim (lead x xs k.Based h) [
      | by_letter e ↦ absurd (word-or-name _ _ k.Based refl refl e)
      | by_digit e ↦ absurd (not-kind _ k.Number k.Based refl e)
      | by_backslash a e ↦ absurd (backslash-kind xs k.Based refl refl e)
      | by_dollar e ↦ absurd (not-kind _ k.System k.Based refl e)
      | by_accent e ↦ absurd (not-kind _ k.Tick k.Based refl e)
      | by_apostrophe a e ↦ (if-kind _ k.Based k.Based e).0
      | by_line e ↦ absurd (not-kind _ k.Line k.Based refl e)
      | by_mark e ↦ absurd (not-kind _ k.Mark k.Based refl e)
    ]

given-based : (place : ℕ) (s : List ℕ) → kind_of s ≡ Some k.Based → AreGivenBits (based_of place s)
unfolding AreApart based_base based_digits
given-based place [] h = absurd (none-some k.Based (sym no-bytes ∙ h))
given-based place (x ∷ xs) h = record {
  value = mod-lt _ {m = 2 ^ 128} (pow_pos 128);
  wild = mod-lt _ {m = 2 ^ 128} (pow_pos 128);
  apart = apart_cut 128 _ _ (apart-body (without_sign xs) (based-first x xs h));
}

-- ---- all tokens

good-kind : (text : List ℕ) (j : Kind) (start end : ℕ) → end < 2 ^ 64 → kind_of (slice_range text start end) ≡ Some j → Good text (kind_symbol j (slice_range text start end) start end)
good-kind text k.Name start end l h = name_writable (slice_range text start end) h
good-kind text k.Escaped start end l h = escaped-name text start end (slice_range text start end) refl l h
good-kind text k.Word start end l h = tt
good-kind text k.System start end l h = good-symbol text _ (system-other (slice_range text start end))
good-kind text k.Tick start end l h = tt
good-kind text k.Number start end l h = mod-lt _ {m = 2 ^ 128} (pow_pos 128)
good-kind text k.Based start end l h = given-based start (slice_range text start end) h
good-kind text k.Mark start end l h = good-symbol text _ (mark-other (slice_range text start end))
good-kind text k.Line start end l h = tt
good-kind text k.Join start end l h = tt

abbrev kind-at : ℕ → Kind
kind-at n =
    if n == 0 then k.Name
    else (if n == 1 then k.Escaped
    else (if n == 2 then k.Word
    else (if n == 3 then k.System
    else (if n == 4 then k.Tick
    else (if n == 5 then k.Number
    else (if n == 6 then k.Based
    else (if n == 7 then k.Mark
    else (if n == 8 then k.Line else k.Join))))))))

kind-back : (j : Kind) → kind-at (kind_number j) ≡ j
kind-back k.Name = refl
kind-back k.Escaped = refl
kind-back k.Word = refl
kind-back k.System = refl
kind-back k.Tick = refl
kind-back k.Number = refl
kind-back k.Based = refl
kind-back k.Mark = refl
kind-back k.Line = refl
kind-back k.Join = refl

some-kind : (o : Option Kind) (j : Kind) → is_kind o j ≡ true → o ≡ Some j
some-kind None j h = absurd (true≢false (sym h))
some-kind (Some i) j h = ap (λ z. Some z) (sym (kind-back i) ∙ ap kind-at (eqb-true _ _ h) ∙ kind-back j)

-- what is known of a token that is whole
pub record IsWholeToken (text : List ℕ) (u : Token) : Type 0 where
  pub rises : u.start ≤ u.end
  pub within : u.end ≤ length text
  pub kind : kind_of (token_bytes text u) ≡ Some u.kind

pub whole_token : (text : List ℕ) (u : Token) → is_token text u ≡ true → IsWholeToken text u
unfolding is_token
whole_token text u h =
    let q = both _ _ h in
    let r = both _ _ q.0 in
    let v = both _ _ r.0 in
    record { rises = leb-true _ _ v.0; within = leb-true _ _ v.1; kind = some-kind _ u.kind r.1 }

pub good_symbols : (text : List ℕ) (us : List Token) → length text < 2 ^ 64 → are_tokens text us ≡ true → AllGood text (symbols text us)
good_symbols text [] l h = tt
good_symbols text (u ∷ us) l h =
    let q = both (is_token text u) (are_tokens text us) h in
    let w : IsWholeToken text u = whole_token text u q.0 in
    let e : u.end ≤ length text = w.within in
    (good-kind text u.kind u.start u.end (omega (arith, l, e)) w.kind, good_symbols text us l q.1)
