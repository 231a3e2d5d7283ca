-- A token that is a name, simple or escaped, has no space in its name.
use Rattle.std.proofs.Common.{◌≡◌, ◌⊎◌, inl, inr, ℕ, Bool, true, false, ◌&&◌, ◌||◌, ◌==◌, not, List, [], ◌∷◌, ◌++◌, map, refl, sym, ap, ◌∙◌, Option, Some, None}
use Rattle.std.specs.Prelude.{if◌then◌else◌, bytes_eq}
use Rattle.std.specs.List.{list_any, list_all}
use Rattle.std.proofs.lemmas.Bool.{eqb-true}
use Rattle.lv_ast.specs.Names.{is_between, is_letter, is_inner, is_keyword}
use Rattle.lv_ast.specs.PlainNames.{has_space, is_plain}
use Rattle.lv_ast.specs.Tokens.{kind_of, kind_if, is_word, is_digit, is_number_byte, is_printed, is_line_end, after_backslash, is_base_and_digits, without_sign, is_mark, token_bytes, fits}
use Rattle.lv_ast.specs.TokenLists.{kind_number, is_kind, is_token, are_tokens}
use Rattle.lv_ast.specs.declared.tokens.Kind.{Kind}
use Rattle.lv_ast.specs.declared.tokens.Kind.TheVariants.{Name, Escaped, Word, System, Tick, Number, Based, Mark, Line, Join}
use Rattle.lv_ast.specs.declared.tokens.Token.{Token}
use Rattle.lv_grammar.specs.Lexemes.{Lexeme, lexeme, lexemes, name_by, ident_of}
use Rattle.lv_grammar.specs.Shapes as shapes

-- ---- tests

pub and-left : (a b : Bool) → (a && b) ≡ true → a ≡ true
and-left true b h = refl
and-left false b h = h

pub and-right : (a b : Bool) → (a && b) ≡ true → b ≡ true
and-right true b h = h
and-right false b h = cc

pub and-both : (a b : Bool) → a ≡ true → b ≡ true → (a && b) ≡ true
and-both true b h k = k
and-both false b h k = h

or-split : (a b : Bool) → (a || b) ≡ true → (a ≡ true) ⊎ (b ≡ true)
or-split true b h = inl refl
or-split false b h = inr h

decide : (b : Bool) → (b ≡ true) ⊎ (b ≡ false)
decide true = inl refl
decide false = inr refl

-- ---- bytes

no_space : (p : ℕ → Bool) → p 32 ≡ false → (cs : List ℕ) → list_all p cs ≡ true → has_space cs ≡ false
no_space p n [] h = refl
no_space p n (c ∷ cs) h = elim (decide (c == 32)) [
  | inl e ↦ absurd (let k : true ≡ false = sym (and-left (p c) (list_all p cs) h) ∙ (ap p (eqb-true c 32 e) ∙ n) in cc)
  | inr e ↦ ap (λ b. b || has_space cs) e ∙ no_space p n cs (and-right (p c) (list_all p cs) h)
]

no_inner : is_inner 32 ≡ false
no_inner = refl

no_printed : is_printed 32 ≡ false
unfolding is_printed
no_printed = refl

letter_by : (a b c : Bool) → a ≡ true → (a || b || c) ≡ true
letter_by true b c h = refl
letter_by false b c h = cc

letter_inner : (c : ℕ) → is_letter c ≡ true → is_inner c ≡ true
letter_inner c h = letter_by (is_letter c) (is_between 48 57 c) (c == 36) h

word_plain : (s : List ℕ) → is_word s ≡ true → has_space s ≡ false
unfolding is_word
word_plain [] h = cc
word_plain (c ∷ cs) h =
    no_space is_inner no_inner (c ∷ cs) (and-both (is_inner c) (list_all is_inner cs) (letter_inner c (and-left (is_letter c) (list_all is_inner cs) h)) (and-right (is_letter c) (list_all is_inner cs) h))

-- ---- kinds

kept : (b : Bool) (j k : Kind) → is_kind (kind_if b j) k ≡ true → (b ≡ true) × ((kind_number j == kind_number k) ≡ true)
kept true j k h = (refl, h)
kept false j k h = cc

split : (b : Bool) (x y : Option Kind) (k : Kind) → is_kind (if b then x else y) k ≡ true → ((b ≡ true) × (is_kind x k ≡ true)) ⊎ ((b ≡ false) × (is_kind y k ≡ true))
split true x y k h = inl (refl, h)
split false x y k h = inr (refl, h)

-- a token of another kind
abbrev IsOther : Kind → Kind → Type 0
IsOther j k = (kind_number j == kind_number k) ≡ false

other : (b : Bool) (j k : Kind) → IsOther j k → is_kind (kind_if b j) k ≡ true → ⊥
other b j k n h = (let e : true ≡ false = sym (kept b j k h).1 ∙ n in cc)

-- what a token that begins with no letter and no backslash can be
abbrev rest_kind : ℕ → List ℕ → Option Kind
rest_kind c cs =
    if c == 36 then kind_if (is_word cs) System
    else (if c == 96 then kind_if (is_word cs) Tick
    else (if c == 39 then kind_if (is_base_and_digits (without_sign cs)) Based
    else (if c == 10 then kind_if (bytes_eq cs []) Line
    else kind_if (is_mark (c ∷ cs)) Mark)))

rest_other : (c : ℕ) (cs : List ℕ) (k : Kind) → IsOther System k → IsOther Tick k → IsOther Based k → IsOther Line k → IsOther Mark k → is_kind (rest_kind c cs) k ≡ true → ⊥
rest_other c cs k n1 n2 n3 n4 n5 h = elim (split (c == 36) (kind_if (is_word cs) System) _ k h) [
  | inl a ↦ other (is_word cs) System k n1 a.1
  | inr a ↦ elim (split (c == 96) (kind_if (is_word cs) Tick) _ k a.1) [
    | inl b ↦ other (is_word cs) Tick k n2 b.1
    | inr b ↦ elim (split (c == 39) (kind_if (is_base_and_digits (without_sign cs)) Based) _ k b.1) [
      | inl d ↦ other (is_base_and_digits (without_sign cs)) Based k n3 d.1
      | inr d ↦ elim (split (c == 10) (kind_if (bytes_eq cs []) Line) (kind_if (is_mark (c ∷ cs)) Mark) k d.1) [
        | inl f ↦ other (bytes_eq cs []) Line k n4 f.1
        | inr f ↦ other (is_mark (c ∷ cs)) Mark k n5 f.1
      ]
    ]
  ]
]

slash_name : (cs : List ℕ) → is_kind (after_backslash cs) Name ≡ true → ⊥
unfolding after_backslash
slash_name [] h = cc
slash_name (c ∷ cs) h = elim (split (is_line_end (c ∷ cs)) (Some Join) (kind_if (list_all is_printed (c ∷ cs)) Escaped) Name h) [
  | inl a ↦ (let e : false ≡ true = a.1 in cc)
  | inr a ↦ other (list_all is_printed (c ∷ cs)) Escaped Name refl a.1
]

slash_escaped : (cs : List ℕ) → is_kind (after_backslash cs) Escaped ≡ true → has_space cs ≡ false
unfolding after_backslash
slash_escaped [] h = refl
slash_escaped (c ∷ cs) h = elim (split (is_line_end (c ∷ cs)) (Some Join) (kind_if (list_all is_printed (c ∷ cs)) Escaped) Escaped h) [
  | inl a ↦ (let e : false ≡ true = a.1 in cc)
  | inr a ↦ no_space is_printed no_printed (c ∷ cs) (kept (list_all is_printed (c ∷ cs)) Escaped Escaped a.1).0
]

simple_plain : (s : List ℕ) → is_kind (kind_of s) Name ≡ true → has_space s ≡ false
unfolding kind_of
simple_plain [] h = refl
simple_plain (c ∷ cs) h = elim (split (is_letter c) (kind_if (is_word (c ∷ cs)) (if is_keyword (c ∷ cs) then Word else Name)) _ Name h) [
  | inl a ↦ word_plain (c ∷ cs) (kept (is_word (c ∷ cs)) (if is_keyword (c ∷ cs) then Word else Name) Name a.1).0
  | inr a ↦ elim (split (is_digit c) (kind_if (list_all is_number_byte cs) Number) _ Name a.1) [
    | inl b ↦ absurd (other (list_all is_number_byte cs) Number Name refl b.1)
    | inr b ↦ elim (split (c == 92) (after_backslash cs) (rest_kind c cs) Name b.1) [
      | inl d ↦ absurd (slash_name cs d.1)
      | inr d ↦ absurd (rest_other c cs Name refl refl refl refl refl d.1)
    ]
  ]
]

word_kind : (b : Bool) → (kind_number (if b then Word else Name) == kind_number Escaped) ≡ true → ⊥
word_kind true h = cc
word_kind false h = cc

escaped_plain : (s : List ℕ) → is_kind (kind_of s) Escaped ≡ true → has_space (name_by Escaped s) ≡ false
unfolding kind_of
escaped_plain [] h = refl
escaped_plain (c ∷ cs) h = elim (split (is_letter c) (kind_if (is_word (c ∷ cs)) (if is_keyword (c ∷ cs) then Word else Name)) _ Escaped h) [
  | inl a ↦ absurd (word_kind (is_keyword (c ∷ cs)) (kept (is_word (c ∷ cs)) (if is_keyword (c ∷ cs) then Word else Name) Escaped a.1).1)
  | inr a ↦ elim (split (is_digit c) (kind_if (list_all is_number_byte cs) Number) _ Escaped a.1) [
    | inl b ↦ absurd (other (list_all is_number_byte cs) Number Escaped refl b.1)
    | inr b ↦ elim (split (c == 92) (after_backslash cs) (rest_kind c cs) Escaped b.1) [
      | inl d ↦ slash_escaped cs d.1
      | inr d ↦ absurd (rest_other c cs Escaped refl refl refl refl refl d.1)
    ]
  ]
]

-- ---- tokens

-- where it is a name, it is one without a space
pub record IsGood (t : Lexeme) : Type 0 where
  pub plain : shapes.fits shapes.name t ≡ true → is_plain (ident_of t) ≡ true

by_kind : (k : Kind) (s : List ℕ) → is_kind (kind_of s) k ≡ true → (shapes.is_kind Name k || shapes.is_kind Escaped k) ≡ true → has_space (name_by k s) ≡ false
by_kind Name s h f = simple_plain s h
by_kind Escaped s h f = escaped_plain s h
by_kind Word s h f = cc
by_kind System s h f = cc
by_kind Tick s h f = cc
by_kind Number s h f = cc
by_kind Based s h f = cc
by_kind Mark s h f = cc
by_kind Line s h f = cc
by_kind Join s h f = cc

token_good : (text : List ℕ) (t : Token) → is_token text t ≡ true → IsGood (lexeme text t)
unfolding is_token
token_good text t h =
    let whole : is_kind (kind_of (token_bytes text t)) t.kind ≡ true = and-right _ (is_kind (kind_of (token_bytes text t)) t.kind) (and-left _ (fits t.kind (token_bytes text t)) h) in
    record { plain = λ f. ap not (by_kind t.kind (token_bytes text t) whole f) }

abbrev pub AllGood : List Lexeme → Type 0
AllGood [] = Unit {0}
AllGood (t ∷ ts) = IsGood t × AllGood ts

pub good-left : (us vs : List Lexeme) → AllGood (us ++ vs) → AllGood us
good-left [] vs h = tt
good-left (t ∷ us) vs h = (h.0, good-left us vs h.1)

pub good-right : (us vs : List Lexeme) → AllGood (us ++ vs) → AllGood vs
good-right [] vs h = h
good-right (t ∷ us) vs h = good-right us vs h.1

pub all_good : (text : List ℕ) (ts : List Token) → are_tokens text ts ≡ true → AllGood (lexemes text ts)
all_good text [] h = tt
all_good text (t ∷ ts) h = (token_good text t (and-left (is_token text t) (are_tokens text ts) h), all_good text ts (and-right (is_token text t) (are_tokens text ts) h))
