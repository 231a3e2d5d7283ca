-- What begins as an expression is completed by tokens: in place of the names and literals that are still to come the simplest stand.
use Rattle.std.proofs.Common.{◌≡◌, ℕ, zero, suc, ◌+◌, ◌≤◌, ◌%◌, ◌^◌, nat_lt, List, [], ◌∷◌, ◌++◌, map, length, Bool, true, false, inl, inr, refl, sym, ◌∙◌, ap, subst, append-nil, arith, codes}
use Rattle.std.proofs.Math.Nat.{zero-mod}
use Rattle.std.proofs.lemmas.List.{map-append}
use Rattle.lv_ast.specs.Tokens as tok
use Rattle.lv_ast.specs.declared.tokens.Kind.{Kind}
use Rattle.lv_ast.specs.declared.tokens.Kind.TheVariants as k
use Rattle.lv_exprs.specs.declared.symbol.Name.{Name}
use Rattle.lv_exprs.specs.declared.symbol.Number.{Number}
use Rattle.lv_exprs.specs.declared.symbol.Based.{Based}
use Rattle.lv_exprs.specs.declared.symbol.Sign.{Sign}
use Rattle.lv_exprs.specs.declared.symbol.Sign.TheVariants as g
use Rattle.lv_exprs.specs.declared.symbol.Divider.{Divider}
use Rattle.lv_exprs.specs.declared.symbol.Divider.TheVariants as d
use Rattle.lv_exprs.specs.declared.symbol.Symbol.{Symbol}
use Rattle.lv_exprs.specs.declared.symbol.Symbol.TheVariants as t
use Rattle.lv_exprs.specs.Levels.{level}
use Rattle.lv_exprs.specs.Heights.{height}
use Rattle.lv_exprs.specs.Forms.{Form, plain, based, sized, name, dot, bit, part, prefix, binary, choice, paren, cast, pair, brace, repeat, text, rank, is_free, Valid, IsExpr}
use Rattle.lv_grammars.proofs.Lists.{true_false, same_head, same_tail, right_nil}
use Rattle.lv_grammar.specs.Lexemes.{Lexeme}
use Rattle.lv_grammar.specs.Shapes.{Leaf, value, label}
use Rattle.lv_grammar.specs.Leaves.{symbol_of, symbols_of, ValidAt}

abbrev zero_name : Name
zero_name = record { place = 0; start = 0; end = 0 }

abbrev zero_number : Number
zero_number = record { place = 0; value = 0 }

abbrev zero_based : Based
zero_based = record { place = 0; signed = false; value = 0; wild = 0 }

abbrev simple : Symbol → Symbol
simple (t.Name n) = t.Name zero_name
simple (t.Number n) = t.Number zero_number
simple (t.Based b) = t.Based zero_based
simple s = s

abbrev less : ℕ → ℕ
less zero = zero
less (suc n) = n

-- all but the first n are made simple
abbrev keep : ℕ → List Symbol → List Symbol
keep n [] = []
keep zero (s ∷ ss) = simple s ∷ keep zero ss
keep (suc n) (s ∷ ss) = s ∷ keep n ss

-- how many of the first n are behind these
abbrev after : ℕ → List Symbol → ℕ
after n [] = n
after n (s ∷ ss) = after (less n) ss

keep_append : (n : ℕ) (ss us : List Symbol) → keep n (ss ++ us) ≡ keep n ss ++ keep (after n ss) us
keep_append n [] us = refl
keep_append zero (s ∷ ss) us = ap (λ x. simple s ∷ x) (keep_append zero ss us)
keep_append (suc n) (s ∷ ss) us = ap (λ x. s ∷ x) (keep_append n ss us)

keep_mark : (n : ℕ) (s : Symbol) (ss : List Symbol) → simple s ≡ s → keep n (s ∷ ss) ≡ s ∷ keep (less n) ss
keep_mark zero s ss e = ap (λ x. x ∷ keep zero ss) e
keep_mark (suc n) s ss e = refl

keep_front : (ss us : List Symbol) → keep (length ss) (ss ++ us) ≡ ss ++ map simple us
keep_front [] [] = refl
keep_front [] (u ∷ us) = ap (λ x. simple u ∷ x) (keep_front [] us)
keep_front (s ∷ ss) us = ap (λ x. s ∷ x) (keep_front ss us)

abbrev name_at : ℕ → Name → Name
name_at zero n = zero_name
name_at (suc k) n = n

abbrev number_at : ℕ → Number → Number
number_at zero n = zero_number
number_at (suc k) n = n

abbrev based_at : ℕ → Based → Based
based_at zero b = zero_based
based_at (suc k) b = b

-- a form with all but its first n symbols made simple
abbrev kept : ℕ → Form → Form
kept n (plain m) = plain (number_at n m)
kept n (based b) = based (based_at n b)
kept n (sized m b) = sized (number_at n m) (based_at (less n) b)
kept n (name m) = name (name_at n m)
kept n (dot x m) = dot x m
kept n (bit x i) = bit (kept n x) (kept (less (after n (text x))) i)
kept n (part r x i j) = part r (kept n x) (kept (less (after n (text x))) i) (kept (less (after (less (after n (text x))) (text i))) j)
kept n (prefix s x) = prefix s (kept (less n) x)
kept n (binary s x y) = binary s (kept n x) (kept (less (after n (text x))) y)
kept n (choice c x y) = choice (kept n c) (kept (less (after n (text c))) x) (kept (less (after (less (after n (text c))) (text x))) y)
kept n (paren x) = paren (kept (less n) x)
kept n (cast b x) = cast b (kept (less (less n)) x)
kept n (pair x y) = pair (kept n x) (kept (less (after n (text x))) y)
kept n (brace x) = brace (kept (less n) x)
kept n (repeat c x) = repeat (kept (less n) c) (kept (less (after (less n) (text c))) x)

kept_rank : (n : ℕ) (x : Form) → rank (kept n x) ≡ rank x
kept_rank n (plain m) = refl
kept_rank n (based b) = refl
kept_rank n (sized m b) = refl
kept_rank n (name m) = refl
kept_rank n (dot x m) = refl
kept_rank n (bit x i) = refl
kept_rank n (part r x i j) = refl
kept_rank n (prefix s x) = refl
kept_rank n (binary s x y) = refl
kept_rank n (choice c x y) = refl
kept_rank n (paren x) = refl
kept_rank n (cast b x) = refl
kept_rank n (pair x y) = refl
kept_rank n (brace x) = refl
kept_rank n (repeat c x) = refl

ranked : (m n : ℕ) (x : Form) → m ≤ rank x → m ≤ rank (kept n x)
ranked m n x h = subst (λ r. m ≤ r) (sym (kept_rank n x)) h

based_definite : (n : ℕ) (b : Based) → is_free (based b) ≡ false → is_free (based (based_at n b)) ≡ false
based_definite zero b e = refl
based_definite (suc n) b e = e

zero_cut : (m : ℕ) → nat_lt 0 (0 % 2 ^ m) ≡ false
zero_cut m = ap (nat_lt 0) (zero-mod (2 ^ m))

sized_definite : (n : ℕ) (m : Number) (b : Based) → is_free (sized m b) ≡ false → is_free (sized (number_at n m) (based_at (less n) b)) ≡ false
sized_definite zero m b e = refl
sized_definite (suc zero) m b e = zero_cut m.value
sized_definite (suc (suc n)) m b e = e

kept_valid : (n : ℕ) (x : Form) → Valid false x → Valid false (kept n x)
kept_valid n (plain m) v = tt
kept_valid n (based b) v = based_definite n b v
kept_valid n (sized m b) v = sized_definite n m b v
kept_valid n (name m) v = tt
kept_valid n (dot x m) v = v
kept_valid n (bit x i) v = (kept_valid n x v.0, ranked 14 n x v.1, kept_valid _ i v.2, ranked 1 _ i v.3)
kept_valid n (part r x i j) v = (kept_valid n x v.0, ranked 14 n x v.1, kept_valid _ i v.2, ranked 1 _ i v.3, kept_valid _ j v.4, ranked 1 _ j v.5)
kept_valid n (prefix s x) v = (kept_valid _ x v.0, ranked 12 _ x v.1, v.2)
kept_valid n (binary s x y) v = (kept_valid n x v.0, kept_valid _ y v.1, ranked (level s) n x v.2, ranked (level s + 1) _ y v.3, v.4)
kept_valid n (choice c x y) v = (kept_valid n c v.0, kept_valid _ x v.1, kept_valid _ y v.2, ranked 2 n c v.3, ranked 1 _ x v.4, ranked 1 _ y v.5)
kept_valid n (paren x) v = (kept_valid _ x v.0, ranked 1 _ x v.1)
kept_valid n (cast b x) v = (kept_valid _ x v.0, ranked 1 _ x v.1)
kept_valid n (pair x y) v = (kept_valid n x v.0, kept_valid _ y v.1, ranked 1 _ y v.2)
kept_valid n (brace x) v = kept_valid _ x v
kept_valid n (repeat c x) v = (kept_valid _ c v.0, ranked 1 _ c v.1, kept_valid _ x v.2)

-- a part, a mark that stays, and what is behind it
between : (n : ℕ) (ss us vs ws : List Symbol) (s : Symbol) → simple s ≡ s → us ≡ keep n ss → ws ≡ keep (less (after n ss)) vs → us ++ (s ∷ ws) ≡ keep n (ss ++ (s ∷ vs))
between n ss us vs ws s e f h =
    ap (λ x. x ++ (s ∷ ws)) f ∙ ap (λ x. keep n ss ++ (s ∷ x)) h ∙ ap (λ x. keep n ss ++ x) (sym (keep_mark (after n ss) s vs e)) ∙ sym (keep_append n ss (s ∷ vs))

-- a mark that stays, and what is behind it
behind : (n : ℕ) (vs ws : List Symbol) (s : Symbol) → simple s ≡ s → ws ≡ keep (less n) vs → s ∷ ws ≡ keep n (s ∷ vs)
behind n vs ws s e h = ap (λ x. s ∷ x) h ∙ sym (keep_mark n s vs e)

-- marks that stay
marks : (n : ℕ) (s : Symbol) → simple s ≡ s → s ∷ [] ≡ keep n (s ∷ [])
marks n s e = behind n [] [] s e refl

kept_text : (n : ℕ) (x : Form) → Valid false x → text (kept n x) ≡ keep n (text x)
kept_text zero (plain m) v = refl
kept_text (suc n) (plain m) v = refl
kept_text zero (based b) v = refl
kept_text (suc n) (based b) v = refl
kept_text zero (sized m b) v = refl
kept_text (suc zero) (sized m b) v = refl
kept_text (suc (suc n)) (sized m b) v = refl
kept_text zero (name m) v = refl
kept_text (suc n) (name m) v = refl
kept_text n (dot x m) v = true_false false v.2 refl
kept_text n (bit x i) v = between n _ _ _ _ t.LeftBracket refl (kept_text n x v.0) (between _ _ _ _ _ t.RightBracket refl (kept_text _ i v.2) refl)
kept_text n (part r x i j) v =
    between n _ _ _ _ t.LeftBracket refl (kept_text n x v.0)
    (between _ _ _ _ _ (t.Divider r) refl (kept_text _ i v.2) (between _ _ _ _ _ t.RightBracket refl (kept_text _ j v.4) refl))
kept_text n (prefix s x) v = behind n _ _ (t.Sign s) refl (kept_text _ x v.0)
kept_text n (binary s x y) v = between n _ _ _ _ (t.Sign s) refl (kept_text n x v.0) (kept_text _ y v.1)
kept_text n (choice c x y) v =
    between n _ _ _ _ t.Question refl (kept_text n c v.0) (between _ _ _ _ _ (t.Divider d.Colon) refl (kept_text _ x v.1) (kept_text _ y v.2))
kept_text n (paren x) v = behind n _ _ t.LeftParen refl (between _ _ _ _ _ t.RightParen refl (kept_text _ x v.0) refl)
kept_text n (cast b x) v = behind n (t.LeftParen ∷ (text x ++ (t.RightParen ∷ []))) _ (t.Cast b) refl (behind (less n) _ _ t.LeftParen refl (between _ _ _ _ _ t.RightParen refl (kept_text _ x v.0) refl))
kept_text n (pair x y) v = between n _ _ _ _ t.Comma refl (kept_text n x v.0) (kept_text _ y v.1)
kept_text n (brace x) v = behind n _ _ t.LeftBrace refl (between _ _ _ _ _ t.RightBrace refl (kept_text _ x v) refl)
kept_text n (repeat c x) v =
    behind n _ _ t.LeftBrace refl (between _ _ _ _ _ t.LeftBrace refl (kept_text _ c v.0) (between _ _ _ _ _ t.RightBrace refl (kept_text _ x v.2) (marks _ t.RightBrace refl)))

-- ---- tokens of simple symbols

abbrev token_of : Kind → List ℕ → Lexeme
token_of kind bytes = record { kind = kind; bytes = bytes; start = 0; end = 0 }

abbrev sign_bytes : Sign → List ℕ
sign_bytes g.Plus = codes "+"
sign_bytes g.Minus = codes "-"
sign_bytes g.Tilde = codes "~"
sign_bytes g.Bang = codes "!"
sign_bytes g.Amp = codes "&"
sign_bytes g.Bar = codes "|"
sign_bytes g.Caret = codes "^"
sign_bytes g.TildeAmp = codes "~&"
sign_bytes g.TildeBar = codes "~|"
sign_bytes g.TildeCaret = codes "~^"
sign_bytes g.CaretTilde = codes "^~"
sign_bytes g.BarBar = codes "||"
sign_bytes g.AmpAmp = codes "&&"
sign_bytes g.EqualEqual = codes "=="
sign_bytes g.BangEqual = codes "!="
sign_bytes g.Less = codes "<"
sign_bytes g.LessEqual = codes "<="
sign_bytes g.Greater = codes ">"
sign_bytes g.GreaterEqual = codes ">="
sign_bytes g.LessLess = codes "<<"
sign_bytes g.LessLessLess = codes "<<<"
sign_bytes g.GreaterGreater = codes ">>"
sign_bytes g.GreaterGreaterGreater = codes ">>>"
sign_bytes g.Star = codes "*"
sign_bytes g.Slash = codes "/"
sign_bytes g.Percent = codes "%"

abbrev divider_bytes : Divider → List ℕ
divider_bytes d.Colon = codes ":"
divider_bytes d.Up = codes "+:"
divider_bytes d.Down = codes "-:"

abbrev cast_bytes : Bool → List ℕ
cast_bytes true = codes "$signed"
cast_bytes false = codes "$unsigned"

abbrev token_for : Symbol → Lexeme
token_for (t.Name n) = token_of k.Name []
token_for (t.Number n) = token_of k.Number (codes "0")
token_for (t.Based b) = token_of k.Based (codes "'h0")
token_for (t.Cast b) = token_of k.System (cast_bytes b)
token_for (t.Sign s) = token_of k.Mark (sign_bytes s)
token_for (t.Divider r) = token_of k.Mark (divider_bytes r)
token_for t.Question = token_of k.Mark (codes "?")
token_for t.Dot = token_of k.Mark (codes ".")
token_for t.Comma = token_of k.Mark (codes ",")
token_for t.LeftParen = token_of k.Mark (codes "(")
token_for t.RightParen = token_of k.Mark (codes ")")
token_for t.LeftBracket = token_of k.Mark (codes "[")
token_for t.RightBracket = token_of k.Mark (codes "]")
token_for t.LeftBrace = token_of k.Mark (codes "{")
token_for t.RightBrace = token_of k.Mark (codes "}")
token_for t.Other = token_of k.Word []

sign_token : (s : Sign) → symbol_of (token_of k.Mark (sign_bytes s)) ≡ t.Sign s
sign_token g.Plus = refl
sign_token g.Minus = refl
sign_token g.Tilde = refl
sign_token g.Bang = refl
sign_token g.Amp = refl
sign_token g.Bar = refl
sign_token g.Caret = refl
sign_token g.TildeAmp = refl
sign_token g.TildeBar = refl
sign_token g.TildeCaret = refl
sign_token g.CaretTilde = refl
sign_token g.BarBar = refl
sign_token g.AmpAmp = refl
sign_token g.EqualEqual = refl
sign_token g.BangEqual = refl
sign_token g.Less = refl
sign_token g.LessEqual = refl
sign_token g.Greater = refl
sign_token g.GreaterEqual = refl
sign_token g.LessLess = refl
sign_token g.LessLessLess = refl
sign_token g.GreaterGreater = refl
sign_token g.GreaterGreaterGreater = refl
sign_token g.Star = refl
sign_token g.Slash = refl
sign_token g.Percent = refl

divider_token : (r : Divider) → symbol_of (token_of k.Mark (divider_bytes r)) ≡ t.Divider r
divider_token d.Colon = refl
divider_token d.Up = refl
divider_token d.Down = refl

cast_token : (b : Bool) → symbol_of (token_of k.System (cast_bytes b)) ≡ t.Cast b
cast_token true = refl
cast_token false = refl

token_simple : (s : Symbol) → symbol_of (token_for s) ≡ simple s
unfolding tok.digits_number tok.is_free tok.is_sign tok.digit_value tok.base_of tok.is_blank tok.without_blanks tok.without_sign tok.based_signed tok.based_base tok.based_digits
token_simple (t.Name n) = refl
token_simple (t.Number n) = refl
token_simple (t.Based b) = refl
token_simple (t.Cast b) = cast_token b
token_simple (t.Sign s) = sign_token s
token_simple (t.Divider r) = divider_token r
token_simple t.Question = refl
token_simple t.Dot = refl
token_simple t.Comma = refl
token_simple t.LeftParen = refl
token_simple t.RightParen = refl
token_simple t.LeftBracket = refl
token_simple t.RightBracket = refl
token_simple t.LeftBrace = refl
token_simple t.RightBrace = refl
token_simple t.Other = refl

tokens_simple : (ss : List Symbol) → symbols_of (map token_for ss) ≡ map simple ss
tokens_simple [] = refl
tokens_simple (s ∷ ss) = ap (λ x. x ∷ symbols_of (map token_for ss)) (token_simple s) ∙ ap (λ x. simple s ∷ x) (tokens_simple ss)

-- ---- completions

abbrev zero_form : Form
zero_form = name zero_name

zero_completes : (l : Leaf) → ValidAt l zero_form
zero_completes value = (tt, omega arith)
zero_completes label = inl (tt, omega arith)

-- an expression that begins so, spelled by tokens
pub record Completed (l : Leaf) (us : List Lexeme) : Type 0 where
  pub more : List Lexeme
  pub form : Form
  pub valid : ValidAt l form
  pub spells : text form ≡ symbols_of (us ++ more)

definite_at : (l : Leaf) (x : Form) → Valid false x × (1 ≤ rank x) → ValidAt l x
definite_at value x v = v
definite_at label x v = inl v

kept_spells : (y : Form) (us : List Lexeme) (more : List Symbol) → Valid false y → text y ≡ symbols_of us ++ more → text (kept (length (symbols_of us)) y) ≡ symbols_of (us ++ map token_for more)
kept_spells y us more v e =
    kept_text (length (symbols_of us)) y v ∙ ap (keep (length (symbols_of us))) e ∙ keep_front (symbols_of us) more ∙
    ap (λ ss. symbols_of us ++ ss) (sym (tokens_simple more)) ∙ sym (map-append symbol_of us (map token_for more))

definite_completed : (l : Leaf) (y : Form) (us : List Lexeme) (more : List Symbol) → Valid false y × (1 ≤ rank y) → text y ≡ symbols_of us ++ more → Completed l us
definite_completed l y us more v e = record {
  more = map token_for more;
  form = kept (length (symbols_of us)) y;
  valid = definite_at l _ (kept_valid (length (symbols_of us)) y v.0, ranked 1 (length (symbols_of us)) y v.1);
  spells = kept_spells y us more v.0 e;
}

kept_height : (n : ℕ) (x : Form) → height (kept n x) ≡ height x
kept_height n (plain m) = refl
kept_height n (based b) = refl
kept_height n (sized m b) = refl
kept_height n (name m) = refl
kept_height n (dot x m) = refl
kept_height n (bit x i) = omega (arith, kept_height n x, kept_height (less (after n (text x))) i)
kept_height n (part r x i j) =
    omega (arith, kept_height n x, kept_height (less (after n (text x))) i, kept_height (less (after (less (after n (text x))) (text i))) j)
kept_height n (prefix s x) = omega (arith, kept_height (less n) x)
kept_height n (binary s x y) = omega (arith, kept_height n x, kept_height (less (after n (text x))) y)
kept_height n (choice c x y) =
    omega (arith, kept_height n c, kept_height (less (after n (text c))) x, kept_height (less (after (less (after n (text c))) (text x))) y)
kept_height n (paren x) = kept_height (less n) x
kept_height n (cast b x) = omega (arith, kept_height (less (less n)) x)
kept_height n (pair x y) = omega (arith, kept_height n x, kept_height (less (after n (text x))) y)
kept_height n (brace x) = omega (arith, kept_height (less n) x)
kept_height n (repeat c x) = omega (arith, kept_height (less n) c, kept_height (less (after (less n) (text c))) x)

-- the same within the limits
pub record CompletedLow (l : Leaf) (us : List Lexeme) : Type 0 where
  pub more : List Lexeme
  pub form : Form
  pub valid : ValidAt l form
  pub spells : text form ≡ symbols_of (us ++ more)
  pub low : height form ≤ 200

pub completed_low : (l : Leaf) (y : Form) (us : List Lexeme) (more : List Symbol) → Valid false y → 1 ≤ rank y → height y ≤ 200 → text y ≡ symbols_of us ++ more → CompletedLow l us
completed_low l y us more v r h e = record {
  more = map token_for more;
  form = kept (length (symbols_of us)) y;
  valid = definite_at l _ (kept_valid (length (symbols_of us)) y v, ranked 1 (length (symbols_of us)) y r);
  spells = kept_spells y us more v e;
  low = subst (λ n. n ≤ 200) (sym (kept_height (length (symbols_of us)) y)) h;
}

whole : (y : Form) (us : List Lexeme) → IsExpr false y → text y ≡ symbols_of us ++ [] → Completed label us
whole y us v e = record { more = []; form = y; valid = v; spells = e ∙ append-nil (symbols_of us) ∙ ap symbols_of (sym (append-nil us)) }

nothing_read : (l : Leaf) → Completed l []
nothing_read l = record { more = token_of k.Name [] ∷ []; form = zero_form; valid = zero_completes l; spells = refl }

free_completed : (y : Form) (us : List Lexeme) (more : List Symbol) → is_free y ≡ true → text y ≡ symbols_of us ++ more → Completed label us
free_completed (based b) [] more f e = nothing_read label
free_completed (based b) (u ∷ us) more f e = whole (based b) (u ∷ us) (inr f) (e ∙ ap (λ ss. symbols_of (u ∷ us) ++ ss) (right_nil _ _ (sym (same_tail _ _ _ _ e))))
free_completed (sized m b) [] more f e = nothing_read label
free_completed (sized m b) (u ∷ []) more f e = record { more = []; form = plain m; valid = inl (tt, omega arith); spells = ap (λ s. s ∷ []) (same_head _ _ _ _ e) }
free_completed (sized m b) (u ∷ w ∷ us) more f e =
    whole (sized m b) (u ∷ w ∷ us) (inr f) (e ∙ ap (λ ss. symbols_of (u ∷ w ∷ us) ++ ss) (right_nil _ _ (sym (same_tail _ _ _ _ (same_tail _ _ _ _ e)))))
free_completed _ us more f e = true_false false f refl

pub completed : (l : Leaf) (y : Form) (us : List Lexeme) (more : List Symbol) → ValidAt l y → text y ≡ symbols_of us ++ more → Completed l us
completed value y us more v e = definite_completed value y us more v e
completed label y us more (inl v) e = definite_completed label y us more v e
completed label y us more (inr f) e = free_completed y us more f e
