-- Which texts are expressions.
use Rattle.std.proofs.Common.{◌≡◌, ℕ, zero, suc, ◌+◌, ◌<◌, ◌≤◌, Bool, true, false, nat_lt, if◌then◌else◌, List, [], ◌∷◌, length, take, drop, Option, Some, None, ◌⊎◌, inl, inr, refl, sym, ap, ◌∙◌, subst, arith, slice_get}
use Rattle.std.proofs.lemmas.Bool.{false≢true}
use Rattle.std.proofs.lemmas.List.{take_all, length-map, take-append-drop}
use Rattle.std.proofs.lemmas.Option.{none-some}
use Rattle.lv_ast.specs.declared.expr.Expr.{Expr}
use Rattle.lv_ast.specs.declared.expr.Expr.TheVariants as e
use Rattle.lv_ast.specs.declared.expr.Literal.{Literal}
use Rattle.lv_ast.specs.declared.tokens.Token.{Token}
use Rattle.lv_exprs.specs.declared.symbol.Symbol.{Symbol}
use Rattle.lv_exprs.specs.declared.symbol.Sign.{Sign}
use Rattle.lv_exprs.specs.declared.symbol.Sign.TheVariants as g
use Rattle.lv_exprs.specs.Forms as forms
use Rattle.lv_exprs.specs.Forms.{Form, plain, based, sized, name, dot, bit, part, prefix, binary, choice, paren, cast, pair, brace, repeat, IsExpr, Valid, Begins, is_free, rank, cut}
use Rattle.lv_exprs.specs.Heights.{height}
use Rattle.lv_exprs.specs.Reading.{Reads, Fails}
use Rattle.lv_exprs.specs.Answers.{IsDeep}
use Rattle.lv_exprs.specs.Symbols.{symbol, symbols}
use Rattle.lv_exprs.specs.Trees.{tree, unary, infix_tree, based_literal, sized_literal}
use Rattle.lv_exprs.proofs.Unique.{one_form}
use Rattle.lv_lexer.specs.declared.error.LexError.{LexError}
use Rattle.lv_lexer.specs.declared.error.LexError.TheVariants.{BadByte, BadLiteral, Unclosed, TooMany, NoMemory}
use Rattle.lv_lexer.specs.Refusals.{IsLexRefusal}
use Rattle.lv_lexer.proofs.Refused.{no_refusal}
use Rattle.lv_lexer.proofs.Unique.{one_token_list}
use Rattle.lv_lexer.proofs.Stands.{some-same}
use Rattle.lv_contract.specs.Expressions.{AreTokens, IsExpression, IsNoExpression, IsByteOf, unlexed_at, ends_at, too_high_at, free_at, length_at, IsPlace, number_in, place_of, start_or, free_place, IsUnreadAt}
use Rattle.lv_contract.specs.Expressions.{unlexed as answer}

-- ---- literals with free bits

unary-bound : (k : Sign) (x : Expr) → free_place x ≡ None → free_place (unary k x) ≡ None
unary-bound g.Minus x h = refl
unary-bound g.Tilde x h = refl
unary-bound g.Bang x h = refl
unary-bound g.Amp x h = refl
unary-bound g.Bar x h = refl
unary-bound g.Caret x h = refl
unary-bound g.TildeAmp x h = refl
unary-bound g.TildeBar x h = refl
unary-bound g.TildeCaret x h = refl
unary-bound g.CaretTilde x h = refl
unary-bound _ x h = h

infix-bound : (k : Sign) (x y : Expr) → free_place (infix_tree k x y) ≡ None
infix-bound g.Slash x y = refl
infix-bound g.Percent x y = refl
infix-bound _ x y = refl

literal-bound : (l : Literal) → nat_lt 0 l.wild ≡ false → free_place (e.Lit l) ≡ None
literal-bound l h = rw h

literal-free : (l : Literal) → nat_lt 0 l.wild ≡ true → free_place (e.Lit l) ≡ Some l.place
literal-free l h = rw h

bound-tree : (p : Bool) (text : List ℕ) (f : Form) → Valid p f → 1 ≤ rank f → free_place (tree text f) ≡ None
bound-tree p text (plain n) v r = refl
bound-tree p text (based b) v r = literal-bound (based_literal b) v
bound-tree p text (sized n b) v r = literal-bound (sized_literal n b) v
bound-tree p text (name n) v r = refl
bound-tree p text (dot x n) v r = refl
bound-tree p text (bit x i) v r = refl
bound-tree p text (part d x i j) v r = refl
bound-tree p text (prefix k x) v r = unary-bound k (tree text x) (bound-tree p text x v.0 (let h : 12 ≤ rank x = v.1 in omega (arith, h)))
bound-tree p text (binary k x y) v r = infix-bound k (tree text x) (tree text y)
bound-tree p text (choice c x y) v r = refl
bound-tree p text (paren x) v r = bound-tree p text x v.0 v.1
bound-tree p text (cast b x) v r = refl
bound-tree p text (pair x y) v r = absurd (omega (arith, r))
bound-tree p text (brace x) v r = refl
bound-tree p text (repeat c x) v r = refl

free-tree : (text : List ℕ) (f : Form) → is_free f ≡ true → (place : ℕ) × (free_place (tree text f) ≡ Some place)
free-tree text (based b) h = (b.place, literal-free (based_literal b) h)
free-tree text (sized n b) h = (n.place, literal-free (sized_literal n b) h)
free-tree text _ h = absurd (false≢true h)

bound-form : (p : Bool) (f : Form) → Valid p f → is_free f ≡ false
bound-form p (based b) v = v
bound-form p (sized n b) v = v
bound-form p _ v = refl

-- a form whose tree is no literal with free bits has none, and the other way
pub bound : (p : Bool) (text : List ℕ) (f : Form) → IsExpr p f → free_place (tree text f) ≡ None → is_free f ≡ false
bound p text f (inl v) h = bound-form p f v.0
bound p text f (inr w) h = let t = free-tree text f w in absurd (none-some t.0 (sym h ∙ t.1))

pub free : (p : Bool) (text : List ℕ) (f : Form) (place : ℕ) → IsExpr p f → free_place (tree text f) ≡ Some place → is_free f ≡ true
free p text f place (inl v) h = absurd (none-some place (sym (bound-tree p text f v.0 v.1) ∙ h))
free p text f place (inr w) h = w

record FreeLiteral (x : Expr) (place : ℕ) : Type 0 where
  literal : Literal
  is : x ≡ e.Lit literal
  at : literal.place ≡ place

literal-if : (l : Literal) (place : ℕ) (b : Bool) → ◌≡◌ {A = Option ℕ} (if b then Some l.place else None) (Some place) → l.place ≡ place
literal-if l place true h = some-same l.place place h
literal-if l place false h = absurd (none-some place h)

free-literal : (x : Expr) (place : ℕ) → free_place x ≡ Some place → FreeLiteral x place
free-literal (e.Lit l) place h = record { literal = l; is = refl; at = literal-if l place (nat_lt 0 l.wild) h }
free-literal _ place h = absurd (none-some place h)

-- ---- places of tokens

lt_or_le : (m n : ℕ) → (m < n) ⊎ (n ≤ m)
lt_or_le m zero = inr (omega arith)
lt_or_le zero (suc n) = inl (omega arith)
lt_or_le (suc m) (suc n) = elim (lt_or_le m n) [ inl h ↦ inl (omega (arith, h)) | inr h ↦ inr (omega (arith, h)) ]

token_at : (ts : List Token) (k : ℕ) → k < length ts → (t : Token) × (slice_get ts k ≡ Some t)
token_at [] k h = absurd (omega arith)
token_at (t ∷ ts) zero h = (t, refl)
token_at (t ∷ ts) (suc k) h = token_at ts k (omega arith)

none_at : (ts : List Token) (k : ℕ) → length ts ≤ k → slice_get ts k ≡ None
none_at [] k h = refl
none_at (t ∷ ts) zero h = absurd (omega arith)
none_at (t ∷ ts) (suc k) h = none_at ts k (omega arith)

-- ---- one form for a text

module _ (text : List ℕ) (tokens : List Token) (lexed : AreTokens text tokens) where
  abbrev pub all_symbols : List Symbol
  all_symbols = symbols text tokens

  -- the form of an expression, over these tokens
  pub spelled : (x : Expr) (h : IsExpression text x) → forms.text h.form ≡ all_symbols
  spelled x h = h.spelled.spells ∙ ap (symbols text) (one_token_list text h.tokens tokens h.spelled.lexed.list lexed.list)

  begins : (x : Expr) (h : IsExpression text x) (n : ℕ) → Begins true (take n all_symbols)
  begins x h n = (drop n all_symbols, h.form, h.spelled.expr, spelled x h ∙ sym (take-append-drop n all_symbols))

  pub same-form : (x : Expr) (h : IsExpression text x) (f : Form) → IsExpr true f → forms.text f ≡ all_symbols → f ≡ h.form
  same-form x h f i s = one_form true f h.form i h.spelled.expr (s ∙ sym (spelled x h))

  no-end : (n : ℕ) (f : Form) → Reads true all_symbols n f → n < length all_symbols → (x : Expr) → IsExpression text x → ⊥
  no-end n f r l x h = r.ends l (begins x h (n + 1))

  no-free : (f : Form) → IsExpr true f → forms.text f ≡ all_symbols → is_free f ≡ true → (x : Expr) → IsExpression text x → ⊥
  no-free f i s free x h = false≢true (sym h.bound ∙ (ap is_free (sym (same-form x h f i s)) ∙ free))

  no-fail : (n : ℕ) → Fails true all_symbols n → (x : Expr) → IsExpression text x → ⊥
  no-fail n f x h =
      f.none (length all_symbols) h.form (record {
        within = omega arith;
        expr = h.spelled.expr;
        spells = spelled x h ∙ sym (take_all (length all_symbols) all_symbols (omega arith));
        ends = λ l _. omega (arith, l);
      })

  no-high : (n : ℕ) (f : Form) → Reads true all_symbols n f → 200 < height f → (x : Expr) → IsExpression text x → ⊥
  no-high n f r above x h =
      elim (lt_or_le n (length all_symbols)) [
        | inl l ↦ no-end n f r l x h
        | inr l ↦
            let e : height f ≡ height h.form = ap height (same-form x h f r.expr (r.spells ∙ take_all n all_symbols l)) in
            let low : height h.form ≤ 200 = h.low in
            omega (arith, above, low, e)
      ]

  no-deep : (n : ℕ) → IsDeep text true all_symbols n → (x : Expr) → IsExpression text x → ⊥
  no-deep n (inl high) x h =
      let above : 200 < height h.form = high.high (drop (n + 1) all_symbols) h.form h.spelled.expr (spelled x h ∙ sym (take-append-drop (n + 1) all_symbols)) in
      let low : height h.form ≤ 200 = h.low in
      omega (arith, above, low)
  no-deep n (inr high) x h = no-high n high.1.2.0 high.1.2.1 (subst (λ m. 200 < m) (sym high.1.2.3) high.1.3) x h

  count : length all_symbols ≡ length tokens
  count = length-map tokens (symbol text)

  place : (k : ℕ) → k < length tokens → IsPlace text (place_of text tokens k) k tokens
  place k l = let t = token_at tokens k l in record { lexed = lexed; token = t.0; stands = t.1; place = sym (ap (start_or (length text)) t.1) }

  end-byte : (k : ℕ) → k < length tokens → (Begins true (take (k + 1) all_symbols) → ⊥) → IsByteOf text (place_of text tokens k)
  end-byte k l h = ends_at (record { k = k; tokens = tokens; place = place k l; ends = h })

  length-byte : (k : ℕ) → length tokens ≤ k → IsByteOf text (place_of text tokens k)
  length-byte k l = length_at (ap (start_or (length text)) (none_at tokens k l))

  -- ---- what the reader answers, at the token with number k

  pub ended : (k n : ℕ) → n ≡ k → (f : Form) → Reads true all_symbols n f → k < length tokens → IsNoExpression text (place_of text tokens k)
  ended k n e f r l =
      let l' : n < length all_symbols = omega (arith, e, l, count) in
      let r' : Begins true (take (k + 1) all_symbols) → ⊥ = subst (λ m. Begins true (take (m + 1) all_symbols) → ⊥) e (r.ends l') in
      record { none = no-end n f r l'; at = end-byte k l r' }

  pub failed : (k n : ℕ) → n ≡ k → Fails true all_symbols n → IsNoExpression text (place_of text tokens k)
  failed k n e f =
      let f' : Fails true all_symbols k = subst (Fails true all_symbols) e f in
      record {
        none = no-fail k f';
        at = elim (lt_or_le k (length tokens)) [ inl l ↦ end-byte k l (f'.dead (omega (arith, l, count))) | inr l ↦ length-byte k l ];
      }

  deep-byte : (k : ℕ) → IsDeep text true all_symbols k → IsByteOf text (place_of text tokens k)
  deep-byte k (inl high) = let w : k < length all_symbols = high.within in too_high_at (record { k = k; tokens = tokens; place = place k (omega (arith, w, count)); high = high })
  deep-byte k (inr high) =
      elim (lt_or_le k (length tokens)) [ inl l ↦ end-byte k l (high.1.2.1.ends (omega (arith, l, count))) | inr l ↦ length-byte k l ]

  pub deep : (k n : ℕ) → n ≡ k → IsDeep text true all_symbols n → IsNoExpression text (place_of text tokens k)
  deep k n e d =
      let d' : IsDeep text true all_symbols k = subst (IsDeep text true all_symbols) e d in
      record { none = no-deep k d'; at = deep-byte k d' }

  whole : (n : ℕ) (f : Form) → Reads true all_symbols n f → length tokens ≤ n → forms.text f ≡ all_symbols
  whole n f r l = r.spells ∙ take_all n all_symbols (omega (arith, l, count))

  pub free_text : (k n : ℕ) → n ≡ k → length tokens ≤ k → (f : Form) → Reads true all_symbols n f → (x : Expr) → tree text f ≡ x → (p : ℕ) → free_place x ≡ Some p → IsNoExpression text p
  free_text k n e l f r x t p h =
      let s : forms.text f ≡ all_symbols = whole n f r (omega (arith, e, l)) in
      let free-form : is_free f ≡ true = free true text f p r.expr (ap free_place t ∙ h) in
      let literal = free-literal x p h in
      record {
        none = no-free f r.expr s free-form;
        at = free_at (record {
          tokens = tokens;
          form = f;
          spelled = record { lexed = lexed; expr = r.expr; spells = s };
          free = free-form;
          literal = literal.literal;
          tree = t ∙ literal.is;
          place = literal.at;
        });
      }

  pub expression : (k n : ℕ) → n ≡ k → length tokens ≤ k → (f : Form) → Reads true all_symbols n f → (h : ℕ) → height f ≡ h → h ≤ 200 → (x : Expr) → tree text f ≡ x → free_place x ≡ None → IsExpression text x
  expression k n e l f r h high low x t b = record {
    tokens = tokens;
    form = f;
    spelled = record { lexed = lexed; expr = r.expr; spells = whole n f r (omega (arith, e, l)) };
    bound = bound true text f r.expr (ap free_place t ∙ b);
    low = omega (arith, high, low);
    tree = t;
  }

-- ---- refusals of `lex`

no-text : (text : List ℕ) (error : LexError) (n : ℕ) → IsLexRefusal text error → number_in error ≡ Some n → (x : Expr) → IsExpression text x → ⊥
no-text text error n r carried x h =
    let lexed = h.spelled.lexed in
    let none : error ≡ NoMemory = no_refusal text h.tokens (record { list = lexed.list; whole = lexed.whole; few = lexed.few }) error r in
    none-some n (sym (ap number_in none) ∙ carried)

no-expression : (text : List ℕ) (error : LexError) (n : ℕ) → IsLexRefusal text error → number_in error ≡ Some n → IsNoExpression text n
no-expression text error n r carried = record { none = no-text text error n r carried; at = unlexed_at (record { error = error; refused = r; carried = carried }) }

pub unlexed : (text : List ℕ) (error : LexError) → IsLexRefusal text error → IsUnreadAt text (answer error)
unlexed text (BadByte p) r = no-expression text (BadByte p) p r refl
unlexed text (BadLiteral p) r = no-expression text (BadLiteral p) p r refl
unlexed text (Unclosed p) r = no-expression text (Unclosed p) p r refl
unlexed text (TooMany n) r = no-expression text (TooMany n) n r refl
unlexed text NoMemory r = tt
