-- The steps over a text are exact.
use Rattle.std.proofs.Common.{◌≡◌, ℕ, suc, ◌<◌, ◌≤◌, Bool, true, List, length, drop, refl, sym, ◌∙◌, ap, subst, arith, inl, inr}
use Rattle.std.specs.Prelude.{Option, Some, None}
use Rattle.std.proofs.lemmas.List.{take-append-drop}
use Rattle.lv_ast.specs.declared.tokens.Token.{Token}
use Rattle.lv_ast.specs.declared.item.Source.{Source}
use Rattle.lv_ast.specs.TokenLists.{IsTokenListOf, are_tokens}
use Rattle.lv_ast.specs.Folds.{reading_of, counted}
use Rattle.lv_lexer.specs.declared.error.LexError.{LexError}
use Rattle.lv_lexer.specs.declared.error.LexError.TheVariants as lex
use Rattle.lv_lexer.specs.declared.error.DirectiveError.TheVariants as directive
use Rattle.lv_lexer.specs.Refusals.{Stand}
use Rattle.lv_lexer.proofs.Refused.{no_refusal}
use Rattle.lv_lexer.proofs.Unique.{one_token_list}
use Rattle.lv_exprs.specs.declared.error.SyntaxError.TheVariants as syntax
use Rattle.lv_grammars.specs.Spelling.{IsSpelled}
use Rattle.lv_grammars.proofs.Calls.{is_within}
use Rattle.lv_grammars.proofs.FactsOf.{facts_of}
use Rattle.lv_grammar.specs.Lexemes.{lexemes}
use Rattle.lv_grammar.specs.Shapes.{base, table}
use Rattle.lv_grammar.specs.Leaves.{all, low, limits}
use Rattle.lv_grammar.specs.Rules.{source_rule}
use Rattle.lv_grammar.proofs.Settings.{setting}
use Rattle.lv_parser.specs.Answers.{IsSource, RefusesSource}
use Rattle.lv_steps.specs.declared.ended.Ended.{Ended}
use Rattle.lv_steps.specs.declared.ended.Ended.TheVariants as t
use Rattle.lv_steps.specs.Texts.{Lexed, IsLexed, IsUnlexed, IsFolded, IsUnfolded, IsUnspelled}
use Rattle.lv_steps.specs.Chain.{lexes, folds, spells, reads_source}
use Rattle.lv_steps.specs.Step.{followed_by}
use Rattle.lv_steps.specs.Exact.{IsExact, is_want}
use Rattle.lv_steps.proofs.Exact.{exact_then}

abbrev pub Wants : Ended → Type 0
Wants e = is_want e ≡ true

abbrev pub Is : {A : Type 0} → A → A → Type 0
Is x z = x ≡ z

lexed_same : (x z : List ℕ) (us vs : List Token) → x ≡ z → us ≡ vs → (y w : Lexed) → y.text ≡ x → w.text ≡ z → y.list ≡ us → w.list ≡ vs → y ≡ w
lexed_same x z us vs e f y w a b c d =
    let text : y.text ≡ w.text = a ∙ e ∙ sym b in
    let list : y.list ≡ w.list = c ∙ f ∙ sym d in
    λ i. record { text = text i; list = list i }

lexes_one : (x z : List ℕ) (y w : Lexed) → x ≡ z → IsLexed x y → IsLexed z w → y ≡ w
lexes_one x z y w e h k =
    let other : IsTokenListOf x w.list = subst (λ text. IsTokenListOf text w.list) (sym e) k.listed in
    lexed_same x z y.list w.list e (one_token_list x y.list w.list h.listed other) y w h.same k.same refl refl

stand : (x : List ℕ) (y : Lexed) → IsLexed x y → Stand x y.list (length x)
stand x y h = record { list = h.listed; whole = subst (λ text. are_tokens text y.list ≡ true) h.same h.whole; few = h.few }

lexes_apart : (x z : List ℕ) (y : Lexed) (e : Ended) → x ≡ z → IsLexed x y → IsUnlexed z e → Wants e
lexes_apart x z y (t.Tokens err) same h r =
    let none : err ≡ lex.NoMemory = no_refusal x y.list (stand x y h) err (subst (λ text. IsUnlexed text (t.Tokens err)) (sym same) r) in
    ap (λ (k : LexError). is_want (t.Tokens k)) none
lexes_apart x z y (t.File u) same h r = absurd r
lexes_apart x z y (t.Contract u) same h r = absurd r
lexes_apart x z y (t.Source u) same h r = absurd r
lexes_apart x z y (t.Directives u) same h r = absurd r
lexes_apart x z y (t.Syntax u place) same h r = absurd r
lexes_apart x z y t.NoMemory same h r = absurd r

pub lexes_exact : IsExact lexes Wants Is Is
lexes_exact = record { one = lexes_one; apart = lexes_apart }

folds_one : (x z y w : Lexed) → x ≡ z → IsFolded x y → IsFolded z w → y ≡ w
folds_one x z y w e h k =
    lexed_same x.text z.text _ _ (ap (λ (l : Lexed). l.text) e) (ap (λ (l : Lexed). (reading_of l.text l.list).tokens) e) y w h.same k.same h.left k.left

none_some : {A : Type 0} (o : Option A) (x : A) → o ≡ None → o ≡ Some x → ⊥
none_some o x n s = cc

unstopped : (x : Lexed) (y : Lexed) (e : Ended) → IsFolded x y → IsUnfolded x e → Wants e
unstopped x y (t.Directives (directive.UnknownMacro p)) h r = absurd (none_some _ _ h.unstopped r)
unstopped x y (t.Directives (directive.Unbalanced p)) h r = absurd (none_some _ _ h.unstopped r)
unstopped x y (t.Directives (directive.Malformed p)) h r = absurd (none_some _ _ h.unstopped r)
unstopped x y (t.Directives (directive.Depth p)) h r = absurd (none_some _ _ h.unstopped r)
unstopped x y (t.Directives (directive.TooMany n)) h r =
    let few : counted (reading_of x.text x.list) ≤ 500000 = h.few in
    let many : 500000 < counted (reading_of x.text x.list) = r.1 in
    absurd (omega (arith, few, many))
unstopped x y (t.Directives directive.NoMemory) h r = refl
unstopped x y (t.Tokens u) h r = absurd r
unstopped x y (t.File u) h r = absurd r
unstopped x y (t.Contract u) h r = absurd r
unstopped x y (t.Source u) h r = absurd r
unstopped x y (t.Syntax u place) h r = absurd r
unstopped x y t.NoMemory h r = absurd r

pub folds_exact : IsExact folds Wants Is Is
folds_exact = record { one = folds_one; apart = λ x z y e same h r. unstopped x y e h (subst (λ l. IsUnfolded l e) (sym same) r) }

-- ---- one text, one source

within : (text : List ℕ) (folded : List Token) (s : Source) → IsSource text folded s → (o : Bool) × IsSpelled base (all text) source_rule (lexemes text folded) o s
within text folded s h = (h.0, is_within base (low text) (all text) (setting text limits).within source_rule (lexemes text folded) h.0 s h.1)

one_source : (text : List ℕ) (folded : List Token) (s z : Source) → IsSource text folded s → IsSource text folded z → s ≡ z
one_source text folded s z h g =
    let a : (o : Bool) × IsSpelled base (all text) source_rule (lexemes text folded) o s = within text folded s h in
    let b : (o : Bool) × IsSpelled base (all text) source_rule (lexemes text folded) o z = within text folded z g in
    (facts_of base table (all text) (setting text limits).base (setting text limits).language source_rule refl).one (lexemes text folded) a.0 b.0 s z a.1 b.1

spelled_apart : (text : List ℕ) (folded : List Token) (s : Source) (e : Ended) → IsSource text folded s → IsUnspelled text folded e → Wants e
spelled_apart text folded s (t.Syntax (syntax.Syntax k) place) h r =
    let g : (o : Bool) × IsSpelled base (all text) source_rule (lexemes text folded) o s = within text folded s h in absurd (r.0.none g.0 s g.1)
spelled_apart text folded s (t.Syntax (syntax.Depth k) place) h r =
    let g : (o : Bool) × IsSpelled base (low text) source_rule (lexemes text folded) o s = h in
    absurd (r.0.high (record {
      more = drop (suc k) (lexemes text folded);
      ending = g.0;
      tree = s;
      spelled = subst (λ ts. IsSpelled base (low text) source_rule ts g.0 s) (sym (take-append-drop (suc k) (lexemes text folded))) g.1;
    }))
spelled_apart text folded s (t.Syntax syntax.NoMemory place) h r = refl
spelled_apart text folded s (t.Tokens u) h r = absurd r
spelled_apart text folded s (t.File u) h r = absurd r
spelled_apart text folded s (t.Contract u) h r = absurd r
spelled_apart text folded s (t.Source u) h r = absurd r
spelled_apart text folded s (t.Directives u) h r = absurd r
spelled_apart text folded s t.NoMemory h r = absurd r

pub spells_exact : IsExact spells Wants Is Is
spells_exact = record {
  one = λ x z y w same h k. one_source x.text x.list y w h (subst (λ (l : Lexed). IsSource l.text l.list w) (sym same) k);
  apart = λ x z y e same h r. spelled_apart x.text x.list y e h (subst (λ (l : Lexed). IsUnspelled l.text l.list e) (sym same) r);
}

pub source_exact : IsExact reads_source Wants Is Is
source_exact = exact_then lexes (followed_by folds spells) Wants Is Is Is lexes_exact (exact_then folds spells Wants Is Is Is folds_exact spells_exact)
