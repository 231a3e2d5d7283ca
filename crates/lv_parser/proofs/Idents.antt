-- Names.
use Rattle.std.proofs.Common.{◌≡◌, ℕ, ◌+◌, ◌≤◌, List, length, true, false, Some, None, slice_get, refl, sym, ◌∙◌, ap, subst}
use Rattle.lv_ast.specs.Tokens.{token_bytes}
use Rattle.lv_ast.specs.declared.tokens.Token.{Token}
use Rattle.lv_exprs.specs.declared.error.SyntaxError.TheVariants as error
use Rattle.lv_grammars.specs.Spelling.{Limit}
use Rattle.lv_grammar.specs.Lexemes.{lexeme, name_by, ident_of, head}
use Rattle.lv_grammar.specs.Shapes.{fits}
use Rattle.lv_grammar.specs.Shapes as shapes
use Rattle.lv_grammar.specs.Rules.{ident}
use Rattle.lv_parser.specs.Answers.{from, IsRead, IsRefused}
use Rattle.lv_parser.proofs.Paths.{begin, through, last, refuse_last, token_read}
use Rattle.lv_parser.proofs.Fronts.{stands_some, stands_none, head_some, token_refused}

pub ident_read : {text : List ℕ} {tokens : List Token} (d : ℕ → Limit) (at : ℕ) (t : Token) (name : List ℕ) → slice_get tokens at ≡ Some t → fits shapes.name (lexeme text t) ≡ true →
    name ≡ name_by t.kind (token_bytes text t) → IsRead text tokens d ident at (record { name = name; place = t.start }) (at + 1)
ident_read {text} {tokens} d at t name e f g =
    let r : IsRead text tokens d ident at (ident_of (head (from text tokens at))) (at + 1) =
    last (through (begin ident at refl)) (token_read d shapes.name at (stands_some shapes.name text tokens at t e ∙ f)) in
    let h : ident_of (head (from text tokens at)) ≡ ident_of (lexeme text t) = ap ident_of (head_some text tokens at t e) in
    let i : ident_of (lexeme text t) ≡ record { name = name; place = t.start } = ap (λ n. record { name = n; place = t.start }) (sym g) in
    subst (λ x. IsRead text tokens d ident at x (at + 1)) (h ∙ i) r

pub ident_lacking : {text : List ℕ} {tokens : List Token} (d : ℕ → Limit) (at : ℕ) → at ≤ length tokens → slice_get tokens at ≡ None → IsRefused text tokens d ident at (error.Syntax at)
ident_lacking {text} {tokens} d at w e = refuse_last (through (begin ident at refl)) (token_refused d shapes.name at w (stands_none shapes.name text tokens at e))

pub ident_refused : {text : List ℕ} {tokens : List Token} (d : ℕ → Limit) (at : ℕ) (t : Token) → at ≤ length tokens → slice_get tokens at ≡ Some t → fits shapes.name (lexeme text t) ≡ false →
    IsRefused text tokens d ident at (error.Syntax at)
ident_refused {text} {tokens} d at t w e f = refuse_last (through (begin ident at refl)) (token_refused d shapes.name at w (stands_some shapes.name text tokens at t e ∙ f))
