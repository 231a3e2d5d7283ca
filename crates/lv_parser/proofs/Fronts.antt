-- The token with a number, and those from it on.
use Rattle.std.proofs.Common.{◌≡◌, ℕ, zero, suc, ◌+◌, ◌≤◌, List, [], ◌∷◌, drop, length, false, Some, None, slice_get, Result, Ok, Err, refl, sym, ◌∙◌, ap, subst, add-one}
use Rattle.std.specs.Result.{IsErrAnd}
use Rattle.lv_ast.specs.declared.tokens.Token.{Token}
use Rattle.lv_exprs.specs.declared.error.SyntaxError.{SyntaxError}
use Rattle.lv_exprs.specs.declared.error.SyntaxError.TheVariants as error
use Rattle.lv_grammars.specs.Grammar.{Gram, one}
use Rattle.lv_grammars.specs.Spelling.{Limit}
use Rattle.lv_grammars.specs.Sets.{some_of}
use Rattle.lv_grammars.proofs.Readers.{one_fails}
use Rattle.lv_grammar.specs.Lexemes.{Lexeme, lexeme, lexemes, head, place_of}
use Rattle.lv_grammar.specs.Shapes.{Shape, Rule, Placed, base, fits, stands, rule_leads}
use Rattle.lv_grammar.specs.Shapes as shapes
use Rattle.lv_parser.specs.Answers.{from, leads, placed_result, IsRefused, Answer}
use Rattle.lv_grammar.proofs.Settings.{setting}
use Rattle.lv_parser.proofs.Paths.{lacks_of}

nothing_is : {T : Type 0} (t : T) → None ≡ Some t → ⊥
nothing_is t e = cc

something_is : {T : Type 0} (t : T) → Some t ≡ None → ⊥
something_is t e = cc

some_is : {T : Type 0} (t u : T) → Some t ≡ Some u → t ≡ u
some_is t u e = cc

drop_some : {T : Type 0} (ts : List T) (n : ℕ) (t : T) → slice_get ts n ≡ Some t → drop n ts ≡ t ∷ drop (suc n) ts
drop_some [] n t e = absurd (nothing_is t e)
drop_some (u ∷ ts) zero t e = ap (λ x. x ∷ ts) (some_is u t e)
drop_some (u ∷ ts) (suc n) t e = drop_some ts n t e

drop_none : {T : Type 0} (ts : List T) (n : ℕ) → slice_get ts n ≡ None → drop n ts ≡ []
drop_none [] zero e = refl
drop_none [] (suc n) e = refl
drop_none (u ∷ ts) zero e = absurd (something_is u e)
drop_none (u ∷ ts) (suc n) e = drop_none ts n e

get_some : (text : List ℕ) (tokens : List Token) (at : ℕ) (t : Token) → slice_get tokens at ≡ Some t → slice_get (lexemes text tokens) at ≡ Some (lexeme text t)
get_some text [] at t e = absurd (nothing_is t e)
get_some text (u ∷ ts) zero t e = ap (λ x. Some (lexeme text x)) (some_is u t e)
get_some text (u ∷ ts) (suc n) t e = get_some text ts n t e

get_none : (text : List ℕ) (tokens : List Token) (at : ℕ) → slice_get tokens at ≡ None → slice_get (lexemes text tokens) at ≡ None
get_none text [] at e = refl
get_none text (u ∷ ts) zero e = absurd (something_is u e)
get_none text (u ∷ ts) (suc n) e = get_none text ts n e

pub from_some : (text : List ℕ) (tokens : List Token) (at : ℕ) (t : Token) → slice_get tokens at ≡ Some t → from text tokens at ≡ lexeme text t ∷ from text tokens (at + 1)
from_some text tokens at t e =
    drop_some (lexemes text tokens) at (lexeme text t) (get_some text tokens at t e) ∙ ap (λ n. lexeme text t ∷ drop n (lexemes text tokens)) (sym (add-one at))

pub from_none : (text : List ℕ) (tokens : List Token) (at : ℕ) → slice_get tokens at ≡ None → from text tokens at ≡ []
from_none text tokens at e = drop_none (lexemes text tokens) at (get_none text tokens at e)

pub stands_some : (p : Shape) (text : List ℕ) (tokens : List Token) (at : ℕ) (t : Token) → slice_get tokens at ≡ Some t → stands p (from text tokens at) ≡ fits p (lexeme text t)
stands_some p text tokens at t e = ap (stands p) (from_some text tokens at t e)

pub stands_none : (p : Shape) (text : List ℕ) (tokens : List Token) (at : ℕ) → slice_get tokens at ≡ None → stands p (from text tokens at) ≡ false
stands_none p text tokens at e = ap (stands p) (from_none text tokens at e)

pub place_some : (text : List ℕ) (tokens : List Token) (at : ℕ) (t : Token) → slice_get tokens at ≡ Some t → place_of (from text tokens at) ≡ t.start
place_some text tokens at t e = ap place_of (from_some text tokens at t e)

pub place_none : (text : List ℕ) (tokens : List Token) (at : ℕ) → slice_get tokens at ≡ None → place_of (from text tokens at) ≡ 0
place_none text tokens at e = ap place_of (from_none text tokens at e)

pub head_some : (text : List ℕ) (tokens : List Token) (at : ℕ) (t : Token) → slice_get tokens at ≡ Some t → head (from text tokens at) ≡ lexeme text t
head_some text tokens at t e = ap head (from_some text tokens at t e)

-- nothing is read where the token is of another shape
pub token_refused : {text : List ℕ} {tokens : List Token} (d : ℕ → Limit) (p : Shape) (at : ℕ) → at ≤ length tokens → stands p (from text tokens at) ≡ false → IsRefused text tokens d (one p) at (error.Syntax at)
token_refused {text} {tokens} d p at w e = record { why = (w, one_fails (setting text d).base (lacks_of p (from text tokens at) e)) }

-- ---- which tokens a rule begins with

pub leads_is : (r : Rule) (ts : List Lexeme) → leads r ts ≡ some_of (λ p. stands p ts) (rule_leads r)
leads_is shapes.target [] = refl
leads_is shapes.stmt [] = refl
leads_is shapes.item [] = refl
leads_is shapes.block_item [] = refl
leads_is r (t ∷ ts) = refl

-- ---- the exit of a `?`

pub exit : {text : List ℕ} {tokens : List Token} {d : ℕ → Limit} {A : Type 0} {g : Gram base A} {at : ℕ} (r : Result (A × ℕ) SyntaxError) {e : SyntaxError} →
    IsErrAnd r (λ y. y ≡ e) → IsRefused text tokens d g at e → Answer text tokens d g at r
exit {text} {tokens} {d} {g = g} {at} (Err y) i w = subst (λ z. IsRefused text tokens d g at z) (sym i) w
exit (Ok x) i w = absurd i

-- of a reader that gives a tree without its place
pub exit_placed : {text : List ℕ} {tokens : List Token} {d : ℕ → Limit} {A : Type 0} {g : Gram base (Placed A)} {at : ℕ} (r : Result (A × ℕ) SyntaxError) {e : SyntaxError} →
    IsErrAnd r (λ y. y ≡ e) → IsRefused text tokens d g at e → Answer text tokens d g at (placed_result text tokens at r)
exit_placed {text} {tokens} {d} {g = g} {at} (Err y) i w = subst (λ z. IsRefused text tokens d g at z) (sym i) w
exit_placed (Ok x) i w = absurd i

-- where there is no room
pub exit_room : (text : List ℕ) (tokens : List Token) (d : ℕ → Limit) {A : Type 0} (g : Gram base A) (at : ℕ) (r : Result (A × ℕ) SyntaxError) → IsErrAnd r (λ y. y ≡ error.NoMemory) → Answer text tokens d g at r
exit_room text tokens d g at (Err y) i = subst (λ z. IsRefused text tokens d g at z) (sym i) (record { why = tt })
exit_room text tokens d g at (Ok x) i = absurd i

pub exit_room_placed : (text : List ℕ) (tokens : List Token) (d : ℕ → Limit) {A : Type 0} (g : Gram base (Placed A)) (at : ℕ) (r : Result (A × ℕ) SyntaxError) → IsErrAnd r (λ y. y ≡ error.NoMemory) →
    Answer text tokens d g at (placed_result text tokens at r)
exit_room_placed text tokens d g at (Err y) i = subst (λ z. IsRefused text tokens d g at z) (sym i) (record { why = tt })
exit_room_placed text tokens d g at (Ok x) i = absurd i
