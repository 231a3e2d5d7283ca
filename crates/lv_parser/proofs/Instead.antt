-- Where the tree is given by an equation.
use Rattle.std.proofs.Common.{◌≡◌, ℕ, List, sym, subst}
use Rattle.lv_ast.specs.declared.tokens.Token.{Token}
use Rattle.lv_grammars.specs.Grammar.{Gram}
use Rattle.lv_grammars.specs.Spelling.{Limit}
use Rattle.lv_grammar.specs.Shapes.{base}
use Rattle.lv_parser.specs.Answers.{IsRead}

pub instead : {text : List ℕ} {tokens : List Token} {d : ℕ → Limit} {A : Type 0} {g : Gram base A} {at : ℕ} {x y : A} {end : ℕ} → y ≡ x → IsRead text tokens d g at x end → IsRead text tokens d g at y end
instead {text} {tokens} {d} {g = g} {at} {end = end} e r = subst (λ z. IsRead text tokens d g at z end) (sym e) r
