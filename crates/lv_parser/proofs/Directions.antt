-- Where a direction stands, and where none does.
use Rattle.std.proofs.Common.{◌≡◌, ℕ, List, [], ◌∷◌, ◌||◌, true, false, codes, inl, inr}
use Rattle.lv_ast.specs.declared.tokens.Token.{Token}
use Rattle.lv_grammars.specs.Grammar.{Gram}
use Rattle.lv_grammars.specs.Sets.{these, apart, first}
use Rattle.lv_grammars.specs.Nexts.{lacks_none, lacks_also, Outside}
use Rattle.lv_grammars.proofs.Lists.{or_cases, not_or_left, not_or_right}
use Rattle.lv_grammars.proofs.Good.{outside_these}
use Rattle.lv_grammar.specs.Shapes.{base, table, stands}
use Rattle.lv_grammar.specs.Shapes as shapes
use Rattle.lv_parser.specs.Answers.{from}
use Rattle.lv_parser.proofs.Paths.{lacks_of, other}

-- a direction begins something else
pub direction_other : {A : Type 0} (text : List ℕ) (tokens : List Token) (h : Gram base A) (at : ℕ) →
    apart base (these (shapes.word (codes "input") ∷ [])) (first base table h) ≡ true → apart base (these (shapes.word (codes "output") ∷ [])) (first base table h) ≡ true →
    (stands (shapes.word (codes "input")) (from text tokens at) || stands (shapes.word (codes "output")) (from text tokens at)) ≡ true → Outside base table h (from text tokens at)
direction_other text tokens h at y z e = elim (or_cases _ _ e) [
  | inl i ↦ other text tokens h at (shapes.word (codes "input")) y i
  | inr o ↦ other text tokens h at (shapes.word (codes "output")) z o
]

-- none that begins this
pub direction_absent : {A : Type 0} (text : List ℕ) (tokens : List Token) (h : Gram base A) (at : ℕ) →
    first base table h ≡ these (shapes.word (codes "input") ∷ shapes.word (codes "output") ∷ []) →
    (stands (shapes.word (codes "input")) (from text tokens at) || stands (shapes.word (codes "output")) (from text tokens at)) ≡ false → Outside base table h (from text tokens at)
direction_absent text tokens h at z e = outside_these z
    (lacks_also (lacks_of (shapes.word (codes "input")) (from text tokens at) (not_or_left _ _ e))
    (lacks_also (lacks_of (shapes.word (codes "output")) (from text tokens at) (not_or_right _ _ e)) lacks_none))
