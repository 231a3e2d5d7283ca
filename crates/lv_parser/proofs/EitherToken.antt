-- Where one of two tokens stands, and where neither does.
use Rattle.std.proofs.Common.{◌≡◌, ℕ, List, [], ◌∷◌, true, false, ◌||◌, inl, inr}
use Rattle.lv_ast.specs.declared.tokens.Token.{Token}
use Rattle.lv_grammars.specs.Grammar.{Gram}
use Rattle.lv_grammars.specs.Sets.{these, among, shapes, first}
use Rattle.lv_grammars.specs.Nexts.{Opens, Outside, lacks_none, lacks_also}
use Rattle.lv_grammars.proofs.Good.{outside_these}
use Rattle.lv_grammars.proofs.Lists.{or_cases, not_or_left, not_or_right}
use Rattle.lv_grammar.specs.Shapes.{Shape, base, table, stands}
use Rattle.lv_grammar.specs.Leaves.{all}
use Rattle.lv_grammar.specs.Rules.{rules}
use Rattle.lv_parser.specs.Answers.{from}
use Rattle.lv_parser.proofs.Paths.{opens, lacks_of}

module _ {A : Type 0} (text : List ℕ) (tokens : List Token) (h : Gram base A) (us : ℕ) (p q : Shape) where
  pub opens_either : (n : ℕ) → among base (shapes base rules n h) p ≡ true → among base (shapes base rules n h) q ≡ true → (stands p (from text tokens us) || stands q (from text tokens us)) ≡ true →
      Opens base (all text) h (from text tokens us)
  opens_either n y z e = elim (or_cases (stands p (from text tokens us)) (stands q (from text tokens us)) e) [
    | inl f ↦ opens text tokens h us n p y f
    | inr f ↦ opens text tokens h us n q z f
  ]

  pub absent_either : first base table h ≡ these (p ∷ q ∷ []) → (stands p (from text tokens us) || stands q (from text tokens us)) ≡ false → Outside base table h (from text tokens us)
  absent_either y e = outside_these y
      (lacks_also (lacks_of p (from text tokens us) (not_or_left (stands p (from text tokens us)) (stands q (from text tokens us)) e))
      (lacks_also (lacks_of q (from text tokens us) (not_or_right (stands p (from text tokens us)) (stands q (from text tokens us)) e)) lacks_none))
