-- The grammar of the source is read by its next token alone, whatever the limits.
use Rattle.std.proofs.Common.{◌≡◌, ℕ, List, Bool, true, false, refl}
use Rattle.lv_grammars.specs.Grammar.{Gram, call}
use Rattle.lv_grammars.specs.Spelling.{Limit, allows}
use Rattle.lv_grammars.specs.Sets.{rule_fits, has_tree_in, rule_has_tree}
use Rattle.lv_grammars.specs.Facts.{IsLanguage, IsWithin}
use Rattle.lv_grammars.proofs.Readers.{Spelled}
use Rattle.lv_grammars.proofs.Witness.{witness_of, rule_tree}
use Rattle.lv_grammars.proofs.Witness as witness
use Rattle.lv_grammars.proofs.Good.{Setting}
use Rattle.lv_grammar.specs.Lexemes.{Lexeme}
use Rattle.lv_grammar.specs.Shapes.{Rule, base, table}
use Rattle.lv_grammar.specs.Shapes as shapes
use Rattle.lv_grammar.specs.Rules.{rules}
use Rattle.lv_grammar.specs.Leaves.{all, within}
use Rattle.lv_grammar.proofs.Shaped.{shaped}
use Rattle.lv_grammar.proofs.Expressions.{low_witness, expressions}
use Rattle.lv_grammar.proofs.Fits.{target_fits, stmt_fits, item_fits, block_item_fits}

fits : (r : Rule) → rule_fits base table r (rules r) ≡ true
fits shapes.target = target_fits
fits shapes.stmt = stmt_fits
fits shapes.item = item_fits
fits shapes.block_item = block_item_fits

has_tree : (r : Rule) → rule_has_tree base rules 2 r ≡ true
has_tree shapes.target = refl
has_tree shapes.stmt = refl
has_tree shapes.item = refl
has_tree shapes.block_item = refl

language : (text : List ℕ) → IsLanguage base table (all text)
language text = record {
  leaves = expressions text;
  rules = fits;
  free = λ k. refl;
  witness = λ r. witness_of base (all text) shaped (expressions text).witness (λ k. refl) 2 r (has_tree r);
}

is_within : (text : List ℕ) (d : ℕ → Limit) → IsWithin base (within text d) (all text)
is_within text d = record { rules = refl; leaves = λ l ts x e. e.expression; free = λ k. refl }

pub setting : (text : List ℕ) (d : ℕ → Limit) → Setting base table (all text) (within text d)
setting text d = record { base = shaped; language = language text; within = is_within text d }

-- ---- trees within limits

alone : (r : Rule) → has_tree_in base (λ q. false) (rules r) ≡ true
alone shapes.target = refl
alone shapes.stmt = refl
alone shapes.item = refl
alone shapes.block_item = refl

-- each rule that the limits allow has one
pub room : (text : List ℕ) (d : ℕ → Limit) (r : Rule) → allows (d (shapes.count_of r)) ≡ true → (us : List Lexeme) × Spelled base (within text d) (call r) us
room text d r a = rule_tree base (within text d) shaped (low_witness text) r a (alone r)

-- these rules have trees
abbrev pub Rooms : List ℕ → (ℕ → Limit) → (Rule → Bool) → Type 0
Rooms text d f = (r : Rule) → f r ≡ true → (us : List Lexeme) × Spelled base (within text d) (call r) us

-- and a grammar of which it is computed from these
pub tree_within : (text : List ℕ) (d : ℕ → Limit) (f : Rule → Bool) → Rooms text d f → {A : Type 0} (g : Gram base A) → has_tree_in base f g ≡ true → (us : List Lexeme) × Spelled base (within text d) g us
tree_within text d f k g e = witness.has_tree base (within text d) shaped (low_witness text) f k g e
