-- Grammars over tokens, with the trees that they build. A grammar asks a token for a shape, leaves some languages to other
-- readers (its leaves), and has rules by which it may nest.
use Rattle.std.specs.Prelude.{ℕ, List, Bool, Option}

pub record Base : Type 1 where
  pub Token : Type 0
  pub Shape : Type 0
  pub fits : Shape → Token → Bool
  -- whether two shapes are one; a token that fits two shapes that are not shows that they can't be told apart
  pub same : Shape → Shape → Bool
  pub Leaf : Type 0
  pub LeafTree : Leaf → Type 0
  pub Rule : Type 0
  pub RuleTree : Rule → Type 0
  -- which count of nested rules a rule belongs to
  pub count : Rule → ℕ

pub data OneOf (A B : Type 0) : Type 0 where
  left : A → OneOf A B
  right : B → OneOf A B

-- A grammar of trees of a type.
pub data Gram (b : Base) : Type 0 → Type 1 where
  -- nothing
  none : Gram b (Unit {0})
  -- one token of a shape
  one : b.Shape → Gram b b.Token
  leaf : (l : b.Leaf) → Gram b (b.LeafTree l)
  call : (r : b.Rule) → Gram b (b.RuleTree r)
  -- what a grammar spells, seen as another tree
  act : {A B : Type 0} → (A → B) → Gram b A → Gram b B
  -- one after the other
  both : {A B : Type 0} → Gram b A → Gram b B → Gram b (A × B)
  either : {A B : Type 0} → Gram b A → Gram b B → Gram b (OneOf A B)
  perhaps : {A : Type 0} → Gram b A → Gram b (Option A)
  many : {A : Type 0} → Gram b A → Gram b (List A)
  -- any number, up to what ends them
  until : {A B : Type 0} → Gram b A → Gram b B → Gram b (List A × B)
  -- a rule's tree and perhaps a tail behind a token of a shape; a tail belongs to the nearest such tree
  tail : {B : Type 0} → (r : b.Rule) → b.Shape → Gram b B → Gram b (b.RuleTree r × Option B)
