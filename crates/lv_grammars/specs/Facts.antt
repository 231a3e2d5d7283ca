-- What is known of a grammar that is read by its next token alone.
use Rattle.std.specs.Prelude.{◌≡◌, ℕ, List, [], ◌∷◌, ◌++◌, Bool, true, false, ◌⊎◌}
use Rattle.lv_grammars.specs.Grammar.{Base, Gram}
use Rattle.lv_grammars.specs.Spelling.{Leaves, Language, any, called, IsSpelled}
use Rattle.lv_grammars.specs.Sets.{Table, is_in, may_be_empty, first, next, rule_fits}
use Rattle.lv_grammars.specs.Reading.{Begins}

-- shapes are told apart
pub record IsBase (b : Base) : Type 0 where
  pub apart : (p q : b.Shape) (t : b.Token) → b.same p q ≡ false → b.fits p t ≡ true → b.fits q t ≡ true → ⊥
  pub one : (p q : b.Shape) → b.same p q ≡ true → p ≡ q
  pub witness : (p : b.Shape) → (t : b.Token) × (b.fits p t ≡ true)

-- the leaves are as the table says, and each list of tokens spells at most one tree
pub record AreLeaves (b : Base) (t : Table b) (l : Leaves b) : Type 0 where
  pub starts : (k : b.Leaf) (m : b.Token) (us : List b.Token) (x : b.LeafTree k) → l k (m ∷ us) x → is_in b (t.leaf_first k) m ≡ true
  pub some : (k : b.Leaf) (x : b.LeafTree k) → l k [] x → ⊥
  pub goes : (k : b.Leaf) (us more : List b.Token) (m : b.Token) (x y : b.LeafTree k) → l k us x → l k (us ++ (m ∷ more)) y → is_in b (t.leaf_next k) m ≡ true
  pub one : (k : b.Leaf) (us : List b.Token) (x y : b.LeafTree k) → l k us x → l k us y → x ≡ y
  pub witness : (k : b.Leaf) → (us : List b.Token) × (x : b.LeafTree k) × l k us x

-- a language without limits whose rules are as the table says, and each of them has a tree
pub record IsLanguage (b : Base) (t : Table b) (l : Language b) : Type 0 where
  pub leaves : AreLeaves b t l.leaves
  pub rules : (r : b.Rule) → rule_fits b t r (l.rules r) ≡ true
  pub free : (k : ℕ) → l.limits k ≡ any
  pub witness : (r : b.Rule) → (us : List b.Token) × (o : Bool) × (x : b.RuleTree r) × called b l r us o x

-- of a grammar: what its trees begin with, what may go on behind them, and that a list of tokens spells at most one
pub record Facts (b : Base) (t : Table b) (l : Language b) {A : Type 0} (g : Gram b A) : Type 0 where
  pub starts : (m : b.Token) (us : List b.Token) (o : Bool) (x : A) → IsSpelled b l g (m ∷ us) o x → is_in b (first b t g) m ≡ true
  pub some : may_be_empty b g ≡ false → (o : Bool) (x : A) → IsSpelled b l g [] o x → ⊥
  pub goes : (us : List b.Token) (o : Bool) (x : A) (m : b.Token) → IsSpelled b l g us o x → Begins b l g (us ++ (m ∷ [])) →
      (is_in b (next b t g) m ≡ true) ⊎ ((b.fits t.tail_mark m ≡ true) × (o ≡ true))
  pub hangs : (us : List b.Token) (x : A) (m : b.Token) → IsSpelled b l g us true x → b.fits t.tail_mark m ≡ true → Begins b l g (us ++ (m ∷ []))
  pub one : (us : List b.Token) (o p : Bool) (x y : A) → IsSpelled b l g us o x → IsSpelled b l g us p y → x ≡ y
  pub witness : (us : List b.Token) × (o : Bool) × (x : A) × IsSpelled b l g us o x

-- the same rules and leaves, within limits
pub record IsWithin (b : Base) (low all : Language b) : Type 1 where
  pub rules : low.rules ≡ all.rules
  pub leaves : (k : b.Leaf) (us : List b.Token) (x : b.LeafTree k) → low.leaves k us x → all.leaves k us x
  pub free : (k : ℕ) → all.limits k ≡ any
