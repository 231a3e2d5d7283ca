-- Where a reader of a grammar stands after some of its parts.
use Rattle.std.specs.Prelude.{◌≡◌, List, ◌++◌, true}
use Rattle.lv_grammars.specs.Grammar.{Base, Gram, many, until}
use Rattle.lv_grammars.specs.Spelling.{Language}
use Rattle.lv_grammars.specs.Sets.{Table, is_good}
use Rattle.lv_grammars.specs.Reading.{Reads, Fails, Passes, Within}

-- what is answered for `h` from `us`, within `inner`, is answered for `g` from `ts`, within `low`: with the tree that is built of h's
pub record At (b : Base) (all low : Language b) {A : Type 0} (g : Gram b A) (ts : List b.Token) (inner : Language b) {B : Type 0} (h : Gram b B) (us : List b.Token) (build : B → A) : Type 0 where
  pub reads : (y : B) (rest : List b.Token) → Reads b all inner h us y rest → Reads b all low g ts (build y) rest
  pub fails : (rest : List b.Token) → Fails b all h us rest → Fails b all g ts rest
  pub passes : (rest : List b.Token) → Passes b all inner h us rest → Passes b all low g ts rest
  pub within : (rest : List b.Token) → Within b inner h us rest → Within b low g ts rest

-- the same, where h can be read by its next token alone
pub record Way (b : Base) (t : Table b) (all low : Language b) {A : Type 0} (g : Gram b A) (ts : List b.Token) (inner : Language b) {B : Type 0} (h : Gram b B) (us : List b.Token) (build : B → A) : Type 0 where
  pub at : At b all low g ts inner h us build
  pub good : is_good b t h ≡ true

-- these trees are read of any number of `g`'s, from `ts` to `us`
pub record Standing (b : Base) (all low : Language b) {A : Type 0} (g : Gram b A) (ts us : List b.Token) (xs : List A) : Type 0 where
  pub at : At b all low (many g) ts low (many g) us (λ ys. xs ++ ys)

-- these trees are read of any number of `g`'s up to one of `h`, from `ts` to `us`
pub record StandingUntil (b : Base) (all low : Language b) {A B : Type 0} (g : Gram b A) (h : Gram b B) (ts us : List b.Token) (xs : List A) : Type 0 where
  pub at : At b all low (until g h) ts low (until g h) us (λ p. (xs ++ p.0, p.1))
