-- What the next token says.
use Rattle.std.specs.Prelude.{◌≡◌, List, [], ◌∷◌, true, false}
use Rattle.lv_grammars.specs.Grammar.{Base, Gram}
use Rattle.lv_grammars.specs.Spelling.{Language}
use Rattle.lv_grammars.specs.Sets.{Table, is_in, first}
use Rattle.lv_grammars.specs.Reading.{Begins}

-- the next token is of this shape
pub record Next (b : Base) (p : b.Shape) (ts : List b.Token) (m : b.Token) (us : List b.Token) : Type 0 where
  pub cut : ts ≡ m ∷ us
  pub fits : b.fits p m ≡ true

-- the next token, if there is one, is not of this shape
pub record Lacks (b : Base) (p : b.Shape) (ts : List b.Token) : Type 0 where
  pub out : (m : b.Token) (us : List b.Token) → ts ≡ m ∷ us → b.fits p m ≡ false

-- nor of one of these
pub data LacksAll (b : Base) (ts : List b.Token) : List b.Shape → Type 0 where
  lacks_none : LacksAll b ts []
  lacks_also : {p : b.Shape} {ps : List b.Shape} → Lacks b p ts → LacksAll b ts ps → LacksAll b ts (p ∷ ps)

-- the next token, if there is one, is none of those that are said to begin trees
pub record Outside (b : Base) (t : Table b) {A : Type 0} (g : Gram b A) (ts : List b.Token) : Type 0 where
  pub out : (m : b.Token) (us : List b.Token) → ts ≡ m ∷ us → is_in b (first b t g) m ≡ false

-- some tree begins with the next token
pub record Opens (b : Base) (l : Language b) {A : Type 0} (g : Gram b A) (ts : List b.Token) : Type 0 where
  pub token : b.Token
  pub others : List b.Token
  pub cut : ts ≡ token ∷ others
  pub alive : Begins b l g (token ∷ [])
