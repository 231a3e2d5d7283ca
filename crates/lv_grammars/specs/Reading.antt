-- What a reader's answer says of the tokens before it: a tree that goes no further, the first token with which nothing goes on,
-- or the first with which all that goes on passes a limit.
use Rattle.std.specs.Prelude.{◌≡◌, List, [], ◌∷◌, ◌++◌, Bool}
use Rattle.lv_grammars.specs.Grammar.{Base, Gram}
use Rattle.lv_grammars.specs.Spelling.{Language, IsSpelled}

-- some tree's spelling begins with these tokens
pub record Begins (b : Base) (l : Language b) {A : Type 0} (g : Gram b A) (ts : List b.Token) : Type 0 where
  pub more : List b.Token
  pub ending : Bool
  pub tree : A
  pub spelled : IsSpelled b l g (ts ++ more) ending tree

-- the tokens before `rest` spell a tree within the limits, and no tree's spelling begins with them and the next
pub record Reads (b : Base) (all low : Language b) {A : Type 0} (g : Gram b A) (ts : List b.Token) (x : A) (rest : List b.Token) : Type 0 where
  pub front : List b.Token
  pub ending : Bool
  pub cut : ts ≡ front ++ rest
  pub spelled : IsSpelled b low g front ending x
  pub ends : (t : b.Token) (us : List b.Token) → rest ≡ t ∷ us → Begins b all g (front ++ (t ∷ [])) → ⊥

-- nothing is read: some tree's spelling begins with the tokens before `rest`, and none with them and the next
pub record Fails (b : Base) (all : Language b) {A : Type 0} (g : Gram b A) (ts rest : List b.Token) : Type 0 where
  pub front : List b.Token
  pub cut : ts ≡ front ++ rest
  pub alive : Begins b all g front
  pub dead : (t : b.Token) (us : List b.Token) → rest ≡ t ∷ us → Begins b all g (front ++ (t ∷ [])) → ⊥
  pub none : (x : A) (others : List b.Token) → Reads b all all g ts x others → ⊥

-- a tree's spelling begins with the tokens before `rest` and the next, and none that does is within the limits
pub record Passes (b : Base) (all low : Language b) {A : Type 0} (g : Gram b A) (ts rest : List b.Token) : Type 0 where
  pub front : List b.Token
  pub token : b.Token
  pub others : List b.Token
  pub cut : ts ≡ front ++ (token ∷ others)
  pub at : rest ≡ token ∷ others
  pub alive : Begins b all g (front ++ (token ∷ []))
  pub high : Begins b low g (front ++ (token ∷ [])) → ⊥

-- the spelling of some tree within the limits begins with the tokens before `rest`
pub record Within (b : Base) (low : Language b) {A : Type 0} (g : Gram b A) (ts rest : List b.Token) : Type 0 where
  pub front : List b.Token
  pub cut : ts ≡ front ++ rest
  pub alive : Begins b low g front

-- the next token is the first with which no tree within the limits goes on, and without limits one does
pub record PassesLimit (b : Base) (all low : Language b) {A : Type 0} (g : Gram b A) (ts rest : List b.Token) : Type 0 where
  pub passes : Passes b all low g ts rest
  pub within : Within b low g ts rest
