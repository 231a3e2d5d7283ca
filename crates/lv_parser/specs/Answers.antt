-- What a reader answers that begins at a token, and what `read_source` answers.
use Rattle.std.specs.Prelude.{◌≡◌, ℕ, suc, ◌≤◌, ◌<◌, ◌||◌, List, [], ◌∷◌, Bool, false, codes, length, take, drop, MatchResult, Result, Ok, Err}
use Rattle.lv_ast.specs.declared.tokens.Token.{Token}
use Rattle.lv_ast.specs.declared.item.Source.{Source}
use Rattle.lv_exprs.specs.declared.error.SyntaxError.{SyntaxError}
use Rattle.lv_exprs.specs.declared.error.SyntaxError.TheVariants as error
use Rattle.lv_grammars.specs.Grammar.{Gram}
use Rattle.lv_grammars.specs.Spelling.{Limit, most, IsSpelled}
use Rattle.lv_grammars.specs.Sets.{is_in}
use Rattle.lv_grammars.specs.Reading.{Begins, Reads, Fails, PassesLimit}
use Rattle.lv_grammar.specs.Lexemes.{Lexeme, lexemes, head, place_of}
use Rattle.lv_grammar.specs.Shapes.{Placed, Rule, base, table, stands}
use Rattle.lv_grammar.specs.Shapes as shapes
use Rattle.lv_grammar.specs.Leaves.{all, within, low}
use Rattle.lv_grammar.specs.Rules.{source_rule}

-- the tokens from a number on
abbrev pub from : List ℕ → List Token → ℕ → List Lexeme
from text tokens at = drop at (lexemes text tokens)

-- the tokens from `at` to the one before `end` are read as this tree
pub record IsRead (text : List ℕ) (tokens : List Token) (d : ℕ → Limit) {A : Type 0} (g : Gram base A) (at : ℕ) (x : A) (end : ℕ) : Type 0 where
  pub reads : Reads base (all text) (within text d) g (from text tokens at) x (from text tokens end)

abbrev pub Refuses : {A : Type 0} → List ℕ → List Token → (ℕ → Limit) → Gram base A → ℕ → SyntaxError → Type 0
Refuses text tokens d g at error.NoMemory = Unit {0}
Refuses text tokens d g at (error.Syntax k) = (k ≤ length tokens) × Fails base (all text) g (from text tokens at) (from text tokens k)
Refuses text tokens d g at (error.Depth k) = PassesLimit base (all text) (within text d) g (from text tokens at) (from text tokens k)

-- each refusal says why, with the number of a token
pub record IsRefused (text : List ℕ) (tokens : List Token) (d : ℕ → Limit) {A : Type 0} (g : Gram base A) (at : ℕ) (e : SyntaxError) : Type 0 where
  pub why : Refuses text tokens d g at e

abbrev pub Answer : {A : Type 0} → List ℕ → List Token → (ℕ → Limit) → Gram base A → ℕ → Result (A × ℕ) SyntaxError → Type 0
Answer text tokens d g at result = MatchResult result (λ r. IsRead text tokens d g at r.0 r.1) (λ e. IsRefused text tokens d g at e)

-- a reader in which nothing nests answers so whatever the limits are
abbrev pub Answers : {A : Type 0} → List ℕ → List Token → Gram base A → ℕ → Result (A × ℕ) SyntaxError → Type 0
Answers text tokens g at result = (d : ℕ → Limit) → Answer text tokens d g at result

-- one in which no more than n targets nest
abbrev pub AnswersTargets : {A : Type 0} → ℕ → List ℕ → List Token → Gram base A → ℕ → Result (A × ℕ) SyntaxError → Type 0
AnswersTargets n text tokens g at result = (d : ℕ → Limit) → d 0 ≡ most n → Answer text tokens d g at result

-- one in which no more than n statements nest
abbrev pub AnswersStmts : {A : Type 0} → ℕ → List ℕ → List Token → Gram base A → ℕ → Result (A × ℕ) SyntaxError → Type 0
AnswersStmts n text tokens g at result = (d : ℕ → Limit) → d 0 ≡ most 200 → d 1 ≡ most n → Answer text tokens d g at result

-- one in which no more than n items nest
abbrev pub AnswersItems : {A : Type 0} → ℕ → List ℕ → List Token → Gram base A → ℕ → Result (A × ℕ) SyntaxError → Type 0
AnswersItems n text tokens g at result =
    (d : ℕ → Limit) → d 0 ≡ most 200 → d 1 ≡ most 200 → d 2 ≡ most n → Answer text tokens d g at result

-- a tree that was read from a token on, with its place
abbrev pub placed : {A : Type 0} → List ℕ → List Token → ℕ → A → Placed A
placed text tokens at x = record { tree = x; place = place_of (from text tokens at) }

abbrev pub placed_result : {A : Type 0} → List ℕ → List Token → ℕ → Result (A × ℕ) SyntaxError → Result (Placed A × ℕ) SyntaxError
placed_result text tokens at (Ok r) = Ok (placed text tokens at r.0, r.1)
placed_result text tokens at (Err e) = Err e

-- the token itself is the tree
abbrev pub token_result : List ℕ → List Token → ℕ → Result ℕ SyntaxError → Result (Lexeme × ℕ) SyntaxError
token_result text tokens at (Ok end) = Ok (head (from text tokens at), end)
token_result text tokens at (Err e) = Err e

-- with some tree
abbrev pub AnswersSome : {A : Type 0} → List ℕ → List Token → Gram base A → ℕ → Result ℕ SyntaxError → Type 0
AnswersSome {A} text tokens g at result =
    (d : ℕ → Limit) → MatchResult result (λ end. (x : A) × IsRead text tokens d g at x end) (λ e. IsRefused text tokens d g at e)

-- the reader went on, within the tokens
abbrev pub GoesOn : {A : Type 0} → List Token → ℕ → A × ℕ → Type 0
GoesOn tokens at r = (at < r.1) × (r.1 ≤ length tokens)

-- the reader may have read nothing
abbrev pub Stays : {A : Type 0} → List Token → ℕ → A × ℕ → Type 0
Stays tokens at r = (at ≤ r.1) × (r.1 ≤ length tokens)

-- a tree of the rule begins with the first of the tokens
abbrev pub leads : Rule → List Lexeme → Bool
leads r [] = false
leads r (t ∷ ts) = is_in base (table.rule_first r) t

-- a statement begins there in which another one stands
abbrev pub nests : List Lexeme → Bool
nests ts =
    (stands (shapes.word (codes "case")) ts || stands (shapes.word (codes "casez")) ts) ||
    (stands (shapes.word (codes "if")) ts || stands (shapes.word (codes "for")) ts)

-- ---- the whole list

-- the tokens spell a source within the limits
abbrev pub IsSource : List ℕ → List Token → Source → Type 0
IsSource text tokens s = (o : Bool) × IsSpelled base (low text) source_rule (lexemes text tokens) o s

-- the first k tokens
abbrev pub front : List ℕ → List Token → ℕ → List Lexeme
front text tokens k = take k (lexemes text tokens)

-- some source's spelling begins with the tokens before this one, but none with those up to it, or it is the end; and no source is spelled
pub record IsWrong (text : List ℕ) (tokens : List Token) (k : ℕ) : Type 0 where
  pub place : k ≤ length tokens
  pub alive : Begins base (all text) source_rule (front text tokens k)
  pub dead : k < length tokens → Begins base (all text) source_rule (front text tokens (suc k)) → ⊥
  pub none : (o : Bool) (s : Source) → IsSpelled base (all text) source_rule (lexemes text tokens) o s → ⊥

-- some source's spelling begins with the tokens up to this one, and each of them passes a limit; but one within the limits begins
-- with those before it
pub record IsDeep (text : List ℕ) (tokens : List Token) (k : ℕ) : Type 0 where
  pub place : k < length tokens
  pub alive : Begins base (all text) source_rule (front text tokens (suc k))
  pub high : Begins base (low text) source_rule (front text tokens (suc k)) → ⊥
  pub before : Begins base (low text) source_rule (front text tokens k)

abbrev pub RefusesSource : List ℕ → List Token → SyntaxError → Type 0
RefusesSource text tokens error.NoMemory = Unit {0}
RefusesSource text tokens (error.Syntax k) = IsWrong text tokens k
RefusesSource text tokens (error.Depth k) = IsDeep text tokens k
