-- Expressions that have a value: all but a literal with free bits (IEEE 1364-2005, 3.5.1 and 9.5.1), which only a label of
-- `casez` may be. They have no paths.
use Rattle.std.specs.Prelude.{◌≡◌, ℕ, ◌+◌, ◌-◌, ◌≤◌, ◌<◌, List, ◌++◌, length, take, Bool, false, nat_lt}
use Rattle.lv_ast.specs.declared.expr.Expr.{Expr}
use Rattle.lv_ast.specs.declared.expr.Expr.TheVariants as e
use Rattle.lv_ast.specs.declared.tokens.Token.{Token}
use Rattle.lv_exprs.specs.declared.symbol.Symbol.{Symbol}
use Rattle.lv_exprs.specs.declared.error.SyntaxError.{SyntaxError}
use Rattle.lv_exprs.specs.declared.error.SyntaxError.TheVariants as error
use Rattle.lv_exprs.specs.Answers.{tokens_from}
use Rattle.lv_exprs.specs.Forms.{Form, text, rank, Valid}
use Rattle.lv_exprs.specs.Heights.{height}
use Rattle.lv_exprs.specs.Trees.{tree}
use Rattle.lv_exprs.specs.Reading.{BeginsLow}

-- a literal with free bits
abbrev pub is_free_literal : Expr → Bool
is_free_literal (e.Lit l) = nat_lt 0 l.wild
is_free_literal _ = false

abbrev pub IsDefinite : Form → Type 0
IsDefinite x = Valid false x × (1 ≤ rank x)

-- the spelling of some such expression begins with these tokens
abbrev pub BeginsDefinite : List Symbol → Type 0
BeginsDefinite ts = (more : List Symbol) × (x : Form) × IsDefinite x × (text x ≡ ts ++ more)

-- the first n tokens spell x, and they are all, or no such expression's spelling begins with them and the next
pub record ReadsDefinite (ts : List Symbol) (n : ℕ) (x : Form) : Type 0 where
  pub within : n ≤ length ts
  pub definite : IsDefinite x
  pub spells : text x ≡ take n ts
  pub ends : n < length ts → BeginsDefinite (take (n + 1) ts) → ⊥

-- nothing is read so: some such expression's spelling begins with the tokens before the one at n, and none with those up to it
pub record FailsDefinite (ts : List Symbol) (n : ℕ) : Type 0 where
  pub within : n ≤ length ts
  pub alive : BeginsDefinite (take n ts)
  pub dead : n < length ts → BeginsDefinite (take (n + 1) ts) → ⊥
  pub none : (m : ℕ) (x : Form) → ReadsDefinite ts m x → ⊥

-- some such expression's spelling begins with the tokens up to the one at n, and each that does is higher; but one that begins
-- with those before it is not
pub record IsTooHighDefinite (limit : ℕ) (ts : List Symbol) (n : ℕ) : Type 0 where
  pub within : n < length ts
  pub alive : BeginsDefinite (take (n + 1) ts)
  pub high : (more : List Symbol) (x : Form) → IsDefinite x → text x ≡ take (n + 1) ts ++ more → limit < height x
  pub before : BeginsLow limit false (take n ts)

-- the tokens from `from` to the one before `end` are read as this tree, which is no higher than 200
abbrev pub IsDefiniteRead : List ℕ → List Token → ℕ → Expr → ℕ → Type 0
IsDefiniteRead text tokens from x end =
    (from ≤ end) × (f : Form) × ReadsDefinite (tokens_from text tokens from) (end - from) f × (tree text f ≡ x) × (height f ≤ 200)

-- each refusal says why, with a number of tokens
abbrev pub IsDefiniteRefused : List ℕ → List Token → ℕ → SyntaxError → Type 0
IsDefiniteRefused text tokens from error.NoMemory = Unit {0}
IsDefiniteRefused text tokens from (error.Syntax k) = (from ≤ k) × FailsDefinite (tokens_from text tokens from) (k - from)
IsDefiniteRefused text tokens from (error.Depth k) = (from ≤ k) × IsTooHighDefinite 200 (tokens_from text tokens from) (k - from)
