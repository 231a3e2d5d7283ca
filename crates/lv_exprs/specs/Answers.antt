-- What `read_expr` answers.
use Rattle.std.specs.Prelude.{◌≡◌, ℕ, ◌-◌, ◌≤◌, ◌<◌, List, Bool, true, ◌⊎◌, drop}
use Rattle.lv_ast.specs.declared.expr.Expr.{Expr}
use Rattle.lv_ast.specs.declared.tokens.Token.{Token}
use Rattle.lv_exprs.specs.declared.symbol.Symbol.{Symbol}
use Rattle.lv_exprs.specs.declared.error.SyntaxError.{SyntaxError}
use Rattle.lv_exprs.specs.declared.error.SyntaxError.TheVariants as error
use Rattle.lv_exprs.specs.Symbols.{symbols}
use Rattle.lv_exprs.specs.Reading.{ReadsTree, Fails, IsTooHigh}

-- read as this tree, and no higher than 200
abbrev pub ReadsLow : List ℕ → Bool → List Symbol → ℕ → Expr → Type 0
ReadsLow text p ts n x = (h : ℕ) × ReadsTree text p ts n x h × (h ≤ 200)

-- read as a tree that is higher than 200
abbrev pub ReadsHigh : List ℕ → Bool → List Symbol → ℕ → Type 0
ReadsHigh text p ts n = (x : Expr) × (h : ℕ) × ReadsTree text p ts n x h × (200 < h)

-- each expression that begins so is higher than 200; or, with paths, the one that ends there is
abbrev pub IsDeep : List ℕ → Bool → List Symbol → ℕ → Type 0
IsDeep text p ts n = IsTooHigh 200 p ts n ⊎ ((p ≡ true) × ReadsHigh text p ts n)

-- each refusal says why, with a number of tokens
abbrev pub Refuses : List ℕ → Bool → List Symbol → SyntaxError → Type 0
Refuses text p ts error.NoMemory = Unit {0}
Refuses text p ts (error.Syntax n) = Fails p ts n
Refuses text p ts (error.Depth n) = IsDeep text p ts n

-- the tokens from a place on
abbrev pub tokens_from : List ℕ → List Token → ℕ → List Symbol
tokens_from text tokens from = symbols text (drop from tokens)

-- the tokens from `from` to the one before `end` are read as this tree
abbrev pub IsRead : List ℕ → List Token → Bool → ℕ → Expr → ℕ → Type 0
IsRead text tokens p from x end = (from ≤ end) × ReadsLow text p (tokens_from text tokens from) (end - from) x

-- the same with the numbers of the tokens in the whole list
abbrev pub IsRefused : List ℕ → List Token → Bool → ℕ → SyntaxError → Type 0
IsRefused text tokens p from error.NoMemory = Unit {0}
IsRefused text tokens p from (error.Syntax k) = (from ≤ k) × Fails p (tokens_from text tokens from) (k - from)
IsRefused text tokens p from (error.Depth k) = (from ≤ k) × IsDeep text p (tokens_from text tokens from) (k - from)
