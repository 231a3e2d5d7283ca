-- What a reader's answers say of the tokens from a place on.
use Rattle.std.specs.Prelude.{◌≡◌, ℕ, ◌+◌, ◌≤◌, ◌<◌, List, ◌++◌, length, take, Bool, cond}
use Rattle.lv_ast.specs.declared.expr.Expr.{Expr}
use Rattle.lv_exprs.specs.declared.symbol.Symbol.{Symbol}
use Rattle.lv_exprs.specs.Forms.{Form, text, rank, Valid, IsExpr, Begins}
use Rattle.lv_exprs.specs.Heights.{height}
use Rattle.lv_exprs.specs.Trees.{tree}

-- the first n tokens spell x, and they are all, or no expression's spelling begins with them and the next
pub record Reads (p : Bool) (ts : List Symbol) (n : ℕ) (x : Form) : Type 0 where
  pub within : n ≤ length ts
  pub expr : IsExpr p x
  pub spells : text x ≡ take n ts
  pub ends : n < length ts → Begins p (take (n + 1) ts) → ⊥

-- nothing is read so: some expression's spelling begins with the tokens before the one at n, and none with those up to it
pub record Fails (p : Bool) (ts : List Symbol) (n : ℕ) : Type 0 where
  pub within : n ≤ length ts
  pub alive : Begins p (take n ts)
  pub dead : n < length ts → Begins p (take (n + 1) ts) → ⊥
  pub none : (m : ℕ) (x : Form) → Reads p ts m x → ⊥

-- the spelling of an expression no higher than h, and no literal with free bits, begins with these tokens
abbrev pub BeginsLow : ℕ → Bool → List Symbol → Type 0
BeginsLow h p ts = (more : List Symbol) × (x : Form) × Valid p x × (1 ≤ rank x) × (height x ≤ h) × (text x ≡ ts ++ more)

-- some expression's spelling begins with the tokens up to the one at n, and each such expression is higher; but one that begins
-- with those before it is not: with paths, of which a dot may take one node away, it is higher by one at most
pub record IsTooHigh (limit : ℕ) (p : Bool) (ts : List Symbol) (n : ℕ) : Type 0 where
  pub within : n < length ts
  pub alive : Begins p (take (n + 1) ts)
  pub high : (more : List Symbol) (x : Form) → IsExpr p x → text x ≡ take (n + 1) ts ++ more → limit < height x
  pub before : BeginsLow (cond p (limit + 1) limit) p (take n ts)

-- the first n tokens are read as this tree, of this height
abbrev pub ReadsTree : List ℕ → Bool → List Symbol → ℕ → Expr → ℕ → Type 0
ReadsTree bytes p ts n e h = (x : Form) × Reads p ts n x × (tree bytes x ≡ e) × (height x ≡ h)
