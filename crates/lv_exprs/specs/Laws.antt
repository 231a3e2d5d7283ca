-- Laws of the grammar of expressions.
use Rattle.std.specs.Prelude.{◌≡◌, nat_lt, [], ◌∷◌, ◌++◌, Bool, true, false, not}
use Rattle.lv_exprs.specs.declared.symbol.Symbol.{Symbol}
use Rattle.lv_exprs.specs.declared.symbol.Symbol.TheVariants as t
use Rattle.lv_exprs.specs.Levels.{level}
use Rattle.lv_exprs.specs.Forms.{Form, text, IsExpr, Begins}

-- the tokens that may go on behind an expression: operators between operands, `?`, `[`, a dot and a based token
abbrev pub goes_on : Symbol → Bool
goes_on (t.Sign s) = not (nat_lt (level s) 2)
goes_on t.Question = true
goes_on t.LeftBracket = true
goes_on t.Dot = true
goes_on (t.Based b) = true
goes_on _ = false

-- no expression's spelling begins with an expression and any other token
abbrev pub NothingGoesOn : Type 0
NothingGoesOn = (p : Bool) (x : Form) (k : Symbol) → goes_on k ≡ false → IsExpr p x → Begins p (text x ++ (k ∷ [])) → ⊥

-- each list of tokens is spelled by at most one form, and so by at most one tree
abbrev pub HasOneForm : Type 0
HasOneForm = (p : Bool) (x y : Form) → IsExpr p x → IsExpr p y → text x ≡ text y → x ≡ y
