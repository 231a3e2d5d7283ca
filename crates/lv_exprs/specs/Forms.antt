-- How expressions are spelled (IEEE 1364-2005, annex A.8, in the profile of this program). A form is a tree with its
-- parentheses, unary `+` and commas; of its tree they leave nothing.
use Rattle.std.specs.Prelude.{◌≡◌, ℕ, ◌+◌, ◌≤◌, ◌%◌, ◌^◌, nat_lt, List, [], ◌∷◌, ◌++◌, Bool, true, false, ◌&&◌, ◌⊎◌}
use Rattle.lv_exprs.specs.declared.symbol.Sign.{Sign}
use Rattle.lv_exprs.specs.declared.symbol.Divider.{Divider}
use Rattle.lv_exprs.specs.declared.symbol.Divider.TheVariants as d
use Rattle.lv_exprs.specs.declared.symbol.Name.{Name}
use Rattle.lv_exprs.specs.declared.symbol.Number.{Number}
use Rattle.lv_exprs.specs.declared.symbol.Based.{Based}
use Rattle.lv_exprs.specs.declared.symbol.Symbol.{Symbol}
use Rattle.lv_exprs.specs.declared.symbol.Symbol.TheVariants as t
use Rattle.lv_exprs.specs.Levels.{level, leads}

pub data Form : Type 0 where
  -- a literal: a number, a based token, or both, of which the number is the size
  plain : Number → Form
  based : Based → Form
  sized : Number → Based → Form
  -- a name, behind a step of its path
  name : Name → Form
  dot : Form → Name → Form
  bit : Form → Form → Form
  part : Divider → Form → Form → Form → Form
  prefix : Sign → Form → Form
  binary : Sign → Form → Form → Form
  choice : Form → Form → Form → Form
  paren : Form → Form
  cast : Bool → Form → Form
  -- expressions with commas between them, in braces, or in braces behind a count
  pair : Form → Form → Form
  brace : Form → Form
  repeat : Form → Form → Form

abbrev pub text : Form → List Symbol
text (plain n) = t.Number n ∷ []
text (based b) = t.Based b ∷ []
text (sized n b) = t.Number n ∷ t.Based b ∷ []
text (name n) = t.Name n ∷ []
text (dot x n) = text x ++ (t.Dot ∷ t.Name n ∷ [])
text (bit x i) = text x ++ (t.LeftBracket ∷ (text i ++ (t.RightBracket ∷ [])))
text (part r x i j) = text x ++ (t.LeftBracket ∷ (text i ++ (t.Divider r ∷ (text j ++ (t.RightBracket ∷ [])))))
text (prefix s x) = t.Sign s ∷ text x
text (binary s x y) = text x ++ (t.Sign s ∷ text y)
text (choice c x y) = text c ++ (t.Question ∷ (text x ++ (t.Divider d.Colon ∷ text y)))
text (paren x) = t.LeftParen ∷ (text x ++ (t.RightParen ∷ []))
text (cast b x) = t.Cast b ∷ t.LeftParen ∷ (text x ++ (t.RightParen ∷ []))
text (pair x y) = text x ++ (t.Comma ∷ text y)
text (brace x) = t.LeftBrace ∷ (text x ++ (t.RightBrace ∷ []))
text (repeat c x) = t.LeftBrace ∷ (text c ++ (t.LeftBrace ∷ (text x ++ (t.RightBrace ∷ t.RightBrace ∷ []))))

-- how tightly a form binds: 14 names with their selects, 13 other operands, 12 unary operators, 2 to 11 binary ones,
-- 1 the conditional operator, 0 a list with commas
abbrev pub rank : Form → ℕ
rank (plain n) = 13
rank (based b) = 13
rank (sized n b) = 13
rank (name n) = 14
rank (dot x n) = 14
rank (bit x i) = 14
rank (part r x i j) = 14
rank (prefix s x) = 12
rank (binary s x y) = level s
rank (choice c x y) = 1
rank (paren x) = 13
rank (cast b x) = 13
rank (pair x y) = 0
rank (brace x) = 13
rank (repeat c x) = 13

-- a name without selects
abbrev pub is_path : Form → Bool
is_path (name n) = true
is_path (dot x n) = true
is_path _ = false

abbrev pub is_plain : Form → Bool
is_plain (plain n) = true
is_plain _ = false

-- a step of a path: a name, or a name with one number in brackets
abbrev pub is_step : Form → Bool
is_step (name n) = true
is_step (dot x n) = true
is_step (bit x i) = is_path x && is_plain i
is_step _ = false

-- a literal's bits above its size are lost
abbrev pub cut : ℕ → ℕ → ℕ
cut size bits = bits % 2 ^ size

-- a literal with free bits
abbrev pub is_free : Form → Bool
is_free (based b) = nat_lt 0 b.wild
is_free (sized n b) = nat_lt 0 (cut n.value b.wild)
is_free _ = false

-- the grammar: each part binds at least as tightly as its place asks. A literal in it has no free bits, and a path has steps
-- only where they are allowed
abbrev pub Valid : Bool → Form → Type 0
Valid p (plain n) = Unit {0}
Valid p (based b) = is_free (based b) ≡ false
Valid p (sized n b) = is_free (sized n b) ≡ false
Valid p (name n) = Unit {0}
Valid p (dot x n) = Valid p x × (is_step x ≡ true) × (p ≡ true)
Valid p (bit x i) = Valid p x × (14 ≤ rank x) × Valid p i × (1 ≤ rank i)
Valid p (part r x i j) = Valid p x × (14 ≤ rank x) × Valid p i × (1 ≤ rank i) × Valid p j × (1 ≤ rank j)
Valid p (prefix s x) = Valid p x × (12 ≤ rank x) × (leads s ≡ true)
Valid p (binary s x y) = Valid p x × Valid p y × (level s ≤ rank x) × (level s + 1 ≤ rank y) × (2 ≤ level s)
Valid p (choice c x y) = Valid p c × Valid p x × Valid p y × (2 ≤ rank c) × (1 ≤ rank x) × (1 ≤ rank y)
Valid p (paren x) = Valid p x × (1 ≤ rank x)
Valid p (cast b x) = Valid p x × (1 ≤ rank x)
Valid p (pair x y) = Valid p x × Valid p y × (1 ≤ rank y)
Valid p (brace x) = Valid p x
Valid p (repeat c x) = Valid p c × (1 ≤ rank c) × Valid p x

-- an expression: no list with commas; or a literal with free bits, alone
abbrev pub IsExpr : Bool → Form → Type 0
IsExpr p x = (Valid p x × (1 ≤ rank x)) ⊎ (is_free x ≡ true)

-- some expression's spelling begins with these tokens
abbrev pub Begins : Bool → List Symbol → Type 0
Begins p ts = (more : List Symbol) × (x : Form) × IsExpr p x × (text x ≡ ts ++ more)
