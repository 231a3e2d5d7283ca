-- The height of a form's tree: parentheses, unary `+` and commas add nothing.
use Rattle.std.specs.Prelude.{ℕ, ◌+◌, max}
use Rattle.lv_exprs.specs.Levels.{weight}
use Rattle.lv_exprs.specs.Forms.{Form, plain, based, sized, name, dot, bit, part, prefix, binary, choice, paren, cast, pair, brace, repeat}

abbrev pub height : Form → ℕ
height (plain n) = 1
height (based b) = 1
height (sized n b) = 1
height (name n) = 1
height (dot x n) = 1
height (bit x i) = max (height x) (1 + height i)
height (part r x i j) = max (height x) (1 + max (height i) (height j))
height (prefix s x) = weight s + height x
height (binary s x y) = 1 + max (height x) (height y)
height (choice c x y) = 1 + max (max (height c) (height x)) (height y)
height (paren x) = height x
height (cast b x) = 1 + height x
height (pair x y) = max (height x) (height y)
height (brace x) = 1 + height x
height (repeat c x) = 1 + max (height c) (height x)
