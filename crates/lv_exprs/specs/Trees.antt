-- The tree of a form. A text gives the names their bytes.
use Rattle.std.specs.Prelude.{ℕ, List, [], ◌∷◌, ◌++◌, true, false, Option, Some, None, slice_range}
use Rattle.lv_bits.specs.declared.op.Op.{Op}
use Rattle.lv_bits.specs.declared.op.Op.TheVariants as o
use Rattle.lv_ast.specs.declared.expr.Literal.{Literal}
use Rattle.lv_ast.specs.declared.expr.Path.{Path}
use Rattle.lv_ast.specs.declared.expr.PathStep.{PathStep}
use Rattle.lv_ast.specs.declared.expr.Select.{Select}
use Rattle.lv_ast.specs.declared.expr.Select.TheVariants as s
use Rattle.lv_ast.specs.declared.expr.Expr.{Expr}
use Rattle.lv_ast.specs.declared.expr.Expr.TheVariants as e
use Rattle.lv_exprs.specs.declared.symbol.Sign.{Sign}
use Rattle.lv_exprs.specs.declared.symbol.Sign.TheVariants as g
use Rattle.lv_exprs.specs.declared.symbol.Divider.{Divider}
use Rattle.lv_exprs.specs.declared.symbol.Divider.TheVariants as d
use Rattle.lv_exprs.specs.declared.symbol.Name.{Name}
use Rattle.lv_exprs.specs.declared.symbol.Number.{Number}
use Rattle.lv_exprs.specs.declared.symbol.Based.{Based}
use Rattle.lv_exprs.specs.Forms.{Form, plain, based, sized, name, dot, bit, part, prefix, binary, choice, paren, cast, pair, brace, repeat, cut}

-- ---- literals

abbrev pub plain_literal : Number → Literal
plain_literal n = record { size = None; plain = true; signed = true; value = n.value; wild = 0; place = n.place }

abbrev pub based_literal : Based → Literal
based_literal b = record { size = None; plain = false; signed = b.signed; value = b.value; wild = b.wild; place = b.place }

abbrev pub sized_literal : Number → Based → Literal
sized_literal n b =
    record { size = Some n.value; plain = false; signed = b.signed; value = cut n.value b.value; wild = cut n.value b.wild; place = n.place }

-- ---- names

abbrev pub bytes_of : List ℕ → Name → List ℕ
bytes_of text n = slice_range text n.start n.end

abbrev pub number_in : Form → Option ℕ
number_in (plain n) = Some n.value
number_in _ = None

-- the number in brackets of a step
abbrev pub index_of : Form → Option ℕ
index_of (bit x i) = number_in i
index_of _ = None

abbrev pub steps_behind : Path → Option ℕ → List PathStep
steps_behind path index = path.steps ++ (record { name = path.name; index = index } ∷ [])

abbrev pub simple_path : List ℕ → Name → Path
simple_path text n = record { steps = []; name = bytes_of text n; place = n.place }

-- the path of a name, whatever selects it has
abbrev pub path : List ℕ → Form → Path
path text (name n) = simple_path text n
path text (dot x n) = record { steps = steps_behind (path text x) (index_of x); name = bytes_of text n; place = (path text x).place }
path text (bit x i) = path text x
path text (part r x i j) = path text x
path text _ = record { steps = []; name = []; place = 0 }

-- ---- operators

abbrev pub unary : Sign → Expr → Expr
unary g.Minus x = e.Un o.Neg x
unary g.Tilde x = e.Un o.Not x
unary g.Bang x = e.Un o.LogNot x
unary g.Amp x = e.Un o.RedAnd x
unary g.Bar x = e.Un o.RedOr x
unary g.Caret x = e.Un o.RedXor x
unary g.TildeAmp x = e.Un o.LogNot (e.Un o.RedAnd x)
unary g.TildeBar x = e.Un o.LogNot (e.Un o.RedOr x)
unary g.TildeCaret x = e.Un o.LogNot (e.Un o.RedXor x)
unary g.CaretTilde x = e.Un o.LogNot (e.Un o.RedXor x)
unary _ x = x

abbrev pub infix_op : Sign → Op
infix_op g.BarBar = o.LogOr
infix_op g.AmpAmp = o.LogAnd
infix_op g.Bar = o.Or
infix_op g.Caret = o.Xor
infix_op g.TildeCaret = o.Xnor
infix_op g.CaretTilde = o.Xnor
infix_op g.Amp = o.And
infix_op g.EqualEqual = o.Eq
infix_op g.BangEqual = o.Ne
infix_op g.Less = o.Lt
infix_op g.LessEqual = o.Le
infix_op g.Greater = o.Gt
infix_op g.GreaterEqual = o.Ge
infix_op g.LessLess = o.Shl
infix_op g.LessLessLess = o.Shl
infix_op g.GreaterGreater = o.Shr
infix_op g.GreaterGreaterGreater = o.Sar
infix_op g.Minus = o.Sub
infix_op g.Star = o.Mul
infix_op _ = o.Add

abbrev pub infix_tree : Sign → Expr → Expr → Expr
infix_tree g.Slash x y = e.Div x y
infix_tree g.Percent x y = e.Rem x y
infix_tree k x y = e.Bin (infix_op k) x y

abbrev pub part_select : Divider → Expr → Expr → Select
part_select d.Colon x y = s.Part x y
part_select d.Up x y = s.Up x y
part_select d.Down x y = s.Down x y

-- ---- trees

-- the trees between a form's commas, and the selects of a name
pub record Made : Type 0 where
  pub list : List Expr
  pub selects : List Select

abbrev pub first : List Expr → Expr
first [] = e.Cat []
first (x ∷ xs) = x

abbrev pub alone : Expr → Made
alone x = record { list = x ∷ []; selects = [] }

abbrev pub selected : Path → List Select → Made
selected path ss = record { list = e.Name path ss ∷ []; selects = ss }

abbrev pub made : List ℕ → Form → Made
made text (plain n) = alone (e.Lit (plain_literal n))
made text (based b) = alone (e.Lit (based_literal b))
made text (sized n b) = alone (e.Lit (sized_literal n b))
made text (name n) = selected (path text (name n)) []
made text (dot x n) = selected (path text (dot x n)) []
made text (bit x i) = selected (path text x) ((made text x).selects ++ (s.Bit (first (made text i).list) ∷ []))
made text (part r x i j) = selected (path text x) ((made text x).selects ++ (part_select r (first (made text i).list) (first (made text j).list) ∷ []))
made text (prefix k x) = alone (unary k (first (made text x).list))
made text (binary k x y) = alone (infix_tree k (first (made text x).list) (first (made text y).list))
made text (choice c x y) = alone (e.Cond (first (made text c).list) (first (made text x).list) (first (made text y).list))
made text (paren x) = alone (first (made text x).list)
made text (cast b x) = alone (e.Cast b (first (made text x).list))
made text (pair x y) = record { list = (made text x).list ++ (first (made text y).list ∷ []); selects = [] }
made text (brace x) = alone (e.Cat (made text x).list)
made text (repeat c x) = alone (e.Rep (first (made text c).list) (made text x).list)

-- the trees of a list with commas
abbrev pub trees : List ℕ → Form → List Expr
trees text x = (made text x).list

-- the tree of an expression's form
abbrev pub tree : List ℕ → Form → Expr
tree text x = first (made text x).list
