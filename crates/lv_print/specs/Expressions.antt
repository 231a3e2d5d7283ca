-- The tokens of an expression: each operator with its operands in parentheses.
use Rattle.std.specs.Prelude.{ℕ, Bool, if◌then◌else◌, List, [], ◌∷◌, ◌++◌, Option, Some, None, codes, map}
use Rattle.lv_bits.specs.declared.op.Op.{Op}
use Rattle.lv_bits.specs.declared.op.Op.TheVariants as o
use Rattle.lv_ast.specs.declared.tokens.Kind.TheVariants as k
use Rattle.lv_ast.specs.declared.expr.Path.{Path}
use Rattle.lv_ast.specs.declared.expr.PathStep.{PathStep}
use Rattle.lv_ast.specs.declared.expr.Select.{Select}
use Rattle.lv_ast.specs.declared.expr.Expr.{Expr}
use Rattle.lv_ast.specs.declared.expr.Expr.TheOpen.{Expr-F, Select-F}
use Rattle.lv_ast.specs.Trees.{fold_expr, fold_select}
use Rattle.lv_print.specs.Written.{Written, written, mark, name, commas, joined}
use Rattle.lv_print.specs.Literals.{number_token, literal_tokens}

abbrev pub parens : List Written → List Written
parens ts = mark (codes "(") ∷ (ts ++ (mark (codes ")") ∷ []))

abbrev pub brackets : List Written → List Written
brackets ts = mark (codes "[") ∷ (ts ++ (mark (codes "]") ∷ []))

abbrev pub braces : List Written → List Written
braces ts = mark (codes "{") ∷ (ts ++ (mark (codes "}") ∷ []))

-- ---- names

abbrev pub index_tokens : Option ℕ → List Written
index_tokens None = []
index_tokens (Some n) = brackets (number_token n ∷ [])

-- a step of a path, with a point behind it
abbrev pub step_tokens : PathStep → List Written
step_tokens s = name s.name ∷ (index_tokens s.index ++ (mark (codes ".") ∷ []))

unfoldable pub path_tokens : Path → List Written
path_tokens p = joined (map step_tokens p.steps) ++ (name p.name ∷ [])

-- ---- operators (5.1)

abbrev pub op_bytes : Op → List ℕ
op_bytes o.Neg = codes "-"
op_bytes o.Not = codes "~"
op_bytes o.LogNot = codes "!"
op_bytes o.RedAnd = codes "&"
op_bytes o.RedOr = codes "|"
op_bytes o.RedXor = codes "^"
op_bytes o.Add = codes "+"
op_bytes o.Sub = codes "-"
op_bytes o.Mul = codes "*"
op_bytes o.Shl = codes "<<"
op_bytes o.Shr = codes ">>"
op_bytes o.Sar = codes ">>>"
op_bytes o.Lt = codes "<"
op_bytes o.Le = codes "<="
op_bytes o.Gt = codes ">"
op_bytes o.Ge = codes ">="
op_bytes o.Eq = codes "=="
op_bytes o.Ne = codes "!="
op_bytes o.And = codes "&"
op_bytes o.Or = codes "|"
op_bytes o.Xor = codes "^"
op_bytes o.Xnor = codes "~^"
op_bytes o.LogAnd = codes "&&"
op_bytes o.LogOr = codes "||"

abbrev pub between_tokens : List ℕ → List Written → List Written → List Written
between_tokens s a b = parens (a ++ (mark s ∷ b))

abbrev pub choice_tokens : List Written → List Written → List Written → List Written
choice_tokens c a b = parens (c ++ (mark (codes "?") ∷ (a ++ (mark (codes ":") ∷ b))))

abbrev pub cast_word : Bool → Written
cast_word signed = written k.System (if signed then codes "$signed" else codes "$unsigned")

-- ---- expressions

abbrev pub expr_step : Expr-F (List Written) (List Written) → List Written
expr_step (Expr-F.Lit l) = literal_tokens l
expr_step (Expr-F.Name path ss) = path_tokens path ++ joined ss
expr_step (Expr-F.Un op a) = parens (mark (op_bytes op) ∷ a)
expr_step (Expr-F.Bin op a b) = between_tokens (op_bytes op) a b
expr_step (Expr-F.Div a b) = between_tokens (codes "/") a b
expr_step (Expr-F.Rem a b) = between_tokens (codes "%") a b
expr_step (Expr-F.Cond c a b) = choice_tokens c a b
expr_step (Expr-F.Cat es) = braces (commas es)
expr_step (Expr-F.Rep n es) = braces (n ++ braces (commas es))
expr_step (Expr-F.Cast signed a) = cast_word signed ∷ parens a

abbrev pub span_tokens : List ℕ → List Written → List Written → List Written
span_tokens s a b = brackets (a ++ (mark s ∷ b))

abbrev pub select_step : Select-F (List Written) (List Written) → List Written
select_step (Select-F.Bit a) = brackets a
select_step (Select-F.Part a b) = span_tokens (codes ":") a b
select_step (Select-F.Up a b) = span_tokens (codes "+:") a b
select_step (Select-F.Down a b) = span_tokens (codes "-:") a b

unfoldable pub expr_tokens : Expr → List Written
expr_tokens x = fold_expr (List Written) (List Written) expr_step select_step x

unfoldable pub select_tokens : Select → List Written
select_tokens s = fold_select (List Written) (List Written) expr_step select_step s
