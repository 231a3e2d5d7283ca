-- What a flat expression is, by the same step as an expression of the source; and whether it is one that is lowered.
use Rattle.std.specs.Prelude.{ℕ, Bool, true, false, not, ◌&&◌, List, [], map, Option, Some, None}
use Rattle.std.specs.List.{list_all}
use Rattle.lv_bits.specs.Values.{is_unary, keeps_width}
use Rattle.lv_ast.specs.declared.expr.Literal.{Literal}
use Rattle.lv_ast.specs.declared.expr.Expr.TheOpen.{Expr-F, Select-F}
use Rattle.lv_source.specs.Names.{Names, Declared}
use Rattle.lv_source.specs.Values.{Meaning}
use Rattle.lv_source.specs.Meaning.{Reading, Choice, read_step, named}
use Rattle.lv_source.specs.Sites.{Shown, Step}
use Rattle.lv_source.specs.NodeRules.{is_width, is_array_fault, is_select_fault}
use Rattle.lv_source.specs.Parts.{is_declared_sort}
use Rattle.lv_const.specs.Constants.{constant_of}
use Rattle.lv_flat.specs.declared.expr.FlatExpr.{FlatExpr}
use Rattle.lv_flat.specs.declared.expr.FlatExpr.TheOpen.{FlatExpr-F, FlatSelect-F}
use Rattle.lv_flat.specs.declared.expr.FlatSelect.{FlatSelect}
use Rattle.lv_flat.specs.Signals.{Signals, signal_at}
use Rattle.lv_flat.specs.Trees.{fold_expr, fold_select}

pub record Judged : Type 0 where
  pub reading : Reading
  pub good : Bool
  -- the literal that it is, if it is one
  pub literal : Option Literal
  -- at a greater width it is its own value, extended
  pub extends : Bool

-- a select, and whether what stands in it is good
pub record JudgedSelect : Type 0 where
  pub choice : Choice
  pub good : Bool

-- ---- readings

-- a number that has been computed
abbrev pub number : ℕ → Reading
number n = record { meaning = record { width = 32; signed = false; value = λ W T v. n }; constant = true; reads = [] }

abbrev pub readings : List Judged → List Reading
readings rs = map (λ r. r.reading) rs

abbrev pub choices : List JudgedSelect → List Choice
choices cs = map (λ c. c.choice) cs

abbrev pub no_names : Names
no_names p = None

abbrev pub layer_reading : Signals → FlatExpr-F Judged JudgedSelect → Reading
layer_reading S (FlatExpr-F.Lit l) = read_step no_names (Expr-F.Lit l)
layer_reading S (FlatExpr-F.Const c cs) = named (constant_of [] c) (choices cs)
layer_reading S (FlatExpr-F.Signal k cs) = named (signal_at S k) (choices cs)
layer_reading S (FlatExpr-F.Un op a) = read_step no_names (Expr-F.Un op a.reading)
layer_reading S (FlatExpr-F.Bin op a b) = read_step no_names (Expr-F.Bin op a.reading b.reading)
layer_reading S (FlatExpr-F.Div a b) = read_step no_names (Expr-F.Div a.reading b.reading)
layer_reading S (FlatExpr-F.Rem a b) = read_step no_names (Expr-F.Rem a.reading b.reading)
layer_reading S (FlatExpr-F.Cond c a b) = read_step no_names (Expr-F.Cond c.reading a.reading b.reading)
layer_reading S (FlatExpr-F.Cat rs) = read_step no_names (Expr-F.Cat (readings rs))
layer_reading S (FlatExpr-F.Rep count rs) = read_step no_names (Expr-F.Rep (number count) (readings rs))
layer_reading S (FlatExpr-F.Cast signed a) = read_step no_names (Expr-F.Cast signed a.reading)

-- ---- what is good

abbrev pub shown_of : Reading → Shown
shown_of r = record { reading = r; places = []; unsized = false }

abbrev pub step_of : Choice → Step
step_of (Select-F.Bit a) = Select-F.Bit (shown_of a)
step_of (Select-F.Part a b) = Select-F.Part (shown_of a) (shown_of b)
step_of (Select-F.Up a b) = Select-F.Up (shown_of a) (shown_of b)
step_of (Select-F.Down a b) = Select-F.Down (shown_of a) (shown_of b)

abbrev pub all_good : List Judged → Bool
all_good rs = list_all (λ r. r.good) rs

-- selects that the name takes, with good indices
abbrev pub good_selects : Declared → List JudgedSelect → Bool
good_selects d cs =
    not (is_array_fault d.array (map step_of (choices cs))) && (not (is_select_fault d (map step_of (choices cs))) && list_all (λ c. c.good) cs)

-- operands of a division are constant
abbrev pub good_division : Judged → Judged → Bool
good_division a b = a.good && b.good && (a.reading.constant && b.reading.constant)

abbrev pub layer_good : Signals → FlatExpr-F Judged JudgedSelect → Bool
layer_good S (FlatExpr-F.Lit l) = true
layer_good S (FlatExpr-F.Const c cs) = good_selects (constant_of [] c) cs
layer_good S (FlatExpr-F.Signal k cs) = is_declared_sort (signal_at S k).sort && good_selects (signal_at S k) cs
layer_good S (FlatExpr-F.Un op a) = is_unary op && a.good
layer_good S (FlatExpr-F.Bin op a b) = not (is_unary op) && (a.good && b.good)
layer_good S (FlatExpr-F.Div a b) = good_division a b
layer_good S (FlatExpr-F.Rem a b) = good_division a b
layer_good S (FlatExpr-F.Cond c a b) = c.good && (a.good && b.good)
layer_good S (FlatExpr-F.Cat rs) = all_good rs
layer_good S (FlatExpr-F.Rep count rs) = all_good rs
layer_good S (FlatExpr-F.Cast signed a) = a.good

-- ---- what a `case` asks for

abbrev pub layer_literal : FlatExpr-F Judged JudgedSelect → Option Literal
layer_literal (FlatExpr-F.Lit l) = Some l
layer_literal _ = None

abbrev pub layer_extends : FlatExpr-F Judged JudgedSelect → Bool
layer_extends (FlatExpr-F.Lit l) = true
layer_extends (FlatExpr-F.Const c cs) = true
layer_extends (FlatExpr-F.Signal k cs) = true
layer_extends (FlatExpr-F.Cat rs) = true
layer_extends (FlatExpr-F.Rep count rs) = true
layer_extends (FlatExpr-F.Cast signed a) = true
layer_extends (FlatExpr-F.Un op a) = not (keeps_width op)
layer_extends (FlatExpr-F.Bin op a b) = not (keeps_width op)
layer_extends _ = false

-- ---- trees

abbrev pub judge_step : Signals → FlatExpr-F Judged JudgedSelect → Judged
judge_step S x =
    let r : Reading = layer_reading S x in
    record { reading = r; good = is_width r.meaning.width && layer_good S x; literal = layer_literal x; extends = layer_extends x }

abbrev pub judge_choice : FlatSelect-F Judged JudgedSelect → JudgedSelect
judge_choice (FlatSelect-F.Bit a) = record { choice = Select-F.Bit a.reading; good = a.good }
judge_choice (FlatSelect-F.Part left right) = record { choice = Select-F.Part (number left) (number right); good = true }
judge_choice (FlatSelect-F.Up a width) = record { choice = Select-F.Up a.reading (number width); good = a.good }
judge_choice (FlatSelect-F.Down a width) = record { choice = Select-F.Down a.reading (number width); good = a.good }

unfoldable pub judge : Signals → FlatExpr → Judged
judge S e = fold_expr Judged JudgedSelect (judge_step S) judge_choice e

unfoldable pub judge_select : Signals → FlatSelect → JudgedSelect
judge_select S s = fold_select Judged JudgedSelect (judge_step S) judge_choice s

abbrev pub reading : Signals → FlatExpr → Reading
reading S e = (judge S e).reading

-- its own width, its own sign, and its value at a width and a sign
abbrev pub meaning : Signals → FlatExpr → Meaning
meaning S e = (judge S e).reading.meaning

-- each width is 1 to 128, each name is that of a signal or clock, each select is one that the name takes, and what is divided is constant
abbrev pub is_good : Signals → FlatExpr → Bool
is_good S e = (judge S e).good
