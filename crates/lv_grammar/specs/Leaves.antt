-- Which tokens spell which expression, and the two languages of the source: without limits, and within them.
use Rattle.std.specs.Prelude.{◌≡◌, ℕ, ◌≤◌, List, map, false}
use Rattle.lv_ast.specs.declared.expr.Expr.{Expr}
use Rattle.lv_exprs.specs.declared.symbol.Symbol.{Symbol}
use Rattle.lv_exprs.specs.Symbols.{kind_symbol}
use Rattle.lv_exprs.specs.Forms.{Form, IsExpr}
use Rattle.lv_exprs.specs.Definite.{IsDefinite}
use Rattle.lv_exprs.specs.Forms as forms
use Rattle.lv_exprs.specs.Heights.{height}
use Rattle.lv_exprs.specs.Trees as trees
use Rattle.lv_grammars.specs.Spelling.{Limit, any, most, Language}
use Rattle.lv_grammar.specs.Lexemes.{Lexeme, place_of}
use Rattle.lv_grammar.specs.Shapes.{Leaf, value, label, Placed, base}
use Rattle.lv_grammar.specs.Rules.{rules}

-- what a token is to an expression
abbrev pub symbol_of : Lexeme → Symbol
symbol_of t = kind_symbol t.kind t.bytes t.start t.end

abbrev pub symbols_of : List Lexeme → List Symbol
symbols_of ts = map symbol_of ts

-- only a label may be a literal with free bits
abbrev pub ValidAt : Leaf → Form → Type 0
ValidAt value x = IsDefinite x
ValidAt label x = IsExpr false x

-- an expression's form is spelled so and has this tree; its names have their bytes from the text
pub record IsExpression (text : List ℕ) (l : Leaf) (ts : List Lexeme) (x : Placed Expr) : Type 0 where
  pub form : Form
  pub valid : ValidAt l form
  pub spells : forms.text form ≡ symbols_of ts
  pub tree : trees.tree text form ≡ x.tree
  pub place : place_of ts ≡ x.place

pub record IsLowExpression (text : List ℕ) (l : Leaf) (ts : List Lexeme) (x : Placed Expr) : Type 0 where
  pub expression : IsExpression text l ts x
  pub low : height expression.form ≤ 200

abbrev pub all : List ℕ → Language base
all text = record { rules = rules; leaves = IsExpression text; limits = λ k. any }

-- expressions no higher than 200, and limits for targets, statements and items
abbrev pub within : List ℕ → (ℕ → Limit) → Language base
within text d = record { rules = rules; leaves = IsLowExpression text; limits = d }

-- of targets, statements and items no more than 200 nest
abbrev pub limits : ℕ → Limit
limits k = most 200

abbrev pub low : List ℕ → Language base
low text = within text limits
