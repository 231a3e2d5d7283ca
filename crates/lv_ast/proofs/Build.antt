-- Trees by hand, in the form on which the folds compute.
use Rattle.std.specs.Prelude.{ℕ, Bool, true, false, List, [], ◌∷◌, map, Option, Some, None, codes, bytes_eq, if◌then◌else◌}
use Rattle.lv_ast.specs.declared.item.Module.{Module}
use Rattle.lv_ast.specs.declared.item.Conn.{Conn}
use Rattle.lv_ast.specs.declared.item.Ports.TheVariants as p
use Rattle.lv_ast.specs.declared.item.Watch.TheVariants as w2
use mathlib.Core.Former.{this, arity}
use Rattle.lv_bits.specs.declared.op.Op.{Op}
use Rattle.lv_bits.specs.declared.op.Op.TheVariants as o
use Rattle.lv_ast.specs.declared.expr.Path.{Path}
use Rattle.lv_ast.specs.declared.expr.Expr.{Expr, Row_of-Expr, end_of-Expr, more_of-Expr, Row_of-Select, end_of-Select, more_of-Select}
use Rattle.lv_ast.specs.declared.expr.Expr.TheVariants as e
use Rattle.lv_ast.specs.declared.expr.Select.{Select}
use Rattle.lv_ast.specs.declared.expr.Select.TheVariants as s
use Rattle.lv_ast.specs.declared.stmt.Target.{Target}
use Rattle.lv_ast.specs.declared.stmt.Target.TheVariants as t
use Rattle.lv_ast.specs.declared.stmt.Ident.{Ident}
use Rattle.lv_ast.specs.declared.stmt.Stmt.{Stmt, Row_of-Stmt, end_of-Stmt, more_of-Stmt, Row_of-Arm, end_of-Arm, more_of-Arm}
use Rattle.lv_ast.specs.declared.stmt.Stmt.TheVariants as b
use Rattle.lv_ast.specs.declared.item.Item.{Item, Row_of-Item, end_of-Item, more_of-Item}
use Rattle.lv_ast.specs.declared.item.Item.TheVariants as i
use Rattle.lv_ast.specs.declared.item.Range.{Range}
use Rattle.lv_ast.specs.declared.item.Aport.{Aport}
use Rattle.lv_ast.specs.declared.item.PortWord.TheVariants as w
use Rattle.sqlite_items.specs.formers.items.Items as items

abbrev pub units : {A : Type 0} → List A → List (Unit {0})
units xs = map (λ x. tt) xs

abbrev pub id : List ℕ → ℕ → Ident
id name place = record { name = name; place = place }

abbrev pub path : List ℕ → ℕ → Path
path name place = record { steps = []; name = name; place = place }

abbrev pub one : Expr → Row_of-Expr (arity {0} this tt)
one x = more_of-Expr x end_of-Expr

abbrev pub exprs : (xs : List Expr) → Row_of-Expr (arity {0} (items.the_former this) (units xs))
exprs [] = end_of-Expr
exprs (x ∷ xs) = more_of-Expr x (exprs xs)

abbrev pub selects : (xs : List Select) → Row_of-Select (arity {0} (items.the_former this) (units xs))
selects [] = end_of-Select
selects (x ∷ xs) = more_of-Select x (selects xs)

abbrev pub stmts : (xs : List Stmt) → Row_of-Stmt (arity {0} (items.the_former this) (units xs))
stmts [] = end_of-Stmt
stmts (x ∷ xs) = more_of-Stmt x (stmts xs)

abbrev pub items_row : (xs : List Item) → Row_of-Item (arity {0} (items.the_former this) (units xs))
items_row [] = end_of-Item
items_row (x ∷ xs) = more_of-Item x (items_row xs)

abbrev pub arms_row : (xs : List (List Expr × Stmt)) → Row_of-Arm (arity {0} (items.the_former this) (units xs))
arms_row [] = end_of-Arm
arms_row (x ∷ xs) = more_of-Arm x.0 x.1 (arms_row xs)

-- ---- expressions

abbrev pub sized : ℕ → ℕ → Expr
sized n x = e.Lit (record { size = Some n; plain = false; signed = false; value = x; wild = 0; place = 0 })

abbrev pub wild : ℕ → ℕ → ℕ → Expr
wild n x free = e.Lit (record { size = Some n; plain = false; signed = false; value = x; wild = free; place = 0 })

abbrev pub plain : ℕ → Expr
plain x = e.Lit (record { size = None; plain = true; signed = true; value = x; wild = 0; place = 0 })

abbrev pub name : List ℕ → Expr
name n = e.Name' (path n 0) [] end_of-Select

abbrev pub chosen : List ℕ → List Select → Expr
chosen n ss = e.Name' (path n 0) (units ss) (selects ss)

abbrev pub bin : Op → Expr → Expr → Expr
bin op a b = e.Bin' op tt (one a) tt (one b)

abbrev pub un : Op → Expr → Expr
un op a = e.Un' op tt (one a)

abbrev pub div : Expr → Expr → Expr
div a b = e.Div' tt (one a) tt (one b)

abbrev pub rem : Expr → Expr → Expr
rem a b = e.Rem' tt (one a) tt (one b)

abbrev pub cast : Bool → Expr → Expr
cast signed a = e.Cast' signed tt (one a)

abbrev pub cat : List Expr → Expr
cat xs = e.Cat' (units xs) (exprs xs)

abbrev pub bit : Expr → Select
bit x = s.Bit' tt (one x)

abbrev pub slice : Expr → Expr → Select
slice a b = s.Part' tt (one a) tt (one b)

abbrev pub down : Expr → Expr → Select
down a b = s.Down' tt (one a) tt (one b)

-- ---- statements and items

abbrev pub to : List ℕ → Target
to n = t.Name (path n 0) []

abbrev pub to_bits : List ℕ → List Select → Target
to_bits n ss = t.Name (path n 0) ss

abbrev pub block : List Stmt → Stmt
block ss = b.Block' None (units ss) (stmts ss)

abbrev pub case_of : Bool → Expr → List (List Expr × Stmt) → Stmt
case_of z x arms = b.Case' z x (units arms) (arms_row arms)

abbrev pub loop_of : Ident → Expr → Expr → Ident → Expr → Stmt → Stmt
loop_of index start test again next s = b.Loop' index start test again next tt (more_of-Stmt s end_of-Stmt)

abbrev pub input : List ℕ → ℕ → Option Range → Aport
input n place range = record { output = false; word = w.Absent; signed = false; range = range; names = id n place ∷ [] }

abbrev pub output : List ℕ → ℕ → Option Range → Aport
output n place range = record { output = true; word = w.Absent; signed = false; range = range; names = id n place ∷ [] }

abbrev pub output_reg : List ℕ → ℕ → Option Range → Aport
output_reg n place range = record { output = true; word = w.Reg; signed = false; range = range; names = id n place ∷ [] }

abbrev pub bits : ℕ → ℕ → Range
bits l r = record { left = plain l; right = plain r }

abbrev pub assign : Target → Expr → ℕ → Item
assign t x place = i.Assign (record { target = t; value = x; place = place } ∷ [])

abbrev pub turns_of : Ident → Expr → Expr → Ident → Expr → Ident → List Item → Item
turns_of index start test again next label xs = i.Loop' index start test again next label (units xs) (items_row xs)

abbrev pub output_of_reg : List ℕ → ℕ → Aport
output_of_reg n place = output_reg n place None

abbrev pub module_of : List ℕ → List Aport → List Item → Module
module_of n ports xs = record { name = id n 7; params = []; ports = p.Declared ports; items = xs }

abbrev pub clk : Aport
clk = input (codes "clk") 15 None

abbrev pub always_star : Stmt → ℕ → Item
always_star s place = i.Always w2.Star s place

abbrev pub at_clock : Stmt → ℕ → Item
at_clock s place = i.Always (w2.Posedge (id (codes "clk") place)) s place

abbrev pub wire : List ℕ → ℕ → Option Range → Item
wire n place range = i.Wire false range (record { name = id n place; value = None } ∷ [])

abbrev pub wire_with : List ℕ → ℕ → Option Range → Expr → Item
wire_with n place range x = i.Wire false range (record { name = id n place; value = Some x } ∷ [])

abbrev pub reg : List ℕ → ℕ → Option Range → Option Range → Item
reg n place range array = i.Reg false range (record { name = id n place; bounds = array } ∷ [])

abbrev pub linked : List ℕ → Expr → ℕ → Conn
linked n x place = record { name = Some (id n place); value = Some x; place = place }

-- the value of each named signal, and 0 elsewhere
abbrev pub valued : List (List ℕ × ℕ) → List ℕ → ℕ
valued [] name = 0
valued (nx ∷ rest) name = if bytes_eq name nx.0 then nx.1 else valued rest name

abbrev pub ordered : Expr → ℕ → Conn
ordered x place = record { name = None; value = Some x; place = place }

-- [N-1:0]
abbrev pub width : Range
width = record { left = bin o.Sub (name (codes "N")) (plain 1); right = plain 0 }
