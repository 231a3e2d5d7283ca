-- Sums of sizes, and the statements that stand in the parts of a statement.
use Rattle.std.specs.Prelude.{ℕ, suc, ◌+◌, List, [], ◌∷◌, map, sum, length}
use Rattle.lv_ast.specs.declared.expr.Expr.{Expr}
use Rattle.lv_ast.specs.declared.stmt.Arm.{Arm}
use Rattle.lv_ast.specs.declared.stmt.Ident.{Ident}
use Rattle.lv_ast.specs.declared.stmt.Stmt.{Stmt}
use Rattle.lv_source.specs.Names.{Names, Here}
use Rattle.lv_source.specs.Effect.{turns}
use Rattle.lv_source.specs.Limits.{Size, nodes_alone, expr_nodes, stmt_size}
use Rattle.lv_source.specs.Standing.{Standing, standing}

abbrev pub plus : Size → Size → Size
plus a b = record { turns = a.turns + b.turns; nodes = a.nodes + b.nodes }

-- of a list, from its first element on
abbrev pub total : {A : Type 0} → (A → Size) → List A → Size
total f [] = nodes_alone 0
total f (x ∷ xs) = plus (f x) (total f xs)

-- an arm, with its labels
abbrev pub arm_size : Names → Arm → Size
arm_size names a = plus (nodes_alone (sum (map expr_nodes a.labels))) (stmt_size names a.body)

-- the header of a loop
abbrev pub header_size : Names → Ident → Expr → Expr → Expr → Size
header_size names index start test next =
    record { turns = length (turns names index.name start test next); nodes = expr_nodes start + expr_nodes test + expr_nodes next }

-- as a statement, without its body
abbrev pub loop_head : Names → Ident → Expr → Expr → Expr → Size
loop_head names index start test next =
    record { turns = length (turns names index.name start test next); nodes = suc (expr_nodes start + expr_nodes test + expr_nodes next) }
