-- The sizes of a design that have limits.
use Rattle.std.specs.Prelude.{ℕ, suc, ◌+◌, ◌≤◌, List, [], ◌∷◌, ◌++◌, map, length, sum, Option, Some, None}
use Rattle.lv_ast.specs.declared.expr.Expr.{Expr}
use Rattle.lv_ast.specs.declared.expr.Expr.TheOpen.{Expr-F, Select-F}
use Rattle.lv_ast.specs.declared.stmt.Target.{Target}
use Rattle.lv_ast.specs.declared.stmt.Target.TheOpen.{Target-F}
use Rattle.lv_ast.specs.declared.stmt.Stmt.{Stmt}
use Rattle.lv_ast.specs.declared.stmt.Stmt.TheOpen.{Stmt-F}
use Rattle.lv_ast.specs.declared.item.Item.{Item}
use Rattle.lv_ast.specs.declared.item.Item.TheVariants as i
use Rattle.lv_ast.specs.declared.item.Range.{Range}
use Rattle.lv_ast.specs.declared.item.Conn.{Conn}
use Rattle.lv_ast.specs.declared.item.Params.{Params}
use Rattle.lv_ast.specs.declared.item.Ports.{Ports}
use Rattle.lv_ast.specs.declared.item.Ports.TheVariants as p
use Rattle.lv_ast.specs.Trees.{fold_expr, fold_select, fold_target, fold_stmt}
use Rattle.lv_source.specs.Names.{Names}
use Rattle.lv_source.specs.Effect.{ArmOf, arm_step, with_index, turns}
use Rattle.lv_source.specs.Scopes.{Scope}
use Rattle.lv_source.specs.Parts.{Design, parts, scopes_of}
use Rattle.lv_source.specs.Settled.{register_bits}

-- ---- nodes of expressions

abbrev pub select_nodes : Select-F ℕ ℕ → ℕ
select_nodes (Select-F.Bit a) = a
select_nodes (Select-F.Part a b) = a + b
select_nodes (Select-F.Up a b) = a + b
select_nodes (Select-F.Down a b) = a + b

abbrev pub expr_nodes_step : Expr-F ℕ ℕ → ℕ
expr_nodes_step (Expr-F.Lit l) = 1
expr_nodes_step (Expr-F.Name path ss) = suc (sum ss)
expr_nodes_step (Expr-F.Un op a) = suc a
expr_nodes_step (Expr-F.Bin op a b) = suc (a + b)
expr_nodes_step (Expr-F.Div a b) = suc (a + b)
expr_nodes_step (Expr-F.Rem a b) = suc (a + b)
expr_nodes_step (Expr-F.Cond c a b) = suc (c + a + b)
expr_nodes_step (Expr-F.Cat es) = suc (sum es)
expr_nodes_step (Expr-F.Rep n es) = suc (n + sum es)
expr_nodes_step (Expr-F.Cast signed a) = suc a

unfoldable pub expr_nodes : Expr → ℕ
expr_nodes e = fold_expr ℕ ℕ expr_nodes_step select_nodes e

-- the expressions in a target; the target itself is no node
abbrev pub target_nodes_step : Target-F ℕ → ℕ
target_nodes_step (Target-F.Name path ss) = sum (map (λ s. fold_select ℕ ℕ expr_nodes_step select_nodes s) ss)
target_nodes_step (Target-F.Cat ts) = sum ts

unfoldable pub target_nodes : Target → ℕ
target_nodes t = fold_target ℕ target_nodes_step t

-- ---- turns and nodes of statements, each as often as it stands there

pub record Size : Type 0 where
  pub turns : ℕ
  pub nodes : ℕ

abbrev pub Sizes : Type 0
Sizes = Names → Size

abbrev pub nodes_alone : ℕ → Size
nodes_alone n = record { turns = 0; nodes = n }

abbrev pub sum_sizes : List Size → Size
sum_sizes ss = record { turns = sum (map (λ s. s.turns) ss); nodes = sum (map (λ s. s.nodes) ss) }

abbrev pub size_or : Option Sizes → Names → List Size
size_or None names = []
size_or (Some f) names = f names ∷ []

abbrev pub size_step : Stmt-F Sizes (ArmOf Sizes) → Sizes
size_step Stmt-F.Null names = nodes_alone 1
size_step (Stmt-F.Block name body) names = sum_sizes (nodes_alone 1 ∷ map (λ f. f names) body)
size_step (Stmt-F.If x a b) names = sum_sizes (nodes_alone (suc (expr_nodes x)) ∷ a names ∷ size_or b names)
size_step (Stmt-F.Case wild x arms) names =
    sum_sizes (nodes_alone (suc (expr_nodes x)) ∷ map (λ a. nodes_alone (sum (map expr_nodes a.labels))) arms ++ map (λ a. a.body names) arms)
size_step (Stmt-F.Loop index start test again next body) names =
    let ks : List ℕ = turns names index.name start test next in
    sum_sizes (record { turns = length ks; nodes = suc (expr_nodes start + expr_nodes test + expr_nodes next) } ∷
    map (λ k. body (with_index names index.name k)) ks)
size_step (Stmt-F.Now target x place) names = nodes_alone (suc (target_nodes target + expr_nodes x))
size_step (Stmt-F.Later target x place) names = nodes_alone (suc (target_nodes target + expr_nodes x))

unfoldable pub stmt_size : Names → Stmt → Size
stmt_size names s = fold_stmt Sizes (ArmOf Sizes) size_step arm_step s names

-- ---- items and declarations

abbrev pub maybe_nodes : Option Expr → ℕ
maybe_nodes None = 0
maybe_nodes (Some x) = expr_nodes x

abbrev pub range_nodes : Option Range → ℕ
range_nodes None = 0
range_nodes (Some r) = expr_nodes r.left + expr_nodes r.right

-- a range counts once, whatever the number of names that it is for
abbrev pub params_nodes : Params → ℕ
params_nodes ps = range_nodes ps.range + sum (map (λ s. expr_nodes s.value) ps.list)

abbrev pub ports_nodes : Ports → ℕ
ports_nodes (p.Declared ports) = sum (map (λ a. range_nodes a.range) ports)
ports_nodes _ = 0

abbrev pub conn_nodes : List Conn → ℕ
conn_nodes cs = sum (map (λ c. maybe_nodes c.value) cs)

abbrev pub item_size : Scope → Item → Size
item_size s (i.Port a) = nodes_alone (range_nodes a.range)
item_size s (i.Wire signed range names) = nodes_alone (range_nodes range + sum (map (λ n. maybe_nodes n.value) names))
item_size s (i.Reg signed range names) = nodes_alone (range_nodes range + sum (map (λ n. range_nodes n.bounds) names))
item_size s (i.Params local ps) = nodes_alone (params_nodes ps)
item_size s (i.Assign list) = nodes_alone (sum (map (λ a. target_nodes a.target + expr_nodes a.value) list))
item_size s (i.Always watch stmt place) = stmt_size s.names stmt
item_size s (i.Instance kind settings insts) = nodes_alone (conn_nodes settings + sum (map (λ n. conn_nodes n.conns) insts))
item_size s (i.Loop' index start test again next label n items) =
    record { turns = length (turns s.names index.name start test next); nodes = expr_nodes start + expr_nodes test + expr_nodes next }
item_size s _ = nodes_alone 0

-- of the header of a scope and of these items
abbrev pub items_size : Scope → List Item → Size
items_size s items = sum_sizes (nodes_alone (sum (map params_nodes s.params) + ports_nodes s.ports) ∷ map (item_size s) items)

abbrev pub scope_size : Scope → Size
scope_size s = items_size s s.items

abbrev pub design_size : Design → Size
design_size d = sum_sizes (map scope_size (scopes_of d))

pub record IsWithinLimits (d : Design) : Type 0 where
  pub instances : length (scopes_of d) ≤ 4096
  pub turns : (design_size d).turns ≤ 1000000
  pub nodes : (design_size d).nodes ≤ 1000000
  pub parts : length (parts d) ≤ 65536

-- the bits of all registers
abbrev pub state_bits : Design → ℕ
state_bits d = length (register_bits d)
