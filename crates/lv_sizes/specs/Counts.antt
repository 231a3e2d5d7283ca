-- Counting nodes down from a limit.
use Rattle.std.specs.Prelude.{◌≡◌, ℕ, ◌+◌, ◌<◌, List, [], ◌∷◌, Option, Some, None}
use Rattle.lv_ast.specs.declared.expr.Select.{Select}
use Rattle.lv_ast.specs.declared.item.Continuous.{Continuous}
use Rattle.lv_ast.specs.Trees.{fold_select}
use Rattle.lv_source.specs.Limits.{expr_nodes_step, select_nodes, expr_nodes, target_nodes}

-- n of what is left are spent: the rest is told, or that there are not so many
abbrev pub Spends : ℕ → ℕ → Option ℕ → Type 0
Spends left n None = left < n
Spends left n (Some rest) = rest + n ≡ left

-- the nodes of a select
unfoldable pub step_nodes : Select → ℕ
step_nodes s = fold_select ℕ ℕ expr_nodes_step select_nodes s

-- the nodes of a continuous assignment
abbrev pub continuous_nodes : Continuous → ℕ
continuous_nodes a = target_nodes a.target + expr_nodes a.value

-- of a list, from its first element on
abbrev pub added : {A : Type 0} → (A → ℕ) → List A → ℕ
added f [] = 0
added f (x ∷ xs) = f x + added f xs
