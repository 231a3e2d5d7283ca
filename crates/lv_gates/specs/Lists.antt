-- The clauses of a graph as a list.
use Rattle.std.specs.Prelude.{ℕ, ◌+◌, ◌-◌, true, false, not, List, [], ◌∷◌, ◌++◌, Some, None, if◌then◌else◌, ◌==◌, ◌&&◌, ◌≤◌}
use Rattle.lv_aig.specs.declared.edge.Edge.{Edge}
use Rattle.lv_aig.specs.declared.edge.Gate.{Gate}
use Rattle.lv_aig.specs.Edges.{Nodes}
use Rattle.lv_clauses.specs.Literals.{Lit}

abbrev pub yes : ℕ → Lit
yes k = record { var = k; neg = false }

abbrev pub no : ℕ → Lit
no k = record { var = k; neg = true }

abbrev pub lit_of : Edge → Lit
lit_of e = record { var = e.node; neg = e.neg }

abbrev pub negated : Edge → Lit
negated e = record { var = e.node; neg = not e.neg }

abbrev pub three : ℕ → Gate → List (List Lit)
three k g = (lit_of g.left ∷ no k ∷ []) ∷ (lit_of g.right ∷ no k ∷ []) ∷ (negated g.left ∷ negated g.right ∷ yes k ∷ []) ∷ []

abbrev pub clauses_from : ℕ → Nodes → List (List Lit)
clauses_from k [] = []
clauses_from k (None ∷ ns) = clauses_from (k + 1) ns
clauses_from k (Some g ∷ ns) = three k g ++ clauses_from (k + 1) ns

-- the last variable is false and true where the goal is the constant 0
abbrev pub goal_clauses : ℕ → Edge → List (List Lit)
goal_clauses vars goal = if goal.node == 0 then (if goal.neg then [] else ((yes vars ∷ []) ∷ (no vars ∷ []) ∷ [])) else ((lit_of goal ∷ []) ∷ [])

abbrev pub goal_vars : ℕ → Edge → ℕ
goal_vars nodes goal = if (goal.node == 0) && not goal.neg then nodes else nodes - 1

-- each variable is one of the first n
abbrev pub AreBelow : ℕ → List Lit → Type 0
AreBelow n [] = Unit {0}
AreBelow n (l ∷ ls) = (1 ≤ l.var) × (l.var ≤ n) × AreBelow n ls
