-- Clauses whose literals stand in one list.
use Rattle.std.specs.Prelude.{ℕ, ◌+◌, ◌≤◌, List, [], ◌∷◌, take, drop}
use Rattle.lv_clauses.specs.Literals.{Lit}
use Rattle.lv_trail.specs.declared.arena.Span.{Span}

-- the literals that stand where the span says
abbrev pub part : List Lit → Span → List Lit
part lits s = take s.len (drop s.start lits)

-- each span lies within so many literals
abbrev pub AreSpans : ℕ → List Span → Type 0
AreSpans n [] = Unit {0}
AreSpans n (s ∷ ss) = (s.start + s.len ≤ n) × AreSpans n ss
