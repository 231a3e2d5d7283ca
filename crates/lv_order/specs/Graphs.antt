-- Graphs by the vertices to which each vertex has an edge; orders and cycles.
use Rattle.std.specs.Prelude.{◌≡◌, ℕ, ◌<◌, ◌≤◌, Bool, true, false, not, ◌&&◌, ◌==◌, nat_lt, List, [], ◌∷◌, map, take, length, slice_index, slice_index_or, Vec}
use Rattle.std.specs.List.{list_any}
use Rattle.lv_order.specs.declared.sorting.Sorting.{Sorting}
use Rattle.lv_order.specs.declared.sorting.Sorting.TheVariants.{Sorted, Cycle}

-- the vertices to which each vertex has an edge
abbrev pub Graph : Type 0
Graph = List (List ℕ)

abbrev pub graph : {Z : Type 0} → List (Vec ℕ Z) → Graph
graph rows = map (λ r. r.items) rows

abbrev pub has : List ℕ → ℕ → Bool
has vs v = list_any (λ w. w == v) vs

abbrev pub edges_of : Graph → ℕ → List ℕ
edges_of E v = slice_index_or E v []

-- the first vertex has an edge to the second
abbrev pub goes : Graph → ℕ → ℕ → Bool
goes E v w = has (edges_of E v) w

-- no edge leads out of the graph
abbrev pub IsGraph : Graph → Type 0
IsGraph E = (v w : ℕ) → goes E v w ≡ true → w < length E

abbrev pub are_distinct : List ℕ → Bool
are_distinct [] = true
are_distinct (v ∷ vs) = not (has vs v) && are_distinct vs

-- each vertex has an edge to the next one, and the last to `first`
abbrev pub leads : Graph → ℕ → List ℕ → Bool
leads E first [] = true
leads E first (v ∷ []) = goes E v first
leads E first (v ∷ w ∷ vs) = goes E v w && leads E first (w ∷ vs)

abbrev pub is_cycle : Graph → List ℕ → Bool
is_cycle E [] = false
is_cycle E (v ∷ vs) = are_distinct (v ∷ vs) && leads E v (v ∷ vs)

-- each vertex stands once, behind all that it has an edge to
pub record IsSorted (E : Graph) (vs : List ℕ) : Type 0 where
  pub whole : (v : ℕ) → has vs v ≡ nat_lt v (length E)
  pub once : are_distinct vs ≡ true
  pub behind : (i w : ℕ) → i < length vs → goes E (slice_index vs i) w ≡ true → has (take i vs) w ≡ true
  pub acyclic : (ks : List ℕ) → is_cycle E ks ≡ false

pub record IsCycle (E : Graph) (vs : List ℕ) : Type 0 where
  pub cycle : is_cycle E vs ≡ true
  pub least : (v : ℕ) → has vs v ≡ true → slice_index vs 0 ≤ v

abbrev pub IsSorting : Graph → Sorting → Type 0
IsSorting E (Sorted vs) = IsSorted E vs.items
IsSorting E (Cycle vs) = IsCycle E vs.items
