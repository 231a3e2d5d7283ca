-- How far a walk through a graph has come.
use Rattle.std.specs.Prelude.{◌≡◌, ℕ, ◌+◌, ◌-◌, ◌<◌, ◌≤◌, Bool, true, false, List, [], ◌∷◌, ◌++◌, take, length, slice_index, slice_index_or, Option, Some, None, nat_lt}
use Rattle.std.specs.List.{list_all}
use Rattle.lv_order.specs.declared.walk.State.{State}
use Rattle.lv_order.specs.declared.walk.State.TheVariants.{New, Open, Done}
use Rattle.lv_order.specs.declared.walk.Turn.{Turn}
use Rattle.lv_order.specs.declared.walk.Turn.TheVariants.{Goes, Ends, Meets}
use Rattle.lv_order.specs.declared.walk.Walk.{Walk}
use Rattle.lv_order.specs.Graphs.{Graph, has, edges_of, goes, are_distinct, leads}

-- ---- edges

-- each edge leads to a vertex
abbrev pub is_row : ℕ → List ℕ → Bool
is_row n ws = list_all (λ w. nat_lt w n) ws

-- ---- states

abbrev pub state_at : List State → ℕ → State
state_at ss v = slice_index_or ss v New

abbrev pub is_new : State → Bool
is_new New = true
is_new (Open i) = false
is_new Done = false

abbrev pub is_open : State → Bool
is_open New = false
is_open (Open i) = true
is_open Done = false

abbrev pub is_done : State → Bool
is_done New = false
is_done (Open i) = false
is_done Done = true

abbrev pub looked : State → ℕ
looked New = 0
looked (Open i) = i
looked Done = 0

-- ---- the walk

-- of the path, each vertex has an edge to the next; all edges that have been followed lead to vertices that are done
pub record IsWalk (E : Graph) (ss : List State) (path list : List ℕ) (root : ℕ) : Type 0 where
  pub size : length ss ≡ length E
  pub opened : (v : ℕ) → has path v ≡ is_open (state_at ss v)
  pub closed : (v : ℕ) → has list v ≡ is_done (state_at ss v)
  pub followed : (v k : ℕ) → k < looked (state_at ss v) → has list (slice_index (edges_of E v) k) ≡ true
  pub joined : (front : List ℕ) (v : ℕ) → path ≡ front ++ v ∷ [] → leads E v front ≡ true
  pub apart : are_distinct path ≡ true
  pub once : are_distinct list ≡ true
  pub behind : (i w : ℕ) → i < length list → goes E (slice_index list i) w ≡ true → has (take i list) w ≡ true
  pub within : root ≤ length E
  pub rooted : (v : ℕ) → v < root → is_new (state_at ss v) ≡ false

abbrev pub walks : Graph → Walk → Type 0
walks E w = IsWalk E w.states.items w.path.items w.list.items w.root

-- ---- what is left to do

abbrev pub left : ℕ → State → ℕ
left n New = n + 2
left n (Open i) = n - i + 1
left n Done = 0

abbrev pub work : Graph → List State → ℕ
work [] ss = 0
work (ws ∷ E) [] = 0
work (ws ∷ E) (s ∷ ss) = left (length ws) s + work E ss

abbrev pub rest : Graph → Walk → ℕ
rest E w = work E w.states.items + (length E - w.root)

-- ---- turns

pub record IsMet (E : Graph) (path : List ℕ) (v : ℕ) : Type 0 where
  pub on : has path v ≡ true
  pub joined : leads E v path ≡ true
  pub apart : are_distinct path ≡ true

pub record IsOver (E : Graph) (w : Walk) : Type 0 where
  pub walk : walks E w
  pub empty : w.path.items ≡ []
  pub root : length E ≤ w.root

abbrev pub IsTurn : Graph → Walk → Walk → Turn → Type 0
IsTurn E old new Goes = walks E new × (rest E new < rest E old)
IsTurn E old new Ends = IsOver E new
IsTurn E old new (Meets v) = IsMet E new.path.items v

abbrev pub IsEnd : Graph → Walk → Option ℕ → Type 0
IsEnd E w None = IsOver E w
IsEnd E w (Some v) = IsMet E w.path.items v

-- ---- rings

-- the end of the path from a place of v on, turned
pub record IsRing (path : List ℕ) (v : ℕ) (list : List ℕ) : Type 0 where
  pub before : List ℕ
  pub start : List ℕ
  pub least : ℕ
  pub after : List ℕ
  pub path_is : path ≡ before ++ (start ++ least ∷ after)
  pub list_is : list ≡ (least ∷ after) ++ start
  pub begins : slice_index (start ++ least ∷ after) 0 ≡ v
  pub is_least : (w : ℕ) → has (start ++ least ∷ after) w ≡ true → least ≤ w
