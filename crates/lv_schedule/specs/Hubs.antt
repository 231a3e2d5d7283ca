-- Graphs whose vertices are the parts and, behind them, hubs: from a hub to each part that drives something.
use Rattle.std.specs.Prelude.{◌≡◌, ℕ, ◌+◌, ◌-◌, ◌<◌, Bool, true, false, ◌&&◌, ◌==◌, if◌then◌else◌, nat_lt, List, [], ◌∷◌, length}
use Rattle.std.specs.List.{list_any}
use Rattle.lv_order.specs.Graphs.{Graph, IsGraph, edges_of, goes}

pub record Hubs : Type 0 where
  -- how many parts, and how many hubs
  pub parts : ℕ
  pub count : ℕ
  -- the first part is to come after the second
  pub feeds : ℕ → ℕ → Bool
  -- the hub leads to the part
  pub drives : ℕ → ℕ → Bool

-- the vertex is this part, or a hub that leads to it
abbrev pub steps_to : Hubs → ℕ → ℕ → Bool
steps_to h w k = if nat_lt w h.parts then w == k else h.drives (w - h.parts) k

abbrev pub reaches : Hubs → List ℕ → ℕ → Bool
reaches h ws k = list_any (λ w. steps_to h w k) ws

pub record IsHubGraph (h : Hubs) (E : Graph) : Type 0 where
  pub size : length E ≡ h.parts + h.count
  pub graph : IsGraph E
  pub rows : (j k : ℕ) → j < h.parts → reaches h (edges_of E j) k ≡ h.feeds j k
  pub hubs : (s k : ℕ) → s < h.count → goes E (h.parts + s) k ≡ h.drives s k
  -- from hubs to parts alone
  pub only : (s k : ℕ) → h.drives s k ≡ true → k < h.parts

-- each is to come after the next, and the last after `first`
abbrev pub is_chain : Hubs → ℕ → List ℕ → Bool
is_chain h first [] = false
is_chain h first (k ∷ []) = h.feeds k first
is_chain h first (k ∷ j ∷ ks) = h.feeds k j && is_chain h first (j ∷ ks)
