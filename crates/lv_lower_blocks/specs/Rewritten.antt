-- A table some of whose nodes are exchanged.
use Rattle.std.specs.Prelude.{◌≡◌, ℕ, ◌<◌, ◌≤◌, ◌==◌, if◌then◌else◌, List, length, slice_index}
use Rattle.lv_netlist.specs.Net.{Net, width_at}
use Rattle.lv_flat.specs.Cells.{Cell}
use Rattle.lv_values.specs.declared.value.Value.{Value}
use Rattle.lv_values.specs.Worlds.{World, Obeys, Grows, number}
use Rattle.lv_lower_exprs.specs.Tables.{IsTable, value_at}

-- the graph has become longer, and the nodes from lo to below hi are others of the same widths with these values
pub record Rewrites (old new : Net) (before after : List ℕ) (lo hi : ℕ) (f : World → ℕ → ℕ) : Type 0 where
  pub grows : Grows old new
  pub count : length after ≡ length before
  pub within : (i : ℕ) → lo ≤ i → i < hi → slice_index after i < length new.nodes
  pub widths : (i : ℕ) → lo ≤ i → i < hi → width_at new.nodes (slice_index after i) ≡ width_at old.nodes (slice_index before i)
  pub is : (w : World) → Obeys new w → (i : ℕ) → lo ≤ i → i < hi → value_at w (slice_index after i) ≡ f w i
  pub below : (i : ℕ) → i < lo → slice_index after i ≡ slice_index before i
  pub above : (i : ℕ) → hi ≤ i → slice_index after i ≡ slice_index before i

-- m is x where c isn't 0, else y
pub record Muxes (old new : Net) (c x y m : ℕ) : Type 0 where
  pub grows : Grows old new
  pub within : m < length new.nodes
  pub width : width_at new.nodes m ≡ width_at old.nodes x
  pub is : (w : World) → Obeys new w → value_at w m ≡ (if value_at w c == 0 then value_at w y else value_at w x)

-- two tables of the same widths
pub record AreAlike (net : Net) (a b : List ℕ) : Type 0 where
  pub count : length a ≡ length b
  pub left : (i : ℕ) → i < length a → slice_index a i < length net.nodes
  pub right : (i : ℕ) → i < length a → slice_index b i < length net.nodes
  pub widths : (i : ℕ) → i < length a → width_at net.nodes (slice_index a i) ≡ width_at net.nodes (slice_index b i)

-- what a table shows at i where the node c chooses it, and another where c is 0
abbrev pub chosen_at : ℕ → List ℕ → List ℕ → World → ℕ → ℕ
chosen_at c a b w i = if value_at w c == 0 then value_at w (slice_index b i) else value_at w (slice_index a i)

-- the table is what it was where c isn't 0, else the other one
abbrev pub Merges : Net → Net → ℕ → List ℕ → List ℕ → List ℕ → Type 0
Merges old new c a b t = Rewrites old new a t 0 (length a) (chosen_at c a b)

-- an empty one stands for none
pub record MayBeTable (net : Net) (cells : List Cell) (table : List ℕ) : Type 0 where
  pub is : 1 ≤ length table → IsTable net cells table

-- a table is that of a choice: as a where t isn't 0, else as b
pub record Picks (old new : Net) (t : Value) (a b c : List ℕ) : Type 0 where
  pub grows : Grows old new
  pub count : length c ≡ length a
  pub within : (i : ℕ) → i < length a → slice_index c i < length new.nodes
  pub widths : (i : ℕ) → i < length a → width_at new.nodes (slice_index c i) ≡ width_at old.nodes (slice_index a i)
  pub is : (w : World) → Obeys new w → (i : ℕ) → i < length a → value_at w (slice_index c i) ≡ (if number w t == 0 then value_at w (slice_index b i) else value_at w (slice_index a i))
