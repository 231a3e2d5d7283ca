-- What is answered: an order of the parts without a clock, or a cycle of them.
use Rattle.std.specs.Prelude.{◌≡◌, ℕ, ◌≤◌, true, false, List, slice_index}
use Rattle.lv_source.specs.Views.{View, is_view_cycle}
use Rattle.lv_order.specs.Graphs.{has}
use Rattle.lv_settles.specs.Orders.{IsOrder}
use Rattle.lv_schedule.specs.declared.parts.Plan.{Plan}
use Rattle.lv_schedule.specs.declared.parts.Plan.TheVariants.{Order, Cycle}

-- an order, and there is no cycle
pub record IsPlanned (vs : List View) (list : List ℕ) : Type 0 where
  pub order : IsOrder vs list
  pub acyclic : (ks : List ℕ) → is_view_cycle vs ks ≡ false

-- a cycle, which begins with its least part
pub record IsCircle (vs : List View) (ks : List ℕ) : Type 0 where
  pub cycle : is_view_cycle vs ks ≡ true
  pub least : (k : ℕ) → has ks k ≡ true → slice_index ks 0 ≤ k

abbrev pub IsPlan : List View → Plan → Type 0
IsPlan vs (Order order) = IsPlanned vs order.items
IsPlan vs (Cycle ks) = IsCircle vs ks.items
