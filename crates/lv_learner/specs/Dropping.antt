-- The members of a list that hold at a moment.
use Rattle.std.specs.Prelude.{◌<◌, ℕ, List, length, count_by}
use Rattle.lv_bits.specs.Words.{Bits}
use Rattle.lv_model.specs.Machine.{IsWithin}
use Rattle.lv_unroll.specs.declared.rows.Port.{Port}
use Rattle.lv_product.specs.declared.task.Task.{Task}
use Rattle.lv_product.specs.declared.task.Query.{Query}
use Rattle.lv_product.specs.declared.task.Query.TheVariants.{Base, Step}
use Rattle.lv_product.specs.Queries.{FitsKept}
use Rattle.lv_product.specs.Values.{is_met}
use Rattle.lv_learner.specs.Meeting.{HasAllInductive}

-- how many ports retire, by the values of all nodes
abbrev pub retired : List Port → List Bits → ℕ
retired ports values = count_by (λ (p : Port). is_met values p.retire) ports

-- the query is one that drops members
abbrev pub IsRound : Query → Type 0
IsRound Base = Unit {0}
IsRound Step = Unit {0}
IsRound _ = ⊥

-- fewer members, and all those of each inductive list that was within
pub record IsDropped (task : Task) (s t : List ℕ) : Type 0 where
  pub fits : FitsKept task t
  pub fewer : length t < length s
  pub within : IsWithin t s
  pub above : HasAllInductive task s → HasAllInductive task t
