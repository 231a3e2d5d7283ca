-- What each query asks of the values of both copies' nodes, cycle by cycle.
use Rattle.std.specs.Prelude.{◌≡◌, ℕ, suc, Bool, true, List, [], map, take, slice_index_or}
use Rattle.std.specs.List.{AllByRecursion}
use Rattle.lv_bits.specs.Words.{Bits}
use Rattle.lv_model.specs.Machine.{Agree, observations, AllHold, aligned_after}
use Rattle.lv_netlist.specs.Net.{Net}
use Rattle.lv_unroll.specs.declared.copies.Nodes.{Nodes}
use Rattle.lv_unroll.specs.Wires.{is_on}
use Rattle.lv_unroll.specs.Unrolls.{words_in}
use Rattle.lv_product.specs.declared.task.Task.{Task}
use Rattle.lv_product.specs.declared.task.Query.{Query}
use Rattle.lv_product.specs.declared.task.Query.TheVariants.{Initial, Allowed, Base, Step, Imply}
use Rattle.lv_product.specs.Values.{value_machine}

-- the values of each cycle's nodes
abbrev pub Cycles : Type 0
Cycles = List (List Bits)

-- the values in cycle k
abbrev pub cycle_at : Cycles → ℕ → List Bits
cycle_at cycles k = slice_index_or cycles k []

-- where a is true what both copies show agrees, and the inputs of all these cycles are allowed
abbrev pub AreAlike : Task → Cycles → Cycles → Bool → Type 0
AreAlike task ls rs a =
    let m = value_machine task in
    (a ≡ true → Agree (observations m ls) (observations m rs)) × AllByRecursion m.IsAllowed ls × AllByRecursion m.IsAllowed rs

-- so it is in the cycles 0 to b, and all candidates of the list hold at the first moment
abbrev pub AreHolding : Task → List ℕ → Cycles → Cycles → Bool → Type 0
AreHolding task s ls rs a =
    AreAlike task (take (suc task.lookahead) ls) (take (suc task.lookahead) rs) a ×
    AllHold (value_machine task) s (cycle_at ls 0) (cycle_at rs 0) a

-- the values meet the query; whether they are those of runs is not asked
abbrev pub Meets : Task → List ℕ → Query → Cycles → Cycles → Bool → Type 0
Meets task s Initial ls rs a = (value_machine task).IsInitialPair (cycle_at ls 0) (cycle_at rs 0)
Meets task s Allowed ls rs a = (value_machine task).IsAllowed (cycle_at ls 0)
Meets task s Base ls rs a =
    let m = value_machine task in
    (m.IsInitialPair (cycle_at ls 0) (cycle_at rs 0) × (a ≡ true)) × (AllHold m s (cycle_at ls 0) (cycle_at rs 0) a → ⊥)
Meets task s Step ls rs a =
    let m = value_machine task in
    AreHolding task s ls rs a × (AllHold m s (cycle_at ls 1) (cycle_at rs 1) (aligned_after m (cycle_at ls 0) (cycle_at rs 0) a) → ⊥)
Meets task s Imply ls rs a =
    let m = value_machine task in
    AreHolding task s ls rs a × (m.attacker (cycle_at ls 0) ≡ m.attacker (cycle_at rs 0) → ⊥)

-- the values of the copies
abbrev pub cycles_by : Net → List Nodes → List Bits → Cycles
cycles_by net tables inputs = map (words_in net inputs) tables

-- the copies' values meet the query
abbrev pub CopiesMeet : Net → Task → List ℕ → Query → List Nodes → List Nodes → ℕ → List Bits → Type 0
CopiesMeet net task s q left right aligned inputs =
    Meets task s q (cycles_by net left inputs) (cycles_by net right inputs) (is_on net inputs aligned)
