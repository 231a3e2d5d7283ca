-- The rows of several cycles, and a node that says whether those of both copies agree.
use Rattle.std.specs.Prelude.{◌≡◌, ℕ, ◌<◌, nat_eq, Bool, true, List, [], ◌∷◌, ◌++◌, length, map}
use Rattle.lv_bits.specs.Words.{Bits}
use Rattle.lv_bits.specs.Values.{bit}
use Rattle.lv_model.specs.Machine.{Agree}
use Rattle.lv_model.specs.Design.{Port as SeenPort}
use Rattle.lv_netlist.specs.Net.{Net, width_at}
use Rattle.lv_netlist.specs.Stepping.{GraphCycle, node_value}
use Rattle.lv_unroll.specs.declared.copies.Nodes.{Nodes}
use Rattle.lv_unroll.specs.declared.rows.Port.{Port}
use Rattle.lv_unroll.specs.Wires.{number_in, is_on, Extends}
use Rattle.lv_unroll.specs.Entries.{row_at, numbers_by}

-- the rows of all cycles, joined, where each cycle has its table
abbrev pub rows_in : Net → List Bits → List Port → List Nodes → List (List ℕ)
rows_in net inputs ports [] = []
rows_in net inputs ports (t ∷ ts) = row_at (numbers_by net inputs t.list.items) ports ++ rows_in net inputs ports ts

-- the rows of both copies agree as far as both go
abbrev pub RowsAgree : Net → List Port → List Nodes → List Nodes → List Bits → Type 0
RowsAgree net ports left right inputs = Agree (rows_in net inputs ports left) (rows_in net inputs ports right)

-- the rows of both copies in one cycle are equally long
abbrev pub rows_match : Net → List Port → List ℕ → List ℕ → List Bits → Bool
rows_match net ports left right inputs =
    nat_eq (length (row_at (numbers_by net inputs left) ports)) (length (row_at (numbers_by net inputs right) ports))

-- the observer of a port in the cycles of the graph
abbrev pub port_of : Net → Port → SeenPort GraphCycle
port_of graph p = record { retire = node_value graph p.retire; contract = map (node_value graph) p.contract.items }

-- a node of one bit that is 1 exactly where the fact holds
pub record GivesFact (old new : Net) (at : ℕ) (fact : List Bits → Type 0) : Type 0 where
  pub extends : Extends old new
  pub within : at < length new.nodes
  pub width : width_at new.nodes at ≡ 1
  pub is : (inputs : List Bits) → number_in new inputs at ≡ bit (is_on new inputs at)
  pub holds : (inputs : List Bits) → is_on new inputs at ≡ true → fact inputs
  pub back : (inputs : List Bits) → fact inputs → is_on new inputs at ≡ true
