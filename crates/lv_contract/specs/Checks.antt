-- What has been checked of a document.
use Rattle.std.specs.Prelude.{◌≡◌, ℕ, Some, true, map}
use Rattle.toml.specs.Data.{Data, Items, Members, as_table}
use Rattle.lv_contract.specs.declared.key.Key.{Key}
use Rattle.lv_contract.specs.declared.key.Key.TheVariants as k
use Rattle.lv_contract.specs.declared.key.Level.{Level}
use Rattle.lv_contract.specs.declared.key.Level.TheVariants as l
use Rattle.lv_contract.specs.declared.need.Need.{Need}
use Rattle.lv_contract.specs.declared.error.ContractError.{ContractError}
use Rattle.lv_contract.specs.declared.error.ContractError.TheVariants as error
use Rattle.lv_contract.specs.Keys.{full_name}
use Rattle.lv_contract.specs.Values.{table_at, items_at, tables_in, keeps}
use Rattle.lv_contract.specs.Ranges.{are_same}
use Rattle.lv_contract.specs.Shapes.{contract_count, top_level}
use Rattle.lv_contract.specs.Parts.{port_in, IsPartFault}

-- a fault of the table at a key
abbrev pub HasPartFaultInside : Need → Key → Level → Members → ContractError → Type 0
HasPartFaultInside need key level ms e = (part : Members) × (table_at key ms ≡ Some part) × IsPartFault need level 0 part e

-- a fault of a value as a port, whatever its number
abbrev pub HasFaultAsPort : Need → Data → ContractError → Type 0
HasFaultAsPort need d e = (port : Members) × (as_table d ≡ Some port) × ((n : ℕ) → IsPartFault need l.Port n port e)

-- a fault of one of the tables of `port`
abbrev pub HasPortPartFault : Need → Items → ContractError → Type 0
HasPortPartFault need ds e = (i : ℕ) × (port : Members) × (port_in i ds ≡ Some port) × IsPartFault need l.Port i port e

pub record PortsKeep (need : Need) (ms : Members) : Type 0 where
  pub each : (i : ℕ) (port : Members) → port_in i (items_at k.Port ms) ≡ Some port → keeps need l.Port port ≡ true
  pub same : are_same (map contract_count (tables_in (items_at k.Port ms))) ≡ true

-- each table keeps its rows
pub record Keeps (need : Need) (format : ℕ) (ms : Members) : Type 0 where
  pub top : keeps need (top_level format) ms ≡ true
  pub initial : (part : Members) → table_at k.Initial ms ≡ Some part → keeps need l.Initial part ≡ true
  pub candidates : (part : Members) → table_at k.Candidates ms ≡ Some part → keeps need l.Candidates part ≡ true
  pub sim : (part : Members) → table_at k.Simulation ms ≡ Some part → keeps need l.Simulation part ≡ true
  pub ports : format ≡ 2 → PortsKeep need ms

-- what refuses ports with different numbers of entries
abbrev pub IsPortsRefusal : ContractError → Type 0
IsPortsRefusal error.NoMemory = Unit {0}
IsPortsRefusal (error.Value name) = name ≡ full_name l.Second k.Port
IsPortsRefusal _ = ⊥
