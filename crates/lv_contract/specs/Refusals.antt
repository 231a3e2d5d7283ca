-- Why bytes are refused.
use Rattle.std.specs.Prelude.{◌≡◌, ℕ, false, List, map, Some, ◌⊎◌}
use Rattle.toml.specs.Data.{Members}
use Rattle.lv_contract.specs.declared.key.Key.TheVariants as k
use Rattle.lv_contract.specs.declared.key.Level.{Level}
use Rattle.lv_contract.specs.declared.key.Level.TheVariants as l
use Rattle.lv_contract.specs.declared.need.Need.{Need}
use Rattle.lv_contract.specs.declared.error.ContractError.{ContractError}
use Rattle.lv_contract.specs.declared.error.ContractError.TheVariants as error
use Rattle.lv_contract.specs.Keys.{full_name}
use Rattle.lv_contract.specs.Values.{items_at, tables_in}
use Rattle.lv_contract.specs.Ranges.{are_same}
use Rattle.lv_contract.specs.Parts.{format_of, part_of, IsKeyFault, IsPartFault}
use Rattle.lv_contract.specs.Says.{IsDocument}
use Rattle.lv_contract.specs.Shapes.{contract_count}

-- a fault of one of the document's tables
pub record IsFaultInPart (need : Need) (ms : Members) (e : ContractError) : Type 0 where
  pub level : Level
  pub n : ℕ
  pub part : Members
  pub is_part : part_of level n ms ≡ Some part
  pub fault : IsPartFault need level n part e

-- the ports have different numbers of entries at `contract`
pub record HasUnequalPorts (ms : Members) (e : ContractError) : Type 0 where
  pub format : format_of ms ≡ Some 2
  pub counts : are_same (map contract_count (tables_in (items_at k.Port ms))) ≡ false
  pub error : e ≡ error.Value (full_name l.Second k.Port)

-- where `format` is refused no table has a fault
abbrev pub IsFault : Need → Members → ContractError → Type 0
IsFault need ms e = IsKeyFault need l.First 0 k.Format ms e ⊎ (IsFaultInPart need ms e ⊎ HasUnequalPorts ms e)

abbrev pub IsFaultOf : List ℕ → Need → ContractError → Type 0
IsFaultOf bytes need e = (ms : Members) × IsDocument bytes ms × IsFault need ms e

-- want of memory may come in place of any refusal
abbrev pub IsRefusal : List ℕ → Need → ContractError → Type 0
IsRefusal bytes need error.NoMemory = Unit {0}
IsRefusal bytes need error.Toml = (ms : Members) → IsDocument bytes ms → ⊥
IsRefusal bytes need (error.Key name) = IsFaultOf bytes need (error.Key name)
IsRefusal bytes need (error.Value name) = IsFaultOf bytes need (error.Value name)
IsRefusal bytes need (error.Expr name entry byte) = IsFaultOf bytes need (error.Expr name entry byte)
