-- The contract that a document says.
use Rattle.std.specs.Prelude.{◌≡◌, ℕ, true, List, map, Option, None, Some, IsUtf8}
use Rattle.toml.specs.Data.{Members}
use Rattle.toml.specs.Parse.{parse_document}
use Rattle.lv_contract.specs.declared.key.Key.TheVariants as k
use Rattle.lv_contract.specs.declared.key.Level.{Level}
use Rattle.lv_contract.specs.declared.need.Need.{Need}
use Rattle.lv_contract.specs.declared.contract.SimTable.{SimTable}
use Rattle.lv_contract.specs.declared.contract.Contract.{Contract}
use Rattle.lv_contract.specs.Values.{number_at, truth_at, text_at, string_at, texts_at, lists_at, table_at, members_at, keeps}
use Rattle.lv_contract.specs.Named.{texts, PortTexts, port_texts, pair_of, guarded_pair, state_pair, inputs_of, input_texts}
use Rattle.lv_contract.specs.Parts.{format_of, part_of}
use Rattle.lv_contract.specs.Shapes.{port_tables}

-- ---- ports

abbrev pub port_at : Members → PortTexts
port_at ms = record { retire = text_at k.Retire ms; contract = texts_at k.Contract ms }

-- in format 1 the one port is made of the keys of the file
abbrev pub ports_at : ℕ → Members → List PortTexts
ports_at format ms = map port_at (port_tables format ms)

-- ---- key by key

pub record SaysSimulation (ms : Members) (sim : SimTable) : Type 0 where
  pub cycles : sim.cycles ≡ number_at 1 k.SimulatedCycles ms
  pub show : texts sim.show ≡ texts_at k.Show ms
  pub state : map state_pair sim.state ≡ map pair_of (lists_at k.State ms)
  pub input : map input_texts sim.input ≡ map inputs_of (lists_at k.Input ms)

-- a table is there or not
abbrev pub SaysTable : Option Members → Option SimTable → Type 0
SaysTable None None = Unit {0}
SaysTable (Some ms) (Some sim) = SaysSimulation ms sim
SaysTable None (Some sim) = ⊥
SaysTable (Some ms) None = ⊥

pub record Says (ms : Members) (c : Contract) : Type 0 where
  pub files : c.files ≡ texts_at k.Files ms
  pub top : c.top ≡ text_at k.Top ms
  pub clock : c.clock ≡ text_at k.Clock ms
  pub lookahead : c.lookahead ≡ number_at 0 k.Lookahead ms
  pub budget : c.budget ≡ number_at 200000 k.Budget ms
  pub certificate : c.certificate ≡ string_at k.Certificate ms
  pub cycles : c.cycles ≡ number_at 16 k.Cycles ms
  pub ports : map port_texts c.ports ≡ ports_at c.format ms
  pub attacker : texts c.attacker ≡ texts_at k.Attacker ms
  pub assume : texts c.assume ≡ texts_at k.Assume ms
  pub initial_equal : texts c.initial_equal ≡ texts_at k.Equal (members_at k.Initial ms)
  pub initial_each : texts c.initial_each ≡ texts_at k.Each (members_at k.Initial ms)
  pub registers : c.registers ≡ truth_at k.Registers (members_at k.Candidates ms)
  pub equal : texts c.equal ≡ texts_at k.Equal (members_at k.Candidates ms)
  pub guarded : map guarded_pair c.guarded ≡ map pair_of (lists_at k.When (members_at k.Candidates ms))
  pub each : texts c.each ≡ texts_at k.Each (members_at k.Candidates ms)
  pub aligned : c.aligned ≡ truth_at k.Aligned (members_at k.Candidates ms)
  pub sim : SaysTable (table_at k.Simulation ms) c.sim

-- ---- the file

pub record IsDocument (bytes : List ℕ) (ms : Members) : Type 0 where
  pub utf8 : IsUtf8 bytes
  pub parsed : parse_document bytes ≡ Some ms

-- each table keeps its rows, and the document says the contract. That each text is an expression is kept by its type
pub record IsContractIn (need : Need) (ms : Members) (c : Contract) : Type 0 where
  pub format : format_of ms ≡ Some c.format
  pub keeps : (level : Level) (n : ℕ) (part : Members) → part_of level n ms ≡ Some part → keeps need level part ≡ true
  pub says : Says ms c

pub record IsContractFile (bytes : List ℕ) (need : Need) (c : Contract) : Type 0 where
  pub members : Members
  pub document : IsDocument bytes members
  pub contract : IsContractIn need members c
