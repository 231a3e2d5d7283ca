-- What tables that keep their rows give to read: counts, ranges and printable texts.
use Rattle.std.specs.Prelude.{◌≡◌, ℕ, Bool, true, false, ◌==◌, if◌then◌else◌, List, [], ◌∷◌, length, map, slice_get, Some}
use Rattle.std.specs.List.{list_all}
use Rattle.toml.specs.Data.{Members}
use Rattle.lv_contract.specs.declared.key.Key.{Key}
use Rattle.lv_contract.specs.declared.key.Key.TheVariants as k
use Rattle.lv_contract.specs.declared.key.Kind.{Kind}
use Rattle.lv_contract.specs.declared.key.Kind.TheVariants as kind
use Rattle.lv_contract.specs.declared.key.Level.{Level}
use Rattle.lv_contract.specs.declared.key.Level.TheVariants as l
use Rattle.lv_contract.specs.Values.{number_at, text_at, string_at, texts_at, lists_at, items_at, members_at, table_at, tables_in, all_items, is_table, passes, within, is_printable, is_name}
use Rattle.lv_contract.specs.Ranges.{in_range, in_count, is_name_or_none, is_port_count, are_same}

abbrev pub is_expression : Kind → Bool
is_expression kind.Expression = true
is_expression _ = false

abbrev pub is_expressions : Kind → Bool
is_expressions (kind.Expressions least) = true
is_expressions _ = false

-- the texts of an array
pub record TextsFit (key : Key) (ms : Members) : Type 0 where
  pub counted : in_count key (length (texts_at key ms)) ≡ true
  pub printable : list_all is_printable (texts_at key ms) ≡ true

-- the texts of its arrays, each of at most so many texts
pub record ListsFit (most : ℕ) (key : Key) (ms : Members) : Type 0 where
  pub counted : in_count key (length (lists_at key ms)) ≡ true
  pub few : list_all (λ list. within 0 most (length list)) (lists_at key ms) ≡ true
  pub printable : list_all (list_all is_printable) (lists_at key ms) ≡ true

pub record PortFits (ms : Members) : Type 0 where
  pub retire : passes is_printable (string_at k.Retire ms) ≡ true
  pub contract : TextsFit k.Contract ms

abbrev pub EachPortFits : List Members → Type 0
EachPortFits ports = (i : ℕ) (port : Members) → slice_get ports i ≡ Some port → PortFits port

pub record InitialFits (ms : Members) : Type 0 where
  pub equal : TextsFit k.Equal ms
  pub each : TextsFit k.Each ms

pub record CandidatesFit (ms : Members) : Type 0 where
  pub equal : TextsFit k.Equal ms
  pub guarded : ListsFit 2 k.When ms
  pub each : TextsFit k.Each ms

pub record SimulationFits (ms : Members) : Type 0 where
  pub cycles : in_range k.SimulatedCycles (number_at 1 k.SimulatedCycles ms) ≡ true
  pub show : TextsFit k.Show ms
  pub state : ListsFit 2 k.State ms
  pub input : ListsFit 10001 k.Input ms

abbrev pub top_level : ℕ → Level
top_level format = if format == 2 then l.Second else l.First

-- in format 1 the one port is the file itself
abbrev pub port_tables : ℕ → Members → List Members
port_tables format ms = if format == 2 then tables_in (items_at k.Port ms) else (ms ∷ [])

abbrev pub contract_count : Members → ℕ
contract_count port = length (texts_at k.Contract port)

pub record PortsFit (format : ℕ) (ms : Members) : Type 0 where
  pub tables : (if format == 2 then all_items is_table (items_at k.Port ms) else true) ≡ true
  pub count : is_port_count format (length (port_tables format ms)) ≡ true
  pub same : are_same (map contract_count (port_tables format ms)) ≡ true
  pub each : EachPortFits (port_tables format ms)

pub record TopFits (format : ℕ) (ms : Members) : Type 0 where
  pub files : TextsFit k.Files ms
  pub top : is_name (text_at k.Top ms) ≡ true
  pub clock : is_name (text_at k.Clock ms) ≡ true
  pub lookahead : in_range k.Lookahead (number_at 0 k.Lookahead ms) ≡ true
  pub budget : in_range k.Budget (number_at 200000 k.Budget ms) ≡ true
  pub certificate : is_name_or_none (string_at k.Certificate ms) ≡ true
  pub cycles : in_range k.Cycles (number_at 16 k.Cycles ms) ≡ true
  pub ports : PortsFit format ms
  pub attacker : TextsFit k.Attacker ms
  pub assume : TextsFit k.Assume ms
  pub initial : InitialFits (members_at k.Initial ms)
  pub candidates : CandidatesFit (members_at k.Candidates ms)
  pub sim : (part : Members) → table_at k.Simulation ms ≡ Some part → SimulationFits part
