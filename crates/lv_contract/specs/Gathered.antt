-- What a contract file says beside numbers and names.
use Rattle.std.specs.Prelude.{◌≡◌, ℕ, map}
use Rattle.toml.specs.Data.{Members}
use Rattle.lv_contract.specs.declared.key.Key.TheVariants as k
use Rattle.lv_contract.specs.declared.gather.Names.{Names}
use Rattle.lv_contract.specs.declared.gather.Observed.{Observed}
use Rattle.lv_contract.specs.declared.gather.Inside.{Inside}
use Rattle.lv_contract.specs.declared.gather.Parts.{Parts}
use Rattle.lv_contract.specs.Values.{text_at, string_at, texts_at, members_at, table_at}
use Rattle.lv_contract.specs.Named.{texts, port_texts}
use Rattle.lv_contract.specs.Says.{ports_at, SaysTable}
use Rattle.lv_contract.specs.Tables.{SaysInitial, SaysCandidates}

pub record SaysNames (ms : Members) (n : Names) : Type 0 where
  pub files : n.files ≡ texts_at k.Files ms
  pub top : n.top ≡ text_at k.Top ms
  pub clock : n.clock ≡ text_at k.Clock ms
  pub certificate : n.certificate ≡ string_at k.Certificate ms

pub record SaysObserved (format : ℕ) (ms : Members) (o : Observed) : Type 0 where
  pub ports : map port_texts o.ports ≡ ports_at format ms
  pub attacker : texts o.attacker ≡ texts_at k.Attacker ms
  pub assume : texts o.assume ≡ texts_at k.Assume ms

pub record SaysInside (ms : Members) (i : Inside) : Type 0 where
  pub initial : SaysInitial (members_at k.Initial ms) i.initial
  pub candidates : SaysCandidates (members_at k.Candidates ms) i.candidates
  pub sim : SaysTable (table_at k.Simulation ms) i.sim

pub record SaysParts (format : ℕ) (ms : Members) (p : Parts) : Type 0 where
  pub names : SaysNames ms p.names
  pub observed : SaysObserved format ms p.observed
  pub inside : SaysInside ms p.inside
