-- What the tables inside a document say.
use Rattle.std.specs.Prelude.{◌≡◌, map}
use Rattle.toml.specs.Data.{Members}
use Rattle.lv_contract.specs.declared.key.Key.TheVariants as k
use Rattle.lv_contract.specs.declared.tables.InitialLists.{InitialLists}
use Rattle.lv_contract.specs.declared.tables.CandidateLists.{CandidateLists}
use Rattle.lv_contract.specs.Values.{truth_at, texts_at, lists_at}
use Rattle.lv_contract.specs.Named.{texts, guarded_pair, pair_of}

pub record SaysInitial (ms : Members) (initial : InitialLists) : Type 0 where
  pub equal : texts initial.equal ≡ texts_at k.Equal ms
  pub each : texts initial.each ≡ texts_at k.Each ms

pub record SaysCandidates (ms : Members) (candidates : CandidateLists) : Type 0 where
  pub registers : candidates.registers ≡ truth_at k.Registers ms
  pub equal : texts candidates.equal ≡ texts_at k.Equal ms
  pub guarded : map guarded_pair candidates.guarded ≡ map pair_of (lists_at k.When ms)
  pub each : texts candidates.each ≡ texts_at k.Each ms
  pub aligned : candidates.aligned ≡ truth_at k.Aligned ms
