-- What contract files and contracts have in common: the texts of expressions.
use Rattle.std.specs.Prelude.{ℕ, List, map, length, drop}
use Rattle.lv_contract.specs.declared.named.Named.{Named}
use Rattle.lv_contract.specs.declared.named.Guarded.{Guarded}
use Rattle.lv_contract.specs.declared.named.PortText.{PortText}
use Rattle.lv_contract.specs.declared.named.SimState.{SimState}
use Rattle.lv_contract.specs.declared.named.SimInput.{SimInput}
use Rattle.lv_contract.specs.Values.{text_in}

abbrev pub texts : List Named → List (List ℕ)
texts xs = map (λ (x : Named). x.text) xs

-- a port's text and texts
pub record PortTexts : Type 0 where
  pub retire : List ℕ
  pub contract : List (List ℕ)

abbrev pub port_texts : PortText → PortTexts
port_texts p = record { retire = p.retire.text; contract = texts p.contract }

abbrev pub contract_counts : List PortText → List ℕ
contract_counts ports = map (λ (p : PortText). length p.contract) ports

-- two texts that stand together
pub record Pair : Type 0 where
  pub first : List ℕ
  pub second : List ℕ

abbrev pub pair_of : List (List ℕ) → Pair
pair_of list = record { first = text_in 0 list; second = text_in 1 list }

abbrev pub guarded_pair : Guarded → Pair
guarded_pair g = record { first = g.guard.text; second = g.expr.text }

abbrev pub state_pair : SimState → Pair
state_pair s = record { first = s.register; second = s.value.text }

-- an input's name and the texts of its values
pub record Inputs : Type 0 where
  pub input : List ℕ
  pub values : List (List ℕ)

abbrev pub inputs_of : List (List ℕ) → Inputs
inputs_of list = record { input = text_in 0 list; values = drop 1 list }

abbrev pub input_texts : SimInput → Inputs
input_texts i = record { input = i.input; values = texts i.values }
