-- What holds of every contract file.
use Rattle.std.specs.Prelude.{◌≡◌, ℕ, List}
use Rattle.lv_contract.specs.declared.need.Need.{Need}
use Rattle.lv_contract.specs.declared.contract.Contract.{Contract}
use Rattle.lv_contract.specs.Says.{IsContractFile}

-- bytes say at most one contract, whatever they are needed for. A contract keeps that each text is spelled by its tree, and not how, so two are merely equal
abbrev pub HasOneContract : Type 0
HasOneContract = (bytes : List ℕ) (need other : Need) (c d : Contract) → IsContractFile bytes need c → IsContractFile bytes other d → ∥ c ≡ d ∥₁
