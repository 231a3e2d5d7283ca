-- The verdict on a contract and a source.
use Rattle.std.specs.Prelude.{◌≡◌, ℕ, suc, List, [], ◌∷◌, length}
use Rattle.std.specs.List.{range_with_len}
use Rattle.lv_ast.specs.declared.item.Module.{Module}
use Rattle.lv_ast.specs.declared.item.Source.{Source}
use Rattle.lv_ast.specs.Names.{Name}
use Rattle.lv_contract.specs.declared.named.PortText.{PortText}
use Rattle.lv_contract.specs.declared.contract.Contract.{Contract}
use Rattle.lv_model.specs.Machine.{Safe, IsInductive, Implies, IsMet, Initial, Allowed}
use Rattle.lv_first.specs.declared.judging.Verdict.{Verdict}
use Rattle.lv_first.specs.declared.judging.Verdict.TheVariants as v
use Rattle.lv_first.specs.declared.observed.ObserverTrees.{ObserverTrees}
use Rattle.lv_first.specs.FirstContract.{IsFirstContract, trees_of}
use Rattle.lv_first.specs.FirstForm.{registers_of, machine_of_module, IsFirstForm}

-- the numbers of all candidates: one for each register, and that the runs are aligned
abbrev pub all_candidates : Module → List ℕ
all_candidates m = range_with_len 0 (suc (length (registers_of m)))

-- safe for runs of any length, with an initial pair and an allowed input
pub record IsSafe (m : Module) (clock : Name) (lookahead : ℕ) (c : ObserverTrees) : Type 0 where
  pub safe : Safe (machine_of_module m clock c) lookahead
  pub initial : IsMet (machine_of_module m clock c) lookahead [] Initial
  pub allowed : IsMet (machine_of_module m clock c) lookahead [] Allowed

-- the list of all candidates is inductive and implies that the attacker sees the same
pub record IsKept (m : Module) (clock : Name) (lookahead : ℕ) (c : ObserverTrees) : Type 0 where
  pub inductive : IsInductive (machine_of_module m clock c) lookahead (all_candidates m)
  pub implies : Implies (machine_of_module m clock c) lookahead (all_candidates m)

-- the contract and the source are of the form that is decided
pub record IsTask (c : Contract) (s : Source) (port : PortText) (m : Module) : Type 0 where
  pub contract : IsFirstContract c port
  pub one_module : s.modules ≡ m ∷ []
  pub form : IsFirstForm m c.top c.clock (trees_of c port)

-- the contract or the source is not of the form that is decided
pub data IsOther (c : Contract) (s : Source) : Type 0 where
  other_contract : ((port : PortText) → IsFirstContract c port → ⊥) → IsOther c s
  other_count : ((m : Module) → s.modules ≡ m ∷ [] → ⊥) → IsOther c s
  other_form : (port : PortText) (m : Module) → IsFirstContract c port → s.modules ≡ m ∷ [] → (IsFirstForm m c.top c.clock (trees_of c port) → ⊥) → IsOther c s

-- the verdict on a module
pub data IsVerdict (top clock : Name) (lookahead : ℕ) (m : Module) (c : ObserverTrees) : Verdict → Type 0 where
  proved : IsFirstForm m top clock c → IsSafe m clock lookahead c → IsKept m clock lookahead c → IsVerdict top clock lookahead m c (v.Proved lookahead (registers_of m))
  unproved : IsFirstForm m top clock c → (IsKept m clock lookahead c → ⊥) → IsVerdict top clock lookahead m c v.Unproved
  not_of_form : (IsFirstForm m top clock c → ⊥) → IsVerdict top clock lookahead m c v.Other

-- the verdict on a source
pub data IsJudged (c : Contract) (s : Source) (verdict : Verdict) : Type 0 where
  one_module : (port : PortText) (m : Module) → IsFirstContract c port → s.modules ≡ m ∷ [] → IsVerdict c.top c.clock c.lookahead m (trees_of c port) verdict → IsJudged c s verdict
  other : IsOther c s → verdict ≡ v.Other → IsJudged c s verdict
