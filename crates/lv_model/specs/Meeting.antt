-- When two lists of valuations meet a query, and the machines that go on under every input.
use Rattle.std.specs.Prelude.{◌≡◌, ℕ, suc, Bool, true, List, ◌∷◌, []}
use Rattle.std.specs.List.{AllByRecursion, AllZip}
use Rattle.lv_model.specs.Machine.{Machine, IsRun, IsInitial, IsWindow, AllHold, SomeFails, Query, Initial, Allowed, Base, Step, Imply, aligned_after}

-- these valuations of both copies and this truth value meet the query, for the list s
abbrev pub IsMetBy : {V : Type 0} → Machine V → ℕ → List ℕ → Query → List V → List V → Bool → Type 0
IsMetBy m b s q [] rs a = ⊥
IsMetBy m b s q (l ∷ ls) [] a = ⊥
IsMetBy m b s Initial (l ∷ ls) (r ∷ rs) a = IsInitial m l r
IsMetBy m b s Allowed (l ∷ ls) (r ∷ rs) a = m.IsSettled l × m.IsAllowed l
IsMetBy m b s Base (l ∷ ls) (r ∷ rs) a = IsInitial m l r × (a ≡ true) × SomeFails m s l r true
IsMetBy m b s Step (l ∷ []) (r ∷ rs) a = ⊥
IsMetBy m b s Step (l ∷ l' ∷ ls) (r ∷ []) a = ⊥
IsMetBy m b s Step (l ∷ l' ∷ ls) (r ∷ r' ∷ rs) a =
    IsWindow m b (suc (suc b)) (l ∷ l' ∷ ls) (r ∷ r' ∷ rs) a × AllHold m s l r a × SomeFails m s l' r' (aligned_after m l r a)
IsMetBy m b s Imply (l ∷ ls) (r ∷ rs) a =
    IsWindow m b (suc b) (l ∷ ls) (r ∷ rs) a × AllHold m s l r a × (m.attacker l ≡ m.attacker r → ⊥)

-- how many cycles a query has
abbrev pub cycles_of : Query → ℕ → ℕ
cycles_of Step b = suc (suc b)
cycles_of Imply b = suc b
cycles_of _ b = 1

-- the machine goes on from each settled valuation under the inputs of each other, and begins anew under them;
-- assumptions depend on the inputs alone, and initial pairs on the states
pub record IsResponsive {V : Type 0} (m : Machine V) (SameState : V → V → Type 0) : Type 0 where
  pub first : (v u : V) → m.IsSettled v → m.IsSettled u → (w : V) × m.IsSettled w × SameState v w × m.SameInputs w u
  pub next : (v u : V) → m.IsSettled v → m.IsSettled u → (w : V) × m.IsSettled w × m.Follows v w × m.SameInputs w u
  pub inputs : (l r u : V) → m.SameInputs l u → m.SameInputs r u → m.SameInputs l r
  pub allowed : (v u : V) → m.IsSettled v → m.IsSettled u → m.SameInputs v u → m.IsAllowed u → m.IsAllowed v
  pub initial :
      (l l' r r' : V) → m.IsSettled l' → m.IsSettled r' → SameState l l' → SameState r r' → IsInitial m l r →
      m.IsInitialPair l' r'

-- two runs from an initial pair, with the inputs of these valuations, all of them allowed
pub record AreRuns {V : Type 0} (m : Machine V) (us : List V) (l : V) (ls : List V) (r : V) (rs : List V) : Type 0 where
  pub left : IsRun m (l ∷ ls)
  pub right : IsRun m (r ∷ rs)
  pub initial : m.IsInitialPair l r
  pub same_inputs : AllZip m.SameInputs (l ∷ ls) (r ∷ rs)
  pub left_inputs : AllZip m.SameInputs (l ∷ ls) us
  pub right_inputs : AllZip m.SameInputs (r ∷ rs) us
  pub left_allowed : AllByRecursion m.IsAllowed (l ∷ ls)
  pub right_allowed : AllByRecursion m.IsAllowed (r ∷ rs)

-- settled valuations whose inputs are allowed
abbrev pub AreAllowed : {V : Type 0} → Machine V → List V → Type 0
AreAllowed m us = AllByRecursion (λ u. m.IsSettled u × m.IsAllowed u) us
