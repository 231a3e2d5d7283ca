-- The answers of a session.
use Rattle.std.proofs.Common.{◌≡◌, ℕ, List, refl}
use Rattle.lv_clauses.specs.Literals.{Lit}
use Rattle.lv_clauses.specs.Sets.{SetValue}
use Rattle.lv_clauses.specs.Derivations.{Step, IsDerivation}
use Rattle.lv_solver.specs.Solving.{IsEnd, answer_of}
use Rattle.lv_session.specs.Session.{IsAsked, IsBlocked, IsBlockedBy}
use Rattle.lv_session.specs.Blocking.{EndsEmpty}
use Rattle.lv_solver.specs.declared.solve_set.End.{End}
use Rattle.lv_solver.specs.declared.solve_set.End.TheVariants.{Found, Empty, Spent}

pub asked : (set : SetValue) (budget half : ℕ) (log : List Step) (end : End) → IsEnd set budget half log end → IsAsked set budget (answer_of end log)
asked set budget half log (Found a) (model, derivation) = model
asked set budget half log Empty refuted = refuted
asked set budget half log Spent (h, count) = (h.derivation, h.fresh, count)

pub ended : (set : SetValue) (budget half : ℕ) (log : List Step) (end : End) → IsEnd set budget half log end → IsDerivation set log
ended set budget half log (Found a) (model, derivation) = derivation
ended set budget half log Empty refuted = refuted.derivation
ended set budget half log Spent (h, count) = h.derivation

-- a refutation ends with an empty line
pub ends : (set : SetValue) (budget half : ℕ) (log : List Step) (end : End) → IsEnd set budget half log end → end ≡ Empty → EndsEmpty log
ends set budget half log (Found a) e is = cc
ends set budget half log Empty refuted is = refuted.ends
ends set budget half log Spent e is = cc

pub blocked : (new : SetValue) (lits : List Lit) (log : List Step) (end : End) → (end ≡ Empty → IsBlocked lits new) → IsBlockedBy lits new (answer_of end log)
blocked new lits log (Found a) h = tt
blocked new lits log Empty h = h refl
blocked new lits log Spent h = tt
