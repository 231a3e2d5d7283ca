-- What a check of a derivation says of a query.
use Rattle.std.proofs.Common.{◌≡◌, ℕ, List, sym, ◌∙◌, subst}
use Rattle.lv_clauses.specs.Sets.{SetValue}
use Rattle.lv_clauses.specs.Derivations.{Step as Line}
use Rattle.lv_check.specs.Answer.{IsAnswer, IsFailure}
use Rattle.lv_check.specs.declared.checker.Checked.TheVariants.{Proved}
use Rattle.lv_product.specs.declared.task.Task.{Task}
use Rattle.lv_product.specs.declared.task.Query.{Query}
use Rattle.lv_learner.specs.Meeting.{CanBeMet, Stands}
use Rattle.lv_learner.proofs.Asking.{unmet_by}

pub checked_unmet : (task : Task) (s : List ℕ) (q : Query) (set set' : SetValue) (lines : List Line) → Stands set task s q → set' ≡ set →
    IsAnswer set' lines Proved → CanBeMet task s q → ⊥
checked_unmet task s q set set' lines st e answer = unmet_by task s q set lines st (subst (λ (x : SetValue). IsAnswer x lines Proved) e answer)

pub failure_of : (set set' given : SetValue) (lines : List Line) (at : ℕ) → set' ≡ set → given ≡ set → IsFailure set' lines at → IsFailure given lines at
failure_of set set' given lines at e f h = subst (λ (x : SetValue). IsFailure x lines at) (e ∙ sym f) h
