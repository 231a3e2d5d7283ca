-- What a check answers.
use Rattle.std.specs.Prelude.{◌≡◌, ℕ, ◌<◌, List, length, slice_get, Some, ◌⊎◌}
use Rattle.lv_clauses.specs.Sets.{SetValue}
use Rattle.lv_clauses.specs.Derivations.{Step, Follows, known_at, HasEmpty, IsRefutation}
use Rattle.lv_check.specs.declared.checker.Checked.{Checked}
use Rattle.lv_check.specs.declared.checker.Checked.TheVariants.{Proved, Fails}

-- line k follows
abbrev pub FollowsAt : SetValue → List Step → ℕ → Type 0
FollowsAt set lines k = (s : Step) × (slice_get lines k ≡ Some s) × Follows set.vars (known_at set.clauses lines k) s

-- the first line that doesn't follow, or the count of lines, none of which is empty
pub record IsFailure (set : SetValue) (lines : List Step) (k : ℕ) : Type 0 where
  pub before : (j : ℕ) → j < k → FollowsAt set lines j
  pub here : ((k < length lines) × (FollowsAt set lines k → ⊥)) ⊎ ((k ≡ length lines) × (HasEmpty lines → ⊥))

abbrev pub IsAnswer : SetValue → List Step → Checked → Type 0
IsAnswer set lines Proved = IsRefutation set lines
IsAnswer set lines (Fails k) = IsFailure set lines k
