-- Parameters that are declared together, one after another.
use Rattle.std.specs.Prelude.{◌≡◌, ℕ, ◌<◌, Bool, true, List, [], ◌++◌, take, Some, slice_get}
use Rattle.lv_ast.specs.declared.item.Params.{Params}
use Rattle.lv_ast.specs.declared.item.Setting.{Setting}
use Rattle.lv_source.specs.Names.{Names}
use Rattle.lv_source.specs.Declarations.{of_params}
use Rattle.lv_source.specs.Scopes.{with_parameters}
use Rattle.lv_const.specs.declared.consts.Entry.{Entry}
use Rattle.lv_const.specs.Constants.{names_of}
use Rattle.lv_const.specs.Wherever.{Wherever}
use Rattle.lv_scopes.specs.declared.setting.ParameterError.{ParameterError}
use Rattle.lv_scopes.specs.Parameters.{IsSound, IsUnset}

-- the names with all of them, each with its own value
abbrev pub params_set : Bool → Names → Params → Names
params_set local names ps = with_parameters [] names (of_params local ps)

-- the names where so many of them stand before
abbrev pub names_before : Names → Params → ℕ → Names
names_before names ps k = with_parameters [] names (take k (of_params true ps))

-- each has no fault wherever the names before it are the constants that are declared before
pub record AreSound (names : Names) (ps : Params) : Type 0 where
  pub each : (k : ℕ) (s : Setting) → slice_get ps.list k ≡ Some s → Wherever (names_before names ps k) (λ here. IsSound here here ps.range s.value)

-- one of them can't be set wherever the names before it are the constants that are declared before
pub record IsUnsetIn (names : Names) (ps : Params) (y : ParameterError) : Type 0 where
  pub at : ℕ
  pub setting : Setting
  pub is : slice_get ps.list at ≡ Some setting
  pub told : Wherever (names_before names ps at) (λ here. IsUnset here here ps.range setting.value setting.name.place y)

-- ---- those that have been set

pub record AreSetSoFar (old new : List Entry) (ps : Params) (k : ℕ) : Type 0 where
  pub longer : (es : List Entry) × (new ≡ old ++ es)
  pub named : names_of new ≡ names_before (names_of old) ps k
  pub sound : (j : ℕ) (s : Setting) → j < k → slice_get ps.list j ≡ Some s →
      Wherever (names_before (names_of old) ps j) (λ here. IsSound here here ps.range s.value)
