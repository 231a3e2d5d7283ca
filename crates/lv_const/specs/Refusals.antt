-- What the answers say of the faults of nodes where they stand.
use Rattle.std.specs.Prelude.{ℕ, ◌≡◌, true, false, List, [], Contains, flat_map}
use Rattle.lv_ast.specs.declared.expr.Path.{Path}
use Rattle.lv_source.specs.Names.{Here}
use Rattle.lv_source.specs.Sites.{Spot}
use Rattle.lv_source.specs.NodeRules.{is_early, is_unreadable}
use Rattle.lv_source.specs.Faults.{site_faults}
use Rattle.lv_source.specs.Legal.{UnknownName, NotConstant, ClockUse}
use Rattle.lv_source.specs.Legal as kind
use Rattle.lv_const.specs.declared.error.ConstError.{ConstError}
use Rattle.lv_const.specs.declared.error.ConstError.TheVariants as x

-- a name at this place that stands for no constant that is declared before: it is unknown, or no constant, by what the names say of it
pub record IsUnnamed (here : Here) (xs : List Spot) (place : ℕ) : Type 0 where
  pub path : Path
  pub stands : path.place ≡ place
  pub late : is_early (here.early path) (here.names path) ≡ false
  pub unknown : is_unreadable (here.names path) ≡ true → Contains (flat_map (site_faults UnknownName) xs) place
  pub unfixed : is_unreadable (here.names path) ≡ false → Contains (flat_map (site_faults NotConstant) xs) place

-- each refusal is a fault of its kind
pub data IsFault (here : Here) (xs : List Spot) : ConstError → Type 0 where
  unnamed : {place : ℕ} → IsUnnamed here xs place → IsFault here xs (x.NoValue place)
  range : {place : ℕ} → Contains (flat_map (site_faults kind.Range) xs) place → IsFault here xs (x.Range place)
  zero : {place : ℕ} → Contains (flat_map (site_faults kind.ZeroDivisor) xs) place → IsFault here xs (x.ZeroDivisor place)

-- no fault but divisions by 0
pub record IsFormed (xs : List Spot) : Type 0 where
  pub unknown : flat_map (site_faults UnknownName) xs ≡ []
  pub unfixed : flat_map (site_faults NotConstant) xs ≡ []
  pub range : flat_map (site_faults kind.Range) xs ≡ []
  pub clock : flat_map (site_faults ClockUse) xs ≡ []

pub record IsDivided (xs : List Spot) : Type 0 where
  pub zero : flat_map (site_faults kind.ZeroDivisor) xs ≡ []
