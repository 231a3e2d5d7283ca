-- The bounds of a range, by the values of its two expressions.
use Rattle.std.specs.Prelude.{◌≡◌, ℕ, ◌-◌, ◌≤◌, max, min, nat_le, nat_lt, Bool, true, not, ◌&&◌, if◌then◌else◌, List, ◌++◌, map, Option, Some, None, Result, IfOk, IfErr, Contains, ℤ, pos, negsuc, flat_map}
use Rattle.lv_bits.specs.Values.{signed_of}
use Rattle.lv_ast.specs.declared.item.Range.{Range}
use Rattle.lv_source.specs.Names.{Here, Bounds}
use Rattle.lv_source.specs.Scopes.{bounds_of}
use Rattle.lv_source.specs.ScopeRules.{place_if, is_range, range_sites}
use Rattle.lv_const.specs.declared.error.ConstError.{ConstError}
use Rattle.lv_const.specs.declared.error.ConstError.TheVariants as x
use Rattle.lv_const.specs.Faults.{all_faults}
use Rattle.lv_scopes.specs.Numbers.{AreClean}

-- ---- what the private functions answer

abbrev pub number_in : Bool → ℕ → ℕ → ℤ
number_in signed w a = if signed then signed_of w a else pos a

abbrev pub bound_in : ℤ → Option ℕ
bound_in (pos n) = if nat_le n 65535 then Some n else None
bound_in (negsuc n) = None

abbrev pub bounds_in : Bool → Option ℕ → Option ℕ → Option (ℕ × ℕ)
bounds_in vector None r = None
bounds_in vector (Some l) None = None
bounds_in vector (Some l) (Some r) = if vector && not (nat_lt (max l r - min l r) 128) then None else Some (l, r)

-- ---- the answer

abbrev pub pair_of : ℕ × ℕ → Bounds
pair_of b = record { left = b.0; right = b.1 }

pub record IsRange (here : Here) (r : Range) (vector : Bool) (b : ℕ × ℕ) : Type 0 where
  pub bounds : bounds_of here.names r ≡ pair_of b
  pub allowed : is_range here.names vector (Some r) ≡ true
  pub left : b.0 ≤ 65535
  pub right : b.1 ≤ 65535
  pub clean : AreClean here.early (range_sites here.names (Some r))

-- what can be told of it: that it is none that is allowed, or a fault of a node of its bounds
abbrev pub range_faults : Here → Range → Bool → ℕ → List ConstError
range_faults here r vector place =
    map x.Range (place_if (not (is_range here.names vector (Some r))) place) ++ flat_map (all_faults here.early) (range_sites here.names (Some r))

pub record IsRangeFault (here : Here) (r : Range) (vector : Bool) (place : ℕ) (y : ConstError) : Type 0 where
  pub told : Contains (range_faults here r vector place) y

pub record IsRangeAnswer (here : Here) (r : Range) (vector : Bool) (place : ℕ) (answer : Result (ℕ × ℕ) ConstError) : Type 0 where
  pub right : IfOk answer (IsRange here r vector)
  pub wrong : IfErr answer (IsRangeFault here r vector place)
