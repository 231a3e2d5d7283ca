-- What is told of the declarations of a scope as a whole.
use Rattle.std.specs.Prelude.{◌≡◌, ℕ, [], ◌++◌, Option, Some, None, Contains, flat_map}
use Rattle.lv_source.specs.Declarations.{Declaration}
use Rattle.lv_source.specs.Parts.{numbered_from}
use Rattle.lv_source.specs.Scopes.{Scope}
use Rattle.lv_source.specs.ScopeRules.{declared_again, port_directions, two_ranges}
use Rattle.lv_faults.specs.declared.fault.Fault.{Fault}
use Rattle.lv_faults.specs.declared.fault.Fault.TheVariants as f

-- no name is declared again, but in a pair; a direction has no second one, `wire` or `reg` of another range; the listed ports are those
-- with a direction
pub record IsWhole (s : Scope) : Type 0 where
  pub once : (x : ℕ × Declaration) → Contains (numbered_from 0 s.declarations) x → declared_again s x ≡ []
  pub ranges : (x : ℕ × Declaration) → Contains (numbered_from 0 s.declarations) x → two_ranges s x.1 ≡ []
  pub directions : port_directions s ≡ []

abbrev pub WholeAnswer : Scope → Option Fault → Type 0
WholeAnswer s None = IsWhole s
WholeAnswer s (Some (f.Duplicate p)) = Contains (flat_map (declared_again s) (numbered_from 0 s.declarations)) p
WholeAnswer s (Some (f.Port p)) = Contains (port_directions s ++ flat_map (two_ranges s) s.declarations) p
WholeAnswer s (Some (f.UnknownModule p)) = ⊥
WholeAnswer s (Some (f.UnknownName p)) = ⊥
WholeAnswer s (Some (f.NotConstant p)) = ⊥
WholeAnswer s (Some (f.ZeroDivisor p)) = ⊥
WholeAnswer s (Some (f.Range p)) = ⊥
WholeAnswer s (Some (f.Recursion p)) = ⊥
