-- What is told of a design whose scopes have no fault.
use Rattle.std.specs.Prelude.{◌≡◌, Bool, true, false, []}
use Rattle.lv_source.specs.Faults.{part_faults}
use Rattle.lv_source.specs.Legal.{Kind, UnknownModule, UnknownName, Duplicate, NotConstant, ZeroDivisor, Range, Recursion, Port, places_of, at_parts}
use Rattle.lv_source.specs.Parts.{Design}
use Rattle.lv_faults.specs.Faults.{is_scope_kind}

-- the kinds that no part has
abbrev pub is_scope_kind_alone : Kind → Bool
is_scope_kind_alone UnknownModule = true
is_scope_kind_alone UnknownName = true
is_scope_kind_alone Duplicate = true
is_scope_kind_alone ZeroDivisor = true
is_scope_kind_alone Range = true
is_scope_kind_alone Recursion = true
is_scope_kind_alone Port = true
is_scope_kind_alone _ = false

-- of the kinds that are told of scopes, what is told is told of parts, by one kind
pub record IsToldByParts (d : Design) : Type 0 where
  pub parts : (kind : Kind) → is_scope_kind kind ≡ true → places_of d kind ≡ at_parts d (part_faults d kind)
  pub alone : (kind : Kind) → is_scope_kind_alone kind ≡ true → places_of d kind ≡ []
  pub unfixed : places_of d NotConstant ≡ at_parts d (part_faults d NotConstant)
