-- A design whose scopes have no fault: what is left are faults of parts.
use Rattle.std.proofs.Common.{◌≡◌, ℕ, true, List, [], ◌∷◌, ◌++◌, map, refl, sym, ap, ◌∙◌, Option, Some, None}
use Rattle.std.specs.Prelude.{Contains}
use Rattle.lv_ast.specs.declared.item.Module.{Module}
use Rattle.lv_source.specs.Faults.{scope_faults, design_faults, part_faults}
use Rattle.lv_source.specs.Legal.{Kind, UnknownModule, UnknownName, Duplicate, NotConstant, ZeroDivisor, Range, Recursion, Port, WrongKind, ClockUse, Blocking, Nonblocking, TwoDrivers, Undriven, Latch, ReadFirst, places_of, HoldsAt, in_scopes, at_parts, at_top, top_module, modules_again}
use Rattle.lv_source.specs.Parts.{Design, At, Part, parts, scopes_of, numbered_from}
use Rattle.lv_source.specs.Scopes.{Scope, module_named}
use Rattle.lv_source.proofs.FaultLaws.{faults_are, scope_told}
use Rattle.lv_source.proofs.Refused.{in_contains}
use Rattle.lv_faults.specs.declared.fault.Fault.{Fault}
use Rattle.lv_faults.specs.declared.fault.ScopeError.TheVariants as e
use Rattle.lv_faults.specs.Faults.{kind_of, place_of, is_scope_kind, IsFaultIn, IsFaultless}
use Rattle.lv_faults.specs.Designs.{is_scope_kind_alone, IsToldByParts}
use Rattle.lv_faults.proofs.ScopeFaults.{flat_empty, both_empty}

module _ (d : Design) (m : Module) (known : module_named d.source d.top ≡ Some m) (apart : modules_again d.source.modules ≡ [])
    (each : (s : Scope) → Contains (scopes_of d) s → IsFaultless d.source s) where
  top_none : top_module d ≡ []
  top_none = ap (λ (found : Option Module). elim found as (λ x. List At) [ None ↦ at_top 0 ∷ [] | Some m ↦ [] ]) known

  scopes_none : (kind : Kind) → is_scope_kind kind ≡ true → in_scopes d (scope_faults d.source kind) ≡ []
  scopes_none kind h = flat_empty (λ (s : Scope). map (λ place. let a : At = record { path = s.path; place = place } in a) (scope_faults d.source kind s)) (scopes_of d)
      (λ s i. ap (map (λ place. let a : At = record { path = s.path; place = place } in a)) ((each s (in_contains s (scopes_of d) i)).none kind h))

  design_none : (kind : Kind) → is_scope_kind kind ≡ true → design_faults d kind ≡ []
  design_none UnknownModule h = top_none
  design_none UnknownName h = refl
  design_none Duplicate h = apart
  design_none NotConstant h = refl
  design_none ZeroDivisor h = refl
  design_none Range h = refl
  design_none Recursion h = refl
  design_none Port h = refl
  design_none WrongKind h = refl
  design_none ClockUse h = cc
  design_none Blocking h = refl
  design_none Nonblocking h = refl
  design_none TwoDrivers h = refl
  design_none Undriven h = refl
  design_none Latch h = refl
  design_none ReadFirst h = refl

  by_parts : (kind : Kind) → is_scope_kind kind ≡ true → places_of d kind ≡ at_parts d (part_faults d kind)
  by_parts kind h = sym (faults_are d kind) ∙
      ap (λ (ats : List At). ats ++ at_parts d (part_faults d kind))
      (both_empty (design_faults d kind) (in_scopes d (scope_faults d.source kind)) (design_none kind h) (scopes_none kind h))

  no_parts : at_parts d (λ ps k q. []) ≡ []
  no_parts = flat_empty (λ (kp : ℕ × Part). []) (numbered_from 0 (parts d)) (λ kp i. refl)

  none_left : (kind : Kind) → is_scope_kind_alone kind ≡ true → places_of d kind ≡ []
  none_left UnknownModule h = by_parts UnknownModule refl ∙ no_parts
  none_left UnknownName h = by_parts UnknownName refl ∙ no_parts
  none_left Duplicate h = by_parts Duplicate refl ∙ no_parts
  none_left NotConstant h = cc
  none_left ZeroDivisor h = by_parts ZeroDivisor refl ∙ no_parts
  none_left Range h = by_parts Range refl ∙ no_parts
  none_left Recursion h = by_parts Recursion refl ∙ no_parts
  none_left Port h = by_parts Port refl ∙ no_parts
  none_left WrongKind h = cc
  none_left ClockUse h = cc
  none_left Blocking h = cc
  none_left Nonblocking h = cc
  none_left TwoDrivers h = cc
  none_left Undriven h = cc
  none_left Latch h = cc
  none_left ReadFirst h = cc

pub told_by_parts : (d : Design) (m : Module) → module_named d.source d.top ≡ Some m → modules_again d.source.modules ≡ [] →
    ((s : Scope) → Contains (scopes_of d) s → IsFaultless d.source s) → IsToldByParts d
told_by_parts d m known apart each = record {
  parts = by_parts d m known apart each;
  alone = none_left d m known apart each;
  unfixed = by_parts d m known apart each NotConstant refl;
}

pub held : (d : Design) (s : Scope) (a : Fault) → Contains (scopes_of d) s → IsFaultIn d.source s (e.Fault a) → HoldsAt d (kind_of a) (record { path = s.path; place = place_of a })
held d s a i h = scope_told d (kind_of a) s (place_of a) i h
