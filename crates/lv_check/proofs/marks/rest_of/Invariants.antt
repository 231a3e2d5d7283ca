use Rattle.std.proofs.Common.{◌≡◌, List, ◌++◌, drop, length}
use Rattle.lv_clauses.specs.Units.{remaining}
use Rattle.lv_check.specs.declared.marks.Rest.TheVariants.{More}
use Rattle.lv_check.specs.Marks.{Tells, so_far, IsRestWithin}
use Rattle.lv_check.proofs.marks.rest_of.Given as goal
use Rattle.lv_clauses.specs.Literals.{Lit}

abbrev pub invariant-loop-x : goal.invariant-loop-x
invariant-loop-x l = record {
  rest : (t : List Lit) → Tells l.marks l.line t → so_far l.found ++ remaining t (drop l.x-index l.clause) ≡ remaining t l.clause;
  within : IsRestWithin (length l.marks) l.found;
  few : l.found ≡ More → ⊥;
}
