use Rattle.std.proofs.Common.{map, take, length, ◌+◌}
use Rattle.lv_clauses.specs.Literals.{negated, IsWithin}
use Rattle.lv_check.specs.Marks.{Tells, AreBelow}
use Rattle.lv_check.proofs.checker.assume.Given as goal

abbrev pub invariant-loop-x : goal.invariant-loop-x
invariant-loop-x l = record {
  told : Tells l.marks l.line (map negated (take l.x-index l.lits));
  within : IsWithin (take l.x-index l.lits) (length l.marks);
  fresh : AreBelow l.marks (l.line + 1);
}
