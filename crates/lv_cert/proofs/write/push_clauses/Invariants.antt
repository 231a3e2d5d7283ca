use Rattle.std.proofs.Common.{◌≡◌, ◌++◌, drop, map}
use Rattle.lv_cert.specs.Words.{text_of}
use Rattle.lv_cert.specs.Lines.{clause_line}
use Rattle.lv_cert.proofs.write.push_clauses.Given as goal

abbrev pub invariant-loop-k : goal.invariant-loop-k
invariant-loop-k l = l.out.items ++ text_of (map clause_line (drop l.k l.set.clauses)) ≡ l.fn.out.items ++ text_of (map clause_line l.set.clauses)
