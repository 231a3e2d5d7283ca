use Rattle.std.proofs.Common.{◌≡◌, ◌++◌, drop}
use Rattle.lv_gates.specs.Lists.{clauses_from}
use Rattle.lv_gates.proofs.clausify.encode.Given as goal

abbrev pub invariant-loop-k : goal.invariant-loop-k
invariant-loop-k l = record {
  whole : l.set.clauses ++ clauses_from l.k (drop l.k l.graph) ≡ clauses_from 0 l.graph;
  vars : l.set.vars ≡ l.vars;
}
