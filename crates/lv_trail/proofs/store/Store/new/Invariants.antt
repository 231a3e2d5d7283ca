use Rattle.std.proofs.Common.{◌≡◌, take, length}
use Rattle.lv_clauses.specs.Sets.{AreClauses}
use Rattle.lv_trail.proofs.store.Store.new.Given as goal

abbrev pub invariant-loop-id : goal.invariant-loop-id
invariant-loop-id l = record {
  copied : l.clauses ≡ take l.id l.set.clauses;
  count : l.id-end ≡ length l.set.clauses;
  are : AreClauses l.vars l.clauses;
}
