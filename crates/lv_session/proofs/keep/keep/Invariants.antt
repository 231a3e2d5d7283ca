use Rattle.std.proofs.Common.{◌≡◌, length}
use Rattle.lv_session.specs.Keeping.{AreRows, AreResting}
use Rattle.lv_session.specs.Session.{IsWider}
use Rattle.lv_session.proofs.keep.keep.Given as goal

abbrev pub invariant-loop-k : goal.invariant-loop-k
invariant-loop-k l = record {
  wider : IsWider l.fn.set l.set;
  rows : AreRows l.m l.rows.items;
  count : length l.rows.items ≡ l.k;
  resting : AreResting l.fn.set l.assumed l.log l.rows.items;
}
