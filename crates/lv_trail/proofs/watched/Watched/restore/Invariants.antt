use Rattle.std.proofs.Common.{◌≡◌}
use Rattle.lv_trail.specs.Watches.{left}
use Rattle.lv_trail.specs.Looks.{IsApart}
use Rattle.lv_trail.proofs.watched.Watched.restore.Given as goal

abbrev pub invariant-loop-self : goal.invariant-loop-self
invariant-loop-self l = record {
  apart : IsApart l.self l.list;
  store : l.self.store ≡ l.fn.self.store;
  checked : l.self.checked ≡ l.fn.self.checked;
}

abbrev pub decreases-loop-self : goal.decreases-loop-self
decreases-loop-self l = left l.self
