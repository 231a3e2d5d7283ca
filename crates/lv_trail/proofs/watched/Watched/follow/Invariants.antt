use Rattle.std.proofs.Common.{◌≡◌}
use Rattle.lv_trail.specs.Store.{IsGrown}
use Rattle.lv_trail.specs.Watches.{left, IsVisit}
use Rattle.lv_trail.proofs.watched.Watched.follow.Given as goal

abbrev pub invariant-loop-self : goal.invariant-loop-self
invariant-loop-self l = record {
  visit : IsVisit l.self l.list;
  grown : IsGrown l.fn.self.store l.self.store;
  checked : l.self.checked ≡ l.fn.self.checked;
  head : l.self.head ≡ l.fn.self.head;
}

abbrev pub decreases-loop-self : goal.decreases-loop-self
decreases-loop-self l = left l.self
