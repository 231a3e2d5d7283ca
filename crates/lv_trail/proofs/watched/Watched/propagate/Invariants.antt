use Rattle.std.proofs.Common.{◌≡◌, ◌-◌, length}
use Rattle.lv_trail.specs.Store.{IsGrown}
use Rattle.lv_trail.specs.Watches.{IsWatched}
use Rattle.lv_trail.proofs.watched.Watched.propagate.Given as goal

abbrev pub invariant-loop-self : goal.invariant-loop-self
invariant-loop-self l = record {
  watched : IsWatched l.self;
  grown : IsGrown l.fn.self.store l.self.store;
  all : l.self.checked ≡ length l.self.store.clauses;
}

abbrev pub decreases-loop-self : goal.decreases-loop-self
decreases-loop-self l = l.self.store.vars - l.self.head
