use Rattle.std.proofs.Common.{◌-◌, length}
use Rattle.lv_trail.specs.Store.{IsGrown}
use Rattle.lv_trail.specs.Watches.{IsWatched}
use Rattle.lv_trail.proofs.watched.Watched.look_at_rest.Given as goal

abbrev pub invariant-loop-self : goal.invariant-loop-self
invariant-loop-self l = record {
  watched : IsWatched l.self;
  grown : IsGrown l.fn.self.store l.self.store;
}

abbrev pub decreases-loop-self : goal.decreases-loop-self
decreases-loop-self l = length l.self.store.clauses - l.self.checked
