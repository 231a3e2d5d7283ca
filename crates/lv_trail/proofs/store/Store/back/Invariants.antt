use Rattle.std.proofs.Common.{◌≡◌, ℕ, ◌<◌, ◌≤◌, get_or}
use Rattle.lv_trail.specs.Store.{IsSound, IsSame}
use Rattle.lv_trail.specs.Trail.{no_entry}
use Rattle.lv_trail.proofs.store.Store.back.Given as goal

abbrev pub invariant-loop-self : goal.invariant-loop-self
invariant-loop-self l = record {
  sound : IsSound l.self;
  same : IsSame l.fn.self l.self;
  slots : l.self.slots.items ≡ l.fn.self.slots.items;
  len : l.self.len ≤ l.fn.self.len;
  level : l.level ≤ l.self.level;
  last : (k : ℕ) → k < l.self.len → (get_or l.self.slots.items k no_entry).level ≤ l.self.level;
  gone : (k : ℕ) → l.self.len ≤ k → k < l.fn.self.len → l.level < (get_or l.fn.self.slots.items k no_entry).level;
}

abbrev pub decreases-loop-self : goal.decreases-loop-self
decreases-loop-self l = l.self.len
