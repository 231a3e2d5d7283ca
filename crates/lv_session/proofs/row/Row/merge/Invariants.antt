use Rattle.std.proofs.Common.{◌≡◌, ℕ, ◌<◌, length, true}
use Rattle.lv_session.specs.Keeping.{is_used, IsMore}
use Rattle.lv_session.proofs.row.Row.merge.Given as goal

abbrev pub invariant-loop-k : goal.invariant-loop-k
invariant-loop-k l = record {
  len : length l.self ≡ length l.fn.self;
  more : IsMore l.fn.self l.self;
  merged : (i : ℕ) → i < l.k → is_used l.other i ≡ true → is_used l.self i ≡ true;
}
