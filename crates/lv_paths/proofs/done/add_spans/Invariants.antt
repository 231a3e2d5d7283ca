use Rattle.std.proofs.Common.{◌≡◌, ℕ, ◌||◌, take}
use Rattle.lv_spans.specs.Sets.{Cell}
use Rattle.lv_paths.specs.Bits.{holds, cells_have, IsLogged}
use Rattle.lv_paths.proofs.done.add_spans.Given as goal

abbrev pub invariant-loop-span : goal.invariant-loop-span
invariant-loop-span l = record {
  done : (q : Cell) (i : ℕ) → holds l.done.entries q i ≡ (holds l.fn.done.entries q i || cells_have (take l.span-index l.spans) q i);
  logged : IsLogged l.fn.done.entries l.done.entries l.fn.log l.log;
}
