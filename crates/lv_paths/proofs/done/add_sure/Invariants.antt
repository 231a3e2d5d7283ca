use Rattle.std.proofs.Common.{◌≡◌, ℕ, ◌||◌, take}
use Rattle.lv_spans.specs.Sets.{Cell}
use Rattle.lv_paths.specs.Bits.{holds, surely_have, IsLogged}
use Rattle.lv_paths.proofs.done.add_sure.Given as goal

abbrev pub invariant-loop-aim : goal.invariant-loop-aim
invariant-loop-aim l = record {
  done : (q : Cell) (i : ℕ) → holds l.done.entries q i ≡ (holds l.fn.done.entries q i || surely_have (take l.aim-index l.aims) q i);
  logged : IsLogged l.fn.done.entries l.done.entries l.fn.log l.log;
}
