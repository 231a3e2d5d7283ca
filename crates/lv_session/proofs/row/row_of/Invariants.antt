use Rattle.std.proofs.Common.{◌≡◌, ℕ, ◌<◌, length}
use Rattle.std.specs.Prelude.{slice_get, Some}
use Rattle.lv_session.specs.Keeping.{IsUse}
use Rattle.lv_session.proofs.row.row_of.Given as goal

abbrev pub invariant-loop-hint : goal.invariant-loop-hint
invariant-loop-hint l = record {
  len : length l.row ≡ l.m;
  uses : (p h : ℕ) → p < l.hint-index → slice_get l.hints p ≡ Some h → IsUse l.n l.m l.rows h l.row;
}
