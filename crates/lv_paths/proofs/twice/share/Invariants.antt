use Rattle.std.proofs.Common.{List}
use Rattle.lv_source.specs.Views as views
use Rattle.lv_flat.specs.Signals.{Signals}
use Rattle.lv_extents.specs.Extents.{Each, IsAim}
use Rattle.lv_paths.proofs.Doubles.{IsOnce}
use Rattle.lv_paths.proofs.twice.share.Given as goal

abbrev pub invariant-loop-aim : goal.invariant-loop-aim
invariant-loop-aim l = (S : Signals) (as' : List views.Aim) → Each (IsAim S) as' l.aims → IsOnce S as' l.set l.aim-index
