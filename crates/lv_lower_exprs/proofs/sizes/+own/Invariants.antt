use Rattle.std.proofs.Common.{◌≡◌, map, take}
use Rattle.lv_source.specs.Values.{widths}
use Rattle.lv_flat.specs.Signals.{declared_all}
use Rattle.lv_flat.specs.Judged.{meaning}
use Rattle.lv_lower_exprs.proofs.sizes.+own.Given as goal

abbrev pub invariant-widths-loop-e : goal.invariant-widths-loop-e
invariant-widths-loop-e l = l.sum ≡ widths (map (meaning (declared_all l.signals)) (take l.e-index l.es))
