use Rattle.std.proofs.Common.{◌≡◌, false, take}
use Rattle.lv_source.specs.Names.{Names}
use Rattle.lv_source.specs.ScopeRules.{is_none}
use Rattle.lv_sinks.specs.Sinks.{all_targets}
use Rattle.lv_sinks.proofs.shape.+shapes.Given as goal

abbrev pub invariant-are_sinks-loop-expr : goal.invariant-are_sinks-loop-expr
invariant-are_sinks-loop-expr l = (names : Names) → is_none (all_targets names (take l.expr-index l.exprs)) ≡ false
