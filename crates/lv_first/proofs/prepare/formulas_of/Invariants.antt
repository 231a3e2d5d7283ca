use Rattle.std.proofs.Common.{◌++◌, take}
use Rattle.std.specs.Prelude.{All}
use Rattle.lv_first.specs.FirstForm.{IsBitExpr, scope_of}
use Rattle.lv_first.specs.Signals.{AreBitsOf}
use Rattle.lv_first.proofs.prepare.formulas_of.Given as goal

abbrev pub invariant-loop-expr : goal.invariant-loop-expr
invariant-loop-expr l = record {
  legal : All (IsBitExpr (l.signals.registers ++ l.signals.inputs)) (take l.expr-index l.exprs);
  meant : AreBitsOf (scope_of l.signals.registers l.signals.inputs) (l.signals.registers ++ l.signals.inputs) (take l.expr-index l.exprs) l.formulas;
}
