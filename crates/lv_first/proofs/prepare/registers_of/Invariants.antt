use Rattle.std.proofs.Common.{◌++◌, take}
use Rattle.std.specs.Prelude.{All}
use Rattle.lv_first.specs.FirstForm.{IsRegisterName, scope_of}
use Rattle.lv_first.specs.Signals.{AreVariablesOf}
use Rattle.lv_first.proofs.prepare.registers_of.Given as goal

abbrev pub invariant-loop-expr : goal.invariant-loop-expr
invariant-loop-expr l = record {
  legal : All (IsRegisterName l.signals.registers) (take l.expr-index l.exprs);
  meant : AreVariablesOf (scope_of l.signals.registers l.signals.inputs) (l.signals.registers ++ l.signals.inputs) (take l.expr-index l.exprs) l.numbers;
}
