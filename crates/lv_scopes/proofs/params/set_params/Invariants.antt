use Rattle.lv_scopes.specs.Params.{AreSetSoFar}
use Rattle.lv_scopes.proofs.params.set_params.Given as goal

abbrev pub invariant-loop-setting : goal.invariant-loop-setting
invariant-loop-setting l = AreSetSoFar l.fn.consts l.consts l.params l.setting-index
