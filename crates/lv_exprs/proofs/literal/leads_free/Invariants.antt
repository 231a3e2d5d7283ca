use Rattle.std.proofs.Common.{◌≡◌, drop}
use Rattle.lv_exprs.specs.Literals.{leads_free}
use Rattle.lv_exprs.proofs.literal.leads_free.Given as goal

abbrev pub invariant-loop-c : goal.invariant-loop-c
invariant-loop-c l = leads_free (drop l.c-index l.digits) ≡ leads_free l.digits
