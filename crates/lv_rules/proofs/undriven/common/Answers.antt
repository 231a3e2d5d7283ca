use Rattle.std.proofs.Common.{sym, subst}
use Rattle.lv_flat.specs.Signals.{bounds_of}
use Rattle.lv_rules.specs.Wires.{IsCommon}
use Rattle.lv_rules.proofs.Gaps.{signal-common}
use Rattle.lv_rules.proofs.undriven.common.Goals as goal

pub returns-in-None : goal.returns-in-None
returns-in-None c = subst (λ a. IsCommon c.args.driven.now c.args.k (bounds_of a) c.mask.result) (sym c.in-None.is) (signal-common c.args.driven.now c.args.k c.mask.result c.mask.ensures)
