use Rattle.lv_flat.specs.Signals.{declared_all}
use Rattle.lv_flat.proofs.Widths.{target-names}
use Rattle.lv_lower_blocks.proofs.assigns.store.Goals as goal

pub aims-requires-clause-target : goal.aims-requires-clause-target
aims-requires-clause-target c = target-names (declared_all c.args.signals.now) c.args.target.now c.requires.target
