use Rattle.std.proofs.Common.{take}
use Rattle.lv_flat.specs.Signals.{declared_all}
use Rattle.lv_extents.specs.Adds.{Adds}
use Rattle.lv_extents.specs.Blocks.{label_reads}
use Rattle.lv_extents.proofs.steps.add_label_reads.Given as goal

abbrev pub invariant-loop-arm : goal.invariant-loop-arm
invariant-loop-arm l = Adds (declared_all l.signals) l.fn.reads l.reads (label_reads (declared_all l.signals) (take l.arm-index l.arms))
