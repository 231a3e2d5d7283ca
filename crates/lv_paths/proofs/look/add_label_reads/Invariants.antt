use Rattle.std.proofs.Common.{◌≡◌, take}
use Rattle.std.specs.List.{list_all}
use Rattle.lv_source.specs.Effect.{Label}
use Rattle.lv_flat.specs.Signals.{declared_all}
use Rattle.lv_extents.specs.Adds.{Adds}
use Rattle.lv_extents.specs.Blocks.{label_reads}
use Rattle.lv_paths.specs.Fits.{all_labels}
use Rattle.lv_paths.proofs.look.add_label_reads.Given as goal

abbrev pub invariant-loop-arm : goal.invariant-loop-arm
invariant-loop-arm l = record {
  reads : Adds (declared_all l.signals) l.fn.reads l.reads (label_reads (declared_all l.signals) (take l.arm-index l.arms));
  constant : l.all ≡ list_all (λ (x : Label). x.reading.constant) (all_labels (declared_all l.signals) (take l.arm-index l.arms));
}
