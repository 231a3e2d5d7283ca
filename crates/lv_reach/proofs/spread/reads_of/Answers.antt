use Rattle.lv_flat.specs.Signals.{declared_all}
use Rattle.lv_extents.proofs.Spans.{adds-from}
use Rattle.lv_reach.proofs.spread.reads_of.Goals as goal

pub returns : goal.returns
returns c = adds-from (declared_all c.args.signals.now) c.new-spans.result _ _ c.new-spans.ensures c.in_ok-add_reads.ensures.reads
