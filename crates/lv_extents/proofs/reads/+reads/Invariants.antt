use Rattle.std.proofs.Common.{◌≡◌, take}
use Rattle.lv_source.specs.Meaning.{index_reads, all_constant}
use Rattle.lv_flat.specs.Signals.{declared_all}
use Rattle.lv_extents.specs.Adds.{Adds, taken}
use Rattle.lv_extents.proofs.Readings.{all_reads, are_constant}
use Rattle.lv_extents.proofs.reads.+reads.Given as goal

abbrev pub invariant-add_all-loop-e : goal.invariant-add_all-loop-e
invariant-add_all-loop-e l =
    Adds (declared_all l.signals) l.fn.into l.into (all_reads (declared_all l.signals) (take l.e-index l.es))
    × (l.all ≡ are_constant (declared_all l.signals) (take l.e-index l.es))

abbrev pub invariant-add_index_reads-loop-s : goal.invariant-add_index_reads-loop-s
invariant-add_index_reads-loop-s l =
    Adds (declared_all l.signals) l.fn.into l.into (index_reads (taken (declared_all l.signals) (take l.s-index l.ss)))
    × (l.all ≡ all_constant (taken (declared_all l.signals) (take l.s-index l.ss)))
