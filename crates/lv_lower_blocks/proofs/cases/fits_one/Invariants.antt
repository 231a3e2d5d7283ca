use Rattle.std.proofs.Common.{map, take}
use Rattle.std.specs.List.{list_any}
use Rattle.lv_source.specs.Effect.{fits_label}
use Rattle.lv_flat.specs.Cells.{all_cells}
use Rattle.lv_flat.specs.Signals.{declared_all}
use Rattle.lv_flat.specs.Executing.{label_of}
use Rattle.lv_lower_blocks.specs.Cased.{common_width, Fits}
use Rattle.lv_lower_blocks.proofs.cases.fits_one.Given as goal

abbrev pub invariant-loop-label : goal.invariant-loop-label
invariant-loop-label l =
    Fits l.initial.b l.b (all_cells (declared_all l.signals)) l.table l.any l.selector (λ x v. list_any (fits_label v l.wild (common_width l.c) x) (map (label_of (declared_all l.signals))
    (take l.label-index l.labels)))
