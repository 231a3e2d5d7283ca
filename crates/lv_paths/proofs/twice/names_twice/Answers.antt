use Rattle.std.proofs.Common.{List, map, sym, subst, ap, ◌∙◌}
use Rattle.lv_source.specs.PartRules.{has_twice}
use Rattle.lv_source.specs.Views.{aim_of}
use Rattle.lv_flat.specs.Signals.{declared_all}
use Rattle.lv_flat.specs.Executing.{pieces}
use Rattle.lv_flat.proofs.Widths.{target-names}
use Rattle.lv_extents.specs.declared.extent.Aim.{Aim}
use Rattle.lv_extents.specs.Extents.{Each, IsAim}
use Rattle.lv_extents.proofs.Lists.{each-from}
use Rattle.lv_paths.proofs.Doubles.{pieces-bits}
use Rattle.lv_paths.proofs.twice.names_twice.Goals as goal

pub add_aims-requires-clause-good : goal.add_aims-requires-clause-good
add_aims-requires-clause-good c = target-names (declared_all c.args.signals.now) c.args.target.now c.requires.target

pub returns : goal.returns
returns c =
    let S = declared_all c.args.signals.now in
    let ps = pieces S c.args.target.now in
    c.in_ok-r.ensures S (map aim_of ps) (subst (λ (xs : List Aim). Each (IsAim S) (map aim_of ps) xs) (sym c.as_slice.ensures)
    (each-from (IsAim S) c.new-aims.result _ _ c.new-aims.ensures c.in_ok-add_aims.ensures.aims)) ∙ ap has_twice (pieces-bits ps)
