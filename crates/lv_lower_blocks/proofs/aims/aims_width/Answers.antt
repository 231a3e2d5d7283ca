use Rattle.std.proofs.Common.{◌≡◌, true, sym, subst, arith, ap}
use Rattle.std.proofs.lemmas.List.Sums.{get_or-le-sum_by}
use Rattle.std.proofs.lemmas.List.Elements.{All-get_or}
use Rattle.lv_source.specs.Parts.{is_declared_sort}
use Rattle.lv_flat.specs.Signals.{declared_all, signal_at}
use Rattle.lv_lower_blocks.specs.declared.aims.Aim.{Aim}
use Rattle.lv_lower_blocks.specs.Aimed.{aim_width}
use Rattle.lv_lower_blocks.proofs.aims.aims_width.Goals as goal

pub aim_width-sum-requires-clause-signal : goal.aim_width-sum-requires-clause-signal
aim_width-sum-requires-clause-signal c =
    let S = declared_all c.args.signals.now in
    let P = λ (a : Aim). is_declared_sort (signal_at S a.signal).sort ≡ true in
    subst P (sym c.aim-item.is) (All-get_or P c.args.aims.now c.loop-aim.aim-index c.aim-item.result c.loop-aim-test.true c.requires.names)

pub aim_width-sum-requires-clause-most : goal.aim_width-sum-requires-clause-most
aim_width-sum-requires-clause-most c =
    let S = declared_all c.args.signals.now in
    let h = get_or-le-sum_by (aim_width S) c.args.aims.now c.loop-aim.aim-index c.aim-item.result c.loop-aim-test.true in
    let e = ap (aim_width S) c.aim-item.is in
    omega (arith, h, e, c.requires.most)
