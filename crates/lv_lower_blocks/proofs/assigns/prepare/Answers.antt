use Rattle.std.proofs.Common.{List, ◌∙◌, ap, subst, arith}
use Rattle.lv_flat.specs.Cells.{all_cells}
use Rattle.lv_flat.specs.Signals.{declared_all}
use Rattle.lv_flat.specs.Executing.{pieces}
use Rattle.lv_flat.proofs.Widths.{target-width, target-names, width-least, width-most}
use Rattle.lv_lower_blocks.specs.declared.aims.Aim.{Aim}
use Rattle.lv_lower_blocks.specs.Aimed.{Aims, aims_width, target_bits}
use Rattle.lv_lower_blocks.proofs.Storing.{prepares}
use Rattle.lv_lower_blocks.proofs.assigns.prepare.Goals as goal

pub aims-requires-clause-target : goal.aims-requires-clause-target
aims-requires-clause-target c = target-names (declared_all c.args.signals.now) c.args.target.now c.requires.target

pub aims_width-width-requires-clause-most : goal.aims_width-width-requires-clause-most
aims_width-width-requires-clause-most c =
    let S = declared_all c.args.signals.now in
    let t = c.args.target.now in
    let e = ap (aims_width S) c.as_slice.ensures.value in
    let n = ap (aims_width S) c.new.ensures.items in
    let w = width-most (target_bits S t) (target-width S t c.requires.target) in
    omega (arith, e, n, w, c.in_ok-aims.ensures.width)

pub assigned-requires-clause-some : goal.assigned-requires-clause-some
assigned-requires-clause-some c =
    let S = declared_all c.args.signals.now in
    let t = c.args.target.now in
    let e = ap (aims_width S) c.as_slice.ensures.value in
    let n = ap (aims_width S) c.new.ensures.items in
    let w = width-least (target_bits S t) (target-width S t c.requires.target) in
    omega (arith, e, n, w, c.in_ok-aims.ensures.width, c.aims_width-width.ensures)

pub assigned-requires-clause-most : goal.assigned-requires-clause-most
assigned-requires-clause-most c =
    let S = declared_all c.args.signals.now in
    let t = c.args.target.now in
    let e = ap (aims_width S) c.as_slice.ensures.value in
    let n = ap (aims_width S) c.new.ensures.items in
    let w = width-most (target_bits S t) (target-width S t c.requires.target) in
    omega (arith, e, n, w, c.in_ok-aims.ensures.width, c.aims_width-width.ensures)

pub returns : goal.returns
returns c =
    let S = declared_all c.args.signals.now in
    let a = subst (λ (z : List Aim). Aims c.args.b.now c.aims.new.b S (all_cells S) c.args.table.now (pieces S c.args.target.now) z c.in_ok-aims.aims.items) c.new.ensures.items c.in_ok-aims.ensures in
    prepares S c.args.target.now c.args.e.now c.aims_width-width.result (c.aims_width-width.ensures ∙ ap (aims_width S) c.as_slice.ensures.value) a c.in_ok-value.ensures
