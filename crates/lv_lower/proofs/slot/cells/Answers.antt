use Rattle.std.proofs.Common.{◌∙◌, ap, sym, ◌++◌}
use Rattle.lv_lower.proofs.Slotting.{cells-array}
use Rattle.lv_lower.proofs.slot.cells.Goals as goal

pub returns-in_ok-elements-in-Some : goal.returns-in_ok-elements-in-Some
returns-in_ok-elements-in-Some c = c.in_ok-elements-in-Some.ensures ∙
    ap (λ xs. c.args.slots.now.items ++ xs) (cells-array c.args.signal.now c.in-Some.bounds c.args.kind c.in-Some.is (sym c.has_cells.ensures ∙ c.if-not-has_cells.false))
