use Rattle.std.proofs.Common.{ℕ, ◌*◌, length, ◌∙◌, ap, subst, sym, arith}
use Rattle.lv_product.specs.Opening.{AreWidths}
use Rattle.lv_product.proofs.Parts.{length_product}
use Rattle.lv_switched.proofs.Places.{opened}
use Rattle.lv_switched.proofs.opening.open_all.Goals as goal

pub overflow_add-start : goal.overflow_add-start
overflow_add-start c = omega (arith, ap length (c.as_slice-f.ensures.value ∙ c.in_ok-first.ensures.is), length_product c.args.graph.now c.args.cycles)

pub open-requires : goal.open-requires
open-requires c = subst AreWidths (sym c.as_slice-w.ensures.value) c.in_ok-widths.ensures.widths

pub range-requires-2 : goal.range-requires-2
range-requires-2 c = omega (arith, ap length (c.as_slice-f.ensures.value ∙ c.in_ok-first.ensures.is), length_product c.args.graph.now c.args.cycles)

pub cycle_nodes-requires : goal.cycle_nodes-requires
cycle_nodes-requires c = omega (
  arith,
  c.registers-registers.ensures,
  ap (λ (p : ℕ). c.args.cycles * p) c.inputs-ports.ensures,
  ap length (c.as_slice-f.ensures.value ∙ c.in_ok-first.ensures.is),
  length_product c.args.graph.now c.args.cycles,
)

pub overflow_sub-result : goal.overflow_sub-result
overflow_sub-result c = omega (arith, ap length (c.as_slice-f.ensures.value ∙ c.in_ok-first.ensures.is), length_product c.args.graph.now c.args.cycles)

pub returns : goal.returns
returns c =
    opened c.args.graph.now c.in_ok-builder.builder c.args.cycles c.args.count (length c.as_slice-f.result.now) c.registers-registers.result
    c.inputs-ports.result _ c.in_ok-first.first.items c.in_ok-widths.widths.items c.as_slice-w.result.now c.in_ok-left.left.items
    c.in_ok-right.right.items c.in_ok-inputs.inputs.items
    c.in_ok-first.ensures.is (ap length c.as_slice-f.ensures.value) c.in_ok-widths.ensures.is c.as_slice-w.ensures.value c.in_ok-builder.ensures
    c.registers-registers.ensures c.inputs-ports.ensures c.in_ok-left.ensures c.in_ok-right.ensures c.in_ok-inputs.ensures
    (omega (arith, ap length (c.as_slice-f.ensures.value ∙ c.in_ok-first.ensures.is), length_product c.args.graph.now c.args.cycles))
