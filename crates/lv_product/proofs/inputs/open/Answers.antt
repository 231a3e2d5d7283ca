use Rattle.std.proofs.Common.{refl, arith}
use Rattle.lv_product.proofs.Opened.{opening_none, opening_step, opened, new_name}
use Rattle.lv_product.proofs.inputs.open.Goals as goal

pub loop-k-init : goal.loop-k-init
loop-k-init c = opening_none c.args.widths.now c.new-b.result c.new-b.ensures

pub input-requires-clause-new : goal.input-requires-clause-new
input-requires-clause-new c = new_name c.args.widths.now c.loop-k.k c.loop-k.b c.in_ok-name.name (omega arith) c.in_ok-name.ensures c.loop-k.invariant

pub loop-k-preserved : goal.loop-k-preserved
loop-k-preserved c =
    opening_step c.args.widths.now c.loop-k.k _ c.loop-k.b c.input.new.self c.in_ok-name.name (omega arith) refl c.in_ok-name.ensures
    c.in_ok-input.ensures.is c.loop-k.invariant

pub returns : goal.returns
returns c = opened c.args.widths.now c.loop-k.k c.loop-k.b (omega arith) c.loop-k.invariant
