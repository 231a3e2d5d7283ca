use Rattle.std.proofs.Common.{◌∙◌}
use Rattle.lv_flat.specs.Signals.{declared_all}
use Rattle.lv_lower_blocks.proofs.Runnings.{on_ok}
use Rattle.lv_lower_blocks.proofs.Bodying.{no-table, settles}
use Rattle.lv_lower_blocks.proofs.bodies.combinational.Goals as goal

pub execute-requires-clause-done : goal.execute-requires-clause-done
execute-requires-clause-done c = no-table c.as_mut_slice.result.now (c.as_mut_slice.ensures.value ∙ c.new-none.ensures.items)

pub returns : goal.returns
returns c = on_ok c.execute.result (λ r. settles (declared_all c.args.signals.now) c.args.s.now c.requires.once r) c.execute.ensures
