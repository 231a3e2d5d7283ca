use Rattle.std.proofs.Common.{List, subst}
use Rattle.lv_flat.specs.declared.signal.Signal.{Signal}
use Rattle.lv_flat.specs.Signals.{declared_all}
use Rattle.lv_overlays.specs.Writes.{writes_on}
use Rattle.lv_lower.specs.Slots.{names_of}
use Rattle.lv_lower.specs.Clocking.{Overwrites}
use Rattle.lv_lower.proofs.Clocking.{overwrites-more}
use Rattle.lv_lower.proofs.clocked.clock.Goals as goal

pub loop-part-preserved : goal.loop-part-preserved
loop-part-preserved c =
    overwrites-more c.args.b.now c.loop-part.b c.clock_one.new.b (names_of c.args.flat.now) c.args.table.now c.args.done.now c.loop-part.done c.clock_one.new.done
    c.as_slice-part-items.result.now c.loop-part.part-index c.part-item.result c.loop-part-test.true c.part-item.is c.loop-part.invariant
    (subst (λ (ss : List Signal). Overwrites c.loop-part.b c.clock_one.new.b (declared_all ss) c.args.table.now c.loop-part.done c.clock_one.new.done (writes_on (declared_all ss) c.part-item.result.body))
    c.as_slice.ensures c.in_ok-clock_one.ensures)
