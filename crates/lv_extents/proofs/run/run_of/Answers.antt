use Rattle.lv_flat.specs.Signals.{declared, declared_all}
use Rattle.lv_extents.proofs.Named.{run-whole}
use Rattle.lv_extents.proofs.run.run_of.Goals as goal

pub returns-in-empty-clause-run : goal.returns-in-empty-clause-run
returns-in-empty-clause-run c = run-whole (declared_all c.args.signals.now)
    (declared c.args.signal.now) c.args.ss.now c.signal_width-width.result c.in-empty.len_below c.signal_width-width.ensures.is
