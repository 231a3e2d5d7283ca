use Rattle.lv_flat.specs.Signals.{declared_all}
use Rattle.lv_parts.proofs.BlockLaws.{no-edge, always-Posedge, always-Star, always-Closed}
use Rattle.lv_parts.proofs.always.block.Goals as goal

pub returns-in-Err-clause-right : goal.returns-in-Err-clause-right
returns-in-Err-clause-right g c = record {
  at = λ here ok. no-edge here c.args.stmt.now (declared_all c.args.signals.now) c.args.path.now c.args.at c.args.watch.now c.in-Posedge.clock c.in-Err.error c.in-Posedge.is
      (c.in-Err.ensures.at here ok.names).wrong;
}

pub returns-in-Ok-clause-right : goal.returns-in-Ok-clause-right
returns-in-Ok-clause-right g c = record {
  at = λ here ok. always-Posedge here c.args.stmt.now (declared_all c.args.signals.now) c.args.path.now c.args.at c.args.watch.now c.in-Posedge.clock c.in-Ok.edge
      c.clocked.result c.in-Posedge.is (c.in-Ok.ensures.at here ok.names).right (c.clocked.ensures.right.at here ok);
}

pub returns-in-Star-clause-right : goal.returns-in-Star-clause-right
returns-in-Star-clause-right g c = record {
  at = λ here ok. always-Star here c.args.stmt.now (declared_all c.args.signals.now) c.args.path.now c.args.at c.args.watch.now c.combinational.result c.in-Star.is
      (c.combinational.ensures.right.at here ok);
}

pub returns-in-Closed-clause-right : goal.returns-in-Closed-clause-right
returns-in-Closed-clause-right g c = record {
  at = λ here ok. always-Closed here c.args.stmt.now (declared_all c.args.signals.now) c.args.path.now c.args.at c.args.watch.now c.combinational-in-Closed.result c.in-Closed.is
      (c.combinational-in-Closed.ensures.right.at here ok);
}
