use Rattle.lv_circuits.proofs.RowJoins.{gives_logic}
use Rattle.lv_circuits.proofs.rows.logic.Goals as goal

pub returns : goal.returns
returns c =
    gives_logic c.args.and.now c.fold.new.and c.fold-2.new.and c.gate.new.and c.args.kind c.args.a.now c.args.b.now c.in_ok-es.es c.in_ok-x.x c.in_ok-y.y c.in_ok-e.e c.in_ok-es.ensures c.in_ok-x.ensures c.in_ok-y.ensures c.in_ok-e.ensures
