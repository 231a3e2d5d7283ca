use Rattle.lv_circuits.proofs.Joins.{gives_carry}
use Rattle.lv_circuits.proofs.gates.carry_gate.Goals as goal

pub returns : goal.returns
returns c = gives_carry c.args.and.now c.differ.new.and c.both.new.and c.both-2.new.and c.either.new.and c.args.x c.args.y c.args.carry c.in_ok-apart.apart c.in_ok-first.first c.in_ok-second.second c.in_ok-e.e c.in_ok-apart.ensures c.in_ok-first.ensures c.in_ok-second.ensures c.in_ok-e.ensures
