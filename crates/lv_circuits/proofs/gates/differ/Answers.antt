use Rattle.lv_circuits.proofs.Joins.{gives_differ}
use Rattle.lv_circuits.proofs.gates.differ.Goals as goal

pub returns : goal.returns
returns c = gives_differ c.args.and.now c.both.new.and c.both-2.new.and c.both-3.new.and c.args.a c.args.b c.not.result c.not-2.result c.in_ok-one.one c.in_ok-none.none c.not-3.result c.not-4.result c.in_ok-e.e c.not.ensures c.not-2.ensures c.not-3.ensures c.not-4.ensures c.in_ok-one.ensures c.in_ok-none.ensures c.in_ok-e.ensures
