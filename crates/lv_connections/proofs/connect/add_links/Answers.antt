use Rattle.std.proofs.Common.{sym, ap, ◌∙◌}
use Rattle.lv_flat.specs.Signals.{declared_all}
use Rattle.lv_connections.specs.Joined.{bound_port}
use Rattle.lv_connections.proofs.LoopLaws.{joins-more, joins-not}
use Rattle.lv_connections.proofs.connect.add_links.Goals as goal

pub returns-in-Err-clause-wrong : goal.returns-in-Err-clause-wrong
returns-in-Err-clause-wrong g c = record {
  at = λ here ok. joins-not (declared_all c.args.place.now.signals.now) here c.args.path.now c.args.table.now c.args.outputs.now
      c.args.links.now c.loop-link.link-index c.link-item.result c.loop-link-test.true c.link-item.is c.in-Some.port
      (sym c.in-Some.is ∙ (c.port_of.ensures ∙ ap (bound_port c.args.table.now c.args.outputs.now) c.bytes.ensures)) c.in-Err.error (c.in-Err.ensures.wrong.at here ok);
}

pub loop-link-preserved : goal.loop-link-preserved
loop-link-preserved g c = record {
  at = λ here ok. joins-more (declared_all c.args.place.now.signals.now) here c.args.path.now c.args.table.now c.args.outputs.now
      c.args.links.now c.loop-link.link-index c.link-item.result c.loop-link-test.true c.link-item.is c.in-Some.port
      (sym c.in-Some.is ∙ (c.port_of.ensures ∙ ap (bound_port c.args.table.now c.args.outputs.now) c.bytes.ensures))
      c.args.into.now.items c.loop-link.into.items c.add_link.new.into.items (c.loop-link.invariant.at here ok) (c.in_default-add_link.ensures.right.at here ok);
}
