use Rattle.lv_flat.specs.Signals.{declared_all}
use Rattle.lv_parts.proofs.NetLaws.{net-answer}
use Rattle.lv_parts.proofs.net.net.Goals as goal

pub returns-in-Some : goal.returns-in-Some
returns-in-Some g c = record {
  at = λ here ok n. net-answer (declared_all c.args.place.now.signals.now) here c.args.path.now c.args.net.now c.in-Some.value c.in-Some.is c.get.result.now
      c.net_part-found.result c.args.into.now.items c.put.new.into.items c.put.result c.get.ensures (c.net_part-found.ensures.at here ok n) c.put.ensures;
}
