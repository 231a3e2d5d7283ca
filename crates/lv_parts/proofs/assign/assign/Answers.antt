use Rattle.lv_flat.specs.Signals.{declared_all}
use Rattle.lv_parts.specs.Assigns.{assign_part, IsWellAssign, IsCleanAssign, IsToldAssign}
use Rattle.lv_parts.proofs.AddLaws.{put-answer}
use Rattle.lv_parts.proofs.assign.assign.Goals as goal

pub returns : goal.returns
returns g c = record {
  at = λ here ok. put-answer (declared_all c.args.place.now.signals.now) (assign_part here.names c.args.path.now c.args.one.now) (IsWellAssign c.args.one.now)
      (IsCleanAssign here c.args.one.now) (λ z. IsToldAssign here z c.args.one.now) c.assigned-found.result c.args.into.now.items c.put.new.into.items c.put.result tt
      (c.assigned-found.ensures.at here ok) c.put.ensures;
}
